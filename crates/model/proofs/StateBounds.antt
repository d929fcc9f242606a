-- Bounds of the machine's sums between two records: each record without fault keeps them. Assumes nothing.
use mathlib.Core.Path.{◌≡◌, refl, ◌∙◌, ap}
use mathlib.Core.Bool.{Bool, true, false}
use mathlib.Core.List.{List}
use Prim.Native.Nat.{ℕ, zero, suc, ◌+◌, ◌-◌, ◌*◌, ◌<◌, ◌≤◌, min}
use native.Mathlib.Decide.{ℕ_discrete}
use native.Mathlib.Omega.{arith}
use lib.ListN.{length, get_or, replicate, length-replicate}
use Rattle.numeric.specs.Choice.{if_eq}
use Rattle.numeric.specs.Share.{share_of, split_of}
use Rattle.numeric.proofs.ChoiceLaws.{eq_case, ne_case}
use Rattle.numeric.proofs.ShareLaws.{share_le}
use Rattle.terms.specs.declared.Judged.{Judged}
use Rattle.state.specs.declared.Tally.{Tally}
use Rattle.model.specs.Bounds.{most_above, most_frequency}
use Rattle.model.specs.Sums.{sum_over}
use Rattle.model.specs.Content.{Branching, chance, Effect, target_of}
use Rattle.model.specs.Format.{Record, opening_rec, target_rec, leak_rec, branching_rec, outcome_rec, effect_rec, closing_rec}
use Rattle.model.specs.Faults.{Context, start, role, own_fault, fault, context_after}
use Rattle.model.specs.Machine.{State, up_to, most32, most64, store, taken, frequency_of, above_of, top, leak_stack, branch_stack, leak_branch, branched_branch, outcome_branch, effect_branch, study_tally, kind_grown, outcome_tally, effect_tally, row_after, effect_state, accepted, cleared, fresh}
use Rattle.model.proofs.OutcomeLaws.{split_total}
use Rattle.model.proofs.Totals.{one_kind}
use Rattle.model.proofs.StackLaws.{stored_length, stored_here, stored_other, frequency_packed, top_at}
use Rattle.model.proofs.FaultLaws.{fault_facts, order_facts, leak_facts, branching_facts, outcome_facts, effect_facts, unit_facts}
use Rattle.model.proofs.ReadLaws.{partial, after_record}
use Rattle.model.proofs.Follows.{pile, Follows, aboves, aboves_length, pile_length, height_is, placed_few, next_tree, leak_pile, branch_pile}

-- the frequencies of the trees still to come, in all
abbrev pub waiting : State → ℕ
waiting s = sum_over frequency_of (pile s.stack s.core.branch.height)

abbrev pub six_kinds : Tally → ℕ
six_kinds y = y.kind0 + y.kind1 + y.kind2 + y.kind3 + y.kind4 + y.kind5

-- the bounds, by what the context of the records so far counts
pub record Bounded (s : State) (x : Context) : Type 0 where
  -- an opening record has 5 bytes, every other at most 13
  pub place : 0 < x.counts.records → s.core.reading.place + 8 ≤ 13 * x.counts.records
  pub above : s.core.branch.above ≤ suc most_above
  pub kinds : six_kinds s.core.tally + waiting s ≤ x.counts.leaks
  pub unjudged : s.core.tally.unjudged ≤ x.counts.records
  pub sums_length : length s.sums ≡ 256
  pub margins_length : length s.margins ≡ 256
  pub sums : (t : ℕ) → get_or s.sums t 0 + waiting s ≤ x.counts.leaks
  -- while effects are to come, a target that they may name has room for the whole frequency of their outcome
  pub room : (t : ℕ) → 0 < s.core.branch.left → s.core.branch.next ≤ t → get_or s.sums t 0 + s.core.branch.frequency + waiting s ≤ x.counts.leaks
  pub margins : (t : ℕ) → get_or s.margins t 0 ≤ 9 * x.counts.records

-- the trees still to come after a leak and after a branching
leak_waiting : (l : List ℕ) (f : ℕ) → length l ≡ 9 → f ≤ most_frequency → sum_over frequency_of (pile (leak_stack l f) 1) ≡ f
unfolding sum_over
leak_waiting l f n h = let e = frequency_packed f 0 (omega arith) in ap (sum_over frequency_of) (leak_pile l f n h) ∙ (omega arith)

branch_waiting : (l : List ℕ) (n p : ℕ) → length l ≡ 9 → n ≤ above_of (get_or l n 0) → above_of (get_or l n 0) ≤ most_above → frequency_of (get_or l n 0) ≤ most_frequency
    → sum_over frequency_of (pile (branch_stack l (suc n) p) (suc (suc n))) ≡ frequency_of (get_or l n 0) + sum_over frequency_of (pile l n)
unfolding sum_over
branch_waiting l n p size low shallow small =
    let f : ℕ = frequency_of (get_or l n 0) in
    let a : ℕ = above_of (get_or l n 0) in
    let t = split_total f p in
    let u = frequency_packed (split_of f p).first (suc a) (omega arith) in
    let v = frequency_packed (split_of f p).second (suc a) (omega arith) in
    ap (sum_over frequency_of) (branch_pile l n p f a size (omega arith) low shallow small) ∙ (omega arith)

-- the next tree is one of those still to come
next_waiting : (s : State) (n : ℕ) → s.core.branch.height ≡ suc n → waiting s ≡ frequency_of (get_or s.stack n 0) + sum_over frequency_of (pile s.stack n)
unfolding sum_over pile
next_waiting s n e = ap (λ (h : ℕ). sum_over frequency_of (pile s.stack h)) e

-- an outcome's frequency is added to one kind
kind_le : (k i f x : ℕ) → kind_grown k i f x ≤ x + if_eq k i f 0
unfolding kind_grown
kind_le k i f x = go (ℕ_discrete k i)
  where
    go : Dec (k ≡ i) → if_eq k i (up_to most64 x f) x ≤ x + if_eq k i f 0
    go (yes e) =
        let a : f ≡ if_eq k i f 0 = eq_case k i f 0 e refl in
        let b : up_to most64 x f ≡ if_eq k i (up_to most64 x f) x = eq_case k i (up_to most64 x f) x e refl in
        omega arith
    go (no n) = let b : x ≡ if_eq k i (up_to most64 x f) x = ne_case k i (up_to most64 x f) x n refl in omega arith

kinds_grown : (y : Tally) (k f : ℕ) → k ≤ 5 → six_kinds (outcome_tally y k f) ≤ six_kinds y + f
unfolding outcome_tally
kinds_grown y k f h =
    let e = one_kind k f h in
    let a = kind_le k 0 f y.kind0 in
    let b = kind_le k 1 f y.kind1 in
    let c = kind_le k 2 f y.kind2 in
    let d = kind_le k 3 f y.kind3 in
    let g = kind_le k 4 f y.kind4 in
    let i = kind_le k 5 f y.kind5 in
    omega arith

outcome_unjudged : (y : Tally) (k f : ℕ) → (outcome_tally y k f).unjudged ≡ y.unjudged
unfolding outcome_tally
outcome_unjudged y k f = refl

-- an effect adds at most one to the effects that are not judged
unjudged_grown : (y : Tally) (b : Bool) → (effect_tally y b).unjudged ≤ y.unjudged + 1
unfolding effect_tally
unjudged_grown y true = omega arith
unjudged_grown y false = omega arith

-- at most nine trees are to come
pub height_le : (s : State) (x : Context) → Follows s x → s.core.branch.height ≤ 9
height_le s x w = rw (height_is s x w) (placed_few x.trees w.placed)

-- a record that changes no figure of an outcome or a target, and adds no more to the trees still to come than to the leaks
same_figures : (s s' : State) (x x' : Context) → Bounded s x → s'.sums ≡ s.sums → s'.margins ≡ s.margins
    → six_kinds s'.core.tally ≡ six_kinds s.core.tally → s'.core.tally.unjudged ≡ s.core.tally.unjudged
    → s'.core.branch.above ≡ s.core.branch.above → s'.core.branch.left ≡ s.core.branch.left
    → s'.core.branch.next ≡ s.core.branch.next → s'.core.branch.frequency ≡ s.core.branch.frequency
    → (0 < x'.counts.records → s'.core.reading.place + 8 ≤ 13 * x'.counts.records) → x.counts.records ≤ x'.counts.records
    → waiting s' + x.counts.leaks ≤ waiting s + x'.counts.leaks → Bounded s' x'
same_figures s s' x x' k su ma ki un ab le ne fr pl re wa =
    let a = k.above in
    let i = k.kinds in
    let u = k.unjudged in
    record {
      place = pl;
      above = omega arith;
      kinds = omega arith;
      unjudged = omega arith;
      sums_length = ap length su ∙ k.sums_length;
      margins_length = ap length ma ∙ k.margins_length;
      sums = λ t. rw su (omega (arith, k.sums t));
      room = λ t g j. rw (su, fr) (omega (arith, k.room t (omega arith) (omega arith)));
      margins = λ t. rw ma (omega (arith, k.margins t));
    }

-- ---- each kind of record keeps the bounds

bounded_leak : (s : State) (x : Context) (l : List ℕ) (n f : ℕ) → Follows s x → Bounded s x → length l ≤ 13 → fault x (leak_rec n f) ≡ 0
    → Bounded (after_record s l (leak_rec n f)) (context_after x (leak_rec n f))
unfolding cleared accepted partial taken context_after leak_branch own_fault
bounded_leak s x l n f w k h e =
    let z = fault_facts x (leak_rec n f) e in
    let o = (order_facts _ _ _ _ _ z.order).leak refl in
    let p = k.place o.0 in
    let v = leak_waiting s.stack f w.nine (leak_facts _ _ _ _ z.own).most in
    same_figures s _ x _ k refl refl refl refl refl refl refl refl (λ r. omega arith) (omega arith) (omega arith)

bounded_branching : (s : State) (x : Context) (l : List ℕ) (b : Branching) → Follows s x → Bounded s x → length l ≤ 13 → fault x (branching_rec b) ≡ 0
    → Bounded (after_record s l (branching_rec b)) (context_after x (branching_rec b))
unfolding cleared accepted partial taken context_after branched_branch own_fault
bounded_branching s x l b w k h e =
    let z = fault_facts x (branching_rec b) e in
    let o = (order_facts _ _ _ _ _ z.order).branching refl in
    let p = k.place o.0 in
    let d = next_tree s x w o.2 in
    let a : above_of (get_or s.stack d.below 0) ≤ most_above = rw (ap (λ (u : List ℕ). get_or u 0 0) d.trees) at (branching_facts _ _ z.own).0 in
    let v = next_waiting s d.below d.height in
    let q = branched d.below d.height (omega (arith, d.under, under d.below)) a d.frequency in
    same_figures s _ x _ k refl refl refl refl refl refl refl refl (λ r. omega arith) (omega arith) (omega arith)
  where
    under : (n : ℕ) → length (aboves (pile s.stack n)) ≡ n
    under n = aboves_length (pile s.stack n) ∙ pile_length s.stack n

    branched : (n : ℕ) → s.core.branch.height ≡ suc n → n ≤ above_of (get_or s.stack n 0) → above_of (get_or s.stack n 0) ≤ most_above → frequency_of (get_or s.stack n 0) ≤ most_frequency
        → sum_over frequency_of (pile (branch_stack s.stack s.core.branch.height (chance b)) (up_to 9 s.core.branch.height 1))
        ≡ frequency_of (get_or s.stack n 0) + sum_over frequency_of (pile s.stack n)
    branched n g low shallow small =
        let m : min (s.core.branch.height + 1) 9 ≡ suc (suc n) = omega arith in
        rw (m, g) (branch_waiting s.stack n (chance b) w.nine low shallow small)

bounded_outcome : (s : State) (x : Context) (l : List ℕ) (o n : ℕ) → Follows s x → Bounded s x → length l ≤ 13 → fault x (outcome_rec o n) ≡ 0
    → Bounded (after_record s l (outcome_rec o n)) (context_after x (outcome_rec o n))
unfolding cleared accepted partial taken context_after outcome_branch own_fault
bounded_outcome s x l o n w k h e =
    let z = fault_facts x (outcome_rec o n) e in
    let c = (order_facts _ _ _ _ _ z.order).outcome refl in
    let p = k.place c.0 in
    let d = next_tree s x w c.2 in
    let v = next_waiting s d.below d.height in
    let high = height_le s x w in
    let y = d.height in
    let q = top_at s.stack s.core.branch.height d.below y (omega arith) in
    let f : frequency_of (top s.stack s.core.branch.height) ≡ frequency_of (get_or s.stack d.below 0) = ap frequency_of q in
    let m : s.core.branch.height - 1 ≡ d.below = omega arith in
    let r : sum_over frequency_of (pile s.stack (s.core.branch.height - 1)) ≡ sum_over frequency_of (pile s.stack d.below) =
    ap (λ (j : ℕ). sum_over frequency_of (pile s.stack j)) m in
    let g = kinds_grown s.core.tally o (frequency_of (top s.stack s.core.branch.height)) (outcome_facts _ _ z.own).known in
    let i = k.kinds in
    let u = k.unjudged in
    record {
      place = λ j. omega arith;
      above = rw q d.few;
      kinds = omega arith;
      unjudged = omega (arith, outcome_unjudged s.core.tally o (frequency_of (top s.stack s.core.branch.height)));
      sums_length = k.sums_length;
      margins_length = k.margins_length;
      sums = λ t. omega (arith, k.sums t);
      room = λ t a b. omega (arith, k.sums t);
      margins = λ t. omega (arith, k.margins t);
    }

-- figures of the targets, of which one grows
module _ (most : ℕ) (l : List ℕ) (i v : ℕ) (size : length l ≡ 256) (inside : i < 256) where
  row_le : (t b : ℕ) → get_or l t 0 ≤ b → get_or l i 0 + v ≤ b → get_or (store 256 l i (up_to most (get_or l i 0) v)) t 0 ≤ b
  row_le t b h k = go (ℕ_discrete t i)
    where
      go : Dec (t ≡ i) → get_or (store 256 l i (up_to most (get_or l i 0) v)) t 0 ≤ b
      go (yes e) = let a = stored_here 256 l i (up_to most (get_or l i 0) v) size inside in rw e (omega arith)
      go (no n) = let a = stored_other 256 l i t (up_to most (get_or l i 0) v) n in omega arith

effect_state_lem : (s : State) (x : Context) (l : List ℕ) (e : Effect) (j : Judged) → Bounded s x → length l ≤ 13 → 0 < x.counts.records → 0 < s.core.branch.left
    → s.core.branch.next ≤ target_of e → target_of e < 256 → Bounded (cleared (effect_state (partial s l) (target_of e) j)) (context_after x (effect_rec e))
unfolding cleared effect_state partial taken context_after effect_branch effect_tally row_after
effect_state_lem s x l e j k h c left next inside =
    let i : ℕ = target_of e in
    let b : ℕ = x.counts.leaks - waiting s in
    let v : ℕ = share_of s.core.branch.frequency j.chance in
    let p = k.place c in
    let a = k.above in
    let u = k.unjudged in
    let g = unjudged_grown s.core.tally j.judged in
    let q = share_le s.core.branch.frequency j.chance in
    let m = k.room i left next in
    let n = k.margins i in
    record {
      place = λ r. omega arith;
      above = a;
      kinds = k.kinds;
      unjudged = omega arith;
      sums_length = stored_length 256 s.sums i _ ∙ k.sums_length;
      margins_length = stored_length 256 s.margins i _ ∙ k.margins_length;
      sums = λ t. omega (arith, row_le most64 s.sums i v k.sums_length inside t b (omega (arith, k.sums t)) (omega arith));
      room = λ t r d.
          omega (arith, k.room t left (omega arith), stored_other 256 s.sums i t (up_to most64 (get_or s.sums i 0) v) (λ z. omega arith));
      margins = λ t.
          row_le most32 s.margins i (s.core.branch.above + 1) k.margins_length inside t (9 * (x.counts.records + 1)) (omega (arith, k.margins t)) (omega arith);
    }

bounded_effect : (s : State) (x : Context) (l : List ℕ) (e : Effect) → Follows s x → Bounded s x → length l ≤ 13 → fault x (effect_rec e) ≡ 0
    → Bounded (after_record s l (effect_rec e)) (context_after x (effect_rec e))
unfolding accepted own_fault
bounded_effect s x l e w k h f =
    let z = fault_facts x (effect_rec e) f in
    let c = (order_facts _ _ _ _ _ z.order).effect refl in
    let i = effect_facts _ _ _ _ _ _ (unit_facts e _ z.own).1 in
    let t = w.targets in
    effect_state_lem s x l e _ k h c.0 (rw w.left c.1) (rw w.next i.rising) (omega (arith, i.declared))

-- every record without fault but the closing one
pub bounded_record : (s : State) (x : Context) (l : List ℕ) (r : Record) → Follows s x → Bounded s x → length l ≤ 13 → (role r ≡ 1 → length l ≤ 5)
    → fault x r ≡ 0 → (role r ≡ 7 → ⊥) → Bounded (after_record s l r) (context_after x r)
unfolding cleared accepted partial taken context_after study_tally
bounded_record s x l (opening_rec n) w k h o e c =
    let z = fault_facts x (opening_rec n) e in
    let p = w.place in
    same_figures s _ x _ k refl refl refl refl refl refl refl refl
    (λ r. omega (arith, o refl, (order_facts _ _ _ _ _ z.order).opening refl)) (omega arith) (omega arith)
bounded_record s x l (target_rec n t) w k h o e c =
    let z = fault_facts x (target_rec n t) e in
    same_figures s _ x _ k refl refl refl refl refl refl refl refl
    (λ r. omega (arith, k.place ((order_facts _ _ _ _ _ z.order).target refl).0)) (omega arith) (omega arith)
bounded_record s x l (leak_rec n f) w k h o e c = bounded_leak s x l n f w k h e
bounded_record s x l (branching_rec b) w k h o e c = bounded_branching s x l b w k h e
bounded_record s x l (outcome_rec i n) w k h o e c = bounded_outcome s x l i n w k h e
bounded_record s x l (effect_rec f) w k h o e c = bounded_effect s x l f w k h e
bounded_record s x l (closing_rec n t) w k h o e c = absurd (c refl)

-- the fresh study
nought : (n t : ℕ) → ◌≡◌ {A = ℕ} (get_or (replicate n 0) t 0) 0
nought zero t = refl
nought (suc n) zero = refl
nought (suc n) (suc t) = nought n t

pub bounded_fresh : Bounded fresh start
unfolding fresh pile sum_over
bounded_fresh =
    record {
      place = λ r. omega arith;
      above = omega arith;
      kinds = omega arith;
      unjudged = omega arith;
      sums_length = length-replicate {A = ℕ} 256 0;
      margins_length = length-replicate {A = ℕ} 256 0;
      sums = λ t. omega (arith, nought 256 t);
      room = λ t r d. omega arith;
      margins = λ t. omega (arith, nought 256 t);
    }
