-- The machine keeps what the context of the records so far says. Assumes nothing.
use mathlib.Core.Path.{◌≡◌, refl, sym, ◌∙◌, ap, ap₂}
use mathlib.Core.List.{List, [], ◌∷◌}
use Prim.Native.Nat.{ℕ, zero, suc, ◌+◌, ◌-◌, ◌*◌, ◌<◌, ◌≤◌, min}
use native.Mathlib.Omega.{arith}
use lib.ListN.{length, get_or, drop}
use Rattle.numeric.specs.Share.{split_of}
use Rattle.numeric.proofs.ChoiceLaws.{eq_case}
use Rattle.state.specs.declared.Counts.{Counts}
use Rattle.model.specs.Bounds.{most_targets, most_scenarios, most_records, most_above, most_frequency}
use Rattle.model.specs.Content.{Branching, chance}
use Rattle.model.specs.Format.{Record, opening_rec, target_rec, leak_rec, branching_rec, outcome_rec, effect_rec, closing_rec}
use Rattle.model.specs.Valid.{Each}
use Rattle.model.specs.Faults.{Context, context, role, own_fault, fault, counted, declaring, leaking, branched, context_after}
use Rattle.model.specs.Machine.{State, most16, most32, most64, taken, one_record, one_target, one_leak, frequency_of, above_of, top, leak_stack, branch_stack, leak_branch, branched_branch, outcome_branch, effect_branch, trees_in, context_in, fault_in, effect_state, accepted, cleared}
use Rattle.model.proofs.ReadLaws.{partial, after_record}
use Rattle.model.proofs.FaultLaws.{order_facts, target_facts, leak_facts, branching_facts, fault_facts}
use Rattle.model.proofs.StackLaws.{above_packed, frequency_packed, top_at, first_le, second_le, branched_length, branched_first, branched_second, branched_below, leak_length, leak_next}

-- the trees still to come, as packed numbers, the next first
unfoldable pub pile : List ℕ → ℕ → List ℕ
pile l zero = []
pile l (suc n) = get_or l n 0 ∷ pile l n

unfoldable pub aboves : List ℕ → List ℕ
aboves [] = []
aboves (x ∷ l) = above_of x ∷ aboves l

pub aboves_length : (l : List ℕ) → length (aboves l) ≡ length l
unfolding aboves
aboves_length [] = refl
aboves_length (x ∷ l) = ap suc (aboves_length l)

pub pile_length : (l : List ℕ) (n : ℕ) → length (pile l n) ≡ n
unfolding pile
pile_length l zero = refl
pile_length l (suc n) = ap suc (pile_length l n)

-- stacks with the same trees
pile_same : (k l : List ℕ) (n : ℕ) → ((i : ℕ) → i < n → get_or k i 0 ≡ get_or l i 0) → pile k n ≡ pile l n
unfolding pile
pile_same k l zero h = refl
pile_same k l (suc n) h = ap₂ ◌∷◌ (h n (omega arith)) (pile_same k l n (λ i g. h i (omega arith)))

-- each tree's place: no more trees wait below it than there are branchings above it, which are at most 8
unfoldable pub Placed : List ℕ → Type 0
Placed [] = Unit {0}
Placed (a ∷ l) = (a ≤ suc most_above) × (length l ≤ a) × Placed l

-- what the machine keeps where the records so far have a context
pub record Follows (s : State) (x : Context) : Type 0 where
  pub reads : s.core.reading.phase ≡ 0
  pub none : s.core.reading.have ≡ 0
  pub place : s.core.reading.place ≤ 13 * x.counts.records
  pub wide : length s.pending ≡ 16
  pub counts : s.core.counts ≡ x.counts
  pub left : s.core.branch.left ≡ x.left
  pub kind : s.core.branch.kind ≡ x.kind
  pub next : s.core.branch.next ≡ x.next
  pub nine : length s.stack ≡ 9
  pub trees : aboves (pile s.stack s.core.branch.height) ≡ x.trees
  pub placed : Placed x.trees
  pub small : Each (λ e. frequency_of e ≤ most_frequency) (pile s.stack s.core.branch.height)
  pub records : x.counts.records ≤ most_records
  pub targets : x.counts.targets ≤ most_targets
  pub scenarios : x.counts.scenarios ≤ most_scenarios
  pub leaks : x.counts.leaks ≤ x.counts.scenarios * most_frequency

-- the height is the number of trees
pub height_is : (s : State) (x : Context) → Follows s x → s.core.branch.height ≡ length x.trees
height_is s x f =
    sym (ap length (sym f.trees) ∙ aboves_length (pile s.stack s.core.branch.height) ∙ pile_length s.stack s.core.branch.height)

pub placed_few : (l : List ℕ) → Placed l → length l ≤ 9
unfolding Placed
placed_few [] p = omega arith
placed_few (a ∷ l) p = omega (arith, p.0, p.1)

-- the trees that the machine knows: how many, the next one, and that they are those of its pile
pub trees_length : (k : List ℕ) (n : ℕ) → length (trees_in k n) ≡ n
unfolding trees_in
trees_length k zero = refl
trees_length k (suc n) = ap suc (trees_length k n)

pub trees_next : (k : List ℕ) (n : ℕ) → get_or (trees_in k n) 0 0 ≡ above_of (top k n)
unfolding trees_in top
trees_next k zero = ap above_of (eq_case _ _ _ _ refl refl)
trees_next k (suc n) = refl

trees_pile : (l : List ℕ) (h : ℕ) → h ≤ 9 → trees_in l h ≡ aboves (pile l h)
unfolding trees_in pile aboves
trees_pile l zero w = refl
trees_pile l (suc h) w = ap₂ ◌∷◌ (ap above_of (top_at l (suc h) h refl w)) (trees_pile l h (omega arith))

-- the machine knows what the context says, and so finds the fault that it says
same_context : (s : State) (x : Context) → Follows s x → context_in s.core s.stack ≡ x
same_context s x f =
    let few : s.core.branch.height ≤ 9 = rw (height_is s x f) (placed_few x.trees f.placed) in
    let t = trees_pile s.stack s.core.branch.height few ∙ f.trees in
    λ i. context (f.counts i) (t i) (f.left i) (f.kind i) (f.next i)

pub same_fault : (s : State) (x : Context) (r : Record) → Follows s x → fault_in s.core s.stack r ≡ fault x r
unfolding fault_in
same_fault s x r f = ap (λ (y : Context). fault y r) (same_context s x f)

-- ---- each kind of record keeps Follows

-- the counts, where there is room for a record
pub one_record_lem : (k : Counts) → k.records < most_records → one_record k ≡ counted k
unfolding one_record
one_record_lem k h = let m : min (k.records + 1) most32 ≡ k.records + 1 = omega arith in rw m refl

one_target_lem : (k : Counts) → k.records < most_records → k.targets < most_targets → one_target k ≡ declaring k
unfolding one_target
one_target_lem k h t =
    let m : min (k.records + 1) most32 ≡ k.records + 1 = omega arith in
    let n : min (k.targets + 1) most16 ≡ k.targets + 1 = omega arith in
    rw (m, n) refl

one_leak_lem : (k : Counts) (n f : ℕ) → k.records < most_records → k.scenarios < most_scenarios → f ≤ most_frequency → k.leaks ≤ k.scenarios * most_frequency
    → one_leak k n f ≡ leaking k n f
unfolding one_leak
one_leak_lem k n f h s g l =
    let m : min (k.records + 1) most32 ≡ k.records + 1 = omega arith in
    let o : min (k.scenarios + 1) most32 ≡ k.scenarios + 1 = omega arith in
    let q : min (k.leaks + f) most64 ≡ k.leaks + f = omega arith in
    rw (m, o, q) refl

-- the pile after a leak and after a branching
pub leak_pile : (l : List ℕ) (f : ℕ) → length l ≡ 9 → f ≤ most_frequency → pile (leak_stack l f) 1 ≡ (f * 16 + 0) ∷ []
unfolding pile
leak_pile l f n h = ap (λ (x : ℕ). x ∷ []) (leak_next l f n h)

module _ (l : List ℕ) (n p f a : ℕ) (size : length l ≡ 9) (next : get_or l n 0 ≡ f * 16 + a) (low : n ≤ a) (shallow : a ≤ most_above) (small : f ≤ most_frequency) where
  pub branch_pile : pile (branch_stack l (suc n) p) (suc (suc n)) ≡ ((split_of f p).first * 16 + suc a) ∷ ((split_of f p).second * 16 + suc a) ∷ pile l n
  unfolding pile
  branch_pile =
      ap₂ ◌∷◌ (branched_first l (suc n) n f a p refl low shallow next small size)
      (ap₂ ◌∷◌ (branched_second l (suc n) n f a p refl low shallow next small size)
      (pile_same (branch_stack l (suc n) p) l n (branched_below l (suc n) n f a p refl low shallow next small size)))

-- a record that changes no tree: an opening, a target, an effect
unchanged : (s s' : State) (x x' : Context) → Follows s x
    → s'.core.reading.phase ≡ 0 → s'.core.reading.have ≡ 0 → s'.core.reading.place ≤ s.core.reading.place + 13 → length s'.pending ≡ 16
    → s'.stack ≡ s.stack → s'.core.branch.height ≡ s.core.branch.height → x'.trees ≡ x.trees
    → s'.core.counts ≡ x'.counts → s'.core.branch.left ≡ x'.left → s'.core.branch.kind ≡ x'.kind → s'.core.branch.next ≡ x'.next
    → x'.counts.records ≡ x.counts.records + 1 → x.counts.records < most_records → x'.counts.targets ≤ most_targets
    → x'.counts.scenarios ≡ x.counts.scenarios → x'.counts.leaks ≡ x.counts.leaks → Follows s' x'
unchanged s s' x x' f ph ha pl wi st he tr co le ki ne re ro ta sc lk =
    let p = f.place in
    record {
      reads = ph;
      none = ha;
      place = omega arith;
      wide = wi;
      counts = co;
      left = le;
      kind = ki;
      next = ne;
      nine = ap length st ∙ f.nine;
      trees = rw (st, he) f.trees ∙ sym tr;
      placed = rw tr f.placed;
      small = rw (st, he) f.small;
      records = omega arith;
      targets = ta;
      scenarios = rw sc f.scenarios;
      leaks = rw (sc, lk) f.leaks;
    }

single_above : (f : ℕ) → aboves ((f * 16 + 0) ∷ []) ≡ 0 ∷ []
unfolding aboves
single_above f = ap (λ (a : ℕ). a ∷ []) (above_packed f 0 (omega arith))

zero_placed : Placed (0 ∷ [])
unfolding Placed
zero_placed = (omega arith, omega arith, tt)

-- a leak
follows_leak : (s : State) (x : Context) (b : List ℕ) (n f : ℕ) → Follows s x → length b ≤ 13 → fault x (leak_rec n f) ≡ 0
    → Follows (after_record s b (leak_rec n f)) (context_after x (leak_rec n f))
unfolding cleared accepted partial taken context_after leak_branch own_fault
follows_leak s x b n f w h e =
    let z = fault_facts x (leak_rec n f) e in
    let r = leak_facts _ _ _ _ z.own in
    let g = leak_pile s.stack f w.nine r.most in
    let p = w.place in
    let l = w.leaks in
    let v = frequency_packed f 0 (omega arith) in
    record {
      reads = refl;
      none = refl;
      place = omega arith;
      wide = refl;
      counts = ap (λ (k : Counts). one_leak k n f) w.counts ∙ one_leak_lem x.counts n f z.few r.few r.most w.leaks;
      left = w.left;
      kind = w.kind;
      next = w.next;
      nine = leak_length s.stack f ∙ w.nine;
      trees = ap aboves g ∙ single_above f;
      placed = zero_placed;
      small = rw g (omega arith, tt);
      records = omega arith;
      targets = w.targets;
      scenarios = omega arith;
      leaks = omega arith;
    }

-- the next tree of a pile that is not empty
pub record NextTree (s : State) (x : Context) : Type 0 where
  pub below : ℕ
  pub height : s.core.branch.height ≡ suc below
  pub trees : x.trees ≡ above_of (get_or s.stack below 0) ∷ aboves (pile s.stack below)
  pub few : above_of (get_or s.stack below 0) ≤ suc most_above
  pub under : length (aboves (pile s.stack below)) ≤ above_of (get_or s.stack below 0)
  pub placed : Placed (aboves (pile s.stack below))
  pub frequency : frequency_of (get_or s.stack below 0) ≤ most_frequency
  pub small : Each (λ e. frequency_of e ≤ most_frequency) (pile s.stack below)

tree_at : (s : State) (x : Context) (n : ℕ) → s.core.branch.height ≡ suc n → Follows s x
    → aboves (pile s.stack (suc n)) ≡ x.trees → Each (λ e. frequency_of e ≤ most_frequency) (pile s.stack (suc n)) → Placed (aboves (pile s.stack (suc n))) → NextTree s x
unfolding pile aboves Placed
tree_at s x n e w t m p =
    record {
      below = n;
      height = e;
      trees = sym t;
      few = p.0;
      under = p.1;
      placed = p.2;
      frequency = m.0;
      small = m.1;
    }

pub next_tree : (s : State) (x : Context) → Follows s x → 0 < length x.trees → NextTree s x
next_tree s x w h = at s.core.branch.height refl
  where
    at : (n : ℕ) → s.core.branch.height ≡ n → NextTree s x
    at zero e = let k = height_is s x w in let z : ⊥ = omega arith in absurd z
    at (suc n) e =
        let t : aboves (pile s.stack (suc n)) ≡ x.trees = rw e at w.trees in
        tree_at s x n e w t (rw e at w.small) (rw t w.placed)

-- both trees of a branching, in the pile
both_above : (f g a : ℕ) (l : List ℕ) → a ≤ most_above → aboves ((f * 16 + suc a) ∷ (g * 16 + suc a) ∷ l) ≡ suc a ∷ suc a ∷ aboves l
unfolding aboves
both_above f g a l h = ap₂ (λ (u v : ℕ). u ∷ v ∷ aboves l) (above_packed f (suc a) (omega arith)) (above_packed g (suc a) (omega arith))

both_small : (f p a : ℕ) (l : List ℕ) → f ≤ most_frequency → a ≤ most_above → Each (λ e. frequency_of e ≤ most_frequency) l
    → Each (λ e. frequency_of e ≤ most_frequency) (((split_of f p).first * 16 + suc a) ∷ ((split_of f p).second * 16 + suc a) ∷ l)
both_small f p a l h k m =
    let i = first_le f p in
    let j = second_le f p in
    let u = frequency_packed (split_of f p).first (suc a) (omega arith) in
    let v = frequency_packed (split_of f p).second (suc a) (omega arith) in
    (omega arith, (omega arith, m))

both_placed : (a : ℕ) (l : List ℕ) → a ≤ most_above → length l ≤ a → Placed l → Placed (suc a ∷ suc a ∷ l)
unfolding Placed
both_placed a l h k p = (omega arith, omega arith, (omega arith, omega arith, p))

-- a branching
branching_at : (s : State) (x : Context) (l : List ℕ) (b : Branching) → Follows s x → length l ≤ 13 → NextTree s x → x.counts.records < most_records → own_fault x (branching_rec b) ≡ 0
    → Follows (after_record s l (branching_rec b)) (context_after x (branching_rec b))
unfolding cleared accepted partial taken context_after branched_branch own_fault
branching_at s x l b w h t z1 z2 =
    let n : ℕ = t.below in
    let a : ℕ = above_of (get_or s.stack n 0) in
    let g : get_or x.trees 0 0 ≡ a = ap (λ (u : List ℕ). get_or u 0 0) t.trees in
    let f : ℕ = frequency_of (get_or s.stack n 0) in
    let r : a ≤ most_above = rw g at (branching_facts _ _ z2).0 in
    let u = t.under in
    let v : length (aboves (pile s.stack n)) ≡ n = aboves_length (pile s.stack n) ∙ pile_length s.stack n in
    let m : min (s.core.branch.height + 1) 9 ≡ suc (suc n) = omega (arith, t.height) in
    let q : pile (branch_stack s.stack s.core.branch.height (chance b)) (min (s.core.branch.height + 1) 9)
    ≡ ((split_of f (chance b)).first * 16 + suc a) ∷ ((split_of f (chance b)).second * 16 + suc a) ∷ pile s.stack n
    = rw (m, t.height) (branch_pile s.stack n (chance b) f a w.nine (omega arith) (omega arith) r t.frequency) in
    let p = w.place in
    record {
      reads = refl;
      none = refl;
      place = omega (arith, z1);
      wide = refl;
      counts = ap one_record w.counts ∙ one_record_lem x.counts z1;
      left = w.left;
      kind = w.kind;
      next = w.next;
      nine = branched_length s.stack s.core.branch.height (chance b) ∙ w.nine;
      trees = ap aboves q ∙ both_above (split_of f (chance b)).first (split_of f (chance b)).second a (pile s.stack n) r ∙ sym (branched_is x.trees a (aboves (pile s.stack n)) t.trees);
      placed = rw (branched_is x.trees a (aboves (pile s.stack n)) t.trees) (both_placed a (aboves (pile s.stack n)) r t.under t.placed);
      small = rw q (both_small f (chance b) a (pile s.stack n) t.frequency r t.small);
      records = omega (arith, z1);
      targets = w.targets;
      scenarios = w.scenarios;
      leaks = w.leaks;
    }
  where
    branched_is : (t : List ℕ) (a : ℕ) (l : List ℕ) → t ≡ a ∷ l → branched t ≡ suc a ∷ suc a ∷ l
    branched_is t a l e = rw e refl

follows_branching : (s : State) (x : Context) (l : List ℕ) (b : Branching) → Follows s x → length l ≤ 13 → fault x (branching_rec b) ≡ 0
    → Follows (after_record s l (branching_rec b)) (context_after x (branching_rec b))
follows_branching s x l b w h e =
    let z = fault_facts x (branching_rec b) e in
    branching_at s x l b w h (next_tree s x w ((order_facts _ _ _ _ _ z.order).branching refl).2) z.few z.own

-- an outcome
outcome_at : (s : State) (x : Context) (l : List ℕ) (o n : ℕ) → Follows s x → length l ≤ 13 → NextTree s x → x.counts.records < most_records
    → Follows (after_record s l (outcome_rec o n)) (context_after x (outcome_rec o n))
unfolding cleared accepted partial taken context_after outcome_branch
outcome_at s x l o n w h t z1 =
    let m : s.core.branch.height - 1 ≡ t.below = omega (arith, t.height) in
    let d : drop 1 x.trees ≡ aboves (pile s.stack t.below) = rw t.trees refl in
    let p = w.place in
    record {
      reads = refl;
      none = refl;
      place = omega (arith, z1);
      wide = refl;
      counts = ap one_record w.counts ∙ one_record_lem x.counts z1;
      left = refl;
      kind = refl;
      next = refl;
      nine = w.nine;
      trees = rw m (sym d);
      placed = rw d t.placed;
      small = rw m t.small;
      records = omega (arith, z1);
      targets = w.targets;
      scenarios = w.scenarios;
      leaks = w.leaks;
    }

follows_outcome : (s : State) (x : Context) (l : List ℕ) (o n : ℕ) → Follows s x → length l ≤ 13 → fault x (outcome_rec o n) ≡ 0
    → Follows (after_record s l (outcome_rec o n)) (context_after x (outcome_rec o n))
follows_outcome s x l o n w h e =
    let z = fault_facts x (outcome_rec o n) e in
    outcome_at s x l o n w h (next_tree s x w ((order_facts _ _ _ _ _ z.order).outcome refl).2) z.few

-- every record without fault but the closing one
pub follows_record : (s : State) (x : Context) (l : List ℕ) (r : Record) → Follows s x → length l ≤ 13 → fault x r ≡ 0 → (role r ≡ 7 → ⊥)
    → Follows (after_record s l r) (context_after x r)
unfolding cleared accepted partial taken context_after effect_state effect_branch own_fault
follows_record s x l (opening_rec n) w h e c =
    let z = fault_facts x (opening_rec n) e in
    unchanged s _ x _ w refl refl (omega arith) refl refl refl refl
    (ap one_record w.counts ∙ one_record_lem x.counts z.few) w.left w.kind w.next refl z.few w.targets refl refl
follows_record s x l (target_rec n t) w h e c =
    let z = fault_facts x (target_rec n t) e in
    let r = target_facts _ _ t z.own in
    unchanged s _ x _ w refl refl (omega arith) refl refl refl refl
    (ap one_target w.counts ∙ one_target_lem x.counts z.few r.few) w.left w.kind w.next refl z.few (omega arith) refl refl
follows_record s x l (leak_rec n f) w h e c = follows_leak s x l n f w h e
follows_record s x l (branching_rec b) w h e c = follows_branching s x l b w h e
follows_record s x l (outcome_rec o n) w h e c = follows_outcome s x l o n w h e
follows_record s x l (effect_rec f) w h e c =
    let z = fault_facts x (effect_rec f) e in
    unchanged s _ x _ w refl refl (omega arith) refl refl refl refl
    (ap one_record w.counts ∙ one_record_lem x.counts z.few) (ap (λ (u : ℕ). u - 1) w.left) w.kind refl refl z.few w.targets refl refl
follows_record s x l (closing_rec n t) w h e c = absurd (c refl)
