-- `study::scenarios::read_one` meets its contract, kind by kind. Assumes nothing.
use mathlib.Core.Path.{◌≡◌, refl, sym, ◌∙◌, ap}
use mathlib.Core.Logic.{◌⊎◌, inl, inr}
use mathlib.Core.Bool.{true}
use mathlib.Core.List.{List}
use Prim.Native.Nat.{ℕ, ◌+◌, ◌<◌, ◌≤◌}
use native.Mathlib.Omega.{arith}
use lib.ListN.{length, get_or, take, replicate}
use Rattle.numeric.specs.Choice.{if_eq}
use Rattle.state.specs.declared.Counts.{Counts}
use Rattle.state.specs.declared.Branch.{Branch}
use Rattle.state.specs.declared.Tally.{Tally}
use Rattle.state.specs.declared.Core.{Core}
use Rattle.model.specs.Format.{Record}
use Rattle.model.specs.Verdict.{body_length, decode}
use Rattle.model.specs.Machine.{State, state, core, reading, record_read}
use Rattle.counting.specs.Kinds.{with_kinds}
use Rattle.decoding.proofs.DecodeLaws.{decode_leak, decode_branching, decode_outcome, decode_curve}
use Rattle.study.specs.Spans.{of_scenario, length_of, after_first, Records}
use Rattle.study.proofs.SpanLaws.{IsEffect, length_at, scenario_cases, scenario_known, in_sixteen, read_alone, records_alone}
use Rattle.study.proofs.KindTotalLaws.{Other, other_read}
use Rattle.study.proofs.scenarios.read_one.Goals as goal

-- the record entered has the length of the one that the bytes begin with
entered_after : (c : Core) (k : Counts) (b : Branch) (y : Tally) (at n i : ℕ) (l x q t u m f : List ℕ) (r : State) → n ≡ length_of l → c ≡ core (reading 0 n (at + n) at 0 0) k b y
    → r ≡ after_first (state (with_kinds c x) q t u m f) l i → r ≡ after_first (state (with_kinds (core (reading 0 (length_of l) (at + length_of l) at 0 0) k b y) x) q t u m f) l i
entered_after c k b y at n i l x q t u m f r h e z =
    z ∙ ap (λ (d : Core). after_first (state (with_kinds d x) q t u m f) l i) (e ∙ ap (λ (v : ℕ). core (reading 0 v (at + v) at 0 0) k b y) h)

-- a record that leaves the totals of the kinds, of which so many bytes have been entered, is read alone
alone : (k : Counts) (b : Branch) (y : Tally) (at n : ℕ) (c d : Core) (l x t t' : List ℕ) (r : Record) → 16 ≤ length l → n ≡ length_of l → decode (take 16 l) ≡ decode l → decode (take 16 l) ≡ r → Other r
    → c ≡ core (reading 0 n (at + n) at 0 0) k b y → ((q s m f : List ℕ) → state d q t' s m f ≡ record_read (state c q t s m f) (decode (take 16 l)))
    → Records l n × ((q s m f : List ℕ) → state (with_kinds d x) (replicate 16 0) t' s m f ≡ after_first (state (with_kinds (core (reading 0 (length_of l) (at + length_of l) at 0 0) k b y) x) q t s m f) l n)
alone k b y at n c d l x t t' r room h w e o z f = (
  records_alone l n h room,
  λ q s m g.
      entered_after c k b y at n n l x q t s m g _ h z
      (read_alone _ _ q _ _ _ _ l n h (rw w at (other_read x c d q t s m g t' s m g _ r e o (f q s m g)))),
)

-- the first sixteen bytes have the kind and the record
in_first : (l : List ℕ) → 16 ≤ length l → of_scenario (get_or l 0 0) ≡ true → (get_or (take 16 l) 0 0 ≡ get_or l 0 0) × (decode (take 16 l) ≡ decode l)
in_first l room h = in_sixteen l room (scenario_known _ h)

-- the kinds that the tests find
above_effects : (k : ℕ) → of_scenario k ≡ true → 8 < k → k ≡ 10
above_effects = scenario_cases (λ k. 8 < k → k ≡ 10) (λ h. omega arith) (λ h. omega arith) (λ h. omega arith) (λ h. omega arith) (λ h. omega arith) (λ h. refl)

curve_at : (l : List ℕ) (k : ℕ) → 16 ≤ length l → of_scenario (get_or l 0 0) ≡ true → k ≡ get_or (take 16 l) 0 0 → 8 < k → get_or (take 16 l) 0 0 ≡ 10
curve_at l k room h e above = above_effects _ (ap of_scenario (in_first l room h).0 ∙ h) (omega (arith, e, above))

-- and the two that they leave
effect_kinds : (k : ℕ) → of_scenario k ≡ true → (k ≡ 4 → ⊥) → k ≤ 8 → (k ≡ 5 → ⊥) → (k ≡ 3 → ⊥) → (k ≡ 6) ⊎ (k ≡ 8)
effect_kinds =
    scenario_cases (λ k. (k ≡ 4 → ⊥) → k ≤ 8 → (k ≡ 5 → ⊥) → (k ≡ 3 → ⊥) → (k ≡ 6) ⊎ (k ≡ 8))
    (λ a b c d. absurd (d refl)) (λ a b c d. absurd (a refl)) (λ a b c d. absurd (c refl)) (λ a b c d. inl refl) (λ a b c d. inr refl) (λ a b c d. absurd (omega arith))

effect_at : (l : List ℕ) (k : ℕ) → 16 ≤ length l → of_scenario (get_or l 0 0) ≡ true → k ≡ get_or (take 16 l) 0 0 → (k ≡ 4 → ⊥) → k ≤ 8 → (k ≡ 5 → ⊥) → (k ≡ 3 → ⊥) → IsEffect l
effect_at l k room h q a b c d =
    let e = q ∙ (in_first l room h).0 in
    effect_kinds _ h (λ z. a (e ∙ z)) (omega (arith, e, b)) (λ z. c (e ∙ z)) (λ z. d (e ∙ z))

pub read_branching-r-requires : goal.read_branching-r-requires
read_branching-r-requires c = decode_branching _ (sym c.kind-kind.ensures ∙ c.if-kind-eq-BRANCHING.true)

pub returns-then-kind-eq-BRANCHING : goal.returns-then-kind-eq-BRANCHING
unfolding body_length if_eq Other
returns-then-kind-eq-BRANCHING c =
    let g = c.args in
    let w = in_first g.p.now c.requires.0 c.requires.1 in
    let k : get_or (take 16 g.p.now) 0 0 ≡ 4 = sym c.kind-kind.ensures ∙ c.if-kind-eq-BRANCHING.true in
    let z = alone g.k g.b g.y g.at 5 _ _ g.p.now g.kinds.now _ _ _ c.requires.0 (length_at (sym k ∙ w.0)) w.1 (decode_branching _ k) tt c.entered_at-c.ensures c.read_branching-r.ensures in
    record {
      records = z.0;
      by_index = λ q. z.1 q _ _ _;
    }

pub read_curve-r-requires : goal.read_curve-r-requires
read_curve-r-requires c = decode_curve _ (curve_at c.args.p.now _ c.requires.0 c.requires.1 c.kind-kind.ensures c.if-kind-gt-TIMED_EFFECT.true)

pub returns-then-kind-gt-TIMED_EFFECT : goal.returns-then-kind-gt-TIMED_EFFECT
unfolding body_length if_eq Other
returns-then-kind-gt-TIMED_EFFECT c =
    let g = c.args in
    let w = in_first g.p.now c.requires.0 c.requires.1 in
    let k = curve_at g.p.now _ c.requires.0 c.requires.1 c.kind-kind.ensures c.if-kind-gt-TIMED_EFFECT.true in
    let z = alone g.k g.b g.y g.at 6 _ _ g.p.now g.kinds.now _ _ _ c.requires.0 (length_at (sym k ∙ w.0)) w.1 (decode_curve _ k) tt c.entered_at-c-then-kind-gt-TIMED_EFFECT.ensures c.read_curve-r.ensures in
    record {
      records = z.0;
      by_index = λ q. z.1 q _ _ _;
    }

pub read_outcome-r-requires : goal.read_outcome-r-requires
read_outcome-r-requires c = decode_outcome _ (sym c.kind-kind.ensures ∙ c.if-kind-eq-OUTCOME.true)

pub returns-then-kind-eq-OUTCOME : goal.returns-then-kind-eq-OUTCOME
unfolding body_length if_eq
returns-then-kind-eq-OUTCOME c =
    let g = c.args in
    let l = g.p.now in
    let w = in_first l c.requires.0 c.requires.1 in
    let k : get_or (take 16 l) 0 0 ≡ 5 = sym c.kind-kind.ensures ∙ c.if-kind-eq-OUTCOME.true in
    let n : 4 ≡ length_of l = length_at (sym k ∙ w.0) in record {
      records = records_alone l 4 n c.requires.0;
      by_index = λ q.
          entered_after _ g.k g.b g.y g.at 4 4 l g.kinds.now q _ _ _ _ _ n c.entered_at-c-then-kind-eq-OUTCOME.ensures
          (read_alone _ _ q _ _ _ _ l 4 n (rw w.1 at (c.read_outcome-r.ensures q g.tables.now.rows.sums g.tables.now.rows.margins g.tables.now.rows.facts)));
    }

pub read_leak-r-requires : goal.read_leak-r-requires
read_leak-r-requires c = decode_leak _ (sym c.kind-kind.ensures ∙ c.if-kind-eq-LEAK.true)

pub returns-then-kind-eq-LEAK : goal.returns-then-kind-eq-LEAK
unfolding body_length if_eq Other
returns-then-kind-eq-LEAK c =
    let g = c.args in
    let w = in_first g.p.now c.requires.0 c.requires.1 in
    let k : get_or (take 16 g.p.now) 0 0 ≡ 3 = sym c.kind-kind.ensures ∙ c.if-kind-eq-LEAK.true in
    let z = alone g.k g.b g.y g.at 13 _ _ g.p.now g.kinds.now _ _ _ c.requires.0 (length_at (sym k ∙ w.0)) w.1 (decode_leak _ k) tt c.entered_at-c-then-kind-eq-LEAK.ensures c.read_leak-r.ensures in
    record {
      records = z.0;
      by_index = λ q. z.1 q _ _ _;
    }

-- the length of the effect that the bytes begin with
length_is : (l : List ℕ) (k n : ℕ) → IsEffect l → k ≡ get_or l 0 0 → n ≡ if_eq k 8 10 9 → n ≡ length_of l
unfolding body_length if_eq
length_is l k n (inl h) e q = q ∙ rw (e, h) refl
length_is l k n (inr h) e q = q ∙ rw (e, h) refl

length_most : (l : List ℕ) → IsEffect l → length_of l ≤ 10
unfolding body_length if_eq
length_most l (inl h) = rw h (omega arith)
length_most l (inr h) = rw h (omega arith)

length_here : (l : List ℕ) (k n : ℕ) → 16 ≤ length l → of_scenario (get_or l 0 0) ≡ true → IsEffect l → k ≡ get_or (take 16 l) 0 0 → n ≡ if_eq k 8 10 9 → n ≡ length_of l
length_here l k n room h i e q = length_is l k n i (e ∙ (in_first l room h).0) q

pub entered_at-c-requires-2 : goal.entered_at-c-requires-2
entered_at-c-requires-2 c =
    let l = c.args.p.now in
    let i = effect_at l _ c.requires.0 c.requires.1 c.kind-kind.ensures c.if-kind-eq-BRANCHING.false c.if-kind-gt-TIMED_EFFECT.false c.if-kind-eq-OUTCOME.false c.if-kind-eq-LEAK.false in
    omega (arith, length_here l _ _ c.requires.0 c.requires.1 i c.kind-kind.ensures c.effect_length.ensures, length_most l i, c.requires.0, c.requires.2)

pub read_effects-requires : goal.read_effects-requires
read_effects-requires c =
    let l = c.args.p.now in
    let i = effect_at l _ c.requires.0 c.requires.1 c.kind-kind.ensures c.if-kind-eq-BRANCHING.false c.if-kind-gt-TIMED_EFFECT.false c.if-kind-eq-OUTCOME.false c.if-kind-eq-LEAK.false in
    let n = length_here l _ _ c.requires.0 c.requires.1 i c.kind-kind.ensures c.effect_length.ensures in
    record {
      in_bounds = (c.requires.0, i);
      have_value = rw c.entered_at-c-2.ensures (n, ap (λ (x : ℕ). c.args.at + x) n, c.requires.2);
    }

pub returns : goal.returns
returns c =
    let g = c.args in
    let l = g.p.now in
    let i = effect_at l _ c.requires.0 c.requires.1 c.kind-kind.ensures c.if-kind-eq-BRANCHING.false c.if-kind-gt-TIMED_EFFECT.false c.if-kind-eq-OUTCOME.false c.if-kind-eq-LEAK.false in
    let n = length_here l _ _ c.requires.0 c.requires.1 i c.kind-kind.ensures c.effect_length.ensures in
    record {
      records = c.read_effects.ensures.records;
      by_index = λ q. entered_after _ g.k g.b g.y g.at _ _ l g.kinds.now q _ _ _ _ _ n c.entered_at-c-2.ensures (c.read_effects.ensures.by_index g.kinds.now q _);
    }
