-- Effects timed as the first is. Assumes nothing.
use mathlib.Core.Path.{◌≡◌, refl, sym, ◌∙◌, subst}
use mathlib.Core.Bool.{Bool, true, false}
use mathlib.Core.List.{List}
use Prim.Native.Nat.{ℕ, ◌<◌, ◌≤◌}
use native.Mathlib.Decide.{ℕ_discrete}
use native.Mathlib.Omega.{arith}
use lib.Dec.{T}
use lib.ListN.{get_or, drop}
use Rattle.numeric.specs.Choice.{if_eq}
use Rattle.numeric.proofs.ChoiceLaws.{eq_case, ne_case, ge_case, eq_both, lt_both, eq_first, lt_elim}
use Rattle.terms.specs.Terms.{clock_of}
use Rattle.decoding.specs.Effects.{unit_of}
use Rattle.effects.specs.declared.Timing.{Timing}
use Rattle.effects.specs.Effects.{offset, leading}
use Rattle.effects.specs.Timings.{timing_of, with_unit, alike_of}
use Rattle.effects.proofs.LeadingLaws.{leading_is}
use Rattle.model.specs.Verdict.{field}

-- an effect has ten bytes at most
pub length_most : (l : List ℕ) → (timing_of l).length ≤ 10
unfolding timing_of
length_most l = eq_both (λ (t : Timing). t.length ≤ 10) _ _ _ _ (omega arith) (omega arith)

-- those timed alike are some of the first n
pub unit_most : (u : ℕ) (l : List ℕ) (n : ℕ) → with_unit u l n ≤ n
unfolding with_unit
unit_most u l n = lt_both (λ (x : ℕ). x ≤ n) _ _ _ _ (omega arith) (leading_is _ n).within

pub alike_most : (l : List ℕ) (n : ℕ) → alike_of l n ≤ n
unfolding alike_of
alike_most l n = eq_both (λ (x : ℕ). x ≤ n) _ _ _ _ (unit_most _ l n) (omega arith)

-- by the kind of the first
pub timing_eight : (l : List ℕ) → get_or l 0 0 ≡ 8 → record { kind = 8; length = 10; clock = clock_of (field l 9 1) } ≡ timing_of l
unfolding timing_of
timing_eight l h = eq_case _ _ _ _ h refl

pub timing_six : (l : List ℕ) → (get_or l 0 0 ≡ 8 → ⊥) → record { kind = 6; length = 9; clock = clock_of 0 } ≡ timing_of l
unfolding timing_of
timing_six l h = ne_case _ _ _ _ h refl

pub alike_eight : (l : List ℕ) (n : ℕ) → get_or l 0 0 ≡ 8 → with_unit (field l 9 1) l n ≡ alike_of l n
unfolding alike_of
alike_eight l n h = eq_case _ _ _ _ h refl

pub alike_six : (l : List ℕ) (n : ℕ) → (get_or l 0 0 ≡ 8 → ⊥) → n ≡ alike_of l n
unfolding alike_of
alike_six l n h = ne_case _ _ _ _ h refl

-- the first is among them, where its unit is one
first_has : (u : ℕ) (l : List ℕ) (n : ℕ) → u ≡ field l 9 1 → u ≤ 1 → 0 < n → 0 < with_unit u l n
unfolding with_unit offset
first_has u l n e h w =
    let r = leading_is has n in
    let t : true ≡ has 0 = eq_case _ _ _ _ (sym e) refl in
    let s : leading has n ≡ with_unit u l n = ge_case _ _ _ _ h refl in
    let z : leading has n ≡ 0 → ⊥ = λ q. subst T (t ∙ (rw q at (r.stops (omega (arith, w, q))))) tt in
    omega (arith, z, s)
  where
    has : ℕ → Bool
    has j = if_eq (field (drop (offset 10 j) l) 9 1) u true false

pub alike_some : (l : List ℕ) (n : ℕ) → unit_of l ≤ 1 → 0 < n → 0 < alike_of l n
unfolding alike_of unit_of
alike_some l n h w = go (ℕ_discrete (get_or l 0 0) 8)
  where
    go : Dec (get_or l 0 0 ≡ 8) → 0 < alike_of l n
    go (yes e) =
        let u : field l 9 1 ≡ unit_of l = eq_case _ _ _ _ e refl in
        omega (arith, alike_eight l n e, first_has (field l 9 1) l n refl (omega (arith, h, u)) w)
    go (no e) = omega (arith, alike_six l n e, w)

-- the effects of kind 8 that are counted have one unit, which is a unit
no_false : false ≡ true → ⊥
no_false e = subst T (sym e) tt

one_unit : (u x : ℕ) (l : List ℕ) (n i : ℕ) → x ≡ with_unit u l n → i < x → (u ≤ 1) × (field (drop (offset 10 i) l) 9 1 ≡ u)
unfolding with_unit
one_unit u x l n i e w =
    lt_elim (sym e) (λ v q. absurd (omega (arith, w, q)))
    (λ v q. (v, (eq_first _ _ _ _ _ ((leading_is has n).passes i (omega (arith, w, q))) no_false).0))
  where
    has : ℕ → Bool
    has j = if_eq (field (drop (offset 10 j) l) 9 1) u true false

pub units_same : (l : List ℕ) (n i : ℕ) → get_or l 0 0 ≡ 8 → i < alike_of l n → (field l 9 1 ≤ 1) × (field (drop (offset 10 i) l) 9 1 ≡ field l 9 1)
units_same l n i h w = one_unit (field l 9 1) (alike_of l n) l n i (sym (alike_eight l n h)) w
