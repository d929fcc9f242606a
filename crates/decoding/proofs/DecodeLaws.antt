-- The record of each kind in its bytes. Assumes nothing.
use mathlib.Core.Path.{◌≡◌, refl, sym}
use mathlib.Core.Logic.{◌⊎◌, inl, inr}
use mathlib.Core.List.{List}
use Prim.Native.Nat.{ℕ}
use lib.ListN.{get_or}
use native.Mathlib.Omega.{arith}
use Rattle.numeric.specs.Choice.{if_eq, if_lt}
use Rattle.numeric.proofs.ChoiceLaws.{eq_case, ne_case, eq_both}
use Rattle.terms.specs.Terms.{tenths_unit, clock_of}
use Rattle.model.specs.Content.{given, on_curve, described, Effect, target_of, intensity, duration, clock}
use Rattle.model.specs.Format.{opening_rec, target_rec, leak_rec, branching_rec, outcome_rec, effect_rec, closing_rec}
use Rattle.model.specs.Faults.{unit_fault}
use Rattle.model.specs.Verdict.{field, decode, facts_at}
use Rattle.decoding.specs.Effects.{unit_of, effect_of}

module _ (l : List ℕ) where
  pub decode_opening : get_or l 0 0 ≡ 1 → decode l ≡ opening_rec (field l 1 4)
  unfolding decode
  decode_opening h = sym (eq_case _ _ _ _ h refl)

  pub decode_target : get_or l 0 0 ≡ 2 → decode l ≡ target_rec (field l 1 2) (described (facts_at l))
  unfolding decode
  decode_target h = sym (ne_case _ _ _ _ (omega arith) (eq_case _ _ _ _ h refl))

  pub decode_leak : get_or l 0 0 ≡ 3 → decode l ≡ leak_rec (field l 1 4) (field l 5 8)
  unfolding decode
  decode_leak h = sym (ne_case _ _ _ _ (omega arith) (ne_case _ _ _ _ (omega arith) (eq_case _ _ _ _ h refl)))

  pub decode_branching : get_or l 0 0 ≡ 4 → decode l ≡ branching_rec (given (field l 1 4))
  unfolding decode
  decode_branching h = sym (ne_case _ _ _ _ (omega arith) (ne_case _ _ _ _ (omega arith) (ne_case _ _ _ _ (omega arith) (eq_case _ _ _ _ h refl))))

  pub decode_outcome : get_or l 0 0 ≡ 5 → decode l ≡ outcome_rec (field l 1 1) (field l 2 2)
  unfolding decode
  decode_outcome h =
      sym (ne_case _ _ _ _ (omega arith) (ne_case _ _ _ _ (omega arith) (ne_case _ _ _ _ (omega arith) (ne_case _ _ _ _ (omega arith) (eq_case _ _ _ _ h refl)))))

  pub decode_effect : (get_or l 0 0 ≡ 6) ⊎ (get_or l 0 0 ≡ 8) → decode l ≡ effect_rec (effect_of l)
  unfolding decode effect_of if_eq
  decode_effect (inl h) = rw h refl
  decode_effect (inr h) = rw h refl

  pub decode_curve : get_or l 0 0 ≡ 10 → decode l ≡ branching_rec (on_curve (field l 1 1) (field l 2 4))
  unfolding decode if_eq
  decode_curve h = rw h refl

  -- every other kind
  pub decode_closing : (get_or l 0 0 ≡ 10 → ⊥) → (get_or l 0 0 ≡ 8 → ⊥) → (get_or l 0 0 ≡ 6 → ⊥) → (get_or l 0 0 ≡ 5 → ⊥) → (get_or l 0 0 ≡ 4 → ⊥) → (get_or l 0 0 ≡ 3 → ⊥) → (get_or l 0 0 ≡ 2 → ⊥) → (get_or l 0 0 ≡ 1 → ⊥)
      → decode l ≡ closing_rec (field l 1 4) (field l 5 8)
  unfolding decode
  decode_closing n10 n8 n6 n5 n4 n3 n2 n1 =
      sym (ne_case _ _ _ _ n1 (ne_case _ _ _ _ n2 (ne_case _ _ _ _ n3 (ne_case _ _ _ _ n4 (ne_case _ _ _ _ n5 (ne_case _ _ _ _ n6 (ne_case _ _ _ _ n8 (ne_case _ _ _ _ n10 refl))))))))

  -- what an effect says, of either kind
  pub effect_target : target_of (effect_of l) ≡ field l 1 2
  unfolding effect_of
  effect_target = eq_both (λ (e : Effect). target_of e ≡ field l 1 2) _ _ _ _ refl refl

  pub effect_intensity : intensity (effect_of l) ≡ field l 3 4
  unfolding effect_of
  effect_intensity = eq_both (λ (e : Effect). intensity e ≡ field l 3 4) _ _ _ _ refl refl

  pub effect_duration : duration (effect_of l) ≡ field l 7 2
  unfolding effect_of
  effect_duration = eq_both (λ (e : Effect). duration e ≡ field l 7 2) _ _ _ _ refl refl

  pub effect_clock : (get_or l 0 0 ≡ 6) ⊎ (get_or l 0 0 ≡ 8) → clock (effect_of l) ≡ clock_of (unit_of l)
  unfolding effect_of unit_of clock_of if_eq
  effect_clock (inl h) = rw h refl
  effect_clock (inr h) = rw h refl

  pub effect_unit : (n : ℕ) → (get_or l 0 0 ≡ 6) ⊎ (get_or l 0 0 ≡ 8) → unit_fault (effect_of l) n ≡ if_lt tenths_unit (unit_of l) 3 n
  unfolding effect_of unit_of unit_fault if_eq if_lt
  effect_unit n (inl h) = rw h refl
  effect_unit n (inr h) = rw h refl
