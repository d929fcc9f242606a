-- A record that is no outcome leaves the totals of the kinds, whatever they are. Assumes nothing.
use mathlib.Core.Path.{◌≡◌, refl, sym, ◌∙◌, ap}
use mathlib.Core.List.{List}
use Prim.Native.Nat.{ℕ}
use Rattle.numeric.proofs.ChoiceLaws.{eq_through}
use Rattle.state.specs.declared.Core.{Core}
use Rattle.model.specs.Format.{Record, opening_rec, target_rec, leak_rec, branching_rec, outcome_rec, effect_rec, closing_rec}
use Rattle.model.specs.Machine.{State, state, fault_in, study_tally, effect_tally, effect_state, accepted, with_reading, record_read}
use Rattle.counting.specs.Kinds.{with_kinds}

unfoldable kinded : List ℕ → State → State
kinded l s = state (with_kinds s.core l) s.pending s.stack s.sums s.margins s.facts

unfoldable pub Other : Record → Type 0
Other (opening_rec n) = Unit
Other (target_rec n t) = Unit
Other (leak_rec n f) = Unit
Other (branching_rec b) = Unit
Other (outcome_rec k n) = ⊥
Other (effect_rec e) = Unit
Other (closing_rec n s) = Unit

kinds_stay : (l : List ℕ) (s : State) (r : Record) → Other r → kinded l (record_read s r) ≡ record_read (kinded l s) r
unfolding Other kinded record_read fault_in accepted with_reading effect_state study_tally effect_tally
kinds_stay l s (opening_rec n) o = sym (eq_through (kinded l) _ _ refl refl)
kinds_stay l s (target_rec n t) o = sym (eq_through (kinded l) _ _ refl refl)
kinds_stay l s (leak_rec n f) o = sym (eq_through (kinded l) _ _ refl refl)
kinds_stay l s (branching_rec b) o = sym (eq_through (kinded l) _ _ refl refl)
kinds_stay l s (outcome_rec k n) o = absurd o
kinds_stay l s (effect_rec e) o = sym (eq_through (kinded l) _ _ refl refl)
kinds_stay l s (closing_rec n t) o = sym (eq_through (kinded l) _ _ refl refl)

-- what is said of a study before and after such a record is said of it with any totals of the kinds
pub other_read : (l : List ℕ) (c d : Core) (q k u m f k' u' m' f' : List ℕ) (x r : Record) → x ≡ r → Other r → state d q k' u' m' f' ≡ record_read (state c q k u m f) x
    → state (with_kinds d l) q k' u' m' f' ≡ record_read (state (with_kinds c l) q k u m f) x
unfolding kinded
other_read l c d q k u m f k' u' m' f' x r h o e = ap (kinded l) e ∙ kinds_stay l (state c q k u m f) x (rw h o)
