-- A fire's chance and whether it is judged, by class and volume. Assumes nothing.
use mathlib.Core.Path.{◌≡◌, refl}
use mathlib.Core.Bool.{Bool, true, false}
use Prim.Native.Nat.{ℕ}
use Rattle.numeric.specs.Choice.{pick}
use Rattle.terms.specs.Terms.{judged_as, unjudged}
use Rattle.equipment.specs.Damage.{fire_judged, fire_damage_by, FireJudged}

pick_judged : (b : Bool) (c : ℕ) → (pick b (judged_as c) unjudged).judged ≡ b
pick_judged true c = refl
pick_judged false c = refl

pub fire_judged_is : FireJudged
unfolding fire_damage_by
fire_judged_is s limit class volume q duration = pick_judged (fire_judged class volume) _
