-- An effect is sound or not, by what is read of it. Assumes nothing.
use mathlib.Core.Path.{◌≡◌, refl}
use mathlib.Core.Bool.{true, false}
use mathlib.Core.List.{List}
use Prim.Native.Nat.{ℕ}
use lib.ListN.{get_or}
use Rattle.numeric.specs.Choice.{if_eq}
use Rattle.model.specs.Faults.{effect_fault}
use Rattle.model.specs.Verdict.{field}
use Rattle.effects.specs.Effects.{sound}

pub sound_read : (k targets kind x : ℕ) (p : List ℕ) {t q d : ℕ} → t ≡ field p 1 2 → q ≡ field p 3 4 → d ≡ field p 7 2
    → sound k targets kind x p ≡ if_eq (get_or p 0 0) k (if_eq (effect_fault targets kind x t q d) 0 true false) false
unfolding sound
sound_read k targets kind x p et eq ed = rw (et, eq, ed) refl
