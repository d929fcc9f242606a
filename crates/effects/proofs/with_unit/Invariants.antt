-- `effects::with_unit` meets its contract: each turn finds one more. Assumes nothing.
use mathlib.Core.Path.{◌≡◌}
use mathlib.Core.Bool.{Bool, true, false}
use mathlib.Core.List.{List}
use Prim.Native.Nat.{ℕ, ◌<◌}
use lib.ListN.{drop}
use Rattle.numeric.specs.Choice.{if_eq}
use Rattle.effects.specs.Effects.{offset}
use Rattle.effects.proofs.with_unit.Given as goal
use Rattle.model.specs.Verdict.{field}

-- whether the effect of a number has the unit
abbrev pub has : ℕ → List ℕ → ℕ → Bool
has u l i = if_eq (field (drop (offset 10 i) l) 9 1) u true false

abbrev pub invariant-loop-n : goal.invariant-loop-n
invariant-loop-n l = (i : ℕ) → i < l.n → has l.unit l.bytes i ≡ true
