-- To be believed. 01, "From probit to chance": the chance that a probit stands for. Assumes nothing.
use Rattle.std.specs.Prelude.{◌≡◌, ◌⊎◌, ℕ, ◌≤◌, max, ℤ, pos, ◌≤ℤ◌}
use mathlib.Core.List.{List, [], ◌∷◌, Memᴰ}
use Rattle.std.specs.Int.Signed.{le_z}
use Rattle.numeric.specs.Choice.{pick}
use Rattle.probit.specs.Table.{Row, probit_table}

-- the greatest chance among the rows whose probit is at or below y, and 0 where there is none
unfoldable pub greatest_chance : List Row → ℤ → ℕ
greatest_chance [] y = 0
greatest_chance (r ∷ rs) y = pick (le_z (pos r.probit) y) (max r.chance (greatest_chance rs y)) (greatest_chance rs y)

-- the chance of a probit Y in millionths
unfoldable pub chance_of : ℤ → ℕ
chance_of y = greatest_chance probit_table y

-- The law that a reader may hold against 01's words: either no row is at or below Y and the chance is 0,
-- or the chance is that of such a row, and every such row has a chance at most as great.
pub record Reached (y : ℤ) : Type 0 where
  pub row : Row
  pub listed : Memᴰ row probit_table
  pub below : pos row.probit ≤ℤ y
  pub same : chance_of y ≡ row.chance
  pub most : (r : Row) → Memᴰ r probit_table → pos r.probit ≤ℤ y → r.chance ≤ row.chance

pub record Unreached (y : ℤ) : Type 0 where
  pub none : (r : Row) → Memᴰ r probit_table → pos r.probit ≤ℤ y → ⊥
  pub nothing : chance_of y ≡ 0

abbrev pub ChanceRule : Type 0
ChanceRule = (y : ℤ) → Unreached y ⊎ Reached y
