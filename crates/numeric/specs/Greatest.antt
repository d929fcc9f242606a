-- To be believed. The greatest number that passes a test. Assumes nothing.
use Rattle.std.specs.Prelude.{Bool, true, false, ℕ, zero, suc}

-- the greatest number up to a bound at which a test holds, and 0 where there is none
unfoldable pub greatest : (ℕ → Bool) → ℕ → ℕ
greatest f zero = zero
greatest f (suc b) = elim (f (suc b)) [ true ↦ suc b | false ↦ greatest f b ]
