-- To be believed. 01, "The logarithm". Assumes nothing.
use Rattle.std.specs.Prelude.{◌≡◌, ◌↔◌, ℕ, ◌^◌, ◌<◌, ◌≤◌, leb}
use Rattle.numeric.specs.Greatest.{greatest}

-- L(n) of 01: the greatest m for which 2 to the power m is at most n to the power 256. For n below 2^32 it is at most 8191.
unfoldable pub logarithm : ℕ → ℕ
logarithm n = greatest (λ m. leb (2 ^ m) (n ^ 256)) 8191

-- The law that a reader may hold against 01's words, and the answer at 0, which 01 leaves open.
abbrev pub LogarithmRule : Type 0
LogarithmRule = (n m : ℕ) → 1 ≤ n → n < 2 ^ 32 → (2 ^ m ≤ n ^ 256) ↔ (m ≤ logarithm n)

abbrev pub LogarithmOfZero : Type 0
LogarithmOfZero = logarithm 0 ≡ 0
