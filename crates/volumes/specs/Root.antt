-- To be believed. 02, request P1: "Let K be the greatest whole number whose 125th power is at most volume to the fourth times 1000 to the 125th". Assumes nothing.
use Rattle.std.specs.Prelude.{◌≡◌, ◌↔◌, ℕ, ◌*◌, ◌^◌, ◌≤◌, leb}
use Rattle.numeric.specs.Greatest.{greatest}

-- what the 125th power of K may be
abbrev pub limit : ℕ → ℕ
limit volume = volume ^ 4 * 1000 ^ 125

-- K of a volume in m³. For volumes up to 10,000 it is at most 1342.
unfoldable pub root_of : ℕ → ℕ
root_of volume = greatest (λ k. leb (k ^ 125) (limit volume)) 1342

-- The law that a reader may hold against P1's words; no bound on K stands in it.
abbrev pub RootRule : Type 0
RootRule = (volume k : ℕ) → volume ≤ 10000 → (k ^ 125 ≤ limit volume) ↔ (k ≤ root_of volume)

-- "for volumes 1 to 10,000 it runs from 1000 to 1342"
abbrev pub RootRange : Type 0
RootRange = (root_of 1 ≡ 1000) × (root_of 10000 ≡ 1342)
