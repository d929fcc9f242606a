-- To be believed. A share of a frequency. Assumes nothing.
use Rattle.std.specs.Prelude.{ℕ, ◌-◌, ◌*◌, ◌/◌, min}
use Rattle.numeric.specs.declared.Branches.{Branches}

-- 01, "Units": chances count in millionths, and 1,000,000 is certainty
abbrev pub certain : ℕ
certain = 1000000

-- 01, "Frequencies down a tree" and "Sums, grades, list": f × c / 1,000,000 rounded down. A chance above 1,000,000 counts as 1,000,000.
unfoldable pub share_of : ℕ → ℕ → ℕ
share_of f c = f * min c certain / certain

-- 01, "Frequencies down a tree": the first branch has its share, the second the rest
unfoldable pub split_of : ℕ → ℕ → Branches
split_of f p = record { first = share_of f p; second = f - share_of f p }
