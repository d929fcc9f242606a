-- To be believed. 01, "Records", and 02, request P3: every bound of a study, in one place. Assumes nothing.
use Rattle.std.specs.Prelude.{◌≡◌, ℕ, length}
use Rattle.ignition.specs.Ignition.{curves}

abbrev pub most_targets : ℕ
most_targets = 256

abbrev pub most_scenarios : ℕ
most_scenarios = 65536

abbrev pub most_records : ℕ
most_records = 1000000

-- branchings above a branching
abbrev pub most_above : ℕ
most_above = 7

abbrev pub most_volume : ℕ
most_volume = 100000

abbrev pub least_frequency : ℕ
least_frequency = 1

abbrev pub most_frequency : ℕ
most_frequency = 10000000000000

-- effects of an outcome
abbrev pub most_effects : ℕ
most_effects = 256

-- the greatest number of an outcome kind, a class, a setting
abbrev pub most_kind : ℕ
most_kind = 5

abbrev pub most_class : ℕ
most_class = 5

abbrev pub most_setting : ℕ
most_setting = 2

-- 02, request P3: the greatest number of an ignition curve
abbrev pub most_curve : ℕ
most_curve = 13

-- every curve has its row, and every row is a curve's
abbrev pub CurvesAreAll : Type 0
CurvesAreAll = length curves ≡ most_curve
