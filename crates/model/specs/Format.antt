-- To be believed. 01, "Records": the records of a content, and their bytes. Assumes nothing.
use Rattle.std.specs.Prelude.{List, [], ◌∷◌, ◌++◌, ℕ, zero, suc, ◌+◌, ◌/◌, ◌%◌, ◌^◌, length}
use Rattle.model.specs.Sums.{sum_over, join_over}
use Rattle.model.specs.Content.{Branching, given, on_curve, Target, described, Effect, in_seconds, timed, Tree, outcome, branching, Scenario, Content}

-- the first byte of a record says its kind
abbrev pub opening_kind : ℕ
opening_kind = 1

abbrev pub target_kind : ℕ
target_kind = 2

abbrev pub leak_kind : ℕ
leak_kind = 3

abbrev pub branching_kind : ℕ
branching_kind = 4

abbrev pub outcome_kind : ℕ
outcome_kind = 5

abbrev pub effect_kind : ℕ
effect_kind = 6

abbrev pub closing_kind : ℕ
closing_kind = 7

-- 02, request P6: an effect with the unit of its duration
abbrev pub timed_kind : ℕ
timed_kind = 8

-- 02, request P3: a branching by an ignition curve
abbrev pub curve_kind : ℕ
curve_kind = 10

-- the record kinds of 01's table
pub data Record : Type 0 where
  -- study number
  opening_rec : ℕ → Record
  -- target number, and what is known of it
  target_rec : ℕ → Target → Record
  -- scenario number, frequency
  leak_rec : ℕ → ℕ → Record
  branching_rec : Branching → Record
  -- outcome kind, effects that follow
  outcome_rec : ℕ → ℕ → Record
  effect_rec : Effect → Record
  -- records in the study, sum of leak frequencies
  closing_rec : ℕ → ℕ → Record

-- a number in n bytes, the most significant first
unfoldable pub bytes : ℕ → ℕ → List ℕ
bytes zero x = []
bytes (suc n) x = x / 256 ^ n % 256 ∷ bytes n x

-- a record's bytes: one byte of kind, then the body
unfoldable pub encode : Record → List ℕ
encode (opening_rec n) = opening_kind ∷ bytes 4 n
encode (target_rec n (described f)) = target_kind ∷ bytes 2 n ++ bytes 1 f.class ++ bytes 1 f.setting ++ bytes 4 f.volume
encode (leak_rec n f) = leak_kind ∷ bytes 4 n ++ bytes 8 f
encode (branching_rec (given p)) = branching_kind ∷ bytes 4 p
encode (branching_rec (on_curve c r)) = curve_kind ∷ bytes 1 c ++ bytes 4 r
encode (outcome_rec k n) = outcome_kind ∷ bytes 1 k ++ bytes 2 n
encode (effect_rec (in_seconds t i d)) = effect_kind ∷ bytes 2 t ++ bytes 4 i ++ bytes 2 d
encode (effect_rec (timed t i d u)) = timed_kind ∷ bytes 2 t ++ bytes 4 i ++ bytes 2 d ++ bytes 1 u
encode (closing_rec n s) = closing_kind ∷ bytes 4 n ++ bytes 8 s

-- 01, "Order": opening; targets; scenarios; closing
unfoldable pub target_records : ℕ → List Target → List Record
target_records n [] = []
target_records n (t ∷ ts) = target_rec n t ∷ target_records (suc n) ts

unfoldable pub effect_records : List Effect → List Record
effect_records [] = []
effect_records (e ∷ es) = effect_rec e ∷ effect_records es

-- an outcome with its effects, or a branching followed by the tree of its first branch and that of its second
unfoldable pub tree_records : Tree → List Record
tree_records (outcome k es) = outcome_rec k (length es) ∷ effect_records es
tree_records (branching b l r) = branching_rec b ∷ tree_records l ++ tree_records r

-- a leak and then one tree
unfoldable pub scenario_records : Scenario → List Record
scenario_records s = leak_rec s.number s.frequency ∷ tree_records s.tree

-- the sum of the leak frequencies
unfoldable pub leaks_of : Content → ℕ
leaks_of c = sum_over (λ s. s.frequency) c.scenarios

-- all records but the closing one
unfoldable pub open_records : Content → List Record
open_records c = opening_rec c.number ∷ target_records 0 c.targets ++ join_over scenario_records c.scenarios

-- records in the study, first and last included
unfoldable pub count_of : Content → ℕ
count_of c = length (open_records c) + 1

-- the records of a study, closed with the true count and the true sum
unfoldable pub records_of : Content → List Record
records_of c = open_records c ++ (closing_rec (count_of c) (leaks_of c) ∷ [])

unfoldable pub bytes_of : Content → List ℕ
bytes_of c = join_over encode (records_of c)
