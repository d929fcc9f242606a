-- `study::scenarios::read_from_first` meets its contract: each turn reads a record of a tree more, or effects in a row. Assumes nothing.
use mathlib.Core.Path.{◌≡◌}
use mathlib.Core.Bool.{true}
use mathlib.Core.List.{List}
use Prim.Native.Nat.{ℕ, ◌+◌, ◌-◌}
use lib.ListN.{length, get_or, drop}
use Rattle.model.specs.Machine.{state, core, reading}
use Rattle.counting.specs.Kinds.{with_kinds}
use Rattle.study.specs.Spans.{of_scenario, length_of}
use Rattle.study.proofs.SpanLaws.{Standing, Reached}
use Rattle.study.proofs.MoveLaws.{at_first}
use Rattle.study.proofs.scenarios.read_from_first.Given as goal

-- a record of a scenario stands at the place, and those before it have been read
abbrev pub invariant-loop-run : goal.invariant-loop-run
invariant-loop-run l =
    Standing l.bytes l.at
    × (of_scenario (get_or (drop l.at l.bytes) 0 0) ≡ true)
    × ((q : List ℕ) → Reached (state (with_kinds (core (at_first (length_of l.bytes)) l.initial.k l.initial.b l.initial.y) l.initial.kinds) q l.initial.tables.stack l.initial.tables.rows.sums l.initial.tables.rows.margins l.initial.tables.rows.facts) (state (with_kinds (core (reading 0 (length_of (drop l.at l.bytes)) (l.at + length_of (drop l.at l.bytes)) l.at 0 0) l.k l.b l.y) l.kinds) q l.tables.stack l.tables.rows.sums l.tables.rows.margins l.tables.rows.facts) l.bytes l.at)

abbrev pub decreases-loop-run : goal.decreases-loop-run
decreases-loop-run l = length l.bytes - l.at
