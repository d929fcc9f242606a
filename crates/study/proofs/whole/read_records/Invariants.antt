-- `study::whole::read_records` meets its contract: each turn reads a record more, or effects or records of trees in a row. Assumes nothing.
use mathlib.Core.List.{List}
use Prim.Native.Nat.{ℕ, ◌-◌}
use lib.ListN.{length}
use Rattle.model.specs.Machine.{state}
use Rattle.counting.specs.Kinds.{with_kinds}
use Rattle.study.proofs.SpanLaws.{Standing, Reached}
use Rattle.study.proofs.whole.read_records.Given as goal

abbrev pub invariant-loop-at : goal.invariant-loop-at
invariant-loop-at l = Standing l.bytes l.at × ((q : List ℕ) → Reached (state (with_kinds l.initial.core l.initial.kinds) q l.initial.tables.stack l.initial.tables.rows.sums l.initial.tables.rows.margins l.initial.tables.rows.facts) (state (with_kinds l.core l.kinds) q l.tables.stack l.tables.rows.sums l.tables.rows.margins l.tables.rows.facts) l.bytes l.at)

abbrev pub decreases-loop-at : goal.decreases-loop-at
decreases-loop-at l = length l.bytes - l.at
