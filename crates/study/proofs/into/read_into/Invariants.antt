-- `study::into::read_into` meets its contract: after i bytes the arrays are the machine after the first i bytes. Assumes nothing.
use mathlib.Core.Path.{◌≡◌}
use Prim.Native.Nat.{◌-◌, ◌≤◌}
use lib.ListN.{length, take}
use Rattle.model.specs.Machine.{state, read_all}
use Rattle.counting.specs.Kinds.{with_kinds}
use Rattle.study.proofs.into.read_into.Given as goal

abbrev pub invariant-loop-i : goal.invariant-loop-i
invariant-loop-i l = (l.i ≤ length l.bytes) × (length l.pending ≡ 16)
    × (state (with_kinds l.core l.kinds) l.pending l.tables.stack l.tables.rows.sums l.tables.rows.margins l.tables.rows.facts ≡ read_all (state l.initial.core l.initial.pending l.initial.tables.stack l.initial.tables.rows.sums l.initial.tables.rows.margins l.initial.tables.rows.facts) (take l.i l.bytes))

abbrev pub decreases-loop-i : goal.decreases-loop-i
decreases-loop-i l = length l.bytes - l.i
