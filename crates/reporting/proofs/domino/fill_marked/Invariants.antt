-- After t targets the marked ones below t are at the front of the list. Assumes nothing.
use Prim.Native.Nat.{◌-◌, ◌≤◌}
use Rattle.reporting.proofs.MarkLaws.{Written}
use Rattle.reporting.proofs.domino.fill_marked.Given as goal

abbrev pub invariant-loop-t : goal.invariant-loop-t
invariant-loop-t l = (l.t ≤ l.n) × Written l.facts l.t l.count l.list l.initial.list

abbrev pub decreases-loop-t : goal.decreases-loop-t
decreases-loop-t l = l.n - l.t
