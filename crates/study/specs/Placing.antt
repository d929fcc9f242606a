-- For the proofs. The faults of a record by its place alone: 2, a record the order doesn't allow here, and 5, one record too many (01, "Numbers the desk says no
-- with"). Assumes nothing.
use Rattle.std.specs.Prelude.{ℕ}
use Rattle.numeric.specs.Choice.{if_eq, if_le}
use Rattle.state.specs.declared.Core.{Core}
use Rattle.model.specs.Bounds.{most_records}
use Rattle.model.specs.Faults.{order_fault}

unfoldable pub place_fault : Core → ℕ → ℕ
place_fault c role =
    if_eq (order_fault c.counts.records c.branch.left c.branch.height c.counts.scenarios role) 0
    (if_le most_records c.counts.records 5 0)
    2
