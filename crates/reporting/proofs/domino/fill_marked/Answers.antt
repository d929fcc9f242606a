-- `reporting::domino::fill_marked` meets its contract: after t targets the marked ones below t are at the front of the list. Assumes nothing.
use Rattle.std.proofs.Common.{arith, sym, ◌∙◌}
use Rattle.reporting.proofs.MarkLaws.{room, one_in, one_out}
use Rattle.reporting.proofs.domino.fill_marked.Goals as goal
use Rattle.reporting.proofs.domino.fill_marked.Goals.{then-marked, else-marked}

pub bounds-list-count : goal.bounds-list-count
bounds-list-count c = room _ _ _ _ _ _ c.loop-t.invariant.1 c.requires.n_in_bounds c.loop-t-test.true (sym c.marked.ensures ∙ c.if-marked.true)

pub offset_bounds-list-count : goal.offset_bounds-list-count
offset_bounds-list-count c = omega (arith, room _ _ _ _ _ _ c.loop-t.invariant.1 c.requires.n_in_bounds c.loop-t-test.true (sym c.marked.ensures ∙ c.if-marked.true))

pub overflow_add-count : goal.overflow_add-count
overflow_add-count c = omega (arith, room _ _ _ _ _ _ c.loop-t.invariant.1 c.requires.n_in_bounds c.loop-t-test.true (sym c.marked.ensures ∙ c.if-marked.true))

pub loop-t-preserved : goal.loop-t-preserved
loop-t-preserved c = (
  omega arith,
  elim c.if-marked.branch [
    | then-marked w ↦ rw (w.list-is, w.count-is) (one_in _ _ _ _ _ _ c.loop-t.invariant.1 c.requires.n_in_bounds c.loop-t-test.true (sym c.marked.ensures ∙ w.if-marked.true))
    | else-marked w ↦ rw (w.list-is, w.count-is) (one_out _ _ _ _ _ _ c.loop-t.invariant.1 c.requires.n_in_bounds c.loop-t-test.true (sym c.marked.ensures ∙ w.if-marked.false))
  ],
)
