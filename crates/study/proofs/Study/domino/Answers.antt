-- `study::Study::domino` meets its contract: a study's own lists stand beside the core and the facts. Assumes nothing.
use Rattle.study.proofs.RunLaws.{domino_called}
use Rattle.study.proofs.Study.domino.Goals as goal

pub returns : goal.returns
returns c =
    let s = c.args.self in
    let e = c.report_domino.ensures in
    domino_called (e.value s.pending s.tables.stack s.tables.rows.sums s.tables.rows.margins) (e.list_after s.pending s.tables.stack s.tables.rows.sums s.tables.rows.margins)
