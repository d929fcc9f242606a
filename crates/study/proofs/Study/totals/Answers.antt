-- `study::Study::totals` meets its contract. Assumes nothing.
use Rattle.study.proofs.RunLaws.{totals_called}
use Rattle.study.proofs.Study.totals.Goals as goal

pub returns : goal.returns
returns c = totals_called c.report_totals.ensures
