-- `study::Study::target` meets its contract, case by case. Assumes nothing.
use Rattle.std.proofs.Common.{rules}
use Rattle.numeric.specs.Choice.{if_eq, if_lt}
use Rattle.model.specs.Machine.{target_in}
use Rattle.reporting.specs.Closed.{closed_at}
use Rattle.study.proofs.RunLaws.{target_called}
use Rattle.study.proofs.Study.target.Goals as goal

pub returns-in-Err : goal.returns-in-Err
unfolding target_in closed_at if_eq
returns-in-Err c = target_called (search rules)

pub returns-then-min-t : goal.returns-then-min-t
unfolding target_in closed_at if_eq if_lt
returns-then-min-t c = target_called (search rules)

pub returns : goal.returns
unfolding target_in closed_at if_eq if_lt
returns c = target_called (search rules)
