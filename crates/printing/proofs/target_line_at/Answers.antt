-- `printing::target_line_at` meets its contract: the line of a target by its report. Assumes nothing.
use Rattle.std.proofs.Common.{sym, ap, ◌∙◌, rules}
use Rattle.study.proofs.RunLaws.{target_given}
use Rattle.lines.specs.Text.{target_line}
use Rattle.printing.proofs.ListLaws.{closed_target}
use Rattle.printing.proofs.target_line_at.Goals as goal

pub returns-in-Less : goal.returns-in-Less
returns-in-Less c = c.target_line.ensures ∙ ap (target_line _) (target_given c.target.ensures) ∙ sym (closed_target _ _ _ (search rules))
