-- `printing::report_length` meets its contract: the lines of a report by its totals. Assumes nothing.
use Rattle.std.proofs.Common.{◌+◌, length, sym, ap, ◌∙◌, rules}
use Rattle.numeric.specs.Choice.{if_eq}
use Rattle.state.specs.declared.Totals.{Totals}
use Rattle.study.proofs.RunLaws.{totals_given}
use Rattle.printing.proofs.ListLaws.{report_other, lines_length}
use Rattle.printing.proofs.report_length.Goals as goal

pub returns-else-t-eq-AFTER_CLOSING : goal.returns-else-t-eq-AFTER_CLOSING
returns-else-t-eq-AFTER_CLOSING c =
    c.count_of.ensures
    ∙ ap (λ (t : Totals). if_eq t.number 0 (8 + t.targets) 1) (totals_given c.totals.ensures)
    ∙ sym (lines_length _ _)
    ∙ ap length (sym (report_other _ (search rules)))
