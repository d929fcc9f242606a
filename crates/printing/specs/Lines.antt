-- For the proofs. The lines that are printed of a study's struct and the answer to its last piece. Assumes nothing.
use Rattle.std.specs.Prelude.{List, [], ◌∷◌, ℕ}
use Rattle.numeric.specs.Choice.{if_eq}
use Rattle.state.specs.declared.Totals.{Totals}
use Rattle.state.specs.declared.TargetReport.{TargetReport}
use Rattle.model.specs.Machine.{totals_in, target_in}
use Rattle.study.specs.View.{view}
use Rattle.study.specs.declared.pieces.Taken.{Taken}
use Rattle.lines.specs.Text.{refused_line}
use Rattle.printing.specs.Report.{closed_lines}

-- "A refusal prints only `refused N at P`; for 8, P is the bytes read."
unfoldable pub lines_of : (ℕ → TargetReport) → Totals → List (List ℕ)
lines_of f t = if_eq t.number 0 (closed_lines f t) (refused_line t.number t.place ∷ [])

-- The lines that are printed of a study and the answer to its last piece: where that is 7, bytes follow the closing record.
unfoldable pub report_lines : Taken → List (List ℕ)
report_lines t = if_eq t.number 7 (refused_line 7 t.place ∷ []) (lines_of (target_in (view t.study)) (totals_in t.study.core))
