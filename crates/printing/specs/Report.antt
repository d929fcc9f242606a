-- To be believed. The text of a report, line by line: 01, "The specimen study". Assumes nothing.
use Rattle.std.specs.Prelude.{List, [], ◌∷◌, ◌++◌, ℕ, zero, suc, get_or}
use Rattle.state.specs.declared.Totals.{Totals}
use Rattle.state.specs.declared.TargetReport.{TargetReport}
use Rattle.lines.specs.Text.{study_line, kind_line, target_line, unjudged_line}

-- the totals of the six kinds of outcome
unfoldable pub kind_lines : List ℕ → List (List ℕ)
kind_lines v =
    kind_line 0 (get_or v 0 0) ∷ kind_line 1 (get_or v 1 0) ∷ kind_line 2 (get_or v 2 0)
    ∷ kind_line 3 (get_or v 3 0) ∷ kind_line 4 (get_or v 4 0) ∷ kind_line 5 (get_or v 5 0) ∷ []

-- the first n targets, in order, each by its report
unfoldable pub target_lines : (ℕ → TargetReport) → ℕ → List (List ℕ)
target_lines f zero = []
target_lines f (suc n) = target_lines f n ++ (target_line n (f n) ∷ [])

-- the report of a closed study, by its totals and the reports of its targets
unfoldable pub closed_lines : (ℕ → TargetReport) → Totals → List (List ℕ)
closed_lines f t = study_line t ∷ (kind_lines t.kinds ++ (target_lines f t.targets ++ (unjudged_line t.unjudged ∷ [])))
