-- What the contract of a call says, part by part, and the frame's theorems for the study's struct. Assumes nothing.
use mathlib.Core.Path.{◌≡◌, refl, ◌∙◌, ap, ap₂}
use mathlib.Core.List.{List}
use Prim.Native.Nat.{ℕ}
use lib.ListN.{length}
use Rattle.state.specs.declared.Totals.{Totals}
use Rattle.state.specs.declared.TargetReport.{TargetReport}
use Rattle.state.specs.declared.DominoReport.{DominoReport}
use Rattle.model.specs.Calls.{Call, piece, totals, target, domino, Answer, took_piece, gave_totals, gave_target, gave_domino}
use Rattle.model.specs.Machine.{State, read_all, fresh, number_after, place_after, totals_in, target_in, domino_in, list_after, state_after, answer_in, state_after_all}
use Rattle.model.proofs.RunLaws as frame
use Rattle.study.specs.declared.Study.{Study}
use Rattle.study.specs.View.{view, unview}
use Rattle.study.specs.Runs.{Called, Ran, EveryListRuns, RunsAnswer, RunsMeetDemand3}
use Rattle.study.proofs.ViewLaws.{view_is_whole}

-- ---- one call: its contract, part by part, and back

pub piece_called : {s u : Study} {b : List ℕ} {n p : ℕ} → view u ≡ read_all (view s) b
    → n ≡ number_after s.core.reading.place (length b) u.core.reading → p ≡ place_after u.core.reading
    → Called s (piece b) (took_piece n p) u
unfolding state_after answer_in
piece_called {s} {b = b} e n p =
    let number = n ∙ ap (λ (v : State). number_after s.core.reading.place (length b) v.core.reading) e in
    record { answer = ap₂ took_piece number (p ∙ ap (λ (v : State). place_after v.core.reading) e); state = e }

pub totals_called : {s : Study} {r : Totals} → r ≡ totals_in s.core → Called s totals (gave_totals r) s
unfolding state_after answer_in
totals_called e = record { answer = ap gave_totals e; state = refl }

pub target_called : {s : Study} {t : ℕ} {r : TargetReport} → r ≡ target_in (view s) t → Called s (target t) (gave_target r) s
unfolding state_after answer_in
target_called e = record { answer = ap gave_target e; state = refl }

pub domino_called : {s : Study} {l m : List ℕ} {r : DominoReport} → r ≡ domino_in (view s) (length l) → m ≡ list_after (view s) l → Called s (domino l) (gave_domino r m) s
unfolding state_after answer_in
domino_called e f = record { answer = ap₂ gave_domino e f; state = refl }

pub piece_read : {s u : Study} {b : List ℕ} {a : Answer} → Called s (piece b) a u → view u ≡ read_all (view s) b
unfolding state_after
piece_read k = k.state

pub totals_given : {s u : Study} {r : Totals} → Called s totals (gave_totals r) u → r ≡ totals_in s.core
unfolding answer_in
totals_given k = let e = k.answer in cc

pub target_given : {s u : Study} {t : ℕ} {r : TargetReport} → Called s (target t) (gave_target r) u → r ≡ target_in (view s) t
unfolding answer_in
target_given k = let e = k.answer in cc

-- ---- a run

-- the study at the end is the machine's state after the calls
pub ran_state : {cs : List Call} {xs : List Answer} {s : Study} → Ran cs xs s → view s ≡ state_after_all fresh cs
ran_state = frame.ran_state view

pub runs_answer : RunsAnswer
runs_answer = frame.runs_answer view

pub runs_meet_demand_3 : RunsMeetDemand3
runs_meet_demand_3 = frame.runs_meet_demand_3 view

pub every_list_runs : EveryListRuns
every_list_runs = frame.every_list_runs view unview view_is_whole.1
