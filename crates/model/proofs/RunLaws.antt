-- What the machine's theorems say of a run, whatever form the study is kept in. Assumes nothing.
use mathlib.Core.Path.{◌≡◌, refl, sym, ◌∙◌, ap, ap₂}
use mathlib.Core.List.{List, [], ◌∷◌}
use Prim.Native.Nat.{ℕ}
use Rattle.state.specs.declared.Totals.{Totals}
use Rattle.state.specs.declared.TargetReport.{TargetReport}
use Rattle.model.specs.Content.{Content}
use Rattle.model.specs.Calls.{Call, totals, target, Answer, gave_totals, gave_target}
use Rattle.model.specs.Machine.{State, fresh, state_after, answer_in, state_after_all, answers_in}
use Rattle.model.specs.MachineTheorems.{TotalsHold, TargetHolds}
use Rattle.model.specs.Runs.{Run, none, call, Called, Ran, EveryListRuns, RunsAnswer, RunsMeetDemand3}
use Rattle.model.proofs.Closing.{answers_hold, demand_3}

module _ {S : Type 0} (view : S → State) where
  run_state : {s u : S} {cs : List Call} {xs : List Answer} → Run (Called view) s cs xs u → view u ≡ state_after_all (view s) cs
  unfolding state_after_all
  run_state none = refl
  run_state {cs = c ∷ cs} (call k r) = run_state r ∙ ap (λ (v : State). state_after_all v cs) k.state

  run_answers : {s u : S} {cs : List Call} {xs : List Answer} → Run (Called view) s cs xs u → xs ≡ answers_in (view s) cs
  unfolding answers_in
  run_answers none = refl
  run_answers {cs = c ∷ cs} (call k r) =
      ap₂ (λ (a : Answer) (l : List Answer). a ∷ l) k.answer (run_answers r ∙ ap (λ (v : State). answers_in v cs) k.state)

  -- the value at the end is the machine's state after the calls
  pub ran_state : {cs : List Call} {xs : List Answer} {s : S} → Ran view cs xs s → view s ≡ state_after_all fresh cs
  ran_state {cs} r = run_state r.calls ∙ ap (λ (v : State). state_after_all v cs) r.started

  pub runs_answer : RunsAnswer view
  runs_answer cs xs s r z = run_answers r.calls ∙ ap (λ (v : State). answers_in v cs) r.started ∙ answers_hold cs z

  pub runs_meet_demand_3 : RunsMeetDemand3 view
  runs_meet_demand_3 cs xs s r c v tail e =
      let d = demand_3 cs c v tail e in
      let w = ran_state r in
      record {
        totals = λ x k. (d.totals, same_totals cs c s x w d.totals k);
        targets = λ t h x k. (d.targets t h, same_target cs c s t x w (d.targets t h) k);
      }
    where
      same_totals : (cs : List Call) (c : Content) (s : S) (x : Totals) → view s ≡ state_after_all fresh cs → (h : TotalsHold cs c) → Called view s totals (gave_totals x) s → h.report ≡ x
      same_totals cs c s x w h k = let q : gave_totals x ≡ gave_totals h.report = k.answer ∙ ap (λ (v : State). answer_in v totals) w ∙ h.answered in cc

      same_target : (cs : List Call) (c : Content) (s : S) (t : ℕ) (x : TargetReport) → view s ≡ state_after_all fresh cs → (h : TargetHolds cs c t) → Called view s (target t) (gave_target x) s → h.report ≡ x
      same_target cs c s t x w h k = let q : gave_target x ≡ gave_target h.report = k.answer ∙ ap (λ (v : State). answer_in v (target t)) w ∙ h.answered in cc

  -- Every list of calls has a run, where every state is the view of some value: the machine's own run.
  module _ (unview : State → S) (back : (s : State) → view (unview s) ≡ s) where
    one_call : (s : State) (c : Call) → Called view (unview s) c (answer_in s c) (unview (state_after s c))
    one_call s c =
        record {
          answer = sym (ap (λ (v : State). answer_in v c) (back s));
          state = back (state_after s c) ∙ sym (ap (λ (v : State). state_after v c) (back s));
        }

    machine_run : (s : State) (cs : List Call) → Run (Called view) (unview s) cs (answers_in s cs) (unview (state_after_all s cs))
    unfolding answers_in state_after_all
    machine_run s [] = none
    machine_run s (c ∷ cs) = call (one_call s c) (machine_run (state_after s c) cs)

    pub every_list_runs : EveryListRuns view
    every_list_runs cs =
        record {
          answers = answers_in fresh cs;
          study = unview (state_after_all fresh cs);
          ran = record { first = unview fresh; started = back fresh; calls = machine_run fresh cs };
        }
