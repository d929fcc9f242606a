-- Proved. Calls on the code's own values, as the contracts of the calls say them, and the machine's theorems once more of these values. Every form that the code
-- keeps a study in uses this frame: S is the type of its values, and `view` says which state of the machine each of them is. Assumes nothing.
use Rattle.std.specs.Prelude.{◌≡◌, List, [], ◌∷◌, ◌++◌, ℕ, ◌<◌, length}
use Rattle.state.specs.declared.Totals.{Totals}
use Rattle.state.specs.declared.TargetReport.{TargetReport}
use Rattle.model.specs.Content.{Content}
use Rattle.model.specs.Format.{bytes_of}
use Rattle.model.specs.Valid.{Each, Valid}
use Rattle.model.specs.Calls.{Call, totals, target, Answer, gave_totals, gave_target, answers, joined, Callable}
use Rattle.model.specs.Machine.{State, fresh, state_after, answer_in}
use Rattle.model.specs.MachineTheorems.{TotalsHold, TargetHolds}

-- Calls one after the other, each on the value that the one before it left, with their answers. `called` is what the contract of a call says.
pub data Run {S C A : Type 0} (called : S → C → A → S → Type 0) : S → List C → List A → S → Type 0 where
  none : {s : S} → Run called s [] [] s
  call : {s t u : S} {c : C} {a : A} {cs : List C} {xs : List A} → called s c a t → Run called t cs xs u → Run called s (c ∷ cs) (a ∷ xs) u

-- What the contract of a call on a study says: made on a value it gives this answer and leaves this value.
pub record Called {S : Type 0} (view : S → State) (s : S) (c : Call) (a : Answer) (left : S) : Type 0 where
  pub answer : a ≡ answer_in (view s) c
  pub state : view left ≡ state_after (view s) c

-- a run from a fresh study on
pub record Ran {S : Type 0} (view : S → State) (cs : List Call) (xs : List Answer) (s : S) : Type 0 where
  pub first : S
  pub started : view first ≡ fresh
  pub calls : Run (Called view) first cs xs s

-- every list of calls has a run
pub record Runnable {S : Type 0} (view : S → State) (cs : List Call) : Type 0 where
  pub answers : List Answer
  pub study : S
  pub ran : Ran view cs answers study

abbrev pub EveryListRuns : {S : Type 0} → (S → State) → Type 0
EveryListRuns view = (cs : List Call) → Runnable view cs

-- Answers: in every run each call is answered as 01 says from the bytes joined before it and the call alone.
abbrev pub RunsAnswer : {S : Type 0} → (S → State) → Type 0
RunsAnswer {S} view = (cs : List Call) (xs : List Answer) (s : S) → Ran view cs xs s → Each Callable cs → xs ≡ answers [] cs

-- Whatever the reports of the totals and of a target give of a value: what demand 3 says holds of these structs.
pub record ReportsHold {S : Type 0} (view : S → State) (cs : List Call) (s : S) (c : Content) : Type 0 where
  pub totals : (r : Totals) → Called view s totals (gave_totals r) s → (h : TotalsHold cs c) × (h.report ≡ r)
  pub targets : (t : ℕ) → t < length c.targets → (r : TargetReport) → Called view s (target t) (gave_target r) s → (h : TargetHolds cs c t) × (h.report ≡ r)

-- Demand 3: the reports at the end of every run whose bytes close the study
abbrev pub RunsMeetDemand3 : {S : Type 0} → (S → State) → Type 0
RunsMeetDemand3 {S} view = (cs : List Call) (xs : List Answer) (s : S) → Ran view cs xs s
    → (c : Content) → Valid c → (tail : List ℕ) → joined [] cs ≡ bytes_of c ++ tail → ReportsHold view cs s c
