-- Proved. The frame of runs (model Runs) for the study's own struct: what the contracts of `Study` say, and the theorems about every list of calls on it.
-- Assumes nothing.
use Rattle.std.specs.Prelude.{List}
use Rattle.model.specs.Calls.{Call, Answer}
use Rattle.model.specs.Runs as Frame
use Rattle.study.specs.declared.Study.{Study}
use Rattle.study.specs.View.{view}

-- the contract of a call: made on a study it gives this answer and leaves this study
abbrev pub Called : Study → Call → Answer → Study → Type 0
Called = Frame.Called view

-- calls from what `Study::fresh` gives on, with their answers, and the study at the end
abbrev pub Ran : List Call → List Answer → Study → Type 0
Ran = Frame.Ran view

-- every list of calls has a run
abbrev pub EveryListRuns : Type 0
EveryListRuns = Frame.EveryListRuns view

-- demands 1 and 2, of every run: each call is answered as 01 says from the bytes joined before it and the call alone
abbrev pub RunsAnswer : Type 0
RunsAnswer = Frame.RunsAnswer view

-- demand 3, of every run whose bytes close the study: it holds of the structs that `Study::totals` and `Study::target` then give
abbrev pub RunsMeetDemand3 : Type 0
RunsMeetDemand3 = Frame.RunsMeetDemand3 view
