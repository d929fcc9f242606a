-- For the proofs. A study's struct as a state of the machine, and back. Assumes nothing.
use Rattle.std.specs.Prelude.{◌≡◌, List, ℕ}
use Rattle.model.specs.Machine.{State, state}
use Rattle.state.specs.declared.Core.{Core}
use Rattle.study.specs.declared.Study.{Study}
use Rattle.study.specs.declared.tables.Tables.{Tables}

-- the parts that go by value, the pending bytes and the tables as a state of the machine
abbrev pub state_of : Core → List ℕ → Tables → State
state_of c p t = state c p t.stack t.rows.sums t.rows.margins t.rows.facts

abbrev pub view : Study → State
view s = state_of s.core s.pending s.tables

abbrev pub unview : State → Study
unview s = record {
  core = s.core;
  pending = s.pending;
  tables = record { stack = s.stack; rows = record { sums = s.sums; margins = s.margins; facts = s.facts } };
}

-- what is said of a study's view is said of the whole study
abbrev pub ViewIsWhole : Type 0
ViewIsWhole = ((s : Study) → unview (view s) ≡ s) × ((s : State) → view (unview s) ≡ s)
