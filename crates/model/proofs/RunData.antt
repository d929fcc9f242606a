-- The machine's data without its reading and its pending bytes: one record, and a list of records. Assumes nothing.
use mathlib.Core.Path.{◌≡◌, refl}
use mathlib.Core.List.{List, [], ◌∷◌, ◌++◌}
use Prim.Native.Nat.{ℕ, ◌+◌, min}
use native.Mathlib.Omega.{arith}
use lib.ListN.{length}
use Rattle.state.specs.declared.Counts.{Counts}
use Rattle.state.specs.declared.Branch.{Branch}
use Rattle.state.specs.declared.Tally.{Tally}
use Rattle.model.specs.Format.{Record, opening_rec, target_rec, leak_rec, branching_rec, outcome_rec, effect_rec, closing_rec}
use Rattle.model.specs.Machine.{State, state, core, reading, most32, accepted, effect_state, one_record, one_target, one_leak}

pub record Data : Type 0 where
  pub counts : Counts
  pub branch : Branch
  pub tally : Tally
  pub stack : List ℕ
  pub sums : List ℕ
  pub margins : List ℕ
  pub facts : List ℕ

-- all of a state but its reading and its pending bytes
abbrev pub data_of : State → Data
data_of s =
    record {
      counts = s.core.counts;
      branch = s.core.branch;
      tally = s.core.tally;
      stack = s.stack;
      sums = s.sums;
      margins = s.margins;
      facts = s.facts;
    }

abbrev pub embed : Data → State
embed d = state (core (reading 0 0 0 0 0 0) d.counts d.branch d.tally) [] d.stack d.sums d.margins d.facts

unfoldable pub after : Data → Record → Data
after d r = data_of (accepted (embed d) r)

unfoldable pub run : Data → List Record → Data
run d [] = d
run d (r ∷ rs) = run (after d r) rs

-- what a record does to the data does not depend on the reading and the pending bytes
pub data_accepted : (s : State) (r : Record) → data_of (accepted s r) ≡ after (data_of s) r
unfolding after accepted effect_state
data_accepted s (opening_rec n) = refl
data_accepted s (target_rec n t) = refl
data_accepted s (leak_rec n f) = refl
data_accepted s (branching_rec b) = refl
data_accepted s (outcome_rec k n) = refl
data_accepted s (effect_rec e) = refl
data_accepted s (closing_rec n t) = refl

pub run_append : (d : Data) (a b : List Record) → run d (a ++ b) ≡ run (run d a) b
unfolding run
run_append d [] b = refl
run_append d (r ∷ a) b = run_append (after d r) a b

-- each record counts once
after_records : (d : Data) (r : Record) → (after d r).counts.records ≡ min (d.counts.records + 1) most32
unfolding after accepted effect_state one_record one_target one_leak
after_records d (opening_rec n) = refl
after_records d (target_rec n t) = refl
after_records d (leak_rec n f) = refl
after_records d (branching_rec b) = refl
after_records d (outcome_rec k n) = refl
after_records d (effect_rec e) = refl
after_records d (closing_rec n t) = refl

pub run_records : (d : Data) (rs : List Record) (n : ℕ) → d.counts.records ≡ min n most32 → (run d rs).counts.records ≡ min (n + length rs) most32
unfolding run
run_records d [] n e = omega arith
run_records d (r ∷ rs) n e =
    let h = after_records d r in
    let i = run_records (after d r) rs (n + 1) (omega arith) in
    omega arith
