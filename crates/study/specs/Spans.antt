-- For the proofs. What a piece's bytes are read in: whole records, or single bytes. Assumes nothing.
use Rattle.std.specs.Prelude.{◌≡◌, Bool, true, false, ◌⊎◌, List, ℕ, ◌+◌, ◌-◌, ◌<◌, ◌≤◌, length, get_or, take, drop}
use Rattle.numeric.specs.Choice.{if_eq}
use Rattle.state.specs.declared.Reading.{Reading}
use Rattle.model.specs.Format.{leak_kind, branching_kind, outcome_kind, effect_kind, timed_kind, curve_kind}
use Rattle.model.specs.Verdict.{body_length, decode}
use Rattle.model.specs.Machine.{State, most64, open_phase, record_read, cleared, read_all}

-- the reading stands between two records, and a place past the next one is counted
pub record Between (h : Reading) : Type 0 where
  pub reads : h.phase ≡ open_phase
  pub none : h.have ≡ 0
  pub room : h.place + 13 ≤ most64

-- the kinds of a scenario's records: leaks, branchings, outcomes and effects
unfoldable pub of_scenario : ℕ → Bool
of_scenario k =
    if_eq k leak_kind true
    (if_eq k branching_kind true
    (if_eq k outcome_kind true
    (if_eq k effect_kind true
    (if_eq k timed_kind true
    (if_eq k curve_kind true false)))))

-- the length of the record that some bytes begin with, kind byte included
abbrev pub length_of : List ℕ → ℕ
length_of l = body_length (get_or l 0 0) + 1

-- between two records the bytes begin with a record of a known kind, and there are at least sixteen of them, more than any record has
pub record Next (h : Reading) (l : List ℕ) : Type 0 where
  pub between : Between h
  pub known : 0 < body_length (get_or l 0 0)
  pub room : 16 ≤ length l

-- the study after the first n bytes, where the record that they begin with has been entered and is still to be read
abbrev pub after_first : State → List ℕ → ℕ → State
after_first s l n = read_all (cleared (record_read s (decode l))) (take (n - length_of l) (drop (length_of l) l))

-- the first n bytes, of so many, have the first record whole, and more than it only where sixteen bytes follow it
pub record Records (l : List ℕ) (n : ℕ) : Type 0 where
  pub first : length_of l ≤ n
  pub there : n ≤ length l
  pub more : (n ≡ length_of l) ⊎ (length_of l + 16 ≤ length l)
