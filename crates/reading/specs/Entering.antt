-- For the proofs. A byte more of a record: the parts of `Machine.step` before the record that it makes whole is read. Assumes nothing.
use Rattle.std.specs.Prelude.{◌≡◌, Bool, true, false, List, ℕ, ◌-◌, get_or}
use Rattle.numeric.specs.Choice.{pick, if_eq, if_le}
use Rattle.state.specs.declared.Core.{Core}
use Rattle.state.specs.declared.Reading.{Reading}
use Rattle.model.specs.Verdict.{body_length, decode}
use Rattle.model.specs.Machine.{State, core, state, store, open_phase, begun, grown, record_read, cleared, step}
use Rattle.reading.specs.declared.entering.Entered.{Entered}

-- the reading after the byte
unfoldable pub reading_with : Reading → ℕ → Reading
reading_with h b = if_eq h.phase open_phase (if_eq h.have 0 (begun h b) (grown h)) h

-- the pending bytes after it
unfoldable pub pending_with : Reading → List ℕ → ℕ → List ℕ
pending_with h p b = if_eq h.phase open_phase (store 16 p h.have b) p

-- whether the last byte of a record's body is among them
unfoldable pub whole_in : Reading → List ℕ → Bool
whole_in h p = if_le (body_length (get_or p 0 0)) ((grown h).have - 1) true false

-- whether the byte makes the record in them whole, so that it is still to be read
unfoldable pub whole_with : Reading → List ℕ → ℕ → Bool
whole_with h p b = if_eq h.phase open_phase (if_eq h.have 0 false (whole_in h (store 16 p h.have b))) false

-- the parts that go by value after it, and whether a record is still to be read
abbrev pub entered_with : Core → List ℕ → ℕ → Entered
entered_with c p b = record { core = core (reading_with c.reading b) c.counts c.branch c.tally; whole = whole_with c.reading p b }

-- the record that a byte made whole is read, and the pending bytes are forgotten
abbrev pub read_if : Bool → State → State
read_if whole s = pick whole (cleared (record_read s (decode s.pending))) s

-- the parts make a step of the machine
abbrev pub StepByParts : Type 0
StepByParts = (c : Core) (p k s m f : List ℕ) (b : ℕ)
    → step (state c p k s m f) b ≡ read_if (whole_with c.reading p b) (state (entered_with c p b).core (pending_with c.reading p b) k s m f)
