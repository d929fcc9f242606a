-- For the proofs. The reading of bytes whose places count from where their first record begins, and where it stands in the study. Assumes nothing.
use Rattle.std.specs.Prelude.{ℕ, ◌-◌}
use Rattle.numeric.specs.Choice.{if_eq}
use Rattle.state.specs.declared.Reading.{Reading}
use Rattle.model.specs.Machine.{up_to, most64, refused_phase, reading}

-- a place among the bytes: 0 is where the first record begins, and after its n bytes the study stands at the place of the reading with it entered
abbrev pub shifted : Reading → ℕ → ℕ → ℕ
shifted first n x = if_eq x 0 first.start (up_to most64 first.place (x - n))

-- a reading, place by place; the place of a refusal is kept where there is one
unfoldable pub moved : Reading → ℕ → Reading → Reading
moved first n h = reading h.phase h.have (shifted first n h.place) (shifted first n h.start) h.number (if_eq h.phase refused_phase (shifted first n h.at) 0)
