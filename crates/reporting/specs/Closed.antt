-- For the proofs. The place of a closed study, which its reports name; else the number and the place that they say no with. Assumes nothing.
use Rattle.std.specs.Prelude.{ℕ, Result, Ok, Err}
use Rattle.numeric.specs.Choice.{if_eq}
use Rattle.state.specs.declared.Reading.{Reading}
use Rattle.model.specs.Machine.{closed_phase, refused_phase}
use Rattle.reporting.specs.declared.Refused.{Refused}

unfoldable pub closed_at : Reading → Result ℕ Refused
closed_at h =
    if_eq h.phase refused_phase (Err (record { number = h.number; place = h.at }))
    (if_eq h.phase closed_phase (Ok h.place)
    (Err (record { number = 8; place = h.place })))
