-- For the proofs. How the effects of a run are timed, and how far the run goes: effects of one kind and one unit, with the first of them. Assumes nothing.
use Rattle.std.specs.Prelude.{true, false, List, ℕ, get_or, drop}
use Rattle.numeric.specs.Choice.{if_eq, if_lt}
use Rattle.terms.specs.Terms.{seconds_unit, tenths_unit, clock_of}
use Rattle.model.specs.Format.{effect_kind, timed_kind}
use Rattle.model.specs.Verdict.{field}
use Rattle.effects.specs.declared.Timing.{Timing}
use Rattle.effects.specs.Effects.{offset, leading}

-- by the first effect: kind, length and clock
unfoldable pub timing_of : List ℕ → Timing
timing_of l =
    if_eq (get_or l 0 0) timed_kind
    (record { kind = timed_kind; length = 10; clock = clock_of (field l 9 1) })
    (record { kind = effect_kind; length = 9; clock = clock_of seconds_unit })

-- how many of the first n effects of kind 8 have a unit; none has a number that is no unit
unfoldable pub with_unit : ℕ → List ℕ → ℕ → ℕ
with_unit u l n = if_lt tenths_unit u 0 (leading (λ i. if_eq (field (drop (offset 10 i) l) 9 1) u true false) n)

-- how many of the first n effects are timed as the first is
unfoldable pub alike_of : List ℕ → ℕ → ℕ
alike_of l n = if_eq (get_or l 0 0) timed_kind (with_unit (field l 9 1) l n) n
