-- To be believed. The numbers of 01, "Records", for kinds, classes and settings, and the form of a judgement. Assumes nothing.
use Rattle.std.specs.Prelude.{true, false, ℕ}
use Rattle.numeric.specs.Choice.{if_eq, if_le}
use Rattle.terms.specs.declared.Judged.{Judged}
use Rattle.terms.specs.declared.Clock.{Clock}

-- outcome kinds: 0 no effect, 1 pool fire, 2 jet fire, 3 fireball, 4 flash fire, 5 explosion
abbrev pub no_effect : ℕ
no_effect = 0

abbrev pub pool_fire : ℕ
pool_fire = 1

abbrev pub jet_fire : ℕ
jet_fire = 2

abbrev pub fireball : ℕ
fireball = 3

abbrev pub flash_fire : ℕ
flash_fire = 4

abbrev pub explosion : ℕ
explosion = 5

-- classes: 0 place of people, 1 atmospheric vessel, 2 pressurised vessel, 3 tower, 4 pump, compressor or exchanger, 5 pipe
abbrev pub people : ℕ
people = 0

abbrev pub atmospheric : ℕ
atmospheric = 1

abbrev pub pressurised : ℕ
pressurised = 2

abbrev pub tower : ℕ
tower = 3

abbrev pub machine : ℕ
machine = 4

abbrev pub pipe : ℕ
pipe = 5

-- settings: 0 individual risk, 1 social outdoors, 2 social indoors; equipment has 0
abbrev pub individual : ℕ
individual = 0

abbrev pub outdoors : ℕ
outdoors = 1

abbrev pub indoors : ℕ
indoors = 2

-- a chance that a rule gives, and an effect that no rule judges
abbrev pub judged_as : ℕ → Judged
judged_as c = record { chance = c; judged = true }

abbrev pub unjudged : Judged
unjudged = record { chance = 0; judged = false }

-- The rule for an outcome kind: the fires are kinds 1 to 3. No effect, and a number that is no kind, have a rule of their own.
unfoldable pub by_kind : ℕ → Judged → Judged → Judged → Judged → Judged
by_kind kind fire flash blast other =
    if_eq kind explosion blast
    (if_eq kind flash_fire flash
    (if_eq kind no_effect other
    (if_le kind fireball fire other)))

-- A clock: the longest duration that counts for people, what their probit takes off, and what a fire has to exceed to damage equipment.
-- 01, "Death" and "Damage": durations in whole seconds
abbrev pub seconds : Clock
seconds = record { longest = 20; constant = 36380000; limit = 600 }

-- 02, request P6: durations in tenths of a second
abbrev pub tenths : Clock
tenths = record { longest = 200; constant = 42274618; limit = 6000 }

-- 02, request P6: the units of a duration, 0 seconds and 1 tenths
abbrev pub seconds_unit : ℕ
seconds_unit = 0

abbrev pub tenths_unit : ℕ
tenths_unit = 1

-- the clock of a unit
unfoldable pub clock_of : ℕ → Clock
clock_of unit = if_eq unit tenths_unit tenths seconds
