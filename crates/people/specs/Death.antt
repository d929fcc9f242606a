-- To be believed. 01, "Death (004, 11.3.4 and 11.5.1)": the chance of death at a place of people, by any logarithm and any chance of a probit. Assumes nothing.
use Rattle.std.specs.Prelude.{ℕ, ◌+◌, ◌*◌, ◌/◌, min, ℤ, pos, ◌-ℤ◌}
use Rattle.numeric.specs.Choice.{if_eq, if_le}
use Rattle.numeric.specs.Share.{certain}
use Rattle.terms.specs.Scales.{Scales, standard}
use Rattle.terms.specs.Terms.{outdoors, indoors, judged_as, by_kind}
use Rattle.terms.specs.declared.Clock.{Clock}
use Rattle.terms.specs.declared.Judged.{Judged}

-- Y = -constant + (4 L(Q) + 3 L(t)) × 693,147 / 300 rounded down, in millionths
unfoldable pub fire_probit_by : Scales → ℕ → ℕ → ℕ → ℤ
fire_probit_by s constant q t = pos ((4 * s.log q + 3 * s.log t) * 693147 / 300) -ℤ pos constant

-- setting 1 takes 14 hundredths of the probit's chance
unfoldable pub setting_share : ℕ → ℕ → ℕ
setting_share setting c = if_eq setting outdoors (c * 14 / 100) c

-- Fire: 35,000 W/m² or more gives 1,000,000; below, indoors 0; intensity 0 gives 0; else by the probit, t being the duration, at most the longest.
unfoldable pub fire_death_by : Scales → ℕ → ℕ → ℕ → ℕ → ℕ → ℕ
fire_death_by s longest constant setting q duration =
    if_le 35000 q certain
    (if_eq setting indoors 0
    (if_eq q 0 0
    (setting_share setting (s.chance (fire_probit_by s constant q (min duration longest))))))

-- Flash fire: 1,000,000 inside the limit (intensity 1), else 0, in every setting.
unfoldable pub flash_death : ℕ → ℕ
flash_death inside = if_eq inside 1 certain 0

-- Explosion: 30,000 Pa or more 1,000,000; indoors from 10,000 on 25,000; else 0.
unfoldable pub blast_death : ℕ → ℕ → ℕ
blast_death setting pa = if_le 30000 pa certain (if_eq setting indoors (if_le 10000 pa 25000 0) 0)

-- The chance of death, by outcome kind, setting, intensity and duration. A kind without effect gives 0. A number above 2 counts as setting 0.
unfoldable pub death_by : Scales → Clock → ℕ → ℕ → ℕ → ℕ → Judged
death_by s clock kind setting intensity duration =
    by_kind kind
    (judged_as (fire_death_by s clock.longest clock.constant setting intensity duration))
    (judged_as (flash_death intensity))
    (judged_as (blast_death setting intensity))
    (judged_as 0)

-- by the logarithm and the chances of 01
abbrev pub fire_probit : ℕ → ℕ → ℕ → ℤ
fire_probit = fire_probit_by standard

abbrev pub death_of : Clock → ℕ → ℕ → ℕ → ℕ → Judged
death_of = death_by standard
