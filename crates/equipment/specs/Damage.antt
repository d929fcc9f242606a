-- To be believed. 01, "Damage (000, table D.2)", and 02, request P1: the chance of damage to equipment, by any logarithm, any chance of a probit and any
-- root of a volume. Assumes nothing.
use Rattle.std.specs.Prelude.{◌≡◌, Bool, true, false, ℕ, ◌+◌, ◌*◌, ◌/◌, ℤ, pos, ◌-ℤ◌}
use Rattle.numeric.specs.Choice.{pick, if_eq, if_lt}
use Rattle.terms.specs.Scales.{Scales, standard}
use Rattle.terms.specs.Terms.{atmospheric, pressurised, tower, machine, pipe, people, judged_as, unjudged, by_kind}
use Rattle.terms.specs.declared.Clock.{Clock}
use Rattle.terms.specs.declared.Judged.{Judged}
use Rattle.equipment.specs.declared.BlastRow.{BlastRow}

-- a row of the table: what the probit takes off (-A), its factor B in hundredths, and the threshold in Pa
abbrev pub blast_row : ℕ → ℕ → ℕ → BlastRow
blast_row a b t = record { constant = a; factor = b; threshold = t }

-- the table, by class; classes 2 and 5 share a row
unfoldable pub blast_row_of : ℕ → BlastRow
blast_row_of class =
    if_eq class atmospheric (blast_row 9360000 134 5170)
    (if_eq class tower (blast_row 12220000 165 17000)
    (if_eq class machine (blast_row 12420000 164 18700)
    (blast_row 14440000 182 30000)))

-- Y = A + B × L(Pa) × 693,147 / 25,600 rounded down, in millionths
unfoldable pub blast_probit_by : Scales → BlastRow → ℕ → ℤ
blast_probit_by s row pa = pos (row.factor * s.log pa * 693147 / 25600) -ℤ pos row.constant

-- Explosion: below the threshold 0, else by the probit.
unfoldable pub blast_damage_by : Scales → BlastRow → ℕ → ℕ
blast_damage_by s row pa = if_lt pa row.threshold 0 (s.chance (blast_probit_by s row pa))

-- Y = -20,094,547 + (2,083,416 × L(Q) × 693,147 / 256,000,000, down) + (4,925,949 × volume / 100,000, down), in millionths
unfoldable pub heat_probit_by : Scales → ℕ → ℕ → ℤ
heat_probit_by s q volume = pos (2083416 * s.log q * 693147 / 256000000 + 4925949 * volume / 100000) -ℤ pos 20094547

-- Fire, classes 1 and 5: above 15,000 W/m² and longer than the limit by the probit, else 0.
unfoldable pub heat_damage_by : Scales → ℕ → ℕ → ℕ → ℕ → ℕ
heat_damage_by s limit volume q duration =
    if_lt 15000 q (if_lt limit duration (s.chance (heat_probit_by s q volume)) 0) 0

-- Y = 457,583 + (1,749,109 × L(Q) × 693,147 / 256,000,000, down) - (16,336,715 × K / 1000, down), in millionths
unfoldable pub sphere_probit_by : Scales → ℕ → ℕ → ℤ
sphere_probit_by s q volume = pos (457583 + 1749109 * s.log q * 693147 / 256000000) -ℤ pos (16336715 * s.root volume / 1000)

-- Fire, class 2: above 40,000 W/m² and longer than the limit by the probit, else 0.
unfoldable pub sphere_damage_by : Scales → ℕ → ℕ → ℕ → ℕ → ℕ
sphere_damage_by s limit volume q duration =
    if_lt 40000 q (if_lt limit duration (s.chance (sphere_probit_by s q volume)) 0) 0

-- Fire: the chance by class.
unfoldable pub fire_chance_by : Scales → ℕ → ℕ → ℕ → ℕ → ℕ → ℕ
fire_chance_by s limit class volume q duration =
    if_eq class pressurised (sphere_damage_by s limit volume q duration) (heat_damage_by s limit volume q duration)

-- Fire: whether it is judged, by class and volume alone. Classes 3 and 4 are not, nor is class 2 with a volume of 0 or above 10,000.
unfoldable pub fire_judged : ℕ → ℕ → Bool
fire_judged class volume =
    if_eq class tower false
    (if_eq class machine false
    (if_eq class pressurised (if_eq volume 0 false (if_lt 10000 volume false true))
    true))

-- Fire: both together.
unfoldable pub fire_damage_by : Scales → ℕ → ℕ → ℕ → ℕ → ℕ → Judged
fire_damage_by s limit class volume q duration =
    pick (fire_judged class volume) (judged_as (fire_chance_by s limit class volume q duration)) unjudged

-- "in every fire": heat and duration don't say whether it is judged
abbrev pub FireJudged : Type 0
FireJudged = (s : Scales) (limit class volume q duration : ℕ) → (fire_damage_by s limit class volume q duration).judged ≡ fire_judged class volume

-- The chance of damage, by outcome kind, class, volume, intensity and duration. Flash fire and a kind without effect give 0,
-- and so does every effect on a class that is no equipment.
unfoldable pub damage_by : Scales → Clock → ℕ → ℕ → ℕ → ℕ → ℕ → Judged
damage_by s clock kind class volume intensity duration =
    if_eq class people (judged_as 0)
    (if_lt pipe class (judged_as 0)
    (by_kind kind
    (fire_damage_by s clock.limit class volume intensity duration)
    (judged_as 0)
    (judged_as (blast_damage_by s (blast_row_of class) intensity))
    (judged_as 0)))

-- by the logarithm, the chances and the root of the documents
abbrev pub blast_probit : BlastRow → ℕ → ℤ
blast_probit = blast_probit_by standard

abbrev pub heat_probit : ℕ → ℕ → ℤ
heat_probit = heat_probit_by standard

abbrev pub sphere_probit : ℕ → ℕ → ℤ
sphere_probit = sphere_probit_by standard

abbrev pub damage_of : Clock → ℕ → ℕ → ℕ → ℕ → ℕ → Judged
damage_of = damage_by standard
