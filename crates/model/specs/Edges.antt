-- Proved. Figures on both sides of 01's bounds, grades, thresholds and tables, worked out from 01 by hand and by a calculator, so that a neighbour of any of
-- these numbers is refused where definitions and code are changed alike. Each table is one computed test. Assumes nothing.
use Rattle.std.specs.Prelude.{◌≡◌, Bool, true, false, List, [], ◌∷◌, ◌++◌, ℕ, ◌-◌, ◌*◌, eqb, ℤ, pos, negsuc, length, replicate}
use Rattle.numeric.specs.Choice.{pick}
use Rattle.probit.specs.Table.{probits}
use Rattle.probit.specs.Chance.{chance_of}
use Rattle.ignition.specs.Ignition.{row, ignition}
use Rattle.terms.specs.Terms.{explosion, seconds, clock_of}
use Rattle.terms.specs.declared.Judged.{Judged}
use Rattle.terms.specs.declared.Target.{Target as Facts}
use Rattle.terms.specs.Scales.{Scales}
use Rattle.people.specs.Death.{fire_probit, death_of}
use Rattle.equipment.specs.Damage.{blast_row_of, blast_probit, heat_probit, sphere_probit, blast_damage_by, fire_chance_by, damage_of}
use Rattle.vulnerability.specs.Effect.{effect_on}
use Rattle.vulnerability.specs.Domino.{listed_by}
use Rattle.vulnerability.specs.Figures.{and, same}
use Rattle.model.specs.Sums.{sum_over, join_over}
use Rattle.model.specs.Content.{given, on_curve, described, in_seconds, timed}
use Rattle.model.specs.Format.{Record, opening_rec, target_rec, leak_rec, branching_rec, outcome_rec, effect_rec, closing_rec, encode}
use Rattle.model.specs.Faults.{Context, context, fault}
use Rattle.model.specs.Report.{grade_of}
use Rattle.model.specs.MeaningTheorems.{Near}
use Rattle.model.specs.Instances.{specimen, specimen_bytes}
use Rattle.model.specs.Calls.{Call, piece, totals, target, domino, Answer, took_piece, gave_totals, gave_target, gave_domino, answer, Callable}

pub data Edge : Type 0 where
  -- sum; grade
  grades : ℕ → ℕ → Edge
  -- class, Pa; Y of an explosion for equipment, and the chance of damage
  blast_y : ℕ → ℕ → ℤ → Edge
  blasts : ℕ → ℕ → ℕ → Edge
  -- heat, volume; Y of a fire for equipment
  heat_y : ℕ → ℕ → ℤ → Edge
  -- heat, volume; Y of a fire for a pressurised vessel
  sphere_y : ℕ → ℕ → ℤ → Edge
  -- class, Pa; class, volume, heat, duration: 1 where the rule goes by its probit
  blast_lines : ℕ → ℕ → ℕ → Edge
  fire_lines : ℕ → ℕ → ℕ → ℕ → ℕ → Edge
  -- class, volume, heat, duration; chance of damage in a pool fire, and whether it is judged
  fires : ℕ → ℕ → ℕ → ℕ → ℕ → Bool → Edge
  -- how many Ys table D.3 has; their sum in hundredths
  page : ℕ → ℕ → Edge
  -- Y in hundredths; the chance just below it, and the chance from there
  rises : ℕ → ℕ → ℕ → Edge
  -- outcome kind, setting, intensity, duration; chance of death
  deaths : ℕ → ℕ → ℕ → ℕ → ℕ → Edge
  -- outcome kind, class, volume, intensity, duration; chance of damage, and whether it is judged
  harms : ℕ → ℕ → ℕ → ℕ → ℕ → ℕ → Bool → Edge
  -- unit, heat, duration; Y of a fire for people
  timed_y : ℕ → ℕ → ℕ → ℤ → Edge
  -- unit, heat, duration; chance of death in a pool fire
  timed_deaths : ℕ → ℕ → ℕ → ℕ → Edge
  -- unit, class, volume, heat, duration; chance of damage in a pool fire
  timed_fires : ℕ → ℕ → ℕ → ℕ → ℕ → ℕ → Edge
  -- chance, leak; whether the equipment is on the domino list
  listings : ℕ → ℕ → Bool → Edge
  -- curve; how many chances it has, and their sum
  curve_rows : ℕ → ℕ → ℕ → Edge
  -- curve, rate; chance of ignition
  ignites : ℕ → ℕ → ℕ → Edge
  -- what is known before a record, the record; its fault
  faults : Context → Record → ℕ → Edge
  -- the bytes before a call, the call; the numbers of its answer
  replies : List ℕ → Call → List ℕ → Edge

abbrev same_z : ℤ → ℤ → Bool
same_z (pos a) (pos b) = eqb a b
same_z (pos a) (negsuc b) = false
same_z (negsuc a) (pos b) = false
same_z (negsuc a) (negsuc b) = eqb a b

abbrev same_judged : Judged → Judged → Bool
same_judged x y = and (eqb x.chance y.chance) (same x.judged y.judged)

abbrev same_list : List ℕ → List ℕ → Bool
same_list [] [] = true
same_list [] (y ∷ ys) = false
same_list (x ∷ xs) [] = false
same_list (x ∷ xs) (y ∷ ys) = and (eqb x y) (same_list xs ys)

abbrev facts : ℕ → ℕ → ℕ → Facts
facts class setting volume = record { class = class; setting = setting; volume = volume }

-- the numbers of an answer, 1 for listed: of a piece its number and place; of the totals these, study, records, leaks, six kinds, unjudged, targets;
-- of a target these, sum, margin, class, grade, listed; of the domino list these, the count, and the lent list afterwards
abbrev pub numbers_of : Answer → List ℕ
numbers_of (took_piece n p) = n ∷ p ∷ []
numbers_of (gave_totals t) = t.number ∷ t.place ∷ t.study ∷ t.records ∷ t.leaks ∷ t.kinds ++ (t.unjudged ∷ t.targets ∷ [])
numbers_of (gave_target r) = r.number ∷ r.place ∷ r.sum ∷ r.margin ∷ r.class ∷ r.grade ∷ pick r.listed 1 0 ∷ []
numbers_of (gave_domino r l) = r.number ∷ r.place ∷ r.count ∷ l

-- scales by which every probit has chance 1: they show where a rule goes by its probit, even where document 01's chance is 0 on both sides
abbrev pub all_one : Scales
all_one = record { log = λ n. n; chance = λ y. 1; root = λ v. 0 }

unfoldable pub stands : Edge → Bool
stands (grades s g) = eqb (grade_of s) g
stands (blast_y class pa y) = same_z (blast_probit (blast_row_of class) pa) y
stands (blasts class pa c) = eqb (damage_of seconds explosion class 0 pa 0).chance c
stands (heat_y q v y) = same_z (heat_probit q v) y
stands (sphere_y q v y) = same_z (sphere_probit q v) y
stands (blast_lines class pa c) = eqb (blast_damage_by all_one (blast_row_of class) pa) c
stands (fire_lines class v q d c) = eqb (fire_chance_by all_one seconds.limit class v q d) c
stands (fires class v q d c j) = same_judged (damage_of seconds 1 class v q d) (record { chance = c; judged = j })
stands (page n total) = and (eqb (length probits) n) (eqb (sum_over (λ y. y) probits) total)
stands (rises y below from) = and (eqb (chance_of (pos (y * 10000 - 1))) below) (eqb (chance_of (pos (y * 10000))) from)
stands (deaths kind setting i d c) = same_judged (effect_on seconds (facts 0 setting 0) kind i d) (record { chance = c; judged = true })
stands (harms kind class v i d c j) = same_judged (effect_on seconds (facts class 0 v) kind i d) (record { chance = c; judged = j })
stands (timed_y u q d y) = same_z (fire_probit (clock_of u).constant q d) y
stands (timed_deaths u q d c) = eqb (death_of (clock_of u) 1 0 q d).chance c
stands (timed_fires u class v q d c) = eqb (damage_of (clock_of u) 1 class v q d).chance c
stands (listings c leak b) = same (listed_by c leak) b
stands (curve_rows curve n total) = and (eqb (length (row curve)) n) (eqb (sum_over (λ p. p) (row curve)) total)
stands (ignites curve rate p) = eqb (ignition curve rate) p
stands (faults x r n) = eqb (fault x r) n
stands (replies before call l) = same_list (numbers_of (answer before call)) l

unfoldable pub all_stand : List Edge → Bool
all_stand [] = true
all_stand (e ∷ es) = and (stands e) (all_stand es)

-- between two scenarios or targets: records, targets, scenarios, the last scenario's number, the sum of the leaks
abbrev pub between : ℕ → ℕ → ℕ → ℕ → ℕ → Context
between r t s n l = context (record { records = r; targets = t; scenarios = s; last = n; leaks = l }) [] 0 0 0

-- before a tree under so many branchings
abbrev pub before_tree : ℕ → Context
before_tree above = context (record { records = 20; targets = 2; scenarios = 1; last = 1; leaks = 1 }) (above ∷ []) 0 0 0

-- before an effect: targets, the outcome's kind, the least target that it may name
abbrev pub before_effect : ℕ → ℕ → ℕ → Context
before_effect t kind next = context (record { records = 20; targets = t; scenarios = 1; last = 1; leaks = 1 }) [] 1 kind next

abbrev pub place : ℕ → ℕ → ℕ → ℕ → Record
place n class setting volume = target_rec n (described (facts class setting volume))

abbrev pub effect : ℕ → ℕ → ℕ → Record
effect t i d = effect_rec (in_seconds t i d)

abbrev pub timed_effect : ℕ → ℕ → ℕ → ℕ → Record
timed_effect t i d u = effect_rec (timed t i d u)

abbrev pub on_curve_rec : ℕ → ℕ → Record
on_curve_rec curve rate = branching_rec (on_curve curve rate)

-- the bytes of some records after the opening of study 7
abbrev pub sent : List Record → List ℕ
sent rs = join_over encode (opening_rec 7 ∷ rs)

-- number, place, and so many noughts
abbrev pub refusal : ℕ → ℕ → ℕ → List ℕ
refusal n p noughts = n ∷ p ∷ replicate noughts 0

-- Table D.3 with the two entries of 02, request P2: how many Ys it has and what they add up to, which guards each entry; on both sides of the first and the
-- last Y of each step of the chances, and of 99.5 % to 99.8 %, which guard the two entries one by one.
unfoldable pub chances : List Edge
chances =
    page 108 56370 ∷
    rises 267 0 10000 ∷ rises 295 10000 20000 ∷ rises 733 980000 990000 ∷ rises 737 990000 991000 ∷ rises 741 991000 992000 ∷
    rises 758 994000 995000 ∷ rises 765 995000 996000 ∷ rises 775 996000 997000 ∷ rises 788 997000 998000 ∷ rises 809 998000 999000 ∷
    []

-- "Death": guards the 20 s that count, 35,000 W/m² in each setting, the fires' kinds, inside and outside the limit in each setting, 10,000 and 30,000 Pa,
-- and the 25,000 indoors
unfoldable pub fatalities : List Edge
fatalities =
    deaths 1 0 12500 19 40000 ∷ deaths 1 0 12500 20 60000 ∷ deaths 1 0 12500 21 60000 ∷ deaths 2 0 12500 20 60000 ∷ deaths 3 0 12500 20 60000 ∷
    deaths 1 1 34999 20 135800 ∷ deaths 1 1 35000 1 1000000 ∷ deaths 1 2 34999 20 0 ∷ deaths 1 2 35000 1 1000000 ∷ deaths 1 0 0 20 0 ∷ deaths 0 0 35000 20 0 ∷
    deaths 4 0 0 0 0 ∷ deaths 4 0 1 0 1000000 ∷ deaths 4 1 0 0 0 ∷ deaths 4 1 1 0 1000000 ∷ deaths 4 2 0 0 0 ∷ deaths 4 2 1 0 1000000 ∷
    deaths 5 0 29999 0 0 ∷ deaths 5 0 30000 0 1000000 ∷ deaths 5 1 29999 0 0 ∷ deaths 5 1 30000 0 1000000 ∷
    deaths 5 2 9999 0 0 ∷ deaths 5 2 10000 0 25000 ∷ deaths 5 2 29999 0 25000 ∷ deaths 5 2 30000 0 1000000 ∷
    []

-- Table D.2, explosion: on both sides of the thresholds; fire: the first two are close to where the quotient grows by one, and on both sides of both limits.
-- Guards A, B and the threshold of classes 3, 4 and 5, every number of the fire's probit, 15,000 W/m², 600 s, which classes are not judged in a fire; and
-- the domino list's 700,000 and 10^7.
unfoldable pub damages : List Edge
damages =
    blast_y 3 17000 (pos 3849773) ∷ blasts 3 16999 0 ∷ blasts 3 17000 120000 ∷
    blast_y 4 18700 (pos 3707797) ∷ blasts 4 18699 0 ∷ blasts 4 18700 90000 ∷
    blast_y 5 30000 (pos 4320294) ∷ blasts 5 29999 0 ∷
    heat_y 87087 100000 (pos 8529531) ∷ heat_y 44613 100000 (pos 7130545) ∷
    fires 1 100000 15000 601 0 true ∷ fires 1 100000 15001 600 0 true ∷ fires 1 100000 15001 601 440000 true ∷
    fires 5 100000 15001 601 440000 true ∷ fires 2 100000 15001 601 0 false ∷ fires 3 100000 15001 601 0 false ∷ fires 4 100000 15001 601 0 false ∷
    harms 2 1 100000 15001 601 440000 true ∷ harms 3 5 100000 15001 601 440000 true ∷ harms 5 1 0 70000 0 720000 true ∷
    harms 1 2 0 0 1 0 false ∷ harms 2 3 0 0 1 0 false ∷ harms 3 4 0 0 1 0 false ∷ harms 4 1 0 1 0 0 true ∷ harms 4 2 0 1 0 0 true ∷ harms 4 5 0 1 0 0 true ∷ harms 0 1 0 70000 0 0 true ∷
    listings 700000 10000000 false ∷ listings 700001 10000000 true ∷ listings 700001 9999999 false ∷
    []

-- 02, request P1: every number of the probit, of which the first two are close to where the quotient grows by one; a volume on each side of a step of K; 600 s;
-- volumes 0 and 1, 10,000 and 10,001, in weak and short fires too. Where a rule goes by its probit: guards 40,000 W/m² and class 1's 5,170 Pa. Request P6: 6000 tenths.
unfoldable pub spheres : List Edge
spheres =
    sphere_y 63000 1 (pos 3448064) ∷ sphere_y 72000 1 (pos 3680122) ∷ sphere_y 63000 10000 (negsuc 2139091) ∷
    fires 2 1 60000 600 0 true ∷ fires 2 1 60000 601 50000 true ∷ fires 2 9823 2000000 601 140000 true ∷ fires 2 9824 2000000 601 130000 true ∷
    fires 2 1 0 1 0 true ∷ fires 2 0 0 1 0 false ∷ fires 2 0 60000 601 0 false ∷ fires 2 10000 1000000 601 10000 true ∷ fires 2 10001 1000000 601 0 false ∷ fires 2 10001 0 1 0 false ∷
    fire_lines 2 1 40000 601 0 ∷ fire_lines 2 1 40001 601 1 ∷ fire_lines 2 1 40001 600 0 ∷ fire_lines 1 1 15000 601 0 ∷ fire_lines 1 1 15001 601 1 ∷
    blast_lines 1 5169 0 ∷ blast_lines 1 5170 1 ∷
    timed_fires 1 2 1 60000 6000 0 ∷ timed_fires 1 2 1 60000 6001 50000 ∷
    []

-- 02, request P6: guards both clocks and the units 0 and 1. By each clock Y at one duration, a heat whose chance the longest duration decides and one for which a longer
-- duration changes nothing, and both sides of the limit on an atmospheric vessel and a pipe.
unfoldable pub timings : List Edge
timings =
    timed_y 0 12500 20 (pos 3485194) ∷ timed_y 1 12500 200 (pos 3482325) ∷
    timed_deaths 0 12500 19 40000 ∷ timed_deaths 0 12500 20 60000 ∷ timed_deaths 0 12500 21 60000 ∷
    timed_deaths 1 9875 199 0 ∷ timed_deaths 1 9875 200 10000 ∷ timed_deaths 1 9822 200 0 ∷ timed_deaths 1 9822 201 0 ∷ timed_deaths 1 35000 200 1000000 ∷
    timed_fires 0 1 100000 15001 600 0 ∷ timed_fires 0 1 100000 15001 601 440000 ∷ timed_fires 1 1 100000 15001 6000 0 ∷ timed_fires 1 1 100000 15001 6001 440000 ∷
    timed_fires 1 5 100000 15001 6000 0 ∷ timed_fires 1 5 100000 15001 6001 440000 ∷
    []

-- 02, request P3: every row by its sum; on both sides of each rate, on a curve where the two chances differ, and above the last; curve 8 at 500 kg/s; no curve 0 or 14.
unfoldable pub ignitions : List Edge
ignitions =
    curve_rows 1 13 1926200 ∷ curve_rows 2 13 519200 ∷ curve_rows 3 13 110500 ∷ curve_rows 4 13 2274200 ∷ curve_rows 5 13 646200 ∷
    curve_rows 6 13 312200 ∷ curve_rows 7 13 2932500 ∷ curve_rows 8 13 354100 ∷ curve_rows 9 13 94000 ∷ curve_rows 10 13 21700 ∷
    curve_rows 11 13 4453900 ∷ curve_rows 12 13 2394800 ∷ curve_rows 13 13 346000 ∷
    ignites 1 1 1000 ∷ ignites 1 1000 1000 ∷ ignites 1 1001 1300 ∷ ignites 1 2000 1300 ∷ ignites 1 2001 1900 ∷ ignites 1 5000 1900 ∷ ignites 1 5001 2500 ∷
    ignites 1 10000 2500 ∷ ignites 1 10001 7400 ∷ ignites 1 20000 7400 ∷ ignites 1 20001 20400 ∷ ignites 1 50000 20400 ∷ ignites 1 50001 33900 ∷ ignites 1 100000 33900 ∷
    ignites 1 100001 56400 ∷ ignites 1 200000 56400 ∷ ignites 1 200001 110700 ∷ ignites 1 500000 110700 ∷ ignites 1 500001 184200 ∷ ignites 1 1000000 184200 ∷ ignites 1 1000001 306500 ∷
    ignites 12 2000000 355500 ∷ ignites 12 2000001 643400 ∷ ignites 12 5000000 643400 ∷ ignites 12 5000001 1000000 ∷ ignites 12 10000000 1000000 ∷ ignites 12 10000001 1000000 ∷ ignites 12 4294967295 1000000 ∷
    ignites 8 2000000 51700 ∷ ignites 8 5000000 120000 ∷ ignites 0 1000 0 ∷ ignites 14 1000 0 ∷
    []

-- Grades, and the faults of records: guards each power of ten, each bound, the numbers 2 to 6 and their order, and the closing count.
unfoldable pub edges : List Edge
edges =
    grades 99999 0 ∷ grades 100000 1 ∷ grades 999999 1 ∷ grades 1000000 2 ∷
    grades 9999999 2 ∷ grades 10000000 3 ∷ grades 99999999 3 ∷ grades 100000000 4 ∷
    grades 999999999 4 ∷ grades 1000000000 5 ∷ grades 9999999999 5 ∷ grades 10000000000 6 ∷
    -- order: opening first and once; targets before all scenarios
    faults (between 0 0 0 0 0) (opening_rec 7) 0 ∷ faults (between 0 0 0 0 0) (place 0 0 0 0) 2 ∷ faults (between 1 0 0 0 0) (opening_rec 7) 2 ∷
    faults (between 9 1 1 1 1) (place 1 0 0 0) 2 ∷ faults (before_tree 0) (leak_rec 2 1) 2 ∷ faults (before_effect 2 1 0) (outcome_rec 0 0) 2 ∷
    -- targets: 256 of them, class, setting, volume, and then the number
    faults (between 256 255 0 0 0) (place 255 5 0 100000) 0 ∷ faults (between 257 256 0 0 0) (place 256 0 0 0) 5 ∷ faults (between 257 256 0 0 0) (place 0 6 0 0) 5 ∷
    faults (between 1 0 0 0 0) (place 0 6 0 0) 3 ∷ faults (between 1 0 0 0 0) (place 0 0 2 0) 0 ∷ faults (between 1 0 0 0 0) (place 0 0 3 0) 3 ∷
    faults (between 1 0 0 0 0) (place 0 1 1 0) 3 ∷ faults (between 1 0 0 0 0) (place 0 0 0 100001) 3 ∷
    faults (between 1 0 0 0 0) (place 1 0 0 0) 4 ∷ faults (between 1 0 0 0 0) (place 1 1 0 0) 4 ∷ faults (between 1 0 0 0 0) (place 1 6 0 0) 3 ∷
    -- leaks: 65,536 of them, frequency, and then the number
    faults (between 70000 0 65535 8 0) (leak_rec 9 10000000000000) 0 ∷ faults (between 70000 0 65536 8 0) (leak_rec 9 1) 5 ∷ faults (between 70000 0 65536 8 0) (leak_rec 9 0) 5 ∷
    faults (between 9 0 1 8 0) (leak_rec 9 0) 3 ∷ faults (between 9 0 1 8 0) (leak_rec 9 1) 0 ∷ faults (between 9 0 1 8 0) (leak_rec 9 10000000000001) 3 ∷
    faults (between 9 0 1 8 0) (leak_rec 8 1) 4 ∷ faults (between 9 0 1 8 0) (leak_rec 8 0) 3 ∷ faults (between 1 0 0 0 0) (leak_rec 0 1) 0 ∷
    -- branchings: 7 above, chance
    faults (before_tree 7) (branching_rec (given 1000000)) 0 ∷ faults (before_tree 8) (branching_rec (given 0)) 5 ∷
    faults (before_tree 7) (branching_rec (given 1000001)) 3 ∷ faults (before_tree 8) (branching_rec (given 1000001)) 5 ∷
    -- by a curve: curve and rate, after the order and the 7 above
    faults (before_tree 7) (on_curve_rec 1 1) 0 ∷ faults (before_tree 7) (on_curve_rec 13 4294967295) 0 ∷ faults (before_tree 7) (on_curve_rec 0 1) 3 ∷
    faults (before_tree 7) (on_curve_rec 14 1) 3 ∷ faults (before_tree 7) (on_curve_rec 13 0) 3 ∷ faults (before_tree 8) (on_curve_rec 13 1) 5 ∷ faults (before_tree 8) (on_curve_rec 0 0) 5 ∷
    faults (before_effect 2 1 0) (on_curve_rec 1 1) 2 ∷ faults (between 9 0 1 8 0) (on_curve_rec 14 0) 2 ∷
    -- outcomes: kind, 256 effects, none for kind 0
    faults (before_tree 8) (outcome_rec 1 256) 0 ∷ faults (before_tree 8) (outcome_rec 1 257) 3 ∷ faults (before_tree 8) (outcome_rec 5 256) 0 ∷
    faults (before_tree 8) (outcome_rec 6 0) 3 ∷ faults (before_tree 8) (outcome_rec 0 0) 0 ∷ faults (before_tree 8) (outcome_rec 0 1) 3 ∷
    -- effects: duration and intensity by the kind, and then the target
    faults (before_effect 2 1 0) (effect 1 0 1) 0 ∷ faults (before_effect 2 1 0) (effect 1 0 0) 3 ∷ faults (before_effect 2 3 0) (effect 1 0 0) 3 ∷ faults (before_effect 2 3 0) (effect 1 0 1) 0 ∷
    faults (before_effect 2 4 0) (effect 1 1 0) 0 ∷ faults (before_effect 2 4 0) (effect 1 2 0) 3 ∷ faults (before_effect 2 4 0) (effect 1 1 1) 3 ∷
    faults (before_effect 2 5 0) (effect 1 2 0) 0 ∷ faults (before_effect 2 5 0) (effect 1 2 1) 3 ∷
    faults (before_effect 2 1 0) (effect 2 0 1) 4 ∷ faults (before_effect 2 1 1) (effect 0 0 1) 4 ∷ faults (before_effect 2 1 1) (effect 1 0 1) 0 ∷ faults (before_effect 2 1 1) (effect 0 0 0) 3 ∷
    -- their unit, after the order and before the target
    faults (before_effect 2 3 0) (timed_effect 1 0 1 0) 0 ∷ faults (before_effect 2 3 0) (timed_effect 1 0 1 1) 0 ∷ faults (before_effect 2 3 0) (timed_effect 1 0 1 2) 3 ∷
    faults (before_effect 2 3 0) (timed_effect 1 0 0 1) 3 ∷ faults (before_effect 2 4 0) (timed_effect 1 1 0 0) 0 ∷ faults (before_effect 2 4 0) (timed_effect 1 1 0 1) 0 ∷
    faults (before_effect 2 5 0) (timed_effect 1 2 0 0) 0 ∷ faults (before_effect 2 5 0) (timed_effect 1 2 0 1) 0 ∷ faults (before_effect 2 5 0) (timed_effect 1 2 1 1) 3 ∷
    faults (before_effect 2 3 0) (timed_effect 2 0 1 1) 4 ∷ faults (before_effect 2 3 0) (timed_effect 2 0 1 2) 3 ∷ faults (before_tree 0) (timed_effect 1 0 1 2) 2 ∷
    -- the closing record: count and sum
    faults (between 12 1 1 1 5) (closing_rec 13 5) 0 ∷ faults (between 12 1 1 1 5) (closing_rec 12 5) 6 ∷ faults (between 12 1 1 1 5) (closing_rec 14 5) 6 ∷
    faults (between 12 1 1 1 5) (closing_rec 13 4) 6 ∷ faults (between 12 1 1 1 5) (closing_rec 13 6) 6 ∷
    -- 1,000,000 records; a record more is 5 before a fault of its own, and after one by the order
    faults (between 999999 1 1 1 5) (closing_rec 1000000 5) 0 ∷ faults (between 1000000 1 1 1 5) (closing_rec 1000001 5) 5 ∷
    faults (between 1000000 1 1 1 5) (leak_rec 1 0) 5 ∷ faults (between 1000000 1 1 1 5) (closing_rec 0 0) 5 ∷ faults (between 1000000 1 1 1 5) (opening_rec 7) 2 ∷
    []

-- a study with an outcome of each kind, a place of people indoors and a vessel with a volume
abbrev pub six_kinds : List ℕ
six_kinds =
    sent (place 0 0 2 0 ∷ place 1 1 0 100000 ∷
    leak_rec 1 1 ∷ outcome_rec 0 0 ∷
    leak_rec 2 1000000 ∷ outcome_rec 1 1 ∷ effect 1 15001 601 ∷
    leak_rec 3 3 ∷ outcome_rec 2 0 ∷
    leak_rec 4 4 ∷ outcome_rec 3 0 ∷
    leak_rec 5 5 ∷ outcome_rec 4 0 ∷
    leak_rec 300 6000000 ∷ outcome_rec 5 1 ∷ effect 0 10000 0 ∷
    closing_rec 18 7000013 ∷ [])

-- What calls answer: guards each number from 0 to 10 with its place and the noughts beside it, the level and the rising numbers that one record
-- leaves to the next, the unjudged count, and what a report shows of the specimen and of a study with all kinds.
unfoldable pub calls : List Edge
calls =
    -- 8: no bytes, and a record cut short
    replies [] (piece []) (0 ∷ 0 ∷ []) ∷ replies [] totals (refusal 8 0 11) ∷ replies [] (target 0) (refusal 8 0 5) ∷
    replies [] (domino (5 ∷ [])) (8 ∷ 0 ∷ 0 ∷ 5 ∷ []) ∷
    replies (1 ∷ []) (piece (0 ∷ 0 ∷ 0 ∷ [])) (0 ∷ 4 ∷ []) ∷ replies (1 ∷ 0 ∷ 0 ∷ 0 ∷ []) totals (refusal 8 4 11) ∷
    -- 1 at the kind byte, and kept
    replies (sent []) (piece (0 ∷ [])) (1 ∷ 5 ∷ []) ∷ replies (sent []) (piece (9 ∷ [])) (1 ∷ 5 ∷ []) ∷ replies (sent [] ++ (9 ∷ [])) (piece []) (1 ∷ 5 ∷ []) ∷
    replies (sent [] ++ (9 ∷ [])) totals (refusal 1 5 11) ∷ replies (sent [] ++ (9 ∷ [])) (target 0) (refusal 1 5 5) ∷
    replies (sent [] ++ (9 ∷ [])) (domino []) (refusal 1 5 1) ∷
    -- 2 to 6 at the record's first byte: a second opening; 9 branchings, one upon the other; frequency 0; a target named twice, a scenario's number twice; count
    replies (sent []) (piece (1 ∷ 0 ∷ 0 ∷ 0 ∷ 7 ∷ [])) (2 ∷ 5 ∷ []) ∷
    replies [] (piece (sent (leak_rec 1 1 ∷ replicate 8 (branching_rec (given 0))))) (0 ∷ 58 ∷ []) ∷
    replies [] (piece (sent (leak_rec 1 1 ∷ replicate 9 (branching_rec (given 0))))) (5 ∷ 58 ∷ []) ∷
    replies [] (piece (sent (leak_rec 1 0 ∷ []))) (3 ∷ 5 ∷ []) ∷
    replies [] (piece (sent (place 0 0 0 0 ∷ leak_rec 1 1 ∷ outcome_rec 4 2 ∷ effect 0 1 0 ∷ effect 0 1 0 ∷ []))) (4 ∷ 40 ∷ []) ∷
    replies [] (piece (sent (leak_rec 1 1 ∷ outcome_rec 0 0 ∷ leak_rec 1 1 ∷ []))) (4 ∷ 22 ∷ []) ∷
    replies [] (piece (sent (closing_rec 3 0 ∷ []))) (6 ∷ 5 ∷ []) ∷
    -- effects of both kinds in one outcome, read to the last byte, which is refused alone
    replies [] (piece (sent (place 0 0 0 0 ∷ place 1 0 0 0 ∷ leak_rec 1 1 ∷ outcome_rec 3 2 ∷ effect 0 0 1 ∷ timed_effect 1 0 1 1 ∷ []))) (0 ∷ 59 ∷ []) ∷
    replies (sent (place 0 0 0 0 ∷ leak_rec 1 1 ∷ outcome_rec 3 1 ∷ []) ++ (8 ∷ 0 ∷ 0 ∷ 0 ∷ 0 ∷ 0 ∷ 0 ∷ 0 ∷ 1 ∷ [])) (piece []) (0 ∷ 40 ∷ []) ∷
    replies (sent (place 0 0 0 0 ∷ leak_rec 1 1 ∷ outcome_rec 3 1 ∷ []) ++ (8 ∷ 0 ∷ 0 ∷ 0 ∷ 0 ∷ 0 ∷ 0 ∷ 0 ∷ 1 ∷ [])) (piece (2 ∷ [])) (3 ∷ 31 ∷ []) ∷
    replies (sent (place 0 0 0 0 ∷ leak_rec 1 1 ∷ outcome_rec 3 1 ∷ []) ++ (8 ∷ 0 ∷ 0 ∷ 0 ∷ 0 ∷ 0 ∷ 0 ∷ 0 ∷ 1 ∷ [])) (piece (1 ∷ [])) (0 ∷ 41 ∷ []) ∷
    -- branchings of both kinds, one upon the other, the ninth with curve 0; one by a curve, read to the last byte of its rate
    replies [] (piece (sent (leak_rec 1 1 ∷ replicate 4 (branching_rec (given 0)) ++ replicate 4 (on_curve_rec 13 1)))) (0 ∷ 62 ∷ []) ∷
    replies [] (piece (sent (leak_rec 1 1 ∷ replicate 4 (on_curve_rec 13 1) ++ replicate 4 (branching_rec (given 0)) ++ (on_curve_rec 0 0 ∷ [])))) (5 ∷ 62 ∷ []) ∷
    replies (sent (leak_rec 1 1 ∷ []) ++ (10 ∷ 1 ∷ 0 ∷ 0 ∷ 0 ∷ [])) (piece []) (0 ∷ 23 ∷ []) ∷
    replies (sent (leak_rec 1 1 ∷ []) ++ (10 ∷ 1 ∷ 0 ∷ 0 ∷ 0 ∷ [])) (piece (0 ∷ [])) (3 ∷ 18 ∷ []) ∷
    replies (sent (leak_rec 1 1 ∷ []) ++ (10 ∷ 1 ∷ 0 ∷ 0 ∷ 0 ∷ [])) (piece (1 ∷ [])) (0 ∷ 24 ∷ []) ∷
    -- opening and closing alone: 0, 9 and 7
    replies [] (piece (sent (closing_rec 2 0 ∷ []))) (0 ∷ 18 ∷ []) ∷ replies (sent (closing_rec 2 0 ∷ [])) totals (0 ∷ 18 ∷ 7 ∷ 2 ∷ replicate 9 0) ∷
    replies (sent (closing_rec 2 0 ∷ [])) (target 0) (refusal 9 18 5) ∷ replies (sent (closing_rec 2 0 ∷ [])) (domino []) (refusal 0 18 1) ∷
    replies (sent (closing_rec 2 0 ∷ [])) (piece []) (0 ∷ 18 ∷ []) ∷ replies (sent (closing_rec 2 0 ∷ [])) (piece (0 ∷ [])) (7 ∷ 18 ∷ []) ∷
    replies [] (piece (sent (closing_rec 2 0 ∷ []) ++ (0 ∷ []))) (7 ∷ 18 ∷ []) ∷
    -- one effect that is not judged; all kinds
    replies (sent (place 0 2 0 0 ∷ leak_rec 1 1 ∷ outcome_rec 1 1 ∷ effect 0 0 1 ∷ closing_rec 6 1 ∷ [])) totals
    (0 ∷ 53 ∷ 7 ∷ 6 ∷ 1 ∷ 0 ∷ 1 ∷ 0 ∷ 0 ∷ 0 ∷ 0 ∷ 1 ∷ 1 ∷ []) ∷
    replies six_kinds totals (0 ∷ 156 ∷ 7 ∷ 18 ∷ 7000013 ∷ 1 ∷ 1000000 ∷ 3 ∷ 4 ∷ 5 ∷ 6000000 ∷ 0 ∷ 2 ∷ []) ∷
    replies six_kinds (target 0) (0 ∷ 156 ∷ 150000 ∷ 1 ∷ 0 ∷ 1 ∷ 0 ∷ []) ∷ replies six_kinds (target 1) (0 ∷ 156 ∷ 440000 ∷ 1 ∷ 1 ∷ 0 ∷ 0 ∷ []) ∷
    -- the specimen: 0, 9 and 10
    replies specimen_bytes totals (0 ∷ 98 ∷ 7 ∷ 13 ∷ 100000000 ∷ 67500000 ∷ 0 ∷ 10000000 ∷ 0 ∷ 0 ∷ 22500000 ∷ 0 ∷ 2 ∷ []) ∷
    replies specimen_bytes (target 0) (0 ∷ 98 ∷ 600000 ∷ 5 ∷ 0 ∷ 1 ∷ 0 ∷ []) ∷ replies specimen_bytes (target 1) (0 ∷ 98 ∷ 16200000 ∷ 3 ∷ 1 ∷ 0 ∷ 1 ∷ []) ∷
    replies specimen_bytes (target 2) (refusal 9 98 5) ∷
    replies specimen_bytes (domino []) (refusal 10 98 1) ∷ replies specimen_bytes (domino (65535 ∷ 65535 ∷ [])) (0 ∷ 98 ∷ 1 ∷ 1 ∷ 65535 ∷ []) ∷
    []

abbrev pub EdgesStand : Type 0
EdgesStand = (all_stand chances ≡ true) × (all_stand fatalities ≡ true) × (all_stand damages ≡ true) × (all_stand spheres ≡ true) × (all_stand timings ≡ true) × (all_stand ignitions ≡ true) × (all_stand edges ≡ true) × (all_stand calls ≡ true)

-- A margin of 1 is too little one unit off: the specimen's exact sum at target 0 is 600,000 units, so 10^54 parts and no other number make a unit of it.
abbrev pub MarginIsStrict : Type 0
MarginIsStrict = (Near specimen 0 600001 1 → ⊥) × (Near specimen 0 599999 1 → ⊥)

-- A byte is a number to 255: a caller can make a piece that holds 255, and none that holds 256.
abbrev pub BytesTo255 : Type 0
BytesTo255 = Callable (piece (255 ∷ [])) × (Callable (piece (256 ∷ [])) → ⊥)
