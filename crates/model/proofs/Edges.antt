-- The figures on both sides of 01's numbers stand: a computed test for each table. Assumes nothing.
use mathlib.Core.Path.{◌≡◌, refl, ap}
use mathlib.Core.Bool.{true}
use Prim.Native.Nat.{◌*◌, ◌^◌}
use lib.ListN.{get_or}
use native.Mathlib.Nat.{lt_irrefl}
use native.Mathlib.Omega.{arith}
use Rattle.numeric.specs.Choice.{if_eq, if_le, if_lt}
use Rattle.numeric.specs.Share.{share_of, split_of}
use Rattle.numeric.specs.Greatest.{greatest}
use Rattle.log2.specs.Logarithm.{logarithm}
use Rattle.probit.specs.Table.{probit_table}
use Rattle.probit.specs.Chance.{greatest_chance, chance_of}
use Rattle.volumes.specs.Root.{root_of}
use Rattle.ignition.specs.Ignition.{place_of, column, ignition}
use Rattle.terms.specs.Terms.{by_kind, clock_of}
use Rattle.people.specs.Death.{fire_probit_by, setting_share, fire_death_by, flash_death, blast_death, death_by}
use Rattle.equipment.specs.Damage.{blast_row_of, blast_probit_by, blast_damage_by, heat_probit_by, heat_damage_by, sphere_probit_by, sphere_damage_by, fire_chance_by, fire_judged, fire_damage_by, damage_by}
use Rattle.vulnerability.specs.Effect.{effect_by}
use Rattle.vulnerability.specs.Domino.{listed_by}
use Rattle.model.specs.Sums.{sum_over, some, join_over, numbers_below}
use Rattle.model.specs.Format.{bytes, encode, tree_records, target_records, effect_records, scenario_records, leaks_of, open_records, count_of}
use Rattle.model.specs.Outcomes.{tree_outcomes, scenario_outcomes, outcomes_of}
use Rattle.model.specs.Faults.{order_fault, target_fault, leak_fault, chance_fault, branching_fault, outcome_fault, naming_fault, effect_fault, unit_fault, closing_fault, own_fault, fault, context_after}
use Rattle.model.specs.Report.{judgement, kind_total, over_effects, unjudged_of, sum_at, margin_at, exact_at, grade_of, listed_at, domino_of}
use Rattle.model.specs.MeaningTheorems.{Near}
use Rattle.model.specs.Verdict.{body_length, field, decode, cut_first, cut, parts_of, content_of, judge_left, judge, verdict}
use Rattle.model.specs.Calls.{totals_of, target_report_of, front, piece_number, piece_answer, totals_answer, target_answer, domino_answer, answer, Callable}
use Rattle.model.specs.Instances.{Shown, specimen, shown_of}
use Rattle.model.specs.Edges.{stands, all_stand, chances, fatalities, damages, spheres, timings, ignitions, edges, calls, EdgesStand, MarginIsStrict, BytesTo255}
use Rattle.model.proofs.Instances.{specimen_holds}

chances_stand : all_stand chances ≡ true
unfolding sum_over probit_table greatest_chance chance_of stands all_stand chances
chances_stand = refl

fatalities_stand : all_stand fatalities ≡ true
unfolding if_eq if_le if_lt greatest logarithm probit_table greatest_chance chance_of by_kind fire_probit_by setting_share fire_death_by flash_death blast_death death_by effect_by stands all_stand fatalities
fatalities_stand = refl

damages_stand : all_stand damages ≡ true
unfolding if_eq if_le if_lt greatest logarithm probit_table greatest_chance chance_of by_kind blast_row_of blast_probit_by blast_damage_by heat_probit_by heat_damage_by sphere_probit_by sphere_damage_by fire_chance_by fire_judged fire_damage_by damage_by effect_by listed_by stands all_stand damages
damages_stand = refl

spheres_stand : all_stand spheres ≡ true
unfolding if_eq if_le if_lt greatest logarithm probit_table greatest_chance chance_of root_of clock_of by_kind blast_row_of blast_damage_by heat_damage_by sphere_probit_by sphere_damage_by fire_chance_by fire_judged fire_damage_by damage_by stands all_stand spheres
spheres_stand = refl

timings_stand : all_stand timings ≡ true
unfolding if_eq if_le if_lt greatest logarithm probit_table greatest_chance chance_of clock_of by_kind fire_probit_by setting_share fire_death_by death_by heat_probit_by heat_damage_by sphere_probit_by sphere_damage_by fire_chance_by fire_judged fire_damage_by damage_by effect_by stands all_stand timings
timings_stand = refl

ignitions_stand : all_stand ignitions ≡ true
unfolding if_le sum_over place_of column ignition stands all_stand ignitions
ignitions_stand = refl

faults_stand : all_stand edges ≡ true
unfolding if_eq if_le if_lt order_fault target_fault leak_fault chance_fault branching_fault outcome_fault naming_fault effect_fault unit_fault closing_fault own_fault fault grade_of stands all_stand edges
faults_stand = refl

calls_stand : all_stand calls ≡ true
unfolding if_eq if_le if_lt share_of split_of greatest logarithm probit_table greatest_chance chance_of clock_of by_kind fire_probit_by setting_share fire_death_by flash_death blast_death death_by blast_row_of blast_probit_by blast_damage_by heat_probit_by heat_damage_by sphere_probit_by sphere_damage_by fire_chance_by fire_judged fire_damage_by damage_by effect_by listed_by sum_over some join_over numbers_below bytes encode target_records effect_records tree_records scenario_records leaks_of open_records count_of tree_outcomes scenario_outcomes outcomes_of order_fault target_fault leak_fault chance_fault branching_fault outcome_fault naming_fault effect_fault unit_fault closing_fault own_fault fault context_after judgement kind_total over_effects unjudged_of sum_at margin_at grade_of listed_at domino_of body_length field decode cut_first cut parts_of content_of judge_left judge verdict totals_of target_report_of front piece_number piece_answer totals_answer target_answer domino_answer answer stands all_stand calls
calls_stand = refl

pub edges_stand : EdgesStand
edges_stand = (chances_stand, fatalities_stand, damages_stand, spheres_stand, timings_stand, ignitions_stand, faults_stand, calls_stand)

-- the specimen's exact sum at target 0
exact : exact_at specimen 0 ≡ 600000 * 10 ^ 54
unfolding specimen shown_of
exact = ap (λ (s : Shown). get_or s.exacts 0 0) specimen_holds.shown

over : Near specimen 0 600001 1 → ⊥
over n = lt_irrefl (600001 * 10 ^ 54) (rw exact at n.not_above)

under : Near specimen 0 599999 1 → ⊥
under n = lt_irrefl (600000 * 10 ^ 54) (rw exact at n.not_below)

pub margin_is_strict : MarginIsStrict
margin_is_strict = (over, under)

pub bytes_to_255 : BytesTo255
unfolding Callable
bytes_to_255 = ((omega arith, tt), (λ h. lt_irrefl 256 h.0))
