-- The instances hold, by computation. Assumes nothing.
use mathlib.Core.Path.{◌≡◌, refl}
use mathlib.Core.List.{[], ◌∷◌}
use Prim.Native.Nat.{ℕ, zero, suc, ◌+◌, ◌^◌, ◌<◌, ◌≤◌}
use native.Mathlib.Nat.{zero-add}
use native.Mathlib.Omega.{arith}
use Rattle.numeric.specs.Choice.{if_eq, if_le, if_lt}
use Rattle.numeric.specs.Share.{share_of, split_of}
use Rattle.numeric.specs.Greatest.{greatest}
use Rattle.log2.specs.Logarithm.{logarithm}
use Rattle.probit.specs.Table.{probit_table}
use Rattle.probit.specs.Chance.{greatest_chance, chance_of}
use Rattle.volumes.specs.Root.{root_of}
use Rattle.ignition.specs.Ignition.{place_of, column, ignition}
use Rattle.terms.specs.Terms.{by_kind, clock_of}
use Rattle.people.specs.Death.{fire_probit_by, setting_share, fire_death_by, flash_death, blast_death, death_by}
use Rattle.equipment.specs.Damage.{blast_row_of, blast_probit_by, blast_damage_by, heat_probit_by, heat_damage_by, sphere_probit_by, sphere_damage_by, fire_chance_by, fire_judged, fire_damage_by, damage_by}
use Rattle.vulnerability.specs.Effect.{effect_by}
use Rattle.vulnerability.specs.Domino.{listed_by}
use Rattle.model.specs.Sums.{sum_over, some, join_over, numbers_below}
use Rattle.model.specs.Content.{given, on_curve, in_seconds, timed, Tree, outcome, branching}
use Rattle.model.specs.Format.{bytes, encode, target_records, effect_records, tree_records, scenario_records, leaks_of, open_records, count_of, records_of, bytes_of}
use Rattle.model.specs.Valid.{ValidEffect, ValidTree, Valid}
use Rattle.model.specs.Outcomes.{tree_outcomes, scenario_outcomes, outcomes_of}
use Rattle.model.specs.Report.{judgement, kind_total, over_effects, unjudged_of, sum_at, margin_at, exact_at, grade_of, listed_at, domino_of}
use Rattle.model.specs.Instances.{shown_of, specimen, SpecimenHolds, stem, deep, DeepHolds, tank_farm, TankFarmHolds, fireballs, FireballsHold, ignited, IgnitedHolds}

-- an outcome without effects is valid anywhere
nothing_valid : (targets above : ℕ) → ValidTree targets above (outcome 0 [])
unfolding ValidTree
nothing_valid targets above = omega arith

-- the first branching's second branch of the specimen, by itself
blast_valid : ValidTree 2 2 (outcome 5 (in_seconds 0 20000 0 ∷ in_seconds 1 70000 0 ∷ []))
unfolding ValidTree
blast_valid = omega arith

fire_valid : ValidTree 2 1 (outcome 2 (in_seconds 0 12500 20 ∷ []))
unfolding ValidTree
fire_valid = omega arith

specimen_valid : Valid specimen
unfolding specimen ValidTree count_of open_records target_records join_over scenario_records tree_records effect_records
specimen_valid =
    record {
      number = omega arith;
      few_targets = omega arith;
      targets = omega arith;
      few_scenarios = omega arith;
      rising = omega arith;
      scenarios = (
        record {
          number = omega arith;
          least = omega arith;
          most = omega arith;
          tree = (omega arith, omega arith, fire_valid, (omega arith, omega arith, blast_valid, nothing_valid 2 2));
        },
        tt,
      );
      few_records = omega arith;
    }

deep_outcome_valid : ValidTree 4 8 (outcome 5 (in_seconds 0 30000 0 ∷ in_seconds 1 67000 0 ∷ in_seconds 2 70000 0 ∷ []))
unfolding ValidTree
deep_outcome_valid = omega arith

-- a stem of n branchings is valid where there is room for them
stem_valid : (n above : ℕ) (t : Tree) → n + above ≤ 8 → ValidTree 4 (n + above) t → ValidTree 4 above (stem n t)
unfolding stem ValidTree
stem_valid zero above t h v = rw zero-add at v
stem_valid (suc n) above t h v =
    let e : suc n + above ≡ n + suc above = omega arith in
    (omega arith, omega arith, stem_valid n (suc above) t (omega arith) (rw e at v), nothing_valid 4 (suc above))

deep_valid : Valid deep
unfolding deep stem count_of open_records target_records join_over scenario_records tree_records effect_records
deep_valid =
    record {
      number = omega arith;
      few_targets = omega arith;
      targets = omega arith;
      few_scenarios = omega arith;
      rising = omega arith;
      scenarios = (
        record {
          number = omega arith;
          least = omega arith;
          most = omega arith;
          tree = stem_valid 8 0 _ (omega arith) deep_outcome_valid;
        },
        tt,
      );
      few_records = omega arith;
    }

-- a fire of 601 s on one of five targets
burning : (t q : ℕ) → t < 5 → q < 2 ^ 32 → ValidEffect 1 5 (in_seconds t q 601)
burning t q a b = omega (arith, a, b)

tank-farm-tree-valid :
    ValidTree 5 0
    (outcome 1 (in_seconds 0 2000000 601 ∷ in_seconds 1 1000000 601 ∷ in_seconds 2 2000000 601 ∷ in_seconds 3 2000000 601 ∷ in_seconds 4 2000000 601 ∷ []))
unfolding ValidTree
tank-farm-tree-valid =
    record {
      known = omega arith;
      few = omega arith;
      none = omega arith;
      effects = (burning 0 2000000 (omega arith) (omega arith), (burning 1 1000000 (omega arith) (omega arith), (burning 2 2000000 (omega arith) (omega arith), (burning 3 2000000 (omega arith) (omega arith), (burning 4 2000000 (omega arith) (omega arith), tt)))));
      rising = omega arith;
    }

tank_farm_valid : Valid tank_farm
unfolding tank_farm count_of open_records target_records join_over scenario_records tree_records effect_records
tank_farm_valid =
    record {
      number = omega arith;
      few_targets = omega arith;
      targets = omega arith;
      few_scenarios = omega arith;
      rising = omega arith;
      scenarios = (record { number = omega arith; least = omega arith; most = omega arith; tree = tank-farm-tree-valid }, tt);
      few_records = omega arith;
    }

-- an effect of a fireball on one of the seven targets
fireball_valid : (t q d u : ℕ) → t < 7 → q < 2 ^ 32 → 1 ≤ d → d < 2 ^ 16 → u ≤ 1 → ValidEffect 3 7 (timed t q d u)
fireball_valid t q d u a b c e f = omega (arith, a, b, c, e, f)

fireballs-tree-valid :
    ValidTree 7 0
    (outcome 3
    (in_seconds 0 12500 100 ∷ timed 1 12500 100 0 ∷ timed 2 12500 100 1 ∷ timed 3 12500 200 1 ∷ timed 4 15001 6001 1 ∷ timed 5 60000 6000 1 ∷ timed 6 60000 6001 1 ∷ []))
unfolding ValidTree
fireballs-tree-valid =
    record {
      known = omega arith;
      few = omega arith;
      none = omega arith;
      effects = (omega arith, (fireball_valid 1 12500 100 0 (omega arith) (omega arith) (omega arith) (omega arith) (omega arith), (fireball_valid 2 12500 100 1 (omega arith) (omega arith) (omega arith) (omega arith) (omega arith), (fireball_valid 3 12500 200 1 (omega arith) (omega arith) (omega arith) (omega arith) (omega arith), (fireball_valid 4 15001 6001 1 (omega arith) (omega arith) (omega arith) (omega arith) (omega arith), (fireball_valid 5 60000 6000 1 (omega arith) (omega arith) (omega arith) (omega arith) (omega arith), (fireball_valid 6 60000 6001 1 (omega arith) (omega arith) (omega arith) (omega arith) (omega arith), tt)))))));
      rising = omega arith;
    }

fireballs_valid : Valid fireballs
unfolding fireballs count_of open_records target_records join_over scenario_records tree_records effect_records
fireballs_valid =
    record {
      number = omega arith;
      few_targets = omega arith;
      targets = omega arith;
      few_scenarios = omega arith;
      rising = omega arith;
      scenarios = (record { number = omega arith; least = omega arith; most = omega arith; tree = fireballs-tree-valid }, tt);
      few_records = omega arith;
    }

ignited-tree-valid :
    ValidTree 2 0
    (branching (on_curve 8 5000000) (outcome 1 (in_seconds 0 12500 20 ∷ []))
    (branching (given 250000) (outcome 5 (in_seconds 0 20000 0 ∷ in_seconds 1 70000 0 ∷ []))
    (branching (on_curve 12 2001) (outcome 4 (in_seconds 0 1 0 ∷ [])) (outcome 0 []))))
unfolding ValidTree
ignited-tree-valid = (omega arith, omega arith, omega arith, (omega arith, omega arith, omega arith, (omega arith, omega arith, omega arith, omega arith)))

ignited_valid : Valid ignited
unfolding ignited count_of open_records target_records join_over scenario_records tree_records effect_records
ignited_valid =
    record {
      number = omega arith;
      few_targets = omega arith;
      targets = omega arith;
      few_scenarios = omega arith;
      rising = omega arith;
      scenarios = (record { number = omega arith; least = omega arith; most = omega arith; tree = ignited-tree-valid }, tt);
      few_records = omega arith;
    }

pub specimen_holds : SpecimenHolds
unfolding if_eq if_le if_lt share_of split_of greatest logarithm probit_table greatest_chance chance_of by_kind fire_probit_by setting_share fire_death_by flash_death blast_death death_by blast_row_of blast_probit_by blast_damage_by heat_probit_by heat_damage_by sphere_probit_by sphere_damage_by fire_chance_by fire_judged fire_damage_by damage_by effect_by listed_by sum_over some join_over numbers_below bytes encode target_records effect_records tree_records scenario_records leaks_of open_records count_of records_of bytes_of tree_outcomes scenario_outcomes outcomes_of judgement kind_total over_effects unjudged_of sum_at margin_at exact_at grade_of listed_at domino_of shown_of specimen
specimen_holds = record { valid = specimen_valid; bytes = refl; shown = refl }

pub deep_holds : DeepHolds
unfolding if_eq if_le if_lt share_of split_of greatest logarithm probit_table greatest_chance chance_of by_kind fire_probit_by setting_share fire_death_by flash_death blast_death death_by blast_row_of blast_probit_by blast_damage_by heat_probit_by heat_damage_by sphere_probit_by sphere_damage_by fire_chance_by fire_judged fire_damage_by damage_by effect_by listed_by sum_over some join_over numbers_below bytes encode target_records effect_records tree_records scenario_records leaks_of open_records count_of records_of bytes_of tree_outcomes scenario_outcomes outcomes_of judgement kind_total over_effects unjudged_of sum_at margin_at exact_at grade_of listed_at domino_of shown_of stem deep
deep_holds = record { valid = deep_valid; bytes = refl; shown = refl }

pub tank_farm_holds : TankFarmHolds
unfolding if_eq if_le if_lt share_of split_of greatest logarithm probit_table greatest_chance chance_of root_of by_kind fire_probit_by setting_share fire_death_by flash_death blast_death death_by blast_row_of blast_probit_by blast_damage_by heat_probit_by heat_damage_by sphere_probit_by sphere_damage_by fire_chance_by fire_judged fire_damage_by damage_by effect_by listed_by sum_over some join_over numbers_below bytes encode target_records effect_records tree_records scenario_records leaks_of open_records count_of records_of bytes_of tree_outcomes scenario_outcomes outcomes_of judgement kind_total over_effects unjudged_of sum_at margin_at exact_at grade_of listed_at domino_of shown_of tank_farm
tank_farm_holds = record { valid = tank_farm_valid; bytes = refl; shown = refl }

pub fireballs_hold : FireballsHold
unfolding if_eq if_le if_lt share_of split_of greatest logarithm probit_table greatest_chance chance_of root_of clock_of by_kind fire_probit_by setting_share fire_death_by flash_death blast_death death_by blast_row_of blast_probit_by blast_damage_by heat_probit_by heat_damage_by sphere_probit_by sphere_damage_by fire_chance_by fire_judged fire_damage_by damage_by effect_by listed_by sum_over some join_over numbers_below bytes encode target_records effect_records tree_records scenario_records leaks_of open_records count_of records_of bytes_of tree_outcomes scenario_outcomes outcomes_of judgement kind_total over_effects unjudged_of sum_at margin_at exact_at grade_of listed_at domino_of shown_of fireballs
fireballs_hold = record { valid = fireballs_valid; bytes = refl; shown = refl }

pub ignited_holds : IgnitedHolds
unfolding if_eq if_le if_lt share_of split_of greatest logarithm probit_table greatest_chance chance_of place_of column ignition clock_of by_kind fire_probit_by setting_share fire_death_by flash_death blast_death death_by blast_row_of blast_probit_by blast_damage_by heat_probit_by heat_damage_by sphere_probit_by sphere_damage_by fire_chance_by fire_judged fire_damage_by damage_by effect_by listed_by sum_over some join_over numbers_below bytes encode target_records effect_records tree_records scenario_records leaks_of open_records count_of records_of bytes_of tree_outcomes scenario_outcomes outcomes_of judgement kind_total over_effects unjudged_of sum_at margin_at exact_at grade_of listed_at domino_of shown_of ignited
ignited_holds = record { valid = ignited_valid; bytes = refl; shown = refl }
