-- The bounds of a target's sum, of the leaks and of a margin. Assumes nothing.
use mathlib.Core.Path.{◌≡◌, refl, ap}
use mathlib.Core.List.{List, [], ◌∷◌, Memᴰ}
use Prim.Native.Nat.{ℕ, suc, ◌*◌, ◌^◌, ◌≤◌}
use native.Mathlib.Nat.{le_step, add-le-add, le_trans, le_of_eq, mul-le-mul_right}
use native.Mathlib.Omega.{arith}
use lib.ListN.{length, length-append}
use Rattle.numeric.specs.Share.{share_of, split_of}
use Rattle.numeric.proofs.ChoiceLaws.{eq_both}
use Rattle.numeric.proofs.ShareLaws.{share_le}
use Rattle.model.specs.Bounds.{most_scenarios, most_frequency}
use Rattle.model.specs.Sums.{sum_over, join_over}
use Rattle.model.specs.Content.{chance, Effect, target_of, Tree, outcome, branching, Scenario, Content}
use Rattle.model.specs.Format.{target_records, effect_records, tree_records, scenario_records, leaks_of, open_records, count_of}
use Rattle.model.specs.Valid.{ValidScenario, Valid}
use Rattle.model.specs.Outcomes.{Outcome, tree_outcomes, scenario_outcomes, outcomes_of}
use Rattle.model.specs.Report.{judgement, over_effects, sum_at, margin_at}
use Rattle.model.specs.MeaningTheorems.{SumsBounded}
use Rattle.model.proofs.ListLaws.{each_at, sum_append, sum_le, sum_times, sum_most, sum_join, length_join, rise_once}
use Rattle.model.proofs.OutcomeLaws.{outcome_known}
use Rattle.model.proofs.Totals.{outcomes_total}

-- an outcome's effects name a target at most once, and a share is at most the whole
pub sum_le_leaks : (c : Content) → Valid c → (t : ℕ) → sum_at c t ≤ leaks_of c
unfolding sum_at over_effects
sum_le_leaks c v t =
    le_trans
    (sum_le _ (λ o. o.frequency) (outcomes_of c)
    (λ o m. rise_once target_of (λ e. share_of o.frequency (judgement c o e).chance) t o.frequency 0 o.effects
    (outcome_known c v o m).valid.rising (λ e k. share_le o.frequency (judgement c o e).chance)))
    (le_of_eq (outcomes_total c))

-- at most n scenarios, each of a frequency of at most b
leaks_most : (n b : ℕ) (ss : List Scenario) → length ss ≤ n → ((s : Scenario) → Memᴰ s ss → s.frequency ≤ b)
    → sum_over (λ s. s.frequency) ss ≤ n * b
leaks_most n b ss h k = le_trans (sum_most (λ s. s.frequency) b ss k) (mul-le-mul_right b h)

pub leaks_le : (c : Content) → Valid c → leaks_of c ≤ most_scenarios * most_frequency
unfolding leaks_of
leaks_le c v =
    leaks_most most_scenarios most_frequency c.scenarios v.few_scenarios
    (λ s m. (each_at (ValidScenario (length c.targets)) c.scenarios v.scenarios s m).most)

-- the number of an outcome's effects
abbrev pub effect_count : Outcome → ℕ
effect_count o = length o.effects

-- each effect is one record
pub length_effects : (es : List Effect) → length (effect_records es) ≡ length es
unfolding effect_records
length_effects [] = refl
length_effects (e ∷ es) = ap suc (length_effects es)

pub tree_effects : (leak f w : ℕ) (path : List ℕ) (t : Tree) → sum_over effect_count (tree_outcomes leak f w path t) ≤ length (tree_records t)
unfolding tree_outcomes tree_records sum_over
tree_effects leak f w path (outcome k es) = let e = length_effects es in omega arith
tree_effects leak f w path (branching b l r) =
    rw (sum_append, length-append (tree_records l) (tree_records r)) (le_step (add-le-add (tree_effects leak (split_of f (chance b)).first _ _ l) (tree_effects leak (split_of f (chance b)).second _ _ r)))

pub scenario_effects : (s : Scenario) → sum_over effect_count (scenario_outcomes s) ≤ length (scenario_records s)
unfolding scenario_outcomes scenario_records
scenario_effects s =
    let h = tree_effects s.frequency s.frequency (s.frequency * 10 ^ 48) [] s.tree in omega arith

-- a study has at most as many effects as records
pub effects_le : (c : Content) → sum_over effect_count (outcomes_of c) ≤ count_of c
unfolding outcomes_of count_of open_records
effects_le c =
    let ss : List Scenario = c.scenarios in
    let h = sum_le (λ s. sum_over effect_count (scenario_outcomes s)) (λ s. length (scenario_records s)) ss (λ s m. scenario_effects s) in
    let e = sum_join effect_count scenario_outcomes ss in
    let l = length_join scenario_records ss in
    let k = length-append (target_records 0 c.targets) (join_over scenario_records ss) in
    omega arith

-- a figure of at most k at each effect
pub over_most : (g : Outcome → Effect → ℕ) (k : ℕ) (os : List Outcome) → ((o : Outcome) → Memᴰ o os → (e : Effect) → g o e ≤ k)
    → over_effects g os ≤ sum_over effect_count os * k
unfolding over_effects
over_most g k os h =
    le_trans (sum_le _ (λ o. effect_count o * k) os (λ o m. sum_most (g o) k o.effects (λ e i. h o m e))) (le_of_eq (sum_times effect_count k os))

-- an effect in a valid outcome adds at most 9 to a margin
pub margin_le : (c : Content) → Valid c → (t : ℕ) → margin_at c t ≤ 9000000
unfolding margin_at
margin_le c v t =
    le_trans
    (over_most _ 9 (outcomes_of c) (λ o m e. let h = (outcome_known c v o m).few in eq_both (λ x. x ≤ 9) (target_of e) t _ 0 (omega arith) (omega arith)))
    (let k = effects_le c in let r = v.few_records in omega arith)

pub sums_bounded : SumsBounded
sums_bounded c v t = record { sum = sum_le_leaks c v t; leaks = leaks_le c v; margin = margin_le c v t }
