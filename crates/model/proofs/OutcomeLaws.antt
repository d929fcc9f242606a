-- Laws of the outcomes of a tree: totals, the leak, and induction down the branchings of a valid tree. Assumes nothing.
use mathlib.Core.Path.{◌≡◌, sym, ◌∙◌, ap, ap₂, subst}
use mathlib.Core.Logic.{⊎_elim}
use mathlib.Core.List.Memᴰ
use mathlib.Core.List.{List, [], ◌∷◌, Memᴰ}
use Prim.Native.Nat.{ℕ, suc, ◌+◌, ◌-◌, ◌*◌, ◌^◌, ◌≤◌}
use native.Mathlib.Nat.{add-zero, mul_right_comm, mul-sub, mul-le-mul_left, mul-div_left}
use native.Mathlib.Omega.{arith}
use lib.ListN.{length}
use Rattle.numeric.specs.Share.{certain, split_of}
use Rattle.numeric.proofs.ShareLaws.{share_plain, share_le}
use Rattle.ignition.proofs.Laws.{curves_hold}
use Rattle.model.specs.Bounds.{most_above}
use Rattle.model.specs.Sums.{sum_over}
use Rattle.model.specs.Content.{Branching, given, on_curve, chance, Tree, outcome, branching, Scenario, Content}
use Rattle.model.specs.Valid.{ValidBranching, ValidOutcome, ValidTree, ValidScenario, Valid}
use Rattle.model.specs.Outcomes.{Outcome, above, first_weight, second_weight, tree_outcomes, scenario_outcomes, outcomes_of}
use Rattle.model.proofs.ListLaws.{each_at, sum_append, join_found}

-- the frequencies of the two branches add up to that of the branching
pub split_total : (f p : ℕ) → (split_of f p).first + (split_of f p).second ≡ f
unfolding split_of
split_total f p = let h = share_le f p in omega arith

-- and so do the weights, where the chance is valid
pub weight_total : (w p : ℕ) → p ≤ certain → first_weight w p + second_weight w p ≡ w
weight_total w p h = let k : w * p ≤ w * certain = mul-le-mul_left w h in omega arith

-- A figure of frequency and weight that each branching of a tree with Q divides between its branches: its total over the tree is
-- that of the root.
module _ (Q : Tree → Type 0) (g : ℕ → ℕ → ℕ)
    (split : (b : Branching) (l r : Tree) → Q (branching b l r) → Q l × Q r
    × ((f w : ℕ) → g (split_of f (chance b)).first (first_weight w (chance b)) + g (split_of f (chance b)).second (second_weight w (chance b)) ≡ g f w)) where
  tree_total : (leak f w : ℕ) (path : List ℕ) (t : Tree) → Q t → sum_over (λ o. g o.frequency o.weight) (tree_outcomes leak f w path t) ≡ g f w
  unfolding tree_outcomes sum_over
  tree_total leak f w path (outcome k es) q = add-zero (g f w)
  tree_total leak f w path (branching b l r) q =
      let d = split b l r q in
      sum_append _ (tree_outcomes _ _ _ _ l) (tree_outcomes _ _ _ _ r)
      ∙ ap₂ ◌+◌ (tree_total leak (split_of f (chance b)).first _ _ l d.0) (tree_total leak (split_of f (chance b)).second _ _ r d.1)
      ∙ d.2 f w

  pub scenario_total : (s : Scenario) → Q s.tree
      → sum_over (λ o. g o.frequency o.weight) (scenario_outcomes s) ≡ g s.frequency (s.frequency * 10 ^ 48)
  unfolding scenario_outcomes
  scenario_total s q = tree_total s.frequency s.frequency (s.frequency * 10 ^ 48) [] s.tree q

-- the frequencies of a scenario's outcomes add up to its leak
pub frequencies_add_up : (s : Scenario) → sum_over (λ o. o.frequency) (scenario_outcomes s) ≡ s.frequency
frequencies_add_up s = scenario_total (λ t. Unit {0}) (λ f w. f) (λ b l r q. (tt, tt, λ f w. split_total f (chance b))) s tt

-- One branch of a branching of frequency f and weight w: its chance q, its frequency g and its weight v.
-- It takes q of 1,000,000 parts of the frequency up to a unit, and of a weight that is a multiple of 1,000,000 exactly.
pub record Branch (f w q g v : ℕ) : Type 0 where
  pub chance : q ≤ certain
  pub not_above : g * certain ≤ f * q + certain
  pub not_below : f * q ≤ g * certain + certain
  pub weight : (u : ℕ) → w ≡ u * certain → v ≡ u * q

first_weight_lem : (w p u : ℕ) → w ≡ u * certain → first_weight w p ≡ u * p
first_weight_lem w p u e = rw (e, mul_right_comm u certain p) (mul-div_left (u * p) (omega arith))

-- a valid branching's chance, given or on a curve
pub chance_le : (b : Branching) → ValidBranching b → chance b ≤ certain
chance_le (given p) v = v
chance_le (on_curve c r) v = curves_hold.bounded c r

pub first_branch : (f w p : ℕ) → p ≤ certain → Branch f w p (split_of f p).first (first_weight w p)
unfolding split_of
first_branch f w p h =
    let s = share_plain f p h in
    record { chance = h; not_above = omega arith; not_below = omega arith; weight = first_weight_lem w p }

pub second_branch : (f w p : ℕ) → p ≤ certain → Branch f w (certain - p) (split_of f p).second (second_weight w p)
unfolding split_of
second_branch f w p h =
    let s = share_plain f p h in
    let k : f * p ≤ f * certain = mul-le-mul_left f h in
    let q : f * (certain - p) ≡ f * certain - f * p = mul-sub f certain p in
    record {
      chance = omega arith;
      not_above = omega arith;
      not_below = omega arith;
      weight = λ u e. ap₂ ◌-◌ e (first_weight_lem w p u e) ∙ sym (mul-sub u certain p);
    }

-- an outcome has the leak of its tree
pub tree_leak : (leak f w : ℕ) (path : List ℕ) (t : Tree) (o : Outcome) → Memᴰ o (tree_outcomes leak f w path t) → o.leak ≡ leak
unfolding tree_outcomes
tree_leak leak f w path (outcome k es) o m = ap (λ (x : Outcome). x.leak) (Memᴰ.eq_of_singleton m)
tree_leak leak f w path (branching b l r) o m =
    ⊎_elim (tree_leak leak (split_of f (chance b)).first _ _ l o) (tree_leak leak (split_of f (chance b)).second _ _ r o)
    (Memᴰ.append_cases (tree_outcomes _ _ _ _ l) m)

pub scenario_leak : (s : Scenario) (o : Outcome) → Memᴰ o (scenario_outcomes s) → o.leak ≡ s.frequency
unfolding scenario_outcomes
scenario_leak s o m = tree_leak s.frequency s.frequency (s.frequency * 10 ^ 48) [] s.tree o m

-- an outcome of a valid tree: its kind and effects are valid, its path has at most 8 branchings,
-- and a property holds of its frequency, weight and path
pub record Known (targets : ℕ) (P : ℕ → ℕ → List ℕ → Type 0) (o : Outcome) : Type 0 where
  pub valid : ValidOutcome targets o.kind o.effects
  pub few : above o ≤ suc most_above
  pub holds : P o.frequency o.weight o.path

-- induction: a property that passes from a branching to each of its branches holds at every outcome
module _ (P : ℕ → ℕ → List ℕ → Type 0)
    (down : (f w q g v : ℕ) (path : List ℕ) → length path ≤ most_above → Branch f w q g v → P f w path → P g v (q ∷ path)) where
  pub tree_outcome : (targets leak f w : ℕ) (path : List ℕ) (t : Tree) → ValidTree targets (length path) t → length path ≤ suc most_above → P f w path
      → (o : Outcome) → Memᴰ o (tree_outcomes leak f w path t) → Known targets P o
  unfolding ValidTree tree_outcomes
  tree_outcome targets leak f w path (outcome k es) v d h o m =
      subst (Known targets P) (sym (Memᴰ.eq_of_singleton m)) (record { valid = v; few = d; holds = h })
  tree_outcome targets leak f w path (branching b l r) v d h o m =
      ⊎_elim
      (λ i. tree_outcome targets leak (split_of f (chance b)).first _ _ l v.2 (omega (arith, v.0)) (down f w _ _ _ path v.0 (first_branch f w (chance b) (chance_le b v.1)) h) o i)
      (λ i. tree_outcome targets leak (split_of f (chance b)).second _ _ r v.3 (omega (arith, v.0)) (down f w _ _ _ path v.0 (second_branch f w (chance b) (chance_le b v.1)) h) o i)
      (Memᴰ.append_cases (tree_outcomes _ _ _ _ l) m)

  pub scenario_outcome : (c : Content) → Valid c → (s : Scenario) → Memᴰ s c.scenarios → P s.frequency (s.frequency * 10 ^ 48) []
      → (o : Outcome) → Memᴰ o (scenario_outcomes s) → Known (length c.targets) P o
  unfolding scenario_outcomes
  scenario_outcome c v s i h o m =
      tree_outcome (length c.targets) s.frequency s.frequency (s.frequency * 10 ^ 48) [] s.tree
      (each_at (ValidScenario (length c.targets)) c.scenarios v.scenarios s i).tree (omega arith) h o m

-- the kind, the effects and the path of any outcome of a valid content
pub outcome_known : (c : Content) → Valid c → (o : Outcome) → Memᴰ o (outcomes_of c) → Known (length c.targets) (λ f w path. Unit {0}) o
unfolding outcomes_of
outcome_known c v o m =
    let j = join_found scenario_outcomes c.scenarios o m in
    scenario_outcome (λ f w path. Unit {0}) (λ f w q g x path h b u. tt) c v j.0 j.1 tt o j.2
