-- Proved. The theorems of the meaning, over every valid content. Proofs stand in proofs/. Assumes nothing.
use Rattle.std.specs.Prelude.{◌≡◌, ◌↔◌, ◌⊎◌, ℕ, ◌+◌, ◌*◌, ◌^◌, ◌<◌, ◌≤◌, length}
use mathlib.Core.List.{List, [], ◌∷◌, Memᴰ}
use Rattle.terms.specs.Terms.{people}
use Rattle.model.specs.Bounds.{most_scenarios, most_frequency}
use Rattle.model.specs.Sums.{sum_over}
use Rattle.model.specs.Content.{facts, Effect, target_of, Scenario, Content}
use Rattle.model.specs.Format.{leaks_of}
use Rattle.model.specs.Valid.{Valid, RiseFrom, ChancesValid}
use Rattle.model.specs.Outcomes.{Outcome, above, scenario_outcomes}
use Rattle.model.specs.Report.{target_at, judgement, kind_total, sum_at, margin_at, exact_at, Named, domino_of}

-- demand 3: "the totals of the six outcome kinds add up to the leaks, to the last unit"
abbrev pub KindsAddUp : Type 0
KindsAddUp = (c : Content) → Valid c
    → kind_total c 0 + kind_total c 1 + kind_total c 2 + kind_total c 3 + kind_total c 4 + kind_total c 5 ≡ leaks_of c

-- demand 3: "at each target the reported sum differs from the exact one by less than its margin", in parts of 10^-54 of a unit
pub record Near (c : Content) (t sum margin : ℕ) : Type 0 where
  pub named : Named c t
  pub not_above : sum * 10 ^ 54 < exact_at c t + margin * 10 ^ 54
  pub not_below : exact_at c t < sum * 10 ^ 54 + margin * 10 ^ 54

-- "or both are nought if no effect names it"
pub record BothZero (c : Content) (t sum : ℕ) : Type 0 where
  pub unnamed : Named c t → ⊥
  pub reported : sum ≡ 0
  pub exact : exact_at c t ≡ 0

abbrev pub SumsWithinMargin : Type 0
SumsWithinMargin = (c : Content) → Valid c → (t : ℕ) → Near c t (sum_at c t) (margin_at c t) ⊎ BothZero c t (sum_at c t)

-- and then so is its margin
abbrev pub UnnamedNoMargin : Type 0
UnnamedNoMargin = (c : Content) → Valid c → (t : ℕ) → (Named c t → ⊥) → margin_at c t ≡ 0

-- demand 3: "the fraction got from leaks, branch chances and the probabilities with no rounding between":
-- under k branchings, weight × 10^(6k) is frequency × 10^48 × the product of the chances along the path
unfoldable pub product : List ℕ → ℕ
product [] = 1
product (p ∷ ps) = p * product ps

abbrev pub WeightsAreExact : Type 0
WeightsAreExact = (c : Content) → Valid c → (s : Scenario) → Memᴰ s c.scenarios
    → (o : Outcome) → Memᴰ o (scenario_outcomes s)
    → o.weight * 10 ^ (6 * above o) ≡ s.frequency * 10 ^ 48 * product o.path

-- "the second the rest": a tree's weights add up to frequency × 10^48, at any depth
abbrev pub WeightsAddUp : Type 0
WeightsAddUp = (s : Scenario) → ChancesValid s.tree
    → sum_over (λ o. o.weight) (scenario_outcomes s) ≡ s.frequency * 10 ^ 48

-- "exactly the equipment with an effect whose chance is above 700,000, under a leak of at least 10^7 units"
pub record Listed (c : Content) (t : ℕ) : Type 0 where
  pub declared : t < length c.targets
  pub equipment : (facts (target_at c t)).class ≡ people → ⊥
  pub scenario : Scenario
  pub among : Memᴰ scenario c.scenarios
  pub leak : 10 ^ 7 ≤ scenario.frequency
  pub outcome : Outcome
  pub reached : Memᴰ outcome (scenario_outcomes scenario)
  pub effect : Effect
  pub within : Memᴰ effect outcome.effects
  pub names : target_of effect ≡ t
  pub chance : 700000 < (judgement c outcome effect).chance

abbrev pub DominoExactly : Type 0
DominoExactly = (c : Content) (t : ℕ) → Memᴰ t (domino_of c) ↔ Listed c t

abbrev pub DominoRises : Type 0
DominoRises = (c : Content) → RiseFrom (λ t. t) 0 (domino_of c)

-- nothing overflows: a target's sum is at most the leaks, these at most 65,536 × 10^13, and a margin at most 9,000,000
pub record Bounded (c : Content) (t : ℕ) : Type 0 where
  pub sum : sum_at c t ≤ leaks_of c
  pub leaks : leaks_of c ≤ most_scenarios * most_frequency
  pub margin : margin_at c t ≤ 9000000

abbrev pub SumsBounded : Type 0
SumsBounded = (c : Content) → Valid c → (t : ℕ) → Bounded c t
