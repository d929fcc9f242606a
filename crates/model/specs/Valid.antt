-- To be believed. What a study may hold: 01, "Records", all that refusals 2 to 5 name, said positively. Assumes nothing.
use Rattle.std.specs.Prelude.{◌≡◌, List, [], ◌∷◌, ℕ, suc, ◌^◌, ◌<◌, ◌≤◌, length}
use Rattle.numeric.specs.Share.{certain}
use Rattle.terms.specs.Terms.{no_effect, fireball, flash_fire, people, individual, tenths_unit}
use Rattle.model.specs.Bounds.{most_targets, most_scenarios, most_records, most_above, most_volume, least_frequency, most_frequency, most_effects, most_kind, most_class, most_setting, most_curve}
use Rattle.model.specs.Content.{Branching, given, on_curve, Target, facts, Effect, in_seconds, timed, target_of, intensity, duration, Tree, outcome, branching, Scenario, Content}
use Rattle.model.specs.Format.{count_of}

-- every element of a list has a property
abbrev pub Each : {A : Type 0} → (A → Type 0) → List A → Type 0
Each P [] = Unit {0}
Each P (x ∷ xs) = P x × Each P xs

-- each figure of a list is at least a bound that grows past it: the figures rise strictly from the bound on
abbrev pub RiseFrom : {A : Type 0} → (A → ℕ) → ℕ → List A → Type 0
RiseFrom f least [] = Unit {0}
RiseFrom f least (x ∷ xs) = (least ≤ f x) × RiseFrom f (suc (f x)) xs

-- class, setting and volume in their bounds; equipment has setting 0
pub record ValidTarget (t : Target) : Type 0 where
  pub class : (facts t).class ≤ most_class
  pub setting : (facts t).setting ≤ most_setting
  pub equipment : ((facts t).class ≡ people → ⊥) → (facts t).setting ≡ individual
  pub volume : (facts t).volume ≤ most_volume

-- a chance is at most certainty; 02, request P3: a curve is one of the curves, and a rate is not nought
abbrev pub ValidBranching : Branching → Type 0
ValidBranching (given p) = p ≤ certain
ValidBranching (on_curve c r) = (1 ≤ c) × (c ≤ most_curve) × (1 ≤ r) × (r < 2 ^ 32)

-- 02, request P6: the unit of an effect's duration, where it has one, is 0 or 1
abbrev pub ValidUnit : Effect → Type 0
ValidUnit (in_seconds t i d) = Unit {0}
ValidUnit (timed t i d u) = u ≤ tenths_unit

-- Fires (1 to 3) have a duration of at least 1, kinds 4 and 5 have 0; the intensity of kind 4 is 0 or 1.
pub record ValidEffect (kind targets : ℕ) (e : Effect) : Type 0 where
  pub declared : target_of e < targets
  pub fits : (intensity e < 2 ^ 32) × (duration e < 2 ^ 16)
  pub fire : kind ≤ fireball → 1 ≤ duration e
  pub other : fireball < kind → duration e ≡ 0
  pub flash : kind ≡ flash_fire → intensity e ≤ 1
  pub unit : ValidUnit e

-- an outcome: a known kind, at most 256 effects, none for kind 0, on declared targets in strictly rising order
pub record ValidOutcome (targets kind : ℕ) (es : List Effect) : Type 0 where
  pub known : kind ≤ most_kind
  pub few : length es ≤ most_effects
  pub none : kind ≡ no_effect → length es ≡ 0
  pub effects : Each (ValidEffect kind targets) es
  pub rising : RiseFrom target_of 0 es

-- a tree under some branchings: a branching has at most 7 branchings above it
unfoldable pub ValidTree : ℕ → ℕ → Tree → Type 0
ValidTree targets above (outcome k es) = ValidOutcome targets k es
ValidTree targets above (branching b l r) =
    (above ≤ most_above) × ValidBranching b × ValidTree targets (suc above) l × ValidTree targets (suc above) r

-- the chances alone: every branching of a tree of any depth is valid
unfoldable pub ChancesValid : Tree → Type 0
ChancesValid (outcome k es) = Unit {0}
ChancesValid (branching b l r) = ValidBranching b × ChancesValid l × ChancesValid r

pub record ValidScenario (targets : ℕ) (s : Scenario) : Type 0 where
  pub number : s.number < 2 ^ 32
  pub least : least_frequency ≤ s.frequency
  pub most : s.frequency ≤ most_frequency
  pub tree : ValidTree targets 0 s.tree

pub record Valid (c : Content) : Type 0 where
  pub number : c.number < 2 ^ 32
  pub few_targets : length c.targets ≤ most_targets
  pub targets : Each ValidTarget c.targets
  pub few_scenarios : length c.scenarios ≤ most_scenarios
  pub rising : RiseFrom (λ s. s.number) 0 c.scenarios
  pub scenarios : Each (ValidScenario (length c.targets)) c.scenarios
  pub few_records : count_of c ≤ most_records
