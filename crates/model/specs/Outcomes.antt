-- To be believed. The outcomes of a content: 01, "Frequencies down a tree", and the exact sum of "What the promises have to say". Assumes nothing.
use Rattle.std.specs.Prelude.{List, [], ◌∷◌, ◌++◌, ℕ, ◌-◌, ◌*◌, ◌/◌, ◌^◌, length}
use Rattle.numeric.specs.Share.{certain, split_of}
use Rattle.model.specs.Sums.{join_over}
use Rattle.model.specs.Content.{chance, Effect, Tree, outcome, branching, Scenario, Content}

-- an outcome of a scenario's tree
pub record Outcome : Type 0 where
  pub kind : ℕ
  pub effects : List Effect
  -- the frequency of its leak
  pub leak : ℕ
  -- its own frequency, rounded down the tree
  pub frequency : ℕ
  -- its exact weight, in parts of 10^-48 of a unit
  pub weight : ℕ
  -- the chances along its path, the nearest branching's first: p on a first branch, 1,000,000 - p on a second
  pub path : List ℕ

-- the branchings whose trees hold it
abbrev pub above : Outcome → ℕ
above o = length o.path

-- a branching of weight w and chance p gives w × p / 10^6 to its first branch and the rest of w to its second
abbrev pub first_weight : ℕ → ℕ → ℕ
first_weight w p = w * p / certain

abbrev pub second_weight : ℕ → ℕ → ℕ
second_weight w p = w - w * p / certain

-- the outcomes of a tree under a leak, from the left, given the frequency and the weight that reach it and the path to it
unfoldable pub tree_outcomes : ℕ → ℕ → ℕ → List ℕ → Tree → List Outcome
tree_outcomes leak f w path (outcome k es) =
    record { kind = k; effects = es; leak = leak; frequency = f; weight = w; path = path } ∷ []
tree_outcomes leak f w path (branching b l r) =
    tree_outcomes leak (split_of f (chance b)).first (first_weight w (chance b)) (chance b ∷ path) l
    ++ tree_outcomes leak (split_of f (chance b)).second (second_weight w (chance b)) ((certain - chance b) ∷ path) r

-- a leak's tree weighs its frequency × 10^48
unfoldable pub scenario_outcomes : Scenario → List Outcome
scenario_outcomes s = tree_outcomes s.frequency s.frequency (s.frequency * 10 ^ 48) [] s.tree

unfoldable pub outcomes_of : Content → List Outcome
outcomes_of c = join_over scenario_outcomes c.scenarios
