-- The content that is read from the records of a content is that content. Assumes nothing.
use mathlib.Core.Path.{◌≡◌, refl, ◌∙◌, ap}
use mathlib.Core.List.{List, [], ◌∷◌, ◌++◌, append_assoc, append-nil}
use Prim.Native.Nat.{ℕ, suc}
use lib.ListN.{get_or, drop}
use Rattle.model.specs.Sums.{join_over}
use Rattle.model.specs.Content.{Branching, Target, Effect, Tree, outcome, branching, Scenario, Content}
use Rattle.model.specs.Format.{Record, target_records, effect_records, tree_records, scenario_records, open_records}
use Rattle.model.specs.Verdict.{Parts, parts, some_tree, parts_of, content_of}

-- what a record in front makes of parts
abbrev with_effects : List Effect → Parts → Parts
with_effects es p = parts p.number p.targets p.scenarios p.trees (es ++ p.effects)

abbrev with_outcome : ℕ → Parts → Parts
with_outcome k p = parts p.number p.targets p.scenarios (outcome k p.effects ∷ p.trees) []

abbrev with_branching : Branching → Parts → Parts
with_branching b p =
    parts p.number p.targets p.scenarios (branching b (get_or p.trees 0 some_tree) (get_or p.trees 1 some_tree) ∷ drop 2 p.trees) p.effects

abbrev with_leak : ℕ → ℕ → Parts → Parts
with_leak n f p =
    parts p.number p.targets (record { number = n; frequency = f; tree = get_or p.trees 0 some_tree } ∷ p.scenarios) (drop 1 p.trees) p.effects

abbrev with_targets : List Target → Parts → Parts
with_targets ts p = parts p.number (ts ++ p.targets) p.scenarios p.trees p.effects

abbrev with_opening : ℕ → Parts → Parts
with_opening n p = parts n p.targets p.scenarios p.trees p.effects

parts_effects : (es : List Effect) (rs : List Record) → parts_of (effect_records es ++ rs) ≡ with_effects es (parts_of rs)
unfolding parts_of effect_records
parts_effects [] rs = refl
parts_effects (e ∷ es) rs = ap (with_effects (e ∷ [])) (parts_effects es rs)

-- trees in front of parts without effects
abbrev with_trees : List Tree → Parts → Parts
with_trees ts p = parts p.number p.targets p.scenarios (ts ++ p.trees) []

parts_outcome : (k : ℕ) (es : List Effect) (p : Parts) → p.effects ≡ [] → with_outcome k (with_effects es p) ≡ with_trees (outcome k es ∷ []) p
parts_outcome k es p h = ap (λ (l : List Effect). parts p.number p.targets p.scenarios (outcome k l ∷ p.trees) []) (ap (λ (l : List Effect). es ++ l) h ∙ append-nil es)

parts_tree : (t : Tree) (rs : List Record) → (parts_of rs).effects ≡ [] → parts_of (tree_records t ++ rs) ≡ with_trees (t ∷ []) (parts_of rs)
unfolding parts_of tree_records
parts_tree (outcome k es) rs h = ap (with_outcome k) (parts_effects es rs) ∙ parts_outcome k es (parts_of rs) h
parts_tree (branching b l r) rs h =
    let i = parts_tree r rs h in
    ap (λ (x : List Record). with_branching b (parts_of x)) (append_assoc (tree_records l) (tree_records r) rs)
    ∙ ap (with_branching b) (parts_tree l (tree_records r ++ rs) (ap (λ (p : Parts). p.effects) i) ∙ ap (with_trees (l ∷ [])) i)

parts_scenarios : (ss : List Scenario) → parts_of (join_over scenario_records ss) ≡ parts 0 [] ss [] []
unfolding parts_of join_over scenario_records
parts_scenarios [] = refl
parts_scenarios (s ∷ ss) =
    let i = parts_scenarios ss in
    ap (with_leak s.number s.frequency) (parts_tree s.tree (join_over scenario_records ss) (ap (λ (p : Parts). p.effects) i) ∙ ap (with_trees (s.tree ∷ [])) i)

parts_targets : (n : ℕ) (ts : List Target) (rs : List Record) → parts_of (target_records n ts ++ rs) ≡ with_targets ts (parts_of rs)
unfolding parts_of target_records
parts_targets n [] rs = refl
parts_targets n (t ∷ ts) rs = ap (with_targets (t ∷ [])) (parts_targets (suc n) ts rs)

parts_open : (c : Content) → parts_of (open_records c) ≡ parts c.number c.targets c.scenarios [] []
unfolding parts_of open_records
parts_open c =
    ap (with_opening c.number)
    (parts_targets 0 c.targets (join_over scenario_records c.scenarios) ∙ ap (with_targets c.targets) (parts_scenarios c.scenarios))
    ∙ ap (λ (ts : List Target). parts c.number ts c.scenarios [] []) (append-nil c.targets)

pub content_open : (c : Content) → content_of (open_records c) ≡ c
unfolding content_of
content_open c = ap (λ (p : Parts). record { number = p.number; targets = p.targets; scenarios = p.scenarios }) (parts_open c)
