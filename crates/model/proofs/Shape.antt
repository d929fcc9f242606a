-- The records that the order allows up to a closing record are those of targets and scenarios, and conversely. Assumes nothing.
use mathlib.Core.Path.{◌≡◌, refl, sym, ◌∙◌, ap, ap₂}
use mathlib.Core.List.{List, [], ◌∷◌, ◌++◌, append_assoc, append-nil}
use Prim.Native.Nat.{ℕ, suc, ◌+◌, ◌-◌, ◌<◌}
use native.Mathlib.Omega.{arith}
use lib.ListN.{length}
use Rattle.state.specs.declared.Counts.{Counts}
use Rattle.model.specs.Sums.{join_over}
use Rattle.model.specs.Content.{Branching, Target, Effect, target_of, Tree, outcome, branching, Scenario}
use Rattle.model.specs.Format.{Record, opening_rec, target_rec, leak_rec, branching_rec, outcome_rec, effect_rec, closing_rec, target_records, effect_records, tree_records, scenario_records}
use Rattle.model.specs.Faults.{context, counted, declaring, leaking, start_counts, start, context_after, context_after_all}
use Rattle.model.specs.MachineTheorems.{Numbered, Allowed, AllAllowed}
use Rattle.model.proofs.FaultLaws.{order_facts, opening_order, effect_order, branching_order, outcome_order, target_order, leak_order}
use Rattle.model.proofs.ContextLaws.{begun, advanced, extended, kind_at_end, next_at_end, numbered_record, after_tree, after_numbered}
use Rattle.model.proofs.AcceptLaws.{allowed_append}

pub effects_allowed : (es : List Effect) (k : Counts) (trees : List ℕ) (left kind next : ℕ) → 0 < k.records → left ≡ length es
    → AllAllowed (context k trees left kind next) (effect_records es)
unfolding AllAllowed context_after effect_records
effects_allowed [] k trees left kind next h i = tt
effects_allowed (e ∷ es) k trees left kind next h i =
    (effect_order _ _ _ _ h (omega arith), omega arith, effects_allowed es (advanced k 1) trees (left - 1) kind (target_of e + 1) (omega arith) (omega arith))

pub tree_allowed : (t : Tree) (k : Counts) (above : ℕ) (rest : List ℕ) (kind next : ℕ) → 0 < k.records
    → AllAllowed (context k (above ∷ rest) 0 kind next) (tree_records t)
unfolding AllAllowed context_after tree_records
tree_allowed (outcome j es) k above rest kind next h =
    (outcome_order _ _ _ _ h refl (omega arith), omega arith, effects_allowed es (advanced k 1) rest (length es) j 0 (omega arith) refl)
tree_allowed (branching b l r) k above rest kind next h = (
  branching_order _ _ _ _ h refl (omega arith),
  omega arith,
  allowed_append (context (advanced k 1) (suc above ∷ suc above ∷ rest) 0 kind next) (tree_records l) (tree_records r)
      (tree_allowed l (advanced k 1) (suc above) (suc above ∷ rest) kind next (omega arith))
      (rw (after_tree l (advanced k 1) (suc above) (suc above ∷ rest) kind next)
      (tree_allowed r (advanced (advanced k 1) (length (tree_records l))) (suc above) rest (kind_at_end l) (next_at_end l) (omega arith))),
)

pub scenarios_allowed : (ss : List Scenario) (k : Counts) (kind next : ℕ) → 0 < k.records
    → AllAllowed (context k [] 0 kind next) (join_over scenario_records ss)
unfolding AllAllowed context_after join_over scenario_records
scenarios_allowed [] k kind next h = tt
scenarios_allowed (s ∷ ss) k kind next h = (
  leak_order _ _ _ _ h refl refl,
  omega arith,
  allowed_append (context (leaking k s.number s.frequency) (0 ∷ []) 0 kind next) (tree_records s.tree) (join_over scenario_records ss)
      (tree_allowed s.tree (leaking k s.number s.frequency) 0 [] kind next (omega arith))
      (rw (after_tree s.tree (leaking k s.number s.frequency) 0 [] kind next)
      (scenarios_allowed ss (advanced (leaking k s.number s.frequency) (length (tree_records s.tree))) (kind_at_end s.tree) (next_at_end s.tree) (omega arith))),
)

pub numbered_allowed : (ts : List Numbered) (k : Counts) (kind next : ℕ) → 0 < k.records → k.scenarios ≡ 0
    → AllAllowed (context k [] 0 kind next) (join_over numbered_record ts)
unfolding AllAllowed context_after join_over
numbered_allowed [] k kind next h i = tt
numbered_allowed (t ∷ ts) k kind next h i =
    (target_order _ _ _ _ h refl refl i, omega arith, numbered_allowed ts (declaring k) kind next (omega arith) i)

-- an opening, then targets, then scenarios
pub opening_allowed : (study : ℕ) (ts : List Numbered) (ss : List Scenario)
    → AllAllowed start (opening_rec study ∷ join_over numbered_record ts ++ join_over scenario_records ss)
unfolding AllAllowed context_after
opening_allowed study ts ss = (
  opening_order _ _ _ _ refl,
  omega arith,
  allowed_append begun (join_over numbered_record ts) (join_over scenario_records ss) (numbered_allowed ts (counted start_counts) 0 0 (omega arith) refl)
      (rw (after_numbered ts (counted start_counts) 0 0) (scenarios_allowed ss (extended (counted start_counts) (length ts)) 0 0 (omega arith))),
)

-- Some effects, then some trees, then scenarios.
pub record Inside (left trees : ℕ) (rs : List Record) : Type 0 where
  pub effects : List Effect
  pub given : List Tree
  pub scenarios : List Scenario
  pub announced : length effects ≡ left
  pub many : length given ≡ trees
  pub same : rs ≡ effect_records effects ++ join_over tree_records given ++ join_over scenario_records scenarios

-- a branching joins the first two trees, a leak takes the only one
joined_trees : (b : Branching) (n : ℕ) (rs : List Record) (es : List Effect) (ts : List Tree) (ss : List Scenario) → length es ≡ 0 → length ts ≡ suc (suc n)
    → rs ≡ effect_records es ++ join_over tree_records ts ++ join_over scenario_records ss → Inside 0 (suc n) (branching_rec b ∷ rs)
unfolding effect_records tree_records join_over
joined_trees b n rs (e ∷ es) ts ss h i s = absurd (omega arith)
joined_trees b n rs [] [] ss h i s = absurd (omega arith)
joined_trees b n rs [] (l ∷ []) ss h i s = absurd (omega arith)
joined_trees b n rs [] (l ∷ r ∷ ts) ss h i s =
    record {
      effects = [];
      given = branching b l r ∷ ts;
      scenarios = ss;
      announced = refl;
      many = omega arith;
      same = ap (λ (x : List Record). branching_rec b ∷ x) (s ∙ ap (λ (x : List Record). x ++ join_over scenario_records ss) (sym (append_assoc (tree_records l) (tree_records r) (join_over tree_records ts))));
    }

pub one_tree : (n f : ℕ) (rs : List Record) (es : List Effect) (ts : List Tree) (ss : List Scenario) → length es ≡ 0 → length ts ≡ 1
    → rs ≡ effect_records es ++ join_over tree_records ts ++ join_over scenario_records ss
    → (ss' : List Scenario) × (leak_rec n f ∷ rs ≡ join_over scenario_records ss')
unfolding effect_records join_over scenario_records
one_tree n f rs (e ∷ es) ts ss h i s = absurd (omega arith)
one_tree n f rs [] [] ss h i s = absurd (omega arith)
one_tree n f rs [] (t ∷ []) ss h i s =
    (record { number = n; frequency = f; tree = t } ∷ ss, ap (λ (x : List Record). leak_rec n f ∷ x) (s ∙ ap (λ (x : List Record). x ++ join_over scenario_records ss) (append-nil (tree_records t))))
one_tree n f rs [] (t ∷ u ∷ ts) ss h i s = absurd (omega arith)

-- one record more in front
leak_inside : (n f left trees : ℕ) (rs : List Record) → left ≡ 0 → trees ≡ 0 → Inside left 1 rs → Inside left trees (leak_rec n f ∷ rs)
unfolding effect_records join_over
leak_inside n f left trees rs h i w =
    let u = one_tree n f rs w.effects w.given w.scenarios (w.announced ∙ h) w.many w.same in
    record { effects = []; given = []; scenarios = u.0; announced = sym h; many = sym i; same = u.1 }

branching_inside : (b : Branching) (left n : ℕ) (rs : List Record) → left ≡ 0 → Inside left (suc (suc n)) rs → Inside left (suc n) (branching_rec b ∷ rs)
branching_inside b left n rs h w = rw h (joined_trees b n rs w.effects w.given w.scenarios (w.announced ∙ h) w.many w.same)

outcome_inside : (j m left n : ℕ) (rs : List Record) → left ≡ 0 → Inside m n rs → Inside left (suc n) (outcome_rec j m ∷ rs)
unfolding effect_records tree_records join_over
outcome_inside j m left n rs h w =
    record {
      effects = [];
      given = outcome j w.effects ∷ w.given;
      scenarios = w.scenarios;
      announced = sym h;
      many = ap suc w.many;
      same = ap₂ (λ (y : ℕ) (x : List Record). outcome_rec j y ∷ x) (sym w.announced) w.same;
    }

effect_inside : (e : Effect) (left n : ℕ) (rs : List Record) → 0 < left → Inside (left - 1) n rs → Inside left n (effect_rec e ∷ rs)
unfolding effect_records
effect_inside e left n rs h w =
    record {
      effects = e ∷ w.effects;
      given = w.given;
      scenarios = w.scenarios;
      announced = omega arith;
      many = w.many;
      same = ap (λ (x : List Record). effect_rec e ∷ x) w.same;
    }

-- after a leak: as many effects and trees as are still to come, then scenarios
pub inside : (rs : List Record) (k : Counts) (trees : List ℕ) (left kind next n s : ℕ) → 0 < k.records → 0 < k.scenarios
    → AllAllowed (context k trees left kind next) rs → Allowed (context_after_all (context k trees left kind next) rs) (closing_rec n s)
    → Inside left (length trees) rs
unfolding AllAllowed context_after_all context_after effect_records tree_records join_over
inside [] k trees left kind next n s h i a c =
    let o = (order_facts _ _ _ _ _ c).closing refl in
    record { effects = []; given = []; scenarios = []; announced = sym o.1; many = sym o.2; same = refl }
inside (opening_rec j ∷ rs) k trees left kind next n s h i a c = let o = (order_facts _ _ _ _ _ a.0).opening refl in absurd (omega arith)
inside (target_rec j t ∷ rs) k trees left kind next n s h i a c = let o = (order_facts _ _ _ _ _ a.0).target refl in absurd (omega arith)
inside (leak_rec j f ∷ rs) k trees left kind next n s h i a c =
    let o = (order_facts _ _ _ _ _ a.0).leak refl in
    leak_inside j f left (length trees) rs o.1 o.2 (inside rs (leaking k j f) (0 ∷ []) left kind next n s (omega arith) (omega arith) a.2 c)
inside (branching_rec b ∷ rs) k [] left kind next n s h i a c = let o = (order_facts _ _ _ _ _ a.0).branching refl in absurd (omega arith)
inside (branching_rec b ∷ rs) k (above ∷ rest) left kind next n s h i a c =
    let o = (order_facts _ _ _ _ _ a.0).branching refl in
    branching_inside b left (length rest) rs o.1
    (inside rs (advanced k 1) (suc above ∷ suc above ∷ rest) left kind next n s (omega arith) i a.2 c)
inside (outcome_rec j m ∷ rs) k [] left kind next n s h i a c = let o = (order_facts _ _ _ _ _ a.0).outcome refl in absurd (omega arith)
inside (outcome_rec j m ∷ rs) k (above ∷ rest) left kind next n s h i a c =
    let o = (order_facts _ _ _ _ _ a.0).outcome refl in
    outcome_inside j m left (length rest) rs o.1 (inside rs (advanced k 1) rest m j 0 n s (omega arith) i a.2 c)
inside (effect_rec e ∷ rs) k trees left kind next n s h i a c =
    let o = (order_facts _ _ _ _ _ a.0).effect refl in
    effect_inside e left (length trees) rs o.1 (inside rs (advanced k 1) trees (left - 1) kind (target_of e + 1) n s (omega arith) i a.2 c)
inside (closing_rec m f ∷ rs) k trees left kind next n s h i a c = absurd (a.1 refl)

-- after the opening: targets, then scenarios
pub record Laid (rs : List Record) : Type 0 where
  pub targets : List Numbered
  pub scenarios : List Scenario
  pub same : rs ≡ join_over numbered_record targets ++ join_over scenario_records scenarios

pub laid : (rs : List Record) (k : Counts) (kind next n s : ℕ) → 0 < k.records
    → AllAllowed (context k [] 0 kind next) rs → Allowed (context_after_all (context k [] 0 kind next) rs) (closing_rec n s) → Laid rs
unfolding AllAllowed context_after_all context_after join_over
laid [] k kind next n s h a c = record { targets = []; scenarios = []; same = refl }
laid (opening_rec j ∷ rs) k kind next n s h a c = let o = (order_facts _ _ _ _ _ a.0).opening refl in absurd (omega arith)
laid (target_rec j t ∷ rs) k kind next n s h a c =
    let w = laid rs (declaring k) kind next n s (omega arith) a.2 c in
    record {
      targets = record { number = j; target = t } ∷ w.targets;
      scenarios = w.scenarios;
      same = ap (λ (x : List Record). target_rec j t ∷ x) w.same;
    }
laid (leak_rec j f ∷ rs) k kind next n s h a c =
    let w = inside rs (leaking k j f) (0 ∷ []) 0 kind next n s (omega arith) (omega arith) a.2 c in
    let u = one_tree j f rs w.effects w.given w.scenarios w.announced w.many w.same in
    record { targets = []; scenarios = u.0; same = u.1 }
laid (branching_rec b ∷ rs) k kind next n s h a c = let o = (order_facts _ _ _ _ _ a.0).branching refl in absurd (omega arith)
laid (outcome_rec j m ∷ rs) k kind next n s h a c = let o = (order_facts _ _ _ _ _ a.0).outcome refl in absurd (omega arith)
laid (effect_rec e ∷ rs) k kind next n s h a c = let o = (order_facts _ _ _ _ _ a.0).effect refl in absurd (omega arith)
laid (closing_rec m f ∷ rs) k kind next n s h a c = absurd (a.1 refl)

-- from the start: an opening, targets, scenarios
pub record Opened (rs : List Record) : Type 0 where
  pub study : ℕ
  pub targets : List Numbered
  pub scenarios : List Scenario
  pub same : rs ≡ opening_rec study ∷ join_over numbered_record targets ++ join_over scenario_records scenarios

pub opened : (rs : List Record) (n s : ℕ) → AllAllowed start rs → Allowed (context_after_all start rs) (closing_rec n s) → Opened rs
unfolding AllAllowed context_after_all context_after
opened [] n s a c = let o = (order_facts _ _ _ _ _ c).closing refl in absurd (omega arith)
opened (opening_rec j ∷ rs) n s a c =
    let w = laid rs (counted start_counts) 0 0 n s (omega arith) a.2 c in
    record { study = j; targets = w.targets; scenarios = w.scenarios; same = ap (λ (x : List Record). opening_rec j ∷ x) w.same }
opened (target_rec j t ∷ rs) n s a c = let o = (order_facts _ _ _ _ _ a.0).target refl in absurd (omega arith)
opened (leak_rec j f ∷ rs) n s a c = let o = (order_facts _ _ _ _ _ a.0).leak refl in absurd (omega arith)
opened (branching_rec b ∷ rs) n s a c = let o = (order_facts _ _ _ _ _ a.0).branching refl in absurd (omega arith)
opened (outcome_rec j m ∷ rs) n s a c = let o = (order_facts _ _ _ _ _ a.0).outcome refl in absurd (omega arith)
opened (effect_rec e ∷ rs) n s a c = let o = (order_facts _ _ _ _ _ a.0).effect refl in absurd (omega arith)
opened (closing_rec m f ∷ rs) n s a c = absurd (a.1 refl)

-- targets under their places are numbered targets
abbrev pub numbered_from : ℕ → List Target → List Numbered
numbered_from n [] = []
numbered_from n (t ∷ ts) = record { number = n; target = t } ∷ numbered_from (suc n) ts

pub numbered_records : (n : ℕ) (ts : List Target) → target_records n ts ≡ join_over numbered_record (numbered_from n ts)
unfolding target_records join_over
numbered_records n [] = refl
numbered_records n (t ∷ ts) = ap (λ (l : List Record). target_rec n t ∷ l) (numbered_records (suc n) ts)
