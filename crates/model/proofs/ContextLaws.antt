-- What is known after the records of effects, trees, scenarios and targets. Assumes nothing.
use mathlib.Core.Path.{◌≡◌, refl, ◌∙◌, ap}
use mathlib.Core.List.{List, [], ◌∷◌, ◌++◌}
use Prim.Native.Nat.{ℕ, suc, ◌+◌, ◌-◌}
use native.Mathlib.Omega.{arith}
use lib.ListN.{length, length-append}
use Rattle.state.specs.declared.Counts.{Counts}
use Rattle.model.specs.Sums.{sum_over, join_over}
use Rattle.model.specs.Content.{Target, Effect, target_of, Tree, outcome, branching, Scenario}
use Rattle.model.specs.Format.{Record, opening_rec, target_rec, leak_rec, branching_rec, outcome_rec, effect_rec, closing_rec, target_records, effect_records, tree_records, scenario_records}
use Rattle.model.specs.Faults.{Context, context, counted, start_counts, declaring, leaking, context_after, context_after_all}
use Rattle.model.specs.MachineTheorems.{Numbered}
use Rattle.model.proofs.SumBounds.{length_effects}

pub after_append : (x : Context) (a b : List Record) → context_after_all x (a ++ b) ≡ context_after_all (context_after_all x a) b
unfolding context_after_all
after_append x [] b = refl
after_append x (r ∷ a) b = after_append (context_after x r) a b

-- every record is counted
pub record_counted : (x : Context) (r : Record) → (context_after x r).counts.records ≡ x.counts.records + 1
unfolding context_after
record_counted x (opening_rec n) = refl
record_counted x (target_rec n t) = refl
record_counted x (leak_rec n f) = refl
record_counted x (branching_rec b) = refl
record_counted x (outcome_rec k n) = refl
record_counted x (effect_rec e) = refl
record_counted x (closing_rec n s) = refl

pub records_counted : (x : Context) (rs : List Record) → (context_after_all x rs).counts.records ≡ x.counts.records + length rs
unfolding context_after_all
records_counted x [] = omega arith
records_counted x (r ∷ rs) = let h = record_counted x r in let i = records_counted (context_after x r) rs in omega arith

-- after the opening
abbrev pub begun : Context
begun = context (counted start_counts) [] 0 0 0

-- n records more, none of them a target or a leak; n targets more
abbrev pub advanced : Counts → ℕ → Counts
advanced k n = record { records = k.records + n; targets = k.targets; scenarios = k.scenarios; last = k.last; leaks = k.leaks }

abbrev pub extended : Counts → ℕ → Counts
extended k n = record { records = k.records + n; targets = k.targets + n; scenarios = k.scenarios; last = k.last; leaks = k.leaks }

-- scenarios more
abbrev pub last_number : ℕ → List Scenario → ℕ
last_number n [] = n
last_number n (s ∷ ss) = last_number s.number ss

abbrev pub scenario_length : List Scenario → ℕ
scenario_length ss = length (join_over scenario_records ss)

abbrev pub frequencies : List Scenario → ℕ
frequencies ss = sum_over (λ s. s.frequency) ss

abbrev pub continued : Counts → List Scenario → Counts
continued k ss =
    record {
      records = k.records + scenario_length ss;
      targets = k.targets;
      scenarios = k.scenarios + length ss;
      last = last_number k.last ss;
      leaks = k.leaks + frequencies ss;
    }

-- the kind and the least next target that the last outcome leaves
abbrev pub next_after : ℕ → List Effect → ℕ
next_after n [] = n
next_after n (e ∷ es) = next_after (target_of e + 1) es

abbrev pub kind_at_end : Tree → ℕ
kind_at_end (outcome k es) = k
kind_at_end (branching b l r) = kind_at_end r

abbrev pub next_at_end : Tree → ℕ
next_at_end (outcome k es) = next_after 0 es
next_at_end (branching b l r) = next_at_end r

abbrev pub kind_after : ℕ → List Scenario → ℕ
kind_after k [] = k
kind_after k (s ∷ ss) = kind_after (kind_at_end s.tree) ss

abbrev pub next_after_all : ℕ → List Scenario → ℕ
next_after_all n [] = n
next_after_all n (s ∷ ss) = next_after_all (next_at_end s.tree) ss

-- counts and contexts with equal figures
same_counts : (l : ℕ) {r r' t t' s s' f f' : ℕ} → r ≡ r' → t ≡ t' → s ≡ s' → f ≡ f'
    → ◌≡◌ {A = Counts} (record { records = r; targets = t; scenarios = s; last = l; leaks = f }) (record { records = r'; targets = t'; scenarios = s'; last = l; leaks = f' })
same_counts l p q u v = λ i. record { records = p i; targets = q i; scenarios = u i; last = l; leaks = v i }

same_context : {k k' : Counts} (trees : List ℕ) {left left' : ℕ} (kind next : ℕ) → k ≡ k' → left ≡ left'
    → context k trees left kind next ≡ context k' trees left' kind next
same_context trees kind next p q = λ i. context (p i) trees (q i) kind next

none_more : (k : Counts) → k ≡ advanced k 0
none_more k = same_counts _ (omega arith) refl refl refl

more : (k : Counts) (m n p : ℕ) → m + n ≡ p → advanced (advanced k m) n ≡ advanced k p
more k m n p h = same_counts _ (omega arith) refl refl refl

pub after_effects_lem : (es : List Effect) (k : Counts) (trees : List ℕ) (left kind next : ℕ) → left ≡ length es
    → context_after_all (context k trees left kind next) (effect_records es) ≡ context (advanced k (length es)) trees 0 kind (next_after next es)
unfolding context_after_all context_after effect_records
after_effects_lem [] k trees left kind next h = same_context trees kind next (none_more k) h
after_effects_lem (e ∷ es) k trees left kind next h =
    after_effects_lem es (advanced k 1) trees (left - 1) kind (target_of e + 1) (omega arith)
    ∙ same_context trees kind _ (more k 1 (length es) (suc (length es)) (omega arith)) refl

pub after_tree : (t : Tree) (k : Counts) (above : ℕ) (rest : List ℕ) (kind next : ℕ)
    → context_after_all (context k (above ∷ rest) 0 kind next) (tree_records t) ≡ context (advanced k (length (tree_records t))) rest 0 (kind_at_end t) (next_at_end t)
unfolding context_after_all context_after tree_records
after_tree (outcome j es) k above rest kind next =
    after_effects_lem es (advanced k 1) rest (length es) j 0 refl
    ∙ same_context rest j _ (more k 1 (length es) _ (let h = length_effects es in omega arith)) refl
after_tree (branching b l r) k above rest kind next =
    after_append (context (advanced k 1) (suc above ∷ suc above ∷ rest) 0 kind next) (tree_records l) (tree_records r)
    ∙ ap (λ (x : Context). context_after_all x (tree_records r)) (after_tree l (advanced k 1) (suc above) (suc above ∷ rest) kind next)
    ∙ after_tree r (advanced (advanced k 1) (length (tree_records l))) (suc above) rest (kind_at_end l) (next_at_end l)
    ∙ same_context rest _ _
    (ap (λ (c : Counts). advanced c (length (tree_records r))) (more k 1 (length (tree_records l)) (suc (length (tree_records l))) (omega arith))
    ∙ more k (suc (length (tree_records l))) (length (tree_records r)) _ (let h = length-append (tree_records l) (tree_records r) in omega arith)) refl

pub after_scenarios : (ss : List Scenario) (k : Counts) (kind next : ℕ)
    → context_after_all (context k [] 0 kind next) (join_over scenario_records ss) ≡ context (continued k ss) [] 0 (kind_after kind ss) (next_after_all next ss)
unfolding context_after_all context_after join_over scenario_records sum_over
after_scenarios [] k kind next = same_context [] kind next (same_counts _ (omega arith) refl (omega arith) (omega arith)) refl
after_scenarios (s ∷ ss) k kind next =
    after_append (context (leaking k s.number s.frequency) (0 ∷ []) 0 kind next) (tree_records s.tree) (join_over scenario_records ss)
    ∙ ap (λ (x : Context). context_after_all x (join_over scenario_records ss)) (after_tree s.tree (leaking k s.number s.frequency) 0 [] kind next)
    ∙ after_scenarios ss (advanced (leaking k s.number s.frequency) (length (tree_records s.tree))) (kind_at_end s.tree) (next_at_end s.tree)
    ∙ same_context [] _ _
    (same_counts _ (let h = length-append (tree_records s.tree) (join_over scenario_records ss) in omega arith) refl (omega arith) (omega arith)) refl

pub after_targets : (n : ℕ) (ts : List Target) (k : Counts) (kind next : ℕ)
    → context_after_all (context k [] 0 kind next) (target_records n ts) ≡ context (extended k (length ts)) [] 0 kind next
unfolding context_after_all context_after target_records
after_targets n [] k kind next = same_context [] kind next (same_counts _ (omega arith) (omega arith) refl refl) refl
after_targets n (t ∷ ts) k kind next =
    after_targets (suc n) ts (declaring k) kind next
    ∙ same_context [] kind next (same_counts _ (omega arith) (omega arith) refl refl) refl

-- the record of a target under some number
abbrev pub numbered_record : Numbered → List Record
numbered_record t = target_rec t.number t.target ∷ []

pub after_numbered : (ts : List Numbered) (k : Counts) (kind next : ℕ)
    → context_after_all (context k [] 0 kind next) (join_over numbered_record ts) ≡ context (extended k (length ts)) [] 0 kind next
unfolding context_after_all context_after join_over
after_numbered [] k kind next = same_context [] kind next (same_counts _ (omega arith) (omega arith) refl refl) refl
after_numbered (t ∷ ts) k kind next =
    after_numbered ts (declaring k) kind next
    ∙ same_context [] kind next (same_counts _ (omega arith) (omega arith) refl refl) refl
