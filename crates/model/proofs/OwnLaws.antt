-- Records keep the rules of their own kinds and fit their bytes exactly when the parts of a study that they belong to are valid. Assumes nothing.
use mathlib.Core.Path.{◌≡◌, refl, sym, ◌∙◌, ap₂}
use mathlib.Core.List.{List, [], ◌∷◌}
use Prim.Native.Nat.{ℕ, suc, ◌+◌, ◌-◌, ◌^◌, ◌<◌, ◌≤◌}
use native.Mathlib.Numerals.{add-one}
use native.Mathlib.Decide.{ℕ_discrete}
use native.Mathlib.Omega.{arith}
use lib.ListN.{length}
use Rattle.state.specs.declared.Counts.{Counts}
use Rattle.model.specs.Bounds.{most_targets, most_scenarios}
use Rattle.model.specs.Sums.{join_over}
use Rattle.model.specs.Content.{Branching, given, on_curve, Target, described, Effect, in_seconds, timed, target_of, intensity, duration, Tree, outcome, branching, Scenario}
use Rattle.model.specs.Format.{Record, target_rec, branching_rec, effect_rec, target_records, effect_records, tree_records, scenario_records}
use Rattle.model.specs.Valid.{Each, RiseFrom, ValidTarget, ValidBranching, ValidEffect, ValidTree, ValidScenario}
use Rattle.model.specs.Faults.{context, declaring, leaking, own_fault, context_after}
use Rattle.model.specs.MachineTheorems.{Numbered}
use Rattle.model.proofs.Accepts.{Fits}
use Rattle.model.proofs.FaultLaws.{target_facts, target_free, LeakTaken, leak_facts, leak_free, branching_facts, branching_free, chance_facts, chance_free, outcome_facts, outcome_free, effect_facts, effect_free, unit_facts, unit_free}
use Rattle.model.proofs.ContextLaws.{advanced, kind_at_end, next_at_end, numbered_record, after_tree}
use Rattle.model.proofs.ListLaws.{each_append, each_parts}
use Rattle.model.proofs.AcceptLaws.{AllOwn, own_append, own_parts}

pub effects_own : (es : List Effect) (k : Counts) (trees : List ℕ) (left kind next : ℕ) → Each (ValidEffect kind k.targets) es → RiseFrom target_of next es
    → AllOwn (context k trees left kind next) (effect_records es)
unfolding AllOwn own_fault context_after effect_records
effects_own [] k trees left kind next v r = tt
effects_own (e ∷ es) k trees left kind next v r = (
  unit_free e _ v.0.unit
      (effect_free k.targets kind next (target_of e) (intensity e) (duration e)
      (record { fire = v.0.fire; other = v.0.other; flash = v.0.flash; rising = r.0; declared = v.0.declared })),
  effects_own es (advanced k 1) trees (left - 1) kind (target_of e + 1) v.1 (rw (add-one (target_of e)) r.1),
)

-- the widths of an effect's fields
effect_widths : (e : Effect) → Fits (effect_rec e) → (intensity e < 2 ^ 32) × (duration e < 2 ^ 16)
unfolding Fits
effect_widths (in_seconds t i d) f = (f.1, f.2)
effect_widths (timed t i d u) f = (f.1, f.2)

branching_fits : (b : Branching) → ValidBranching b → Fits (branching_rec b)
unfolding Fits
branching_fits (given p) v = omega arith
branching_fits (on_curve c r) v = (omega (arith, v.1), v.3)

pub effects_valid : (es : List Effect) (k : Counts) (trees : List ℕ) (left kind next : ℕ) → AllOwn (context k trees left kind next) (effect_records es) → Each Fits (effect_records es)
    → Each (ValidEffect kind k.targets) es × RiseFrom target_of next es
unfolding AllOwn own_fault context_after effect_records Fits
effects_valid [] k trees left kind next o f = (tt, tt)
effects_valid (e ∷ es) k trees left kind next o f =
    let z = unit_facts e _ o.0 in
    let h = effect_facts k.targets kind next (target_of e) (intensity e) (duration e) z.1 in
    let w = effects_valid es (advanced k 1) trees (left - 1) kind (target_of e + 1) o.1 f.1 in (
      (record { declared = h.declared; fits = effect_widths e f.0; fire = h.fire; other = h.other; flash = h.flash; unit = z.0 }, w.0),
      (h.rising, rw (add-one (target_of e)) at w.1),
    )

pub effects_fit : (es : List Effect) (kind targets : ℕ) → targets ≤ most_targets → Each (ValidEffect kind targets) es → Each Fits (effect_records es)
unfolding effect_records Fits
effects_fit [] kind targets h v = tt
effects_fit (in_seconds t i d ∷ es) kind targets h v =
    let l = v.0.declared in
    ((omega arith, v.0.fits.0, v.0.fits.1), effects_fit es kind targets h v.1)
effects_fit (timed t i d u ∷ es) kind targets h v =
    let l = v.0.declared in
    let n = v.0.unit in
    ((omega arith, v.0.fits.0, v.0.fits.1, omega arith), effects_fit es kind targets h v.1)

pub tree_own : (t : Tree) (k : Counts) (above : ℕ) (rest : List ℕ) (kind next : ℕ) → ValidTree k.targets above t
    → AllOwn (context k (above ∷ rest) 0 kind next) (tree_records t)
unfolding AllOwn own_fault context_after tree_records ValidTree
tree_own (outcome j es) k above rest kind next v = (
  outcome_free j (length es) (record { known = v.known; few = v.few; none = v.none }),
  effects_own es (advanced k 1) rest (length es) j 0 v.effects v.rising,
)
tree_own (branching b l r) k above rest kind next v = (
  branching_free above b v.0 (chance_free b v.1),
  own_append (context (advanced k 1) (suc above ∷ suc above ∷ rest) 0 kind next) (tree_records l) (tree_records r)
      (tree_own l (advanced k 1) (suc above) (suc above ∷ rest) kind next v.2)
      (rw (after_tree l (advanced k 1) (suc above) (suc above ∷ rest) kind next)
      (tree_own r (advanced (advanced k 1) (length (tree_records l))) (suc above) rest (kind_at_end l) (next_at_end l) v.3)),
)

pub tree_valid : (t : Tree) (k : Counts) (above : ℕ) (rest : List ℕ) (kind next : ℕ) → AllOwn (context k (above ∷ rest) 0 kind next) (tree_records t) → Each Fits (tree_records t)
    → ValidTree k.targets above t
unfolding AllOwn own_fault context_after tree_records ValidTree
tree_valid (outcome j es) k above rest kind next o f =
    let h = outcome_facts j (length es) o.0 in
    let w = effects_valid es (advanced k 1) rest (length es) j 0 o.1 f.1 in
    record { known = h.known; few = h.few; none = h.none; effects = w.0; rising = w.1 }
tree_valid (branching b l r) k above rest kind next o f =
    let h = branching_facts above b o.0 in
    let w = own_parts (context (advanced k 1) (suc above ∷ suc above ∷ rest) 0 kind next) (tree_records l) (tree_records r) o.1 in
    let g = each_parts Fits (tree_records l) (tree_records r) f.1 in (
      h.0,
      chance_facts b h.1 f.0,
      tree_valid l (advanced k 1) (suc above) (suc above ∷ rest) kind next w.0 g.0,
      tree_valid r (advanced (advanced k 1) (length (tree_records l))) (suc above) rest (kind_at_end l) (next_at_end l)
          (rw (after_tree l (advanced k 1) (suc above) (suc above ∷ rest) kind next) at w.1) g.1,
    )

pub tree_fits : (t : Tree) (targets above : ℕ) → targets ≤ most_targets → ValidTree targets above t → Each Fits (tree_records t)
unfolding tree_records Fits ValidTree
tree_fits (outcome j es) targets above h v =
    let a = v.known in
    let b = v.few in
    ((omega arith, omega arith), effects_fit es j targets h v.effects)
tree_fits (branching b l r) targets above h v =
    (branching_fits b v.1, each_append Fits (tree_records l) (tree_records r) (tree_fits l targets (suc above) h v.2) (tree_fits r targets (suc above) h v.3))

-- The least number that the next scenario may have: any before the first one, then one above the last.
pub record LeastNumber (k : Counts) (least : ℕ) : Type 0 where
  pub first : k.scenarios ≡ 0 → least ≡ 0
  pub later : 0 < k.scenarios → least ≡ suc k.last

pub record ScenariosValid (k : Counts) (least : ℕ) (ss : List Scenario) : Type 0 where
  pub few : k.scenarios + length ss ≤ most_scenarios
  pub rising : RiseFrom (λ s. s.number) least ss
  pub each : Each (ValidScenario k.targets) ss

-- the counts after a scenario
abbrev after : Counts → Scenario → Counts
after k s = advanced (leaking k s.number s.frequency) (length (tree_records s.tree))

next_number : (k : Counts) (s : Scenario) → LeastNumber (after k s) (suc s.number)
next_number k s = record { first = λ h. absurd (omega arith); later = λ h. refl }

scenario_more : (s : Scenario) (ss : List Scenario) (k : Counts) (least : ℕ) → LeastNumber k least → LeakTaken k.scenarios k.last s.number s.frequency
    → s.number < 2 ^ 32 → ValidTree k.targets 0 s.tree → ScenariosValid (after k s) (suc s.number) ss → ScenariosValid k least (s ∷ ss)
scenario_more s ss k least l t n v w =
    let a = w.few in
    record {
      few = omega arith;
      rising = (go (ℕ_discrete k.scenarios 0), w.rising);
      each = (record { number = n; least = t.least; most = t.most; tree = v }, w.each);
    }
  where
    go : Dec (k.scenarios ≡ 0) → least ≤ s.number
    go (yes z) = let h = l.first z in omega arith
    go (no z) = let p : 0 < k.scenarios = omega arith in let h = l.later p in let i = t.rising p in omega arith

pub scenarios_own : (ss : List Scenario) (k : Counts) (kind next least : ℕ) → LeastNumber k least → ScenariosValid k least ss
    → AllOwn (context k [] 0 kind next) (join_over scenario_records ss)
unfolding AllOwn own_fault context_after join_over scenario_records
scenarios_own [] k kind next least l v = tt
scenarios_own (s ∷ ss) k kind next least l v =
    let few = v.few in (
      leak_free k.scenarios k.last s.number s.frequency
          (record {
            few = omega arith;
            least = v.each.0.least;
            most = v.each.0.most;
            rising = λ p. let h = l.later p in let i = v.rising.0 in omega arith;
          }),
      own_append (context (leaking k s.number s.frequency) (0 ∷ []) 0 kind next) (tree_records s.tree) (join_over scenario_records ss)
          (tree_own s.tree (leaking k s.number s.frequency) 0 [] kind next v.each.0.tree)
          (rw (after_tree s.tree (leaking k s.number s.frequency) 0 [] kind next)
          (scenarios_own ss (after k s) (kind_at_end s.tree) (next_at_end s.tree) (suc s.number)
          (next_number k s)
          (record { few = omega arith; rising = v.rising.1; each = v.each.1 }))),
    )

pub scenarios_valid : (ss : List Scenario) (k : Counts) (kind next least : ℕ) → LeastNumber k least → k.scenarios ≤ most_scenarios
    → AllOwn (context k [] 0 kind next) (join_over scenario_records ss) → Each Fits (join_over scenario_records ss) → ScenariosValid k least ss
unfolding AllOwn own_fault context_after join_over scenario_records Fits
scenarios_valid [] k kind next least l h o f = record { few = omega arith; rising = tt; each = tt }
scenarios_valid (s ∷ ss) k kind next least l h o f =
    let t = leak_facts k.scenarios k.last s.number s.frequency o.0 in
    let w = own_parts (context (leaking k s.number s.frequency) (0 ∷ []) 0 kind next) (tree_records s.tree) (join_over scenario_records ss) o.1 in
    let g = each_parts Fits (tree_records s.tree) (join_over scenario_records ss) f.1 in
    let few = t.few in
    scenario_more s ss k least l t f.0.0
    (tree_valid s.tree (leaking k s.number s.frequency) 0 [] kind next w.0 g.0)
    (scenarios_valid ss (after k s) (kind_at_end s.tree) (next_at_end s.tree) (suc s.number)
    (next_number k s) (omega arith)
    (rw (after_tree s.tree (leaking k s.number s.frequency) 0 [] kind next) at w.1) g.1)

pub scenarios_fit : (ss : List Scenario) (targets : ℕ) → targets ≤ most_targets → Each (ValidScenario targets) ss → Each Fits (join_over scenario_records ss)
unfolding join_over scenario_records Fits
scenarios_fit [] targets h v = tt
scenarios_fit (s ∷ ss) targets h v =
    let a = v.0.most in (
      (v.0.number, omega arith),
      each_append Fits (tree_records s.tree) (join_over scenario_records ss) (tree_fits s.tree targets 0 h v.0.tree) (scenarios_fit ss targets h v.1),
    )

pub targets_own : (ts : List Target) (n : ℕ) (k : Counts) (kind next : ℕ) → n ≡ k.targets → k.targets + length ts ≤ most_targets → Each ValidTarget ts
    → AllOwn (context k [] 0 kind next) (target_records n ts)
unfolding AllOwn own_fault context_after target_records
targets_own [] n k kind next p h v = tt
targets_own (t ∷ ts) n k kind next p h v = (
  target_free k.targets n t (record { few = omega arith; valid = v.0; place = p }),
  targets_own ts (suc n) (declaring k) kind next (omega arith) (omega arith) v.1,
)

pub targets_valid : (ts : List Target) (n : ℕ) (k : Counts) (kind next : ℕ) → k.targets ≤ most_targets → AllOwn (context k [] 0 kind next) (target_records n ts)
    → (k.targets + length ts ≤ most_targets) × Each ValidTarget ts
unfolding AllOwn own_fault context_after target_records
targets_valid [] n k kind next h o = (omega arith, tt)
targets_valid (t ∷ ts) n k kind next h o =
    let f = target_facts k.targets n t o.0 in
    let few = f.few in
    let w = targets_valid ts (suc n) (declaring k) kind next (omega arith) o.1 in
    let g = w.0 in
    (omega arith, (f.valid, w.1))

pub targets_fit : (ts : List Target) (n : ℕ) → n + length ts ≤ most_targets → Each ValidTarget ts → Each Fits (target_records n ts)
unfolding target_records Fits
targets_fit [] n h v = tt
targets_fit (described f ∷ ts) n h v =
    let a = v.0.class in
    let b = v.0.setting in
    let c = v.0.volume in
    ((omega arith, omega arith, omega arith, omega arith), targets_fit ts (suc n) (omega arith) v.1)

-- numbered targets that keep their rules are numbered by their places
abbrev pub bare : List Numbered → List Target
bare [] = []
bare (t ∷ ts) = t.target ∷ bare ts

pub numbered_places : (ts : List Numbered) (n : ℕ) (k : Counts) (kind next : ℕ) → n ≡ k.targets → AllOwn (context k [] 0 kind next) (join_over numbered_record ts)
    → join_over numbered_record ts ≡ target_records n (bare ts)
unfolding AllOwn own_fault context_after join_over target_records
numbered_places [] n k kind next p o = refl
numbered_places (t ∷ ts) n k kind next p o =
    let f = (target_facts k.targets t.number t.target o.0).place in
    ap₂ (λ (m : ℕ) (l : List Record). target_rec m t.target ∷ l) (f ∙ sym p)
    (numbered_places ts (suc n) (declaring k) kind next (omega arith) o.1)
