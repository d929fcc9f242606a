-- The trees still to come, and the outcome at hand, as the records of effects and of a valid tree are taken. Assumes nothing.
use mathlib.Core.Path.{◌≡◌, refl, ◌∙◌, ap}
use mathlib.Core.List.{List, [], ◌∷◌}
use Prim.Native.Nat.{ℕ, suc, ◌+◌, ◌*◌, ◌<◌, ◌≤◌}
use native.Mathlib.Omega.{arith}
use lib.ListN.{length, get_or}
use Rattle.numeric.specs.Share.{split_of}
use Rattle.model.specs.Bounds.{most_above, most_frequency}
use Rattle.model.specs.Content.{Branching, chance, Effect, Tree, outcome, branching}
use Rattle.model.specs.Format.{Record, opening_rec, target_rec, leak_rec, branching_rec, outcome_rec, effect_rec, closing_rec, effect_records, tree_records}
use Rattle.model.specs.Valid.{ValidTree}
use Rattle.model.specs.Machine.{accepted, effect_state, leak_branch, branched_branch, outcome_branch, effect_branch}
use Rattle.model.proofs.RunData.{Data, after, run, run_append}
use Rattle.model.proofs.StackLaws.{first_le, second_le, frequency_top, above_top, branched_length, branched_first, branched_second, branched_below, leak_length, leak_next}

-- the next tree, under a leak of x, is of frequency f under a branchings, and h trees stand below it
pub record Ready (d : Data) (h x f a : ℕ) : Type 0 where
  pub size : length d.stack ≡ 9
  pub height : d.branch.height ≡ suc h
  pub leak : d.branch.leak ≡ x
  pub next : get_or d.stack h 0 ≡ f * 16 + a

-- the outcome at hand: of kind k and frequency f, under a branchings and a leak of x
pub record AtHand (d : Data) (h x k f a : ℕ) : Type 0 where
  pub height : d.branch.height ≡ h
  pub leak : d.branch.leak ≡ x
  pub kind : d.branch.kind ≡ k
  pub frequency : d.branch.frequency ≡ f
  pub above : d.branch.above ≡ a

-- the next tree is taken, and those below it stand as they stood
pub record Taken (l : List ℕ) (d : Data) (h x : ℕ) : Type 0 where
  pub size : length d.stack ≡ 9
  pub height : d.branch.height ≡ h
  pub leak : d.branch.leak ≡ x
  pub below : (i : ℕ) → i < h → get_or d.stack i 0 ≡ get_or l i 0

-- the stack keeps its length
after_size : (d : Data) (r : Record) → length (after d r).stack ≡ length d.stack
unfolding after accepted effect_state
after_size d (opening_rec n) = refl
after_size d (target_rec n t) = refl
after_size d (leak_rec n f) = leak_length d.stack f
after_size d (branching_rec b) = branched_length d.stack d.branch.height (chance b)
after_size d (outcome_rec k n) = refl
after_size d (effect_rec e) = refl
after_size d (closing_rec n t) = refl

pub run_size : (d : Data) (rs : List Record) → length (run d rs).stack ≡ length d.stack
unfolding run
run_size d [] = refl
run_size d (r ∷ rs) = run_size (after d r) rs ∙ after_size d r

-- a leak
pub leak_ready : (d : Data) (n f : ℕ) → length d.stack ≡ 9 → f ≤ most_frequency → Ready (after d (leak_rec n f)) 0 f f 0
unfolding after accepted leak_branch
leak_ready d n f size small =
    record { size = leak_length d.stack f ∙ size; height = refl; leak = refl; next = leak_next d.stack f size small }

module _ (d : Data) (h leak f a : ℕ) (r : Ready d h leak f a) (low : h ≤ a) where
  -- an outcome
  pub outcome_at_hand : (k n : ℕ) → a ≤ suc most_above → AtHand (after d (outcome_rec k n)) h leak k f a
  unfolding after accepted outcome_branch
  outcome_at_hand k n shallow =
      let e = r.height in
      record {
        height = omega arith;
        leak = r.leak;
        kind = refl;
        frequency = frequency_top d.stack d.branch.height h f a r.height low shallow r.next;
        above = above_top d.stack d.branch.height h f a r.height low shallow r.next;
      }

  pub outcome_stack : (k n : ℕ) → (after d (outcome_rec k n)).stack ≡ d.stack
  unfolding after accepted
  outcome_stack k n = refl

  -- a branching: its first branch, and its second when the first is taken
  module _ (b : Branching) (shallow : a ≤ most_above) (small : f ≤ most_frequency) where
    pub first_ready : Ready (after d (branching_rec b)) (suc h) leak (split_of f (chance b)).first (suc a)
    unfolding after accepted branched_branch
    first_ready =
        let e = r.height in
        record {
          size = branched_length d.stack d.branch.height (chance b) ∙ r.size;
          height = omega arith;
          leak = r.leak;
          next = branched_first d.stack d.branch.height h f a (chance b) r.height low shallow r.next small r.size;
        }

    pub second_ready : (d' : Data) → Taken (after d (branching_rec b)).stack d' (suc h) leak → Ready d' h leak (split_of f (chance b)).second (suc a)
    unfolding after accepted
    second_ready d' t =
        record {
          size = t.size;
          height = t.height;
          leak = t.leak;
          next = t.below h (omega arith)
              ∙ branched_second d.stack d.branch.height h f a (chance b) r.height low shallow r.next small r.size;
        }

    -- both branches taken
    pub both_taken : (d₁ d₂ : Data) → Taken (after d (branching_rec b)).stack d₁ (suc h) leak → Taken d₁.stack d₂ h leak → Taken d.stack d₂ h leak
    unfolding after accepted
    both_taken d₁ d₂ t u =
        record {
          size = u.size;
          height = u.height;
          leak = u.leak;
          below = λ i k. u.below i k ∙ t.below i (omega arith)
              ∙ branched_below d.stack d.branch.height h f a (chance b) r.height low shallow r.next small r.size i k;
        }

-- an effect, and the effects of an outcome
pub effect_at_hand : (d : Data) (e : Effect) (h leak kind f a : ℕ) → AtHand d h leak kind f a → AtHand (after d (effect_rec e)) h leak kind f a
unfolding after accepted effect_state effect_branch
effect_at_hand d e h leak kind f a r = record { height = r.height; leak = r.leak; kind = r.kind; frequency = r.frequency; above = r.above }

effect_stack : (d : Data) (e : Effect) → (after d (effect_rec e)).stack ≡ d.stack
unfolding after accepted effect_state
effect_stack d e = refl

pub effects_at_hand : (d : Data) (es : List Effect) (h leak kind f a : ℕ) → AtHand d h leak kind f a → AtHand (run d (effect_records es)) h leak kind f a
unfolding run effect_records
effects_at_hand d [] h leak kind f a r = r
effects_at_hand d (e ∷ es) h leak kind f a r = effects_at_hand (after d (effect_rec e)) es h leak kind f a (effect_at_hand d e h leak kind f a r)

effects_stack : (d : Data) (es : List Effect) → (run d (effect_records es)).stack ≡ d.stack
unfolding run effect_records
effects_stack d [] = refl
effects_stack d (e ∷ es) = effects_stack (after d (effect_rec e)) es ∙ effect_stack d e

-- the records of a valid tree take the next tree
pub tree_taken : (t : Tree) (d : Data) (h leak f a targets : ℕ) → ValidTree targets a t → h ≤ a → a ≤ suc most_above → f ≤ most_frequency
    → Ready d h leak f a → Taken d.stack (run d (tree_records t)) h leak
unfolding run tree_records ValidTree
tree_taken (outcome k es) d h leak f a targets v low shallow small r =
    let d' : Data = after d (outcome_rec k (length es)) in
    let e : (run d' (effect_records es)).stack ≡ d.stack = effects_stack d' es ∙ outcome_stack d h leak f a r low k (length es) in
    let g = effects_at_hand d' es h leak k f a (outcome_at_hand d h leak f a r low k (length es) shallow) in
    record {
      size = ap length e ∙ r.size;
      height = g.height;
      leak = g.leak;
      below = λ i k. ap (λ (l : List ℕ). get_or l i 0) e;
    }
tree_taken (branching b l s) d h leak f a targets v low shallow small r =
    let d₀ : Data = after d (branching_rec b) in
    let d₁ : Data = run d₀ (tree_records l) in
    let k = first_le f (chance b) in
    let m = second_le f (chance b) in
    let j : a ≤ most_above = v.0 in
    let t : Taken d₀.stack d₁ (suc h) leak =
    tree_taken l d₀ (suc h) leak (split_of f (chance b)).first (suc a) targets v.2 (omega arith) (omega arith) (omega arith)
    (first_ready d h leak f a r low b j small) in
    let u : Taken d₁.stack (run d₁ (tree_records s)) h leak =
    tree_taken s d₁ h leak (split_of f (chance b)).second (suc a) targets v.3 (omega arith) (omega arith) (omega arith)
    (second_ready d h leak f a r low b j small d₁ t) in
    rw (run_append d₀ (tree_records l) (tree_records s)) (both_taken d h leak f a r low b j small d₁ _ t u)

-- the next tree is a branching: each of its branches is the next tree when it is due
pub record Branches (b : Branching) (l : Tree) (d : Data) (h leak f a : ℕ) : Type 0 where
  pub first : Ready (after d (branching_rec b)) (suc h) leak (split_of f (chance b)).first (suc a)
  pub first_small : (split_of f (chance b)).first ≤ most_frequency
  pub second : Ready (run (after d (branching_rec b)) (tree_records l)) h leak (split_of f (chance b)).second (suc a)
  pub second_small : (split_of f (chance b)).second ≤ most_frequency

pub branches : (b : Branching) (l m : Tree) (d : Data) (h leak f a targets : ℕ) → ValidTree targets a (branching b l m) → h ≤ a → f ≤ most_frequency → Ready d h leak f a
    → Branches b l d h leak f a
unfolding ValidTree
branches b l m d h leak f a targets v low small r =
    let i = first_le f (chance b) in
    let j = second_le f (chance b) in
    let g : a ≤ most_above = v.0 in
    let ready = first_ready d h leak f a r low b g small in
    record {
      first = ready;
      first_small = omega arith;
      second = second_ready d h leak f a r low b g small _ (tree_taken l (after d (branching_rec b)) (suc h) leak _ (suc a) targets v.2 (omega arith) (omega arith) (omega arith) ready);
      second_small = omega arith;
    }
