-- Laws of a store in a fixed memory, and of the trees still to come packed in one. Assumes nothing.
use mathlib.Core.Path.{◌≡◌, refl, sym, ◌∙◌, ap, ap₂}
use mathlib.Core.List.{List}
use Prim.Native.Nat.{ℕ, suc, ◌+◌, ◌-◌, ◌*◌, ◌<◌, ◌≤◌}
use native.Mathlib.Omega.{arith}
use lib.ListN.{length, get_or, set, length-set}
use lib.Seq.{get_or-set_same, get_or-set_other}
use Rattle.numeric.specs.Share.{split_of}
use Rattle.numeric.proofs.ChoiceLaws.{ne_case, le_case, lt_case, lt_both}
use Rattle.model.specs.Bounds.{most_above, most_frequency}
use Rattle.model.specs.Machine.{store, fetch, packed, frequency_of, above_of, top, leak_stack, branch_stack}
use Rattle.model.proofs.OutcomeLaws.{split_total}

-- a store below the length
pub store_set : (n : ℕ) (l : List ℕ) (i v : ℕ) → i < n → store n l i v ≡ set l i v
unfolding store
store_set n l i v h = sym (lt_case i n (set l i v) l h refl)

pub stored_length : (n : ℕ) (l : List ℕ) (i v : ℕ) → length (store n l i v) ≡ length l
unfolding store
stored_length n l i v = lt_both (λ (x : List ℕ). length x ≡ length l) i n (set l i v) l (length-set l i v) refl

pub stored_here : (n : ℕ) (l : List ℕ) (i v : ℕ) → length l ≡ n → i < n → get_or (store n l i v) i 0 ≡ v
stored_here n l i v e h =
    let k : i < length l = omega arith in
    ap (λ (x : List ℕ). get_or x i 0) (store_set n l i v h) ∙ get_or-set_same l i v 0 k

pub stored_other : (n : ℕ) (l : List ℕ) (i j v : ℕ) → (j ≡ i → ⊥) → get_or (store n l i v) j 0 ≡ get_or l j 0
unfolding store
stored_other n l i j v h = lt_both (λ (x : List ℕ). get_or x j 0 ≡ get_or l j 0) i n (set l i v) l (get_or-set_other l i j v 0 h) refl

-- what is fetched below the length is what stands there
pub fetched : (n : ℕ) (l : List ℕ) (i : ℕ) → i < n → fetch n l i ≡ get_or l i 0
unfolding fetch
fetched n l i h = sym (lt_case i n (get_or l i 0) 0 h refl)

-- a tree of a valid content is packed whole, and comes out as it went in
pub packed_is : (f a : ℕ) → f ≤ most_frequency → a < 16 → packed f a ≡ f * 16 + a
unfolding packed
packed_is f a h k = omega arith

pub packed_whole : (f a : ℕ) → f ≤ most_frequency → a ≤ suc most_above → packed f a ≡ f * 16 + a
packed_whole f a h k = packed_is f a h (omega arith)

pub frequency_packed : (f a : ℕ) → a ≤ suc most_above → frequency_of (f * 16 + a) ≡ f
frequency_packed f a h = omega arith

pub above_packed : (f a : ℕ) → a ≤ suc most_above → above_of (f * 16 + a) ≡ a
above_packed f a h = omega arith

-- the next tree stands at the top
pub top_at : (l : List ℕ) (height h : ℕ) → height ≡ suc h → h < 9 → top l height ≡ get_or l h 0
unfolding top
top_at l height h e k =
    let i : height - 1 ≡ h = omega arith in
    sym (ne_case height 0 0 _ (λ z. omega arith) (le_case height 9 _ 0 (omega arith) (ap (λ (x : ℕ). get_or l x 0) (sym i))))

-- the branches of a frequency are at most the whole
pub first_le : (f p : ℕ) → (split_of f p).first ≤ f
first_le f p = let e = split_total f p in omega arith

pub second_le : (f p : ℕ) → (split_of f p).second ≤ f
second_le f p = let e = split_total f p in omega arith

-- the next tree is of frequency f under a branchings, and h trees stand below it
module _ (l : List ℕ) (height h f a : ℕ) (high : height ≡ suc h) (low : h ≤ a) (shallow : a ≤ suc most_above) (next : get_or l h 0 ≡ f * 16 + a) where
  pub frequency_top : frequency_of (top l height) ≡ f
  frequency_top = ap frequency_of (top_at l height h high (omega arith) ∙ next) ∙ frequency_packed f a shallow

  pub above_top : above_of (top l height) ≡ a
  above_top = ap above_of (top_at l height h high (omega arith) ∙ next) ∙ above_packed f a shallow

pub branched_length : (l : List ℕ) (height p : ℕ) → length (branch_stack l height p) ≡ length l
unfolding branch_stack
branched_length l height p = stored_length 9 _ height _ ∙ stored_length 9 l (height - 1) _

-- a branching takes it
module _ (l : List ℕ) (height h f a p : ℕ) (high : height ≡ suc h) (low : h ≤ a) (shallow : a ≤ most_above) (next : get_or l h 0 ≡ f * 16 + a)
    (small : f ≤ most_frequency) (size : length l ≡ 9) where
  place : height - 1 ≡ h
  place = omega arith

  frequency_tip : frequency_of (top l height) ≡ f
  frequency_tip = frequency_top l height h f a high low (omega arith) next

  above_tip : above_of (top l height) + 1 ≡ suc a
  above_tip = let e = above_top l height h f a high low (omega arith) next in omega arith

  pub branched_first : get_or (branch_stack l height p) (suc h) 0 ≡ (split_of f p).first * 16 + suc a
  unfolding branch_stack
  branched_first =
      let k = first_le f p in
      rw (← high)
      (stored_here 9 _ height _ (stored_length 9 l (height - 1) _ ∙ size) (omega arith)
      ∙ ap₂ (λ (x y : ℕ). packed (split_of x p).first y) frequency_tip above_tip
      ∙ packed_whole (split_of f p).first (suc a) (omega arith) (omega arith))

  pub branched_second : get_or (branch_stack l height p) h 0 ≡ (split_of f p).second * 16 + suc a
  unfolding branch_stack
  branched_second =
      let k = second_le f p in
      let v : ℕ = packed (split_of (frequency_of (top l height)) p).second (above_of (top l height) + 1) in
      stored_other 9 _ height h _ (λ e. omega arith)
      ∙ ap (λ (x : ℕ). get_or (store 9 l x v) h 0) place
      ∙ stored_here 9 l h v size (omega arith)
      ∙ ap₂ (λ (x y : ℕ). packed (split_of x p).second y) frequency_tip above_tip
      ∙ packed_whole (split_of f p).second (suc a) (omega arith) (omega arith)

  pub branched_below : (i : ℕ) → i < h → get_or (branch_stack l height p) i 0 ≡ get_or l i 0
  unfolding branch_stack
  branched_below i k =
      let e = place in
      stored_other 9 _ height i _ (λ z. omega arith) ∙ stored_other 9 l (height - 1) i _ (λ z. omega arith)

-- a leak's tree alone
pub leak_length : (l : List ℕ) (f : ℕ) → length (leak_stack l f) ≡ length l
unfolding leak_stack
leak_length l f = stored_length 9 l 0 _

pub leak_next : (l : List ℕ) (f : ℕ) → length l ≡ 9 → f ≤ most_frequency → get_or (leak_stack l f) 0 0 ≡ f * 16 + 0
unfolding leak_stack
leak_next l f e h = stored_here 9 l 0 _ e (omega arith) ∙ packed_whole f 0 h (omega arith)
