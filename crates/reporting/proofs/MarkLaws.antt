-- The marked targets, counted and written one after the other. Assumes nothing.
use mathlib.Core.Path.{◌≡◌, refl, sym, ◌∙◌, ap}
use mathlib.Core.Bool.{Bool, true, false}
use mathlib.Core.List.{List, [], ◌∷◌, ◌++◌, append_assoc, append-nil}
use Prim.Native.Nat.{ℕ, zero, suc, ◌+◌, ◌-◌, ◌<◌, ◌≤◌}
use native.Mathlib.Numerals.{add-one}
use native.Mathlib.Nat.{add-zero, add-suc, le_refl, add-sub_of_le}
use native.Mathlib.Omega.{arith}
use lib.ListN.{length, get_or, drop, set, take, length-append, length-drop}
use Rattle.std.specs.List.{count_by}
use Rattle.std.proofs.lemmas.List.Sums.{count_by_more_yes, count_by_more_no}
use lib.Seq.{drop-cons, set_at}
use Rattle.model.specs.Sums.{numbers_below}
use Rattle.model.specs.Calls.{front}
use Rattle.model.specs.Machine.{mark_of}

module _ (g : ℕ → Bool) where
  pub below_none : numbers_below g 0 ≡ []
  unfolding numbers_below
  below_none = refl

  pub below_in : (n : ℕ) → g n ≡ true → numbers_below g (n + 1) ≡ numbers_below g n ++ (n ∷ [])
  unfolding numbers_below
  below_in n h = rw (add-one, h) refl

  pub below_out : (n : ℕ) → g n ≡ false → numbers_below g (n + 1) ≡ numbers_below g n
  unfolding numbers_below
  below_out n h = rw (add-one, h) (append-nil (numbers_below g n))

  -- how many: one more, or the same
  pub count_in : (n : ℕ) → g n ≡ true → length (numbers_below g (n + 1)) ≡ length (numbers_below g n) + 1
  count_in n h = ap length (below_in n h) ∙ length-append (numbers_below g n) (n ∷ [])

  pub count_out : (n : ℕ) → g n ≡ false → length (numbers_below g (n + 1)) ≡ length (numbers_below g n)
  count_out n h = ap length (below_out n h)

  -- below more there are no fewer
  count_mono : (n k : ℕ) → length (numbers_below g n) ≤ length (numbers_below g (n + k))
  unfolding numbers_below
  count_mono n zero = rw add-zero (le_refl _)
  count_mono n (suc k) =
      let ih = count_mono n k in
      rw (add-suc, length-append) (omega arith)

  pub count_below : (n k : ℕ) → n ≤ k → length (numbers_below g n) ≤ length (numbers_below g k)
  count_below n k h = rw (add-sub_of_le h) at (count_mono n (k - n))

  -- a list whose front is the first numbers, with one store more
  module _ (d : List ℕ) where
    pub front_none : front (numbers_below g 0) d ≡ d
    unfolding front numbers_below
    front_none = refl

    pub front_in : (n k : ℕ) → k ≡ length (numbers_below g n) → g n ≡ true → k < length d
        → set (front (numbers_below g n) d) k n ≡ front (numbers_below g (n + 1)) d
    unfolding front
    front_in n k e h f =
        let w : length (numbers_below g n) < length d = omega arith in
        rw (below_in n h, length-append, append_assoc)
        (rw (add-one, drop-cons d (length (numbers_below g n)) 0 w)
        (set_at (numbers_below g n) (get_or d (length (numbers_below g n)) 0) (drop (suc (length (numbers_below g n))) d) n k (sym e)))

    pub front_out : (n : ℕ) → g n ≡ false → front (numbers_below g n) d ≡ front (numbers_below g (n + 1)) d
    front_out n h = ap (λ (x : List ℕ). front x d) (sym (below_out n h))

    pub front_length : (n : ℕ) → length (numbers_below g n) ≤ length d → length (front (numbers_below g n) d) ≡ length d
    unfolding front
    front_length n h = rw (length-append, length-drop) (omega arith)

-- below t, the marked targets are counted, and written to the front of a list
pub record Written (facts : List ℕ) (t count : ℕ) (list start : List ℕ) : Type 0 where
  pub counted : count ≡ length (numbers_below (λ k. mark_of (get_or facts k 0)) t)
  pub written : list ≡ front (numbers_below (λ k. mark_of (get_or facts k 0)) t) start

-- where all that are marked below n have room
module _ (facts start list : List ℕ) (n t count : ℕ) (w : Written facts t count list start) (h : length (numbers_below (λ k. mark_of (get_or facts k 0)) n) ≤ length start) (b : t < n) where
  abbrev g : ℕ → Bool
  g k = mark_of (get_or facts k 0)

  module _ (e : mark_of (get_or facts t 0) ≡ true) where
    in_start : count < length start
    in_start =
        let c = count_in g t e in
        let m : length (numbers_below g (t + 1)) ≤ length (numbers_below g n) = count_below g (t + 1) n (omega arith) in
        omega (arith, w.counted)

    pub room : count < length list
    room = let m = count_below g t n (omega arith) in omega (arith, in_start, ap length w.written, front_length g start t (omega arith))

    pub one_in : Written facts (t + 1) (count + 1) (set list count t) start
    one_in =
        record {
          counted = ap (λ (x : ℕ). x + 1) w.counted ∙ sym (count_in g t e);
          written = ap (λ (x : List ℕ). set x count t) w.written ∙ front_in g start t count w.counted e in_start;
        }

  pub one_out : mark_of (get_or facts t 0) ≡ false → Written facts (t + 1) count list start
  one_out e = record { counted = w.counted ∙ sym (count_out g t e); written = w.written ∙ front_out g start t e }

-- the first numbers of a list that pass a test are as many as their places
module _ (p : ℕ → Bool) (l : List ℕ) where
  pub count_marks : (n : ℕ) → n ≤ length l → count_by p (take n l) ≡ length (numbers_below (λ t. p (get_or l t 0)) n)
  count_marks zero h = ap length (sym (below_none _))
  count_marks (suc n) h = go (count_marks n (omega arith)) (p (get_or l n 0)) refl
    where
      go : count_by p (take n l) ≡ length (numbers_below (λ t. p (get_or l t 0)) n) → (b : Bool) → p (get_or l n 0) ≡ b
          → count_by p (take (suc n) l) ≡ length (numbers_below (λ t. p (get_or l t 0)) (suc n))
      go ih true e = let a = count_by_more_yes p l n 0 (omega arith) e in let b = count_in (λ t. p (get_or l t 0)) n e in rw (add-one) at (a ∙ ap (λ (x : ℕ). x + 1) ih ∙ sym b)
      go ih false e = let a = count_by_more_no p l n 0 (omega arith) e in let b = count_out (λ t. p (get_or l t 0)) n e in rw (add-one) at (a ∙ ih ∙ sym b)
