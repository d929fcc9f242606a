-- General laws of properties, totals, tests and joins over a list. Assumes nothing.
use mathlib.Core.Path.{◌≡◌, refl, sym, ◌∙◌, ap, subst}
use mathlib.Core.Bool.{Bool, true, false}
use mathlib.Core.Logic.{⊎_elim}
use mathlib.Core.List.Memᴰ
use mathlib.Core.List.{List, [], ◌∷◌, ◌++◌, append_assoc, append-nil, Memᴰ}
use Prim.Native.Nat.{ℕ, zero, suc, ◌+◌, ◌*◌, ◌<◌, ◌≤◌}
use native.Mathlib.Nat.{le_of_eq, add-le-add, add-mul, suc-mul, not-suc-le-zero}
use native.Mathlib.Decide.{ℕ_discrete}
use native.Mathlib.Omega.{arith}
use lib.ListN.{length, length-append}
use Rattle.numeric.specs.Choice.{pick, if_eq}
use Rattle.numeric.proofs.ChoiceLaws.{eq_case, ne_case}
use Rattle.model.specs.Sums.{sum_over, some, join_over, numbers_below}
use Rattle.model.specs.Valid.{Each, RiseFrom}

module _ {A : Type 0} where
  -- a property of every element holds of each element that is in the list
  pub each_at : (P : A → Type 0) (l : List A) → Each P l → (x : A) → Memᴰ x l → P x
  each_at P [] e x m = absurd (Memᴰ.not-nil m)
  each_at P (y ∷ l) e x m =
      ⊎_elim (λ q. subst P (sym q) e.0) (λ k. each_at P l e.1 x k) (Memᴰ.cases_cons m)

  -- a property of every element of two lists, one after the other
  pub each_append : (P : A → Type 0) (a b : List A) → Each P a → Each P b → Each P (a ++ b)
  each_append P [] b h i = i
  each_append P (x ∷ a) b h i = (h.0, each_append P a b h.1 i)

  pub each_parts : (P : A → Type 0) (a b : List A) → Each P (a ++ b) → Each P a × Each P b
  each_parts P [] b h = (tt, h)
  each_parts P (x ∷ a) b h = let w = each_parts P a b h.1 in ((h.0, w.0), w.1)

  pub sum_append : (f : A → ℕ) (a b : List A) → sum_over f (a ++ b) ≡ sum_over f a + sum_over f b
  unfolding sum_over
  sum_append f [] b = omega arith
  sum_append f (x ∷ a) b = let ih = sum_append f a b in omega arith

  -- figures that are equal at each element have equal totals
  pub sum_same : (f g : A → ℕ) (l : List A) → ((x : A) → Memᴰ x l → f x ≡ g x) → sum_over f l ≡ sum_over g l
  unfolding sum_over
  sum_same f g [] h = refl
  sum_same f g (x ∷ l) h =
      let e = h x (Memᴰ.head refl) in
      let ih = sum_same f g l (λ y m. h y (Memᴰ.tail m)) in
      omega arith

  -- a figure that is at most another at each element has a total that is at most the other's
  pub sum_le : (f g : A → ℕ) (l : List A) → ((x : A) → Memᴰ x l → f x ≤ g x) → sum_over f l ≤ sum_over g l
  unfolding sum_over
  sum_le f g [] h = omega arith
  sum_le f g (x ∷ l) h =
      add-le-add (h x (Memᴰ.head refl)) (sum_le f g l (λ y m. h y (Memᴰ.tail m)))

  pub sum_add : (f g : A → ℕ) (l : List A) → sum_over (λ x. f x + g x) l ≡ sum_over f l + sum_over g l
  unfolding sum_over
  sum_add f g [] = omega arith
  sum_add f g (x ∷ l) = let ih = sum_add f g l in omega arith

  pub sum_times : (f : A → ℕ) (k : ℕ) (l : List A) → sum_over (λ x. f x * k) l ≡ sum_over f l * k
  unfolding sum_over
  sum_times f k [] = omega arith
  sum_times f k (x ∷ l) = let ih = sum_times f k l in rw (add-mul (f x) (sum_over f l) k) (omega arith)

  -- figures of at most b have a total of at most b for each element
  pub sum_most : (f : A → ℕ) (b : ℕ) (l : List A) → ((x : A) → Memᴰ x l → f x ≤ b) → sum_over f l ≤ length l * b
  unfolding sum_over
  sum_most f b [] h = omega arith
  sum_most f b (x ∷ l) h =
      let e = h x (Memᴰ.head refl) in
      let ih = sum_most f b l (λ y m. h y (Memᴰ.tail m)) in
      rw (suc-mul (length l) b) (omega arith)

  pub sum_zero : (f : A → ℕ) (l : List A) → ((x : A) → Memᴰ x l → f x ≡ 0) → sum_over f l ≡ 0
  sum_zero f l h = let k = sum_most f 0 l (λ x m. le_of_eq (h x m)) in omega arith

  -- each element of a list whose figures rise from a bound has a figure of at least the bound
  pub rise_least : (f : A → ℕ) (least : ℕ) (l : List A) → RiseFrom f least l → (x : A) → Memᴰ x l → least ≤ f x
  rise_least f least [] r x m = absurd (Memᴰ.not-nil m)
  rise_least f least (y ∷ l) r x m =
      ⊎_elim (λ q. subst (λ (z : A). least ≤ f z) (sym q) r.0)
      (λ k. let h = rise_least f (suc (f y)) l r.1 x k in let g = r.0 in omega arith)
      (Memᴰ.cases_cons m)

  -- where the figures rise strictly, at most one element has the figure t
  pub rise_once : (f g : A → ℕ) (t b least : ℕ) (l : List A) → RiseFrom f least l → ((x : A) → Memᴰ x l → g x ≤ b)
      → sum_over (λ x. if_eq (f x) t (g x) 0) l ≤ b
  unfolding sum_over
  rise_once f g t b least [] r h = omega arith
  rise_once f g t b least (y ∷ l) r h = go (ℕ_discrete (f y) t) (rise_once f g t b (suc (f y)) l r.1 (λ x m. h x (Memᴰ.tail m)))
    where
      go : Dec (f y ≡ t) → sum_over (λ x. if_eq (f x) t (g x) 0) l ≤ b → if_eq (f y) t (g y) 0 + sum_over (λ x. if_eq (f x) t (g x) 0) l ≤ b
      go (yes e) ih =
          let a : g y ≡ if_eq (f y) t (g y) 0 = eq_case (f y) t (g y) 0 e refl in
          let z : sum_over (λ x. if_eq (f x) t (g x) 0) l ≡ 0 =
          sum_zero (λ x. if_eq (f x) t (g x) 0) l
          (λ x m. sym (ne_case (f x) t (g x) 0 (λ q. let k = rise_least f (suc (f y)) l r.1 x m in omega arith) refl)) in
          let k = h y (Memᴰ.head refl) in
          omega arith
      go (no n) ih = let a : 0 ≡ if_eq (f y) t (g y) 0 = ne_case (f y) t (g y) 0 n refl in omega arith

  -- a test holds at some element exactly when there is one in the list
  pub some_found : (f : A → Bool) (l : List A) → some f l ≡ true → (x : A) × Memᴰ x l × (f x ≡ true)
  unfolding some
  some_found f [] e = let z : ◌≡◌ {A = ℕ} 0 1 = cc in absurd (omega arith)
  some_found f (x ∷ l) e = go (f x) refl e (λ q. some_found f l q)
    where
      go : (t : Bool) → f x ≡ t → pick t true (some f l) ≡ true → (some f l ≡ true → (y : A) × Memᴰ y l × (f y ≡ true))
          → (y : A) × Memᴰ y (x ∷ l) × (f y ≡ true)
      go true q p ih = (x, Memᴰ.head refl, q)
      go false q p ih = let w = ih p in (w.0, Memᴰ.tail w.1, w.2)

  pub some_holds : (f : A → Bool) (l : List A) (x : A) → Memᴰ x l → f x ≡ true → some f l ≡ true
  unfolding some
  some_holds f [] x m e = absurd (Memᴰ.not-nil m)
  some_holds f (y ∷ l) x m e = ⊎_elim (λ q. first q) (λ k. rest (f y) (some_holds f l x k e)) (Memᴰ.cases_cons m)
    where
      first : x ≡ y → pick (f y) true (some f l) ≡ true
      first q = let u : f y ≡ true = subst (λ (z : A). f z ≡ true) q e in rw u

      rest : (t : Bool) → some f l ≡ true → pick t true (some f l) ≡ true
      rest true ih = refl
      rest false ih = ih

module _ {A B : Type 0} where
  pub join_append : (f : A → List B) (a b : List A) → join_over f (a ++ b) ≡ join_over f a ++ join_over f b
  unfolding join_over
  join_append f [] b = refl
  join_append f (x ∷ a) b = ap (λ (l : List B). f x ++ l) (join_append f a b) ∙ sym (append_assoc (f x) (join_over f a) (join_over f b))

  pub join_one : (f : A → List B) (x : A) → join_over f (x ∷ []) ≡ f x
  unfolding join_over
  join_one f x = append-nil (f x)

  -- what every joined list has, the join has
  pub each_join : (P : B → Type 0) (f : A → List B) (l : List A) → ((x : A) → Each P (f x)) → Each P (join_over f l)
  unfolding join_over
  each_join P f [] h = tt
  each_join P f (x ∷ l) h = each_append P (f x) (join_over f l) (h x) (each_join P f l h)

  pub length_join : (f : A → List B) (l : List A) → length (join_over f l) ≡ sum_over (λ x. length (f x)) l
  unfolding join_over sum_over
  length_join f [] = refl
  length_join f (x ∷ l) = length-append (f x) (join_over f l) ∙ ap (λ (n : ℕ). length (f x) + n) (length_join f l)

  -- a total over joined lists is the total of the lists' totals
  pub sum_join : (g : B → ℕ) (f : A → List B) (l : List A) → sum_over g (join_over f l) ≡ sum_over (λ x. sum_over g (f x)) l
  unfolding join_over sum_over
  sum_join g f [] = refl
  sum_join g f (x ∷ l) = sum_append g (f x) (join_over f l) ∙ ap (λ (n : ℕ). sum_over g (f x) + n) (sum_join g f l)

  -- an element is in joined lists exactly when it is in one of them
  pub join_found : (f : A → List B) (l : List A) (y : B) → Memᴰ y (join_over f l) → (x : A) × Memᴰ x l × Memᴰ y (f x)
  unfolding join_over
  join_found f [] y m = absurd (Memᴰ.not-nil m)
  join_found f (x ∷ l) y m =
      ⊎_elim (λ k. (x, Memᴰ.head refl, k))
      (λ k. let w = join_found f l y k in (w.0, Memᴰ.tail w.1, w.2))
      (Memᴰ.append_cases (f x) m)

  pub join_holds : (f : A → List B) (l : List A) (x : A) (y : B) → Memᴰ x l → Memᴰ y (f x) → Memᴰ y (join_over f l)
  unfolding join_over
  join_holds f [] x y m k = absurd (Memᴰ.not-nil m)
  join_holds f (z ∷ l) x y m k =
      ⊎_elim (λ q. Memᴰ.append_left (join_over f l) (subst (λ (u : A). Memᴰ y (f u)) q k))
      (λ n. Memᴰ.append_right (f z) (join_holds f l x y n k))
      (Memᴰ.cases_cons m)

module _ (f : ℕ → Bool) where
  -- the numbers below n at which a test holds are exactly those
  pub below_found : (n t : ℕ) → Memᴰ t (numbers_below f n) → (t < n) × (f t ≡ true)
  unfolding numbers_below
  below_found zero t m = absurd (Memᴰ.not-nil m)
  below_found (suc n) t m =
      ⊎_elim (λ k. let w = below_found n t k in let l = w.0 in (omega arith, w.1)) (λ k. last (f n) refl k)
      (Memᴰ.append_cases (numbers_below f n) m)
    where
      last : (u : Bool) → f n ≡ u → Memᴰ t (pick u (n ∷ []) []) → (t < suc n) × (f t ≡ true)
      last true e k = let q = Memᴰ.eq_of_singleton k in (omega arith, rw q e)
      last false e k = absurd (Memᴰ.not-nil k)

  pub below_holds : (n t : ℕ) → t < n → f t ≡ true → Memᴰ t (numbers_below f n)
  unfolding numbers_below
  below_holds zero t h e = absurd (not-suc-le-zero h)
  below_holds (suc n) t h e = go (ℕ_discrete t n) (λ k. below_holds n t k e)
    where
      go : Dec (t ≡ n) → (t < n → Memᴰ t (numbers_below f n)) → Memᴰ t (numbers_below f n ++ pick (f n) (n ∷ []) [])
      go (yes q) ih =
          let u : f n ≡ true = rw q at e in
          Memᴰ.append_right (numbers_below f n) (rw u (Memᴰ.head q))
      go (no k) ih = Memᴰ.append_left (pick (f n) (n ∷ []) []) (ih (omega arith))

-- a rising list of numbers below n still rises with n at its end
pub rise_last : (least n : ℕ) (l : List ℕ) → RiseFrom (λ t. t) least l → ((t : ℕ) → Memᴰ t l → t < n) → least ≤ n
    → RiseFrom (λ t. t) least (l ++ (n ∷ []))
rise_last least n [] r h k = (k, tt)
rise_last least n (x ∷ l) r h k =
    (r.0, rise_last (suc x) n l r.1 (λ t m. h t (Memᴰ.tail m)) (h x (Memᴰ.head refl)))

-- the numbers below n at which a test holds rise
pub below_rises : (f : ℕ → Bool) (n : ℕ) → RiseFrom (λ t. t) 0 (numbers_below f n)
unfolding numbers_below
below_rises f zero = tt
below_rises f (suc n) = go (f n) (below_rises f n)
  where
    go : (u : Bool) → RiseFrom (λ t. t) 0 (numbers_below f n) → RiseFrom (λ t. t) 0 (numbers_below f n ++ pick u (n ∷ []) [])
    go true ih = rise_last 0 n (numbers_below f n) ih (λ t m. (below_found f n t m).0) (omega arith)
    go false ih = rw (append-nil (numbers_below f n)) ih
