-- Case laws of the choices: a value is the chosen one, where the comparison's fact holds. Assumes nothing.
use mathlib.Core.Path.{◌≡◌, refl, sym, subst}
use mathlib.Core.Bool.{Bool, true, false}
use Prim.Native.Nat.{ℕ, ◌<◌, ◌≤◌}
use lib.Dec.{T, eqb, leb, ltb}
use borrow.Author.Tests.{eq-eqb, ne_eqb, lt-ltb, le-ltb, le-leb, lt-leb, eqb-true, eqb-false, leb-true, leb-false, ltb-true, ltb-false}
use Rattle.numeric.specs.Choice.{pick, if_eq, if_le, if_lt}

module _ {A : Type 0} where
  pub eq_case : (m n : ℕ) (x y : A) {r : A} → m ≡ n → r ≡ x → r ≡ if_eq m n x y
  unfolding if_eq
  eq_case m n x y h e = rw (eq-eqb m n h) e

  pub ne_case : (m n : ℕ) (x y : A) {r : A} → (m ≡ n → ⊥) → r ≡ y → r ≡ if_eq m n x y
  unfolding if_eq
  ne_case m n x y h e = rw (ne_eqb m n h) e

  pub le_case : (m n : ℕ) (x y : A) {r : A} → m ≤ n → r ≡ x → r ≡ if_le m n x y
  unfolding if_le
  le_case m n x y h e = rw (le-leb m n h) e

  pub gt_case : (m n : ℕ) (x y : A) {r : A} → n < m → r ≡ y → r ≡ if_le m n x y
  unfolding if_le
  gt_case m n x y h e = rw (lt-leb m n h) e

  pub lt_case : (m n : ℕ) (x y : A) {r : A} → m < n → r ≡ x → r ≡ if_lt m n x y
  unfolding if_lt
  lt_case m n x y h e = rw (lt-ltb m n h) e

  pub ge_case : (m n : ℕ) (x y : A) {r : A} → n ≤ m → r ≡ y → r ≡ if_lt m n x y
  unfolding if_lt
  ge_case m n x y h e = rw (le-ltb m n h) e

-- a choice whose test is known
pub picked_first : {A : Type 0} (b : Bool) (x y z : A) → z ≡ pick b x y → b ≡ true → z ≡ x
picked_first true x y z e h = e
picked_first false x y z e h = absurd (subst T (sym h) tt)

pub picked_second : {A : Type 0} (b : Bool) (x y z : A) → z ≡ pick b x y → b ≡ false → z ≡ y
picked_second true x y z e h = absurd (subst T h tt)
picked_second false x y z e h = e

-- what holds of both sides holds of the choice
pub pick_both : {A : Type 0} (P : A → Type 0) (b : Bool) (x y : A) → P x → P y → P (pick b x y)
pick_both P true x y p q = p
pick_both P false x y p q = q

module _ {A : Type 0} (P : A → Type 0) (m n : ℕ) (x y : A) (p : P x) (q : P y) where
  pub eq_both : P (if_eq m n x y)
  unfolding if_eq
  eq_both = pick_both P (eqb m n) x y p q

  pub le_both : P (if_le m n x y)
  unfolding if_le
  le_both = pick_both P (leb m n) x y p q

  pub lt_both : P (if_lt m n x y)
  unfolding if_lt
  lt_both = pick_both P (ltb m n) x y p q

-- A function goes through a choice: both sides are its values, and so is the choice.
module _ {A B : Type 0} (g : A → B) (m n : ℕ) {a b : A} {x y : B} (p : x ≡ g a) (q : y ≡ g b) where
  pick_through : (t : Bool) → pick t x y ≡ g (pick t a b)
  pick_through true = p
  pick_through false = q

  pub eq_through : if_eq m n x y ≡ g (if_eq m n a b)
  unfolding if_eq
  eq_through = pick_through (eqb m n)

  pub le_through : if_le m n x y ≡ g (if_le m n a b)
  unfolding if_le
  le_through = pick_through (leb m n)

-- A choice that is a value: the first side is, or the second, and the comparison says which.
picked_elim : {A C : Type 0} (b : Bool) (x y z : A) → pick b x y ≡ z → (b ≡ true → x ≡ z → C) → (b ≡ false → y ≡ z → C) → C
picked_elim true x y z e f g = f refl e
picked_elim false x y z e f g = g refl e

module _ {A C : Type 0} {m n : ℕ} {x y z : A} where
  pub eq_elim : if_eq m n x y ≡ z → (m ≡ n → x ≡ z → C) → ((m ≡ n → ⊥) → y ≡ z → C) → C
  unfolding if_eq
  eq_elim e f g = picked_elim (eqb m n) x y z e (λ q. f (eqb-true m n q)) (λ q. g (eqb-false m n q))

  pub le_elim : if_le m n x y ≡ z → (m ≤ n → x ≡ z → C) → (n < m → y ≡ z → C) → C
  unfolding if_le
  le_elim e f g = picked_elim (leb m n) x y z e (λ q. f (leb-true m n q)) (λ q. g (leb-false m n q))

  pub lt_elim : if_lt m n x y ≡ z → (m < n → x ≡ z → C) → (n ≤ m → y ≡ z → C) → C
  unfolding if_lt
  lt_elim e f g = picked_elim (ltb m n) x y z e (λ q. f (ltb-true m n q)) (λ q. g (ltb-false m n q))

-- a choice that is a value which one side is not is the other side
module _ {A : Type 0} (m n : ℕ) (x y z : A) where
  pub eq_first : if_eq m n x y ≡ z → (y ≡ z → ⊥) → (m ≡ n) × (x ≡ z)
  eq_first e f = eq_elim e (λ h q. (h, q)) (λ h q. absurd (f q))

  pub eq_second : if_eq m n x y ≡ z → (x ≡ z → ⊥) → (m ≡ n → ⊥) × (y ≡ z)
  eq_second e f = eq_elim e (λ h q. absurd (f q)) (λ h q. (h, q))

  pub le_first : if_le m n x y ≡ z → (y ≡ z → ⊥) → (m ≤ n) × (x ≡ z)
  le_first e f = le_elim e (λ h q. (h, q)) (λ h q. absurd (f q))

  pub le_second : if_le m n x y ≡ z → (x ≡ z → ⊥) → (n < m) × (y ≡ z)
  le_second e f = le_elim e (λ h q. absurd (f q)) (λ h q. (h, q))

  pub lt_first : if_lt m n x y ≡ z → (y ≡ z → ⊥) → (m < n) × (x ≡ z)
  lt_first e f = lt_elim e (λ h q. (h, q)) (λ h q. absurd (f q))

  pub lt_second : if_lt m n x y ≡ z → (x ≡ z → ⊥) → (n ≤ m) × (y ≡ z)
  lt_second e f = lt_elim e (λ h q. absurd (f q)) (λ h q. (h, q))
