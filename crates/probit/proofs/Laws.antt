-- Laws of the chance that a probit stands for. Assumes nothing.
use mathlib.Core.Path.{◌≡◌, refl, sym, ◌∙◌, ap, ap₂, subst}
use mathlib.Core.Bool.{Bool, true, false}
use mathlib.Core.List.Memᴰ
use mathlib.Core.List.{List, [], ◌∷◌, ◌++◌, map, Memᴰ}
use mathlib.Core.Logic.{◌⊎◌, inl, inr, ⊎_elim}
use Prim.Native.Nat.{ℕ, zero, suc, ◌+◌, ◌-◌, ◌*◌, ◌/◌, ◌<◌, ◌≤◌, max, min}
use native.Mathlib.Nat.{add-zero, sub-zero, zero-max, max-zero, zero-mul, suc-mul, not-suc-le-zero, le_trans, lt_of_lt_of_le, le_of_eq, max-le}
use native.Mathlib.Decide.{dec_le}
use native.Mathlib.Omega.{arith}
use lib.Dec.{T, eqb, leb, ltb, eqb→eq, leb→le, ltb→lt}
use lib.IntN.{ℤ, pos, negsuc, ◌-ℤ◌}
use lib.Signed.{le_z, le_z_yes, ◌≤ℤ◌}
use lib.ListN.{length, get_or, get_or-append}
use lib.Seq.{get_or-append-add}
use borrow.Author.Tests.{lt-ltb, le-ltb, le-leb, lt-leb}
use Rattle.numeric.specs.Choice.{pick}
use Rattle.numeric.proofs.TableLaws.{both, both_left, both_right, every, entry, get_or_entry, at, rising}
use Rattle.probit.specs.Table.{Row, rows_from, whole_percents, tenths_of_percent, probits, probit_table}
use Rattle.probit.specs.Rows.{FirstRows, last_chance, LastReached, RowsReached, rows, RightRows}
use Rattle.probit.specs.Chance.{greatest_chance, chance_of, ChanceRule}

-- a difference of two naturals, by its sign
difference_pos : (a b : ℕ) → b ≤ a → pos a -ℤ pos b ≡ pos (a - b)
difference_pos a zero h = ap pos (add-zero a ∙ sym (sub-zero a))
difference_pos a (suc b) h = rw (le-ltb a (suc b) h) refl

difference_neg : (a b : ℕ) → a < b → pos a -ℤ pos b ≡ negsuc (b - suc a)
difference_neg a zero h = absurd (not-suc-le-zero h)
difference_neg a (suc b) h = rw (lt-ltb a (suc b) h) refl

-- a negative probit reaches no row
none_negative : (rs : List Row) (k : ℕ) → greatest_chance rs (negsuc k) ≡ 0
unfolding greatest_chance
none_negative [] k = refl
none_negative (r ∷ rs) k = none_negative rs k

chance_negative : (k : ℕ) → chance_of (negsuc k) ≡ 0
unfolding chance_of
chance_negative k = none_negative probit_table k

-- nor does 0
chance_of_zero : chance_of (pos 0) ≡ 0
unfolding chance_of probit_table greatest_chance
chance_of_zero = refl

-- the rows of two lists joined
chance_append : (a b : List Row) (y : ℕ) → greatest_chance (a ++ b) (pos y) ≡ max (greatest_chance a (pos y)) (greatest_chance b (pos y))
unfolding greatest_chance
chance_append [] b y = sym (zero-max (greatest_chance b (pos y)))
chance_append (r ∷ a) b y = go (leb r.probit y) (chance_append a b y)
  where
    go : (t : Bool) → greatest_chance (a ++ b) (pos y) ≡ max (greatest_chance a (pos y)) (greatest_chance b (pos y))
        → pick t (max r.chance (greatest_chance (a ++ b) (pos y))) (greatest_chance (a ++ b) (pos y))
        ≡ max (pick t (max r.chance (greatest_chance a (pos y))) (greatest_chance a (pos y))) (greatest_chance b (pos y))
    go true e = omega arith
    go false e = e

-- the chance of the first n of some rows that start at c and rise by s
unfoldable pub of_rows : ℕ → ℕ → ℕ → ℕ
of_rows c s zero = 0
of_rows c s (suc n) = c + n * s

-- one row more in front
row_more : (c s n : ℕ) → max c (of_rows (c + s) s n) ≡ of_rows c s (suc n)
unfolding of_rows
row_more c s zero = rw (zero-mul s) (omega arith)
row_more c s (suc n) = rw (suc-mul n s) (omega arith)

-- where exactly the first n of a list of probits are at most y, the greatest chance is that of the n-th
first_rows : (ys : List ℕ) (c s y n : ℕ) → n ≤ length ys
    → ((i : ℕ) → i < n → get_or ys i 0 * 10000 ≤ y)
    → ((i : ℕ) → n ≤ i → i < length ys → y < get_or ys i 0 * 10000)
    → greatest_chance (rows_from c s ys) (pos y) ≡ of_rows c s n
unfolding greatest_chance of_rows
first_rows [] c s y zero h lo hi = refl
first_rows [] c s y (suc n) h lo hi = absurd (not-suc-le-zero h)
first_rows (z ∷ ys) c s y zero h lo hi =
    let ih = first_rows ys (c + s) s y zero (omega arith) (λ i k. absurd (not-suc-le-zero k)) (λ i a b. hi (suc i) (omega arith) (omega arith)) in
    rw (lt-leb (z * 10000) y (hi 0 (omega arith) (omega arith))) ih
first_rows (z ∷ ys) c s y (suc n) h lo hi =
    let ih = first_rows ys (c + s) s y n (omega arith) (λ i k. lo (suc i) (omega arith)) (λ i a b. hi (suc i) (omega arith) (omega arith)) in
    rw (le-leb (z * 10000) y (lo 0 (omega arith))) (ap (λ (x : ℕ). max c x) ih ∙ row_more c s n)

-- The two parts of the table: the first n of all rows are the first of the whole percents and the first of the tenths.
module _ (y n : ℕ) (f : FirstRows (y / 10000) n) where
  whole_reached : (i : ℕ) → i < min n 99 → get_or whole_percents i 0 * 10000 ≤ y
  whole_reached i k =
      let e : get_or probits i 0 ≡ get_or whole_percents i 0 = get_or-append whole_percents tenths_of_percent 0 i (omega arith) in
      let r = f.reached i (omega arith) in
      omega arith

  whole_beyond : (i : ℕ) → min n 99 ≤ i → i < 99 → y < get_or whole_percents i 0 * 10000
  whole_beyond i a b =
      let e : get_or probits i 0 ≡ get_or whole_percents i 0 = get_or-append whole_percents tenths_of_percent 0 i b in
      let r = f.beyond i (omega arith) (omega arith) in
      omega arith

  tenths_reached : (i : ℕ) → i < n - 99 → get_or tenths_of_percent i 0 * 10000 ≤ y
  tenths_reached i k =
      let e : get_or probits (99 + i) 0 ≡ get_or tenths_of_percent i 0 = get_or-append-add whole_percents tenths_of_percent i 0 in
      let r = f.reached (99 + i) (omega arith) in
      omega arith

  tenths_beyond : (i : ℕ) → n - 99 ≤ i → i < 9 → y < get_or tenths_of_percent i 0 * 10000
  tenths_beyond i a b =
      let e : get_or probits (99 + i) 0 ≡ get_or tenths_of_percent i 0 = get_or-append-add whole_percents tenths_of_percent i 0 in
      let r = f.beyond (99 + i) (omega arith) (omega arith) in
      omega arith

  chance_rows : chance_of (pos y) ≡ max (of_rows 10000 10000 (min n 99)) (of_rows 991000 1000 (n - 99))
  unfolding chance_of probit_table
  chance_rows =
      let w = f.within in
      chance_append (rows_from 10000 10000 whole_percents) (rows_from 991000 1000 tenths_of_percent) y
      ∙ ap₂ max
      (first_rows whole_percents 10000 10000 y (min n 99) (omega arith) whole_reached whole_beyond)
      (first_rows tenths_of_percent 991000 1000 y (n - 99) (omega arith) tenths_reached tenths_beyond)

of_rows_whole : (n : ℕ) → of_rows 10000 10000 n ≡ n * 10000
unfolding of_rows
of_rows_whole zero = refl
of_rows_whole (suc n) = omega arith

of_rows_tenths : (n : ℕ) → 0 < n → of_rows 991000 1000 n ≡ 990000 + n * 1000
unfolding of_rows
of_rows_tenths zero h = absurd (not-suc-le-zero h)
of_rows_tenths (suc n) h = omega arith

-- the chance of the n-th row: up to 99 rows a whole percent each, above a tenth of a percent each
abbrev pub row_chance : ℕ → ℕ
row_chance n = pick (leb n 99) (n * 10000) (891000 + n * 1000)

-- so says the table, by one computed test
row_chance_lem : (n : ℕ) → n ≤ 108 → last_chance n ≡ row_chance n
unfolding last_chance probit_table
row_chance_lem zero h = refl
row_chance_lem (suc n) h =
    let l : List ℕ = map (λ (r : Row). r.chance) probit_table in
    rw (get_or_entry l n) (eqb→eq _ _ (at (λ i x. eqb x (row_chance (suc i))) l tt n h))

-- and so is the chance of a probit that reaches the first n rows
chance_of_rows : (y n : ℕ) → FirstRows (y / 10000) n → chance_of (pos y) ≡ row_chance n
unfolding of_rows
chance_of_rows y n f = chance_rows y n f ∙ go (dec_le n 99)
  where
    go : Dec (n ≤ 99) → max (of_rows 10000 10000 (min n 99)) (of_rows 991000 1000 (n - 99)) ≡ row_chance n
    go (yes h) =
        let m : min n 99 ≡ n = omega arith in
        let d : n - 99 ≡ 0 = omega arith in
        rw (m, d, le-leb n 99 h) (ap (λ (x : ℕ). max x 0) (of_rows_whole n) ∙ max-zero (n * 10000))
    go (no h) =
        let m : min n 99 ≡ 99 = omega arith in
        let e = of_rows_tenths (n - 99) (omega arith) in
        let g = of_rows_whole 99 in
        rw (m, lt-leb n 99 (omega arith)) (omega arith)

-- the last of n rows is reached at h hundredths, and the next is not
abbrev pub reaches : ℕ → ℕ → Bool
reaches h zero = true
reaches h (suc m) = leb (get_or probits m 0) h

abbrev pub stops : ℕ → ℕ → Bool
stops h n = pick (leb 108 n) true (ltb h (get_or probits n 0))

-- exactly the first n rows are reached at h hundredths
abbrev pub first : ℕ → ℕ → Bool
first h n = both (leb n 108) (both (reaches h n) (stops h n))

-- how many rows there are up to a chance
abbrev pub rows_up_to : ℕ → ℕ
rows_up_to c = pick (leb c 990000) (c / 10000) ((c - 891000) / 1000)

-- the test of an entry c at place i
abbrev pub rows_at : ℕ → ℕ → Bool
rows_at i c = both (first (266 + i) (rows_up_to c)) (eqb c (row_chance (rows_up_to c)))

-- the table rises, so the other rows follow
reached_all : (h n : ℕ) → n ≤ 108 → T (reaches h n) → (i : ℕ) → i < n → get_or probits i 0 ≤ h
reached_all h zero w t i k = absurd (not-suc-le-zero k)
reached_all h (suc m) w t i k = le_trans (rising probits tt i m (omega arith) w) (leb→le _ _ t)

beyond_all : (h n : ℕ) → T (stops h n) → (i : ℕ) → n ≤ i → i < 108 → h < get_or probits i 0
beyond_all h n t i k w =
    let e : leb 108 n ≡ false = lt-leb 108 n (omega arith) in
    let u : T (ltb h (get_or probits n 0)) = rw e at t in
    lt_of_lt_of_le (ltb→lt _ _ u) (rising probits tt n i k w)

first_of : (h n : ℕ) → T (first h n) → FirstRows h n
first_of h n t =
    let r : Bool = reaches h n in
    let s : Bool = stops h n in
    let u : T (both r s) = both_right (leb n 108) (both r s) t in
    let w : n ≤ 108 = leb→le n 108 (both_left (leb n 108) (both r s) t) in
    record { within = w; reached = reached_all h n w (both_left r s u); beyond = beyond_all h n (both_right r s u) }

last_of : (h c n : ℕ) → T (both (first h n) (eqb c (row_chance n))) → LastReached h c
last_of h c n t =
    let f : FirstRows h n = first_of h n (both_left (first h n) (eqb c (row_chance n)) t) in
    let e : c ≡ row_chance n = eqb→eq c (row_chance n) (both_right (first h n) (eqb c (row_chance n)) t) in
    record { count = n; rows = f; same = e ∙ sym (row_chance_lem n f.within) }

-- a table that passes the test at each entry has the chances of the rows reached
pub rows_at_lem : (l : List ℕ) → length l ≡ 544 → T (every rows_at 0 l) → RowsReached l
unfolding RowsReached
rows_at_lem l e t i h = rw (get_or_entry l i) (last_of (266 + i) (entry l i) (rows_up_to (entry l i)) (at rows_at l t i (omega arith)))

-- no row has a probit below 267 hundredths or above 809
row_range : (k : ℕ) → k < 108 → (267 ≤ get_or probits k 0) × (get_or probits k 0 ≤ 809)
row_range k w = (rising probits tt 0 k (omega arith) w, rising probits tt k 107 (omega arith) (omega arith))

-- so below the table no row is reached, and above it all are
rows_found : (y i n : ℕ) → FirstRows (266 + i) n → i ≡ min ((y - 2660000) / 10000) 543 → FirstRows (y / 10000) n
rows_found y i n f e =
    record {
      within = f.within;
      reached = λ k a. let w = f.within in omega (arith, f.reached k a, row_range k (omega arith));
      beyond = λ k a b. omega (arith, f.beyond k a b, row_range k b);
    }

pub right_rows : RightRows
right_rows = rows_at_lem rows refl tt

-- the entry of a probit's hundredth is its chance
chance_found : (y i : ℕ) → i ≡ min ((y - 2660000) / 10000) 543 → get_or rows i 0 ≡ chance_of (pos y)
unfolding RowsReached
chance_found y i e =
    let r : LastReached (266 + i) (get_or rows i 0) = right_rows i (omega arith) in
    r.same ∙ row_chance_lem r.count r.rows.within ∙ sym (chance_of_rows y r.count (rows_found y i r.count r.rows e))

-- also of a probit that is a difference, and may be negative
pub chance_difference : (a b : ℕ) → get_or rows (min ((a - (b + 2660000)) / 10000) 543) 0 ≡ chance_of (pos a -ℤ pos b)
chance_difference a b = go (dec_le b a)
  where
    go : Dec (b ≤ a) → get_or rows (min ((a - (b + 2660000)) / 10000) 543) 0 ≡ chance_of (pos a -ℤ pos b)
    go (yes h) = let e : a - (b + 2660000) ≡ a - b - 2660000 = omega arith in rw (difference_pos a b h, e) (chance_found (a - b) _ refl)
    go (no h) =
        let e : min ((a - (b + 2660000)) / 10000) 543 ≡ 0 = omega arith in
        rw (difference_neg a b (omega arith), e) (chance_found 0 0 refl ∙ chance_of_zero ∙ sym (chance_negative (b - suc a)))

-- 01's words, over any rows
None : ℤ → List Row → Type 0
None y rs = ((r : Row) → Memᴰ r rs → pos r.probit ≤ℤ y → ⊥) × (greatest_chance rs y ≡ 0)

One : ℤ → List Row → Type 0
One y rs =
    (w : Row) × Memᴰ w rs × (pos w.probit ≤ℤ y) × (greatest_chance rs y ≡ w.chance)
    × ((r : Row) → Memᴰ r rs → pos r.probit ≤ℤ y → r.chance ≤ w.chance)

-- a row whose test fails is not reached
not_reached : (y : ℤ) (w r : Row) → le_z (pos w.probit) y ≡ false → r ≡ w → pos r.probit ≤ℤ y → ⊥
not_reached y w r e q l = subst T e (subst (λ (x : Row). T (le_z (pos x.probit) y)) q l.le)

-- and changes nothing
skip_row : (y : ℤ) (w : Row) (rs : List Row) → le_z (pos w.probit) y ≡ false → None y rs ⊎ One y rs → None y (w ∷ rs) ⊎ One y (w ∷ rs)
unfolding None One greatest_chance
skip_row y w rs e (inl h) =
    inl (λ r m l. ⊎_elim (λ q. not_reached y w r e q l) (λ k. h.0 r k l) (Memᴰ.cases_cons m), rw e h.1)
skip_row y w rs e (inr h) =
    inr (
      h.0,
      Memᴰ.tail h.1,
      h.2,
      rw e h.3,
      λ r m l. ⊎_elim (λ q. absurd (not_reached y w r e q l)) (λ k. h.4 r k l) (Memᴰ.cases_cons m),
    )

-- a row that is reached is the greatest where no other is greater
is_greatest : (y : ℤ) (w : Row) (rs : List Row) → le_z (pos w.probit) y ≡ true → greatest_chance rs y ≤ w.chance
    → ((r : Row) → Memᴰ r rs → pos r.probit ≤ℤ y → r.chance ≤ w.chance) → One y (w ∷ rs)
unfolding One greatest_chance
is_greatest y w rs e g most = (
  w,
  Memᴰ.head refl,
  le_z_yes (subst T (sym e) tt),
  rw e (omega arith),
  λ r m l. ⊎_elim (λ q. le_of_eq (ap (λ (x : Row). x.chance) q)) (λ k. most r k l) (Memᴰ.cases_cons m),
)

-- and otherwise the greatest of the others stays
stays_greatest : (y : ℤ) (w : Row) (rs : List Row) → le_z (pos w.probit) y ≡ true → (h : One y rs) → (unfold One in w.chance ≤ h.0.chance) → One y (w ∷ rs)
unfolding One greatest_chance
stays_greatest y w rs e h g =
    let s = h.3 in (
      h.0,
      Memᴰ.tail h.1,
      h.2,
      rw e (omega arith),
      λ r m l. ⊎_elim (λ q. le_trans (le_of_eq (ap (λ (x : Row). x.chance) q)) g) (λ k. h.4 r k l) (Memᴰ.cases_cons m),
    )

take_row : (y : ℤ) (w : Row) (rs : List Row) → le_z (pos w.probit) y ≡ true → None y rs ⊎ One y rs → One y (w ∷ rs)
unfolding None One
take_row y w rs e (inl h) = is_greatest y w rs e (omega (arith, h.1)) (λ r m l. absurd (h.0 r m l))
take_row y w rs e (inr h) = go (dec_le w.chance h.0.chance)
  where
    go : Dec (w.chance ≤ h.0.chance) → One y (w ∷ rs)
    go (yes g) = stays_greatest y w rs e h g
    go (no g) = is_greatest y w rs e (omega (arith, h.3)) (λ r m l. le_trans (h.4 r m l) (omega arith))

by_row : (y : ℤ) (w : Row) (rs : List Row) (t : Bool) → le_z (pos w.probit) y ≡ t → None y rs ⊎ One y rs → None y (w ∷ rs) ⊎ One y (w ∷ rs)
by_row y w rs true e h = inr (take_row y w rs e h)
by_row y w rs false e h = skip_row y w rs e h

rule_of : (y : ℤ) (rs : List Row) → None y rs ⊎ One y rs
unfolding None greatest_chance
rule_of y [] = inl (λ r m l. Memᴰ.not-nil m, refl)
rule_of y (w ∷ rs) = by_row y w rs (le_z (pos w.probit) y) refl (rule_of y rs)

pub chance_rule : ChanceRule
unfolding chance_of None One
chance_rule y = ⊎_elim (λ n. inl (record { none = n.0; nothing = n.1 }))
    (λ o. inr (record { row = o.0; listed = o.1; below = o.2; same = o.3; most = o.4 }))
    (rule_of y probit_table)

-- no chance is above 1,000,000: one computed test over the rows
all_at_most : ℕ → List Row → Bool
all_at_most m [] = true
all_at_most m (r ∷ rs) = both (leb r.chance m) (all_at_most m rs)

at_most : (m : ℕ) (rs : List Row) (y : ℤ) → T (all_at_most m rs) → greatest_chance rs y ≤ m
unfolding all_at_most greatest_chance
at_most m [] y t = omega arith
at_most m (r ∷ rs) y t = go (le_z (pos r.probit) y) (at_most m rs y (both_right (leb r.chance m) (all_at_most m rs) t))
  where
    one : r.chance ≤ m
    one = leb→le _ _ (both_left (leb r.chance m) (all_at_most m rs) t)

    go : (b : Bool) → greatest_chance rs y ≤ m → pick b (max r.chance (greatest_chance rs y)) (greatest_chance rs y) ≤ m
    go true ih = max-le one ih
    go false ih = ih

pub chance_le : (y : ℤ) → chance_of y ≤ 1000000
unfolding chance_of probit_table all_at_most
chance_le y = at_most 1000000 probit_table y tt
