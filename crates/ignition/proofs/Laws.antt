-- Laws of the ignition curves. Assumes nothing.
use mathlib.Core.Path.{◌≡◌, refl, sym, subst}
use mathlib.Core.Logic.{◌⊎◌, inl, inr, ⊎_elim}
use mathlib.Core.Bool.{Bool, true, false}
use mathlib.Core.List.{List, [], ◌∷◌}
use Prim.Native.Nat.{ℕ, zero, suc, ◌+◌, ◌-◌, ◌<◌, ◌≤◌}
use native.Mathlib.Nat.{le_trans, lt_of_le_of_lt, not-suc-le-zero, le_of_suc-le-suc, le_antisymm}
use native.Mathlib.Decide.{dec_le}
use native.Mathlib.Omega.{arith}
use lib.Dec.{T, eqb, leb, ltb, leb→le}
use lib.ListN.{length, get_or, take}
use Rattle.std.proofs.lemmas.List.{get_or-take}
use borrow.Author.Tests.{eqb-true, ltb-true, ltb-false}
use Rattle.std.specs.List.Sorted.{IsPartitionPoint, IsPartitionedBy}
use Rattle.std.proofs.lemmas.List.Sorted.{IsPartitionedBy-ltb, IsNonDecreasingBy-from_default}
use Rattle.numeric.specs.Choice.{if_le}
use Rattle.numeric.specs.Share.{certain}
use Rattle.numeric.proofs.ChoiceLaws.{le_case, gt_case}
use Rattle.numeric.proofs.TableLaws.{both, both_left, both_right, rises, rising}
use Rattle.ignition.specs.Ignition.{rates, curves, place_of, column, row, ignition, LeastNotBelow, CurvesHold}

-- ---- the column of a rate

-- the numbers before place j are below x, and the one there is not, or is the last
record Place (qs : List ℕ) (x j : ℕ) : Type 0 where
  there : j < length qs
  low : (i : ℕ) → i < j → get_or qs i 0 < x
  high : (suc j ≡ length qs) ⊎ (x ≤ get_or qs j 0)

place_is : (q : ℕ) (qs : List ℕ) (x : ℕ) → Place (q ∷ qs) x (place_of (q ∷ qs) x)
unfolding place_of
place_is q [] x = record { there = omega arith; low = λ i h. absurd (not-suc-le-zero h); high = inl refl }
place_is q (r ∷ qs) x = go (dec_le x q) (place_is r qs x)
  where
    go : Dec (x ≤ q) → Place (r ∷ qs) x (place_of (r ∷ qs) x) → Place (q ∷ r ∷ qs) x (if_le x q 0 (1 + place_of (r ∷ qs) x))
    go (yes h) p =
        subst (Place (q ∷ r ∷ qs) x) (le_case x q 0 (1 + place_of (r ∷ qs) x) h refl)
        (record { there = omega arith; low = λ i k. absurd (not-suc-le-zero k); high = inr h })
    go (no h) p =
        subst (Place (q ∷ r ∷ qs) x) (gt_case x q 0 (1 + place_of (r ∷ qs) x) (omega arith) (omega arith))
        (record { there = omega (arith, p.there); low = below; high = ⊎_elim (λ e. inl (omega arith)) (λ l. inr l) p.high })
      where
        below : (i : ℕ) → i < suc (place_of (r ∷ qs) x) → get_or (q ∷ r ∷ qs) i 0 < x
        below zero k = omega arith
        below (suc i) k = p.low i (le_of_suc-le-suc k)

-- a greater number stands no earlier
place_le : (qs : List ℕ) (x y j k : ℕ) → x ≤ y → Place qs x j → Place qs y k → j ≤ k
place_le qs x y j k h p q = go (dec_le j k)
  where
    go : Dec (j ≤ k) → j ≤ k
    go (yes l) = l
    go (no l) =
        let a = p.low k (omega arith) in
        ⊎_elim (λ e. omega (arith, p.there)) (λ b. omega arith) q.high

place : (rate : ℕ) → Place rates rate (column rate)
unfolding column
place rate = place_is _ _ rate

-- the rate before a column and its own decide
pub column_is : (rate j : ℕ) → j < 13 → (j ≡ 0) ⊎ (get_or rates (j - 1) 0 < rate) → (j ≡ 12) ⊎ (rate ≤ get_or rates j 0) → j ≡ column rate
column_is rate j h lo hi = le_antisymm (place_le rates rate rate j _ (omega arith) p (place rate)) (place_le rates rate rate _ j (omega arith) (place rate) p)
  where
    p : Place rates rate j
    p =
        record {
          there = h;
          low = λ i k. ⊎_elim (λ z. omega arith) (λ l. lt_of_le_of_lt (rising rates tt i (j - 1) (omega arith) (omega arith)) l) lo;
          high = ⊎_elim (λ e. inl (omega arith)) (λ l. inr l) hi;
        }

column_rule : (rate : ℕ) → LeastNotBelow rate (column rate)
column_rule rate =
    let p = place rate in
    record {
      reaches = λ h. ⊎_elim (λ e. end h (omega arith)) (λ l. l) p.high;
      least = λ i h l. rising rates tt (column rate) i (not_before i l (dec_le (column rate) i)) h;
      last = λ h. ⊎_elim (λ e. omega arith) (λ l. omega (arith, p.there, rising rates tt (column rate) 12 (omega (arith, p.there)) (omega arith))) p.high;
    }
  where
    end : rate ≤ 10000000 → column rate ≡ 12 → rate ≤ get_or rates (column rate) 0
    end h e = rw e h

    not_before : (i : ℕ) → rate ≤ get_or rates i 0 → Dec (column rate ≤ i) → column rate ≤ i
    not_before i l (yes h) = h
    not_before i l (no h) = let a = (place rate).low i (omega arith) in omega arith

-- ---- the rows: one computed test over all curves

-- thirteen chances, none above the next, and the last at most certainty
abbrev sound : List ℕ → Bool
sound r = both (eqb (length r) 13) (both (rises r) (leb (get_or r 12 0) certain))

record Sound (r : List ℕ) : Type 0 where
  long : length r ≡ 13
  rise : T (rises r)
  most : get_or r 12 0 ≤ certain

sound_row : (r : List ℕ) → T (sound r) → Sound r
sound_row r t =
    let a : Bool = eqb (length r) 13 in
    let b : Bool = rises r in
    let d : Bool = leb (get_or r 12 0) certain in
    let u = both_right a (both b d) t in
    record { long = long_of (both_left a (both b d) t); rise = both_left b d u; most = leb→le _ _ (both_right b d u) }
  where
    true_of : (b : Bool) → T b → b ≡ true
    true_of true t = refl
    true_of false t = absurd t

    long_of : T (eqb (length r) 13) → length r ≡ 13
    long_of t = eqb-true _ _ (true_of _ t)

abbrev all_sound : List (List ℕ) → Bool
all_sound [] = true
all_sound (r ∷ rs) = both (sound r) (all_sound rs)

sound_at_lem : (rs : List (List ℕ)) → T (all_sound rs) → (i : ℕ) → i < length rs → Sound (get_or rs i [])
sound_at_lem [] t i h = absurd (not-suc-le-zero h)
sound_at_lem (r ∷ rs) t zero h = sound_row r (both_left (sound r) (all_sound rs) t)
sound_at_lem (r ∷ rs) t (suc i) h = sound_at_lem rs (both_right (sound r) (all_sound rs) t) i (le_of_suc-le-suc h)

-- past the last there is no row
no_row : (rs : List (List ℕ)) (i : ℕ) → length rs ≤ i → get_or rs i [] ≡ []
no_row [] i h = refl
no_row (r ∷ rs) zero h = absurd (not-suc-le-zero h)
no_row (r ∷ rs) (suc i) h = no_row rs i (le_of_suc-le-suc h)

-- a row is empty, or passes the test
row_cases : (P : List ℕ → Type 0) → P [] → ((r : List ℕ) → Sound r → P r) → (curve : ℕ) → P (row curve)
row_cases P p f zero = p
row_cases P p f (suc i) = go (dec_le 13 i)
  where
    go : Dec (13 ≤ i) → P (get_or curves i [])
    go (yes h) = subst P (sym (no_row curves i h)) p
    go (no h) = f _ (sound_at_lem curves tt i (omega arith))

pub curves_hold : CurvesHold
unfolding ignition
curves_hold =
    record {
      rise = λ curve a b h.
          let l = place_le rates a b _ _ h (place a) (place b) in
          row_cases (λ r. get_or r (column a) 0 ≤ get_or r (column b) 0) (omega arith)
          (λ r s. rising r s.rise _ _ l (omega (arith, s.long, (place b).there))) curve;
      bounded = λ curve rate.
          row_cases (λ r. get_or r (column rate) 0 ≤ certain) (omega arith)
          (λ r s. le_trans (rising r s.rise _ 12 (omega (arith, (place rate).there)) (omega (arith, s.long))) s.most) curve;
      at = column_rule;
      thirteen = whole;
    }
  where
    whole : (curve : ℕ) → 1 ≤ curve → curve ≤ length curves → length (row curve) ≡ length rates
    whole zero l h = absurd (not-suc-le-zero l)
    whole (suc i) l h = (sound_at_lem curves tt i (omega arith)).long

-- ---- the lookup

-- the rates but the last
abbrev pub all_but_last : List ℕ
all_but_last = take 12 rates

-- so many of these are below a rate as its column is
pub column_by_count : (rate n : ℕ) → n ≤ 12 → IsPartitionPoint (λ y. ltb y rate ≡ true) (λ y. ltb y rate ≡ false) all_but_last n → n ≡ column rate
column_by_count rate n w p = column_is rate n (omega arith) (lo (dec_le n 0)) (hi (dec_le 12 n))
  where
    below : (k : ℕ) → k < n → get_or rates k 0 < rate
    below k h = subst (λ (x : ℕ). x < rate) (get_or-take 12 rates k 0 (omega arith)) (ltb-true _ _ (p.0 k 0 (omega arith) h))

    lo : Dec (n ≤ 0) → (n ≡ 0) ⊎ (get_or rates (n - 1) 0 < rate)
    lo (yes h) = inl (omega arith)
    lo (no h) = inr (below _ (omega arith))

    hi : Dec (12 ≤ n) → (n ≡ 12) ⊎ (rate ≤ get_or rates n 0)
    hi (yes h) = inl (omega arith)
    hi (no h) = inr (subst (λ (x : ℕ). rate ≤ x) (get_or-take 12 rates n 0 (omega arith)) (ltb-false _ _ (p.1 n 0 (omega arith) (omega arith))))

pub rates_parted : (rate : ℕ) → IsPartitionedBy (λ y. ltb y rate) all_but_last
rates_parted rate = IsPartitionedBy-ltb (λ y. y) all_but_last rate (IsNonDecreasingBy-from_default (λ y. y) all_but_last 0 (rising all_but_last tt))

-- a curve's chance has its row and its column
pub curve_at : (curve rate j : ℕ) → 1 ≤ curve → j ≡ column rate → get_or (get_or curves (curve - 1) []) j 0 ≡ ignition curve rate
unfolding ignition
curve_at zero rate j h e = absurd (not-suc-le-zero h)
curve_at (suc i) rate j h e = let a : suc i - 1 ≡ i = omega arith in rw (a, e) refl

-- there is no curve 0, and none past the last
pub no_curve : (curve rate : ℕ) → (curve ≡ 0) ⊎ (13 < curve) → 0 ≡ ignition curve rate
unfolding ignition
no_curve zero rate h = refl
no_curve (suc i) rate h = let l : 13 ≤ i = ⊎_elim (λ e. omega arith) (λ k. omega arith) h in rw (no_row curves i l) refl
