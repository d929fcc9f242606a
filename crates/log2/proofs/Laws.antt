-- Laws of the logarithm. Assumes nothing.
use mathlib.Core.Path.{◌≡◌, refl, ◌∙◌, ap}
use mathlib.Core.Bool.{Bool}
use Prim.Native.Nat.{ℕ, zero, suc, ◌+◌, ◌-◌, ◌*◌, ◌%◌, ◌^◌, ◌<◌, ◌≤◌}
use native.Mathlib.Nat.{le_trans, lt_of_lt_of_le, mul_assoc, mul_comm, mul_left_comm, mul-one, pow-zero, pow-suc, mul-zero, mul-suc, pow-le-pow_left, pow-lt-pow_left, le_of_mul-le-mul_right, lt_of_mul-lt-mul_right, mul-le-mul_right, not-le_of_lt}
use native.Mathlib.Decide.{dec_le}
use native.Mathlib.Omega.{arith}
use lib.Dec.{leb}
use lib.Pow.{pow_pos, pow-add, pow_mono, shl_exact}
use lib.Count.{count_leading_zeros, leading_top}
use borrow.Author.Tests.{le-leb, lt-leb, leb-true}
use Rattle.numeric.specs.Greatest.{greatest}
use Rattle.numeric.proofs.GreatestLaws.{greatest_is, greatest_le, greatest_true, greatest_above}
use Rattle.log2.specs.Logarithm.{logarithm, LogarithmRule, LogarithmOfZero}
use Rattle.log2.specs.Tables.{StepOf}

-- the logarithm lies between two powers of two
pub log_is : (n r : ℕ) → r ≤ 8191 → 2 ^ r ≤ n ^ 256 → n ^ 256 < 2 ^ (r + 1) → logarithm n ≡ r
unfolding logarithm
log_is n r h l u =
    greatest_is (λ m. leb (2 ^ m) (n ^ 256)) 8191 r h (le-leb _ _ l)
    (λ j k. lt-leb _ _ (lt_of_lt_of_le u (pow_mono (omega arith))))

-- 2^m is at most n^256
abbrev reached : ℕ → ℕ → Bool
reached n m = leb (2 ^ m) (n ^ 256)

-- no number below 2^32 reaches 2^8192
bounded : (n m : ℕ) → n < 2 ^ 32 → 2 ^ m ≤ n ^ 256 → Dec (m ≤ 8191) → m ≤ 8191
bounded n m w l (yes h) = h
bounded n m w l (no h) =
    let a : n ^ 256 < (2 ^ 32) ^ 256 = pow-lt-pow_left {n = 256} w (omega arith) in
    let k : 8192 ≤ m = omega arith in
    let b : 2 ^ 8192 ≤ 2 ^ m = pow_mono k in
    absurd (not-le_of_lt (lt_of_lt_of_le a b) l)

-- 01's words: 2^m is at most n^256 exactly when m is at most L(n)
pub logarithm_rule : LogarithmRule
unfolding logarithm
logarithm_rule n m h w = (
  λ l. greatest_above (reached n) 8191 m (bounded n m w l (dec_le m 8191)) (le-leb _ _ l),
  λ l. le_trans (pow_mono l) (leb-true _ _ (greatest_true (reached n) 8191 (le-leb _ _ (pow-le-pow_left h 256)))),
)

-- no logarithm is above 8191
pub logarithm_le : (n : ℕ) → logarithm n ≤ 8191
unfolding logarithm
logarithm_le n = greatest_le (reached n) 8191

pub logarithm_of_zero : LogarithmOfZero
unfolding logarithm greatest
logarithm_of_zero = refl

-- so is that of one
pub logarithm_small : (n : ℕ) → n < 2 → logarithm n ≡ 0
logarithm_small zero h = logarithm_of_zero
logarithm_small (suc n) h = let e : suc n ≡ 1 = omega arith in rw e (log_is 1 0 (omega arith) (omega arith) (omega arith))

-- above 32 bits every logarithm is the greatest
pub logarithm_large : (n : ℕ) → 2 ^ 32 ≤ n → logarithm n ≡ 8191
unfolding logarithm
logarithm_large n h =
    let a : (2 ^ 32) ^ 256 ≤ n ^ 256 = pow-le-pow_left h 256 in
    let b : 2 ^ 8191 ≤ n ^ 256 = le_trans (pow_mono {i = 8191} {j = 8192} (omega arith)) a in
    omega (arith, greatest_le (reached n) 8191, greatest_above (reached n) 8191 8191 (omega arith) (le-leb _ _ b))

mul_pow : (a b k : ℕ) → (a * b) ^ k ≡ a ^ k * b ^ k
mul_pow a b zero = simp (pow-zero, mul-one)
mul_pow a b (suc k) =
    rw (pow-suc (a * b) k, pow-suc a k, pow-suc b k, mul_pow a b k) (simp (mul_assoc, mul_left_comm, mul_comm))

pow_pow : (a i k : ℕ) → (a ^ i) ^ k ≡ a ^ (i * k)
pow_pow a i zero = simp (pow-zero, mul-zero)
pow_pow a i (suc k) = rw (pow-suc (a ^ i) k, mul-suc i k, pow-add a (i * k) i, pow_pow a i k) refl

-- a number doubled z times into the octave from 2^31 on
pub log_scaled : (n m z k : ℕ) → z ≤ 31 → m ≡ n * 2 ^ z → StepOf m k → logarithm n ≡ (31 - z) * 256 + k
log_scaled n m z k h q b =
    let w : ℕ = z * 256 in
    let r : ℕ = (31 - z) * 256 + k in
    let p : m ^ 256 ≡ n ^ 256 * 2 ^ w = ap (λ (x : ℕ). x ^ 256) q ∙ mul_pow n (2 ^ z) 256 ∙ ap (λ (x : ℕ). n ^ 256 * x) (pow_pow 2 z 256) in
    let i : 31 * 256 + k ≡ r + w = omega arith in
    let j : 31 * 256 + k + 1 ≡ (r + 1) + w = omega arith in
    let lo : 2 ^ r * 2 ^ w ≤ n ^ 256 * 2 ^ w = rw (i, pow-add 2 r w, p) at b.low in
    let hi : n ^ 256 * 2 ^ w < 2 ^ (r + 1) * 2 ^ w = rw (j, pow-add 2 (r + 1) w, p) at b.high in
    let wi = b.within in
    log_is n r (omega arith) (le_of_mul-le-mul_right lo (pow_pos w)) (lt_of_mul-lt-mul_right (2 ^ w) hi)

-- the doublings that bring a number of 32 bits into the octave from 2^31 on
pub record Scaled (n z : ℕ) : Type 0 where
  pub few : z ≤ 31
  pub low : 2 ^ 31 ≤ n * 2 ^ z
  pub fits : n * 2 ^ z % 2 ^ 32 ≡ n * 2 ^ z

scaled_by : (n k z : ℕ) → 2 ^ k ≤ n → n < 2 ^ suc k → z + suc k ≡ 32 → Scaled n z
scaled_by n k z lo hi e =
    let p : k + z ≡ 31 = omega arith in
    let l : 2 ^ k * 2 ^ z ≤ n * 2 ^ z = mul-le-mul_right (2 ^ z) lo in
    let s : suc k + z ≡ 32 = omega arith in
    record {
      few = omega arith;
      low = rw (← pow-add 2 k z, p) at l;
      fits = shl_exact (suc k) z 32 hi (omega arith);
    }

pub scaled : (n : ℕ) → 0 < n → n < 2 ^ 32 → Scaled n (count_leading_zeros 32 n)
scaled n p h = let t = leading_top 32 n p h in scaled_by n t.0 (count_leading_zeros 32 n) t.2 t.3 t.1

-- a number from two on needs thirty at the most
pub scaled_few : (n z : ℕ) → 2 ≤ n → Scaled n z → z ≤ 30
scaled_few n z h s = go (dec_le z 30)
  where
    go : Dec (z ≤ 30) → z ≤ 30
    go (yes d) = d
    go (no d) =
        let e : z ≡ 31 = omega (arith, s.few) in
        let f : n * 2 ^ 31 % 2 ^ 32 ≡ n * 2 ^ 31 = rw e at s.fits in
        let x : ⊥ = omega arith in
        absurd x

pub leading_few : (n : ℕ) → 2 ≤ n → n < 2 ^ 32 → count_leading_zeros 32 n ≤ 30
leading_few n h w = scaled_few _ _ h (scaled n (omega arith) w)
