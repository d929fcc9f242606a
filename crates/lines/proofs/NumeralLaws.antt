-- A number in decimal: io's digits, the fewest that hold it, are it, and a number below 2^64 has at most 20. Assumes nothing.
use Rattle.std.proofs.Common.{◌≡◌, refl, sym, ap, ◌∙◌, List, [], ◌∷◌, ◌++◌, ℕ, zero, suc, ◌-◌, ◌/◌, ◌%◌, ◌^◌, ◌≤◌, ◌<◌, length, pow-suc, mod-lt, div-lt_iff_lt-mul, le-div_iff_mul-le, lt_of_lt_of_le, arith, lit<, lit≤, length-append, lt-ltb}
use Rattle.std.proofs.Math.Nat.{one-le-pow, div-lt_self}
use Rattle.std.proofs.Math.Decide.{dec_lt}
use Rattle.io.specs.Digits.{hex_digit_ascii, last_digits, IsDigitCount}
use Rattle.numeric.proofs.ChoiceLaws.{lt_case, ge_case}
use Rattle.lines.specs.Text.{last_digit, numeral, decimal}

numeral_small : (f n : ℕ) → n < 10 → numeral (suc f) n ≡ last_digit n ∷ []
unfolding numeral
numeral_small f n h = sym (lt_case n 10 _ _ h refl)

numeral_large : (f n : ℕ) → 10 ≤ n → numeral (suc f) n ≡ numeral f (n / 10) ++ (last_digit n ∷ [])
unfolding numeral
numeral_large f n h = sym (ge_case n 10 _ _ h refl)

glyph_last : (n : ℕ) → hex_digit_ascii (n % 10) ≡ last_digit n
glyph_last n = rw (lt-ltb (n % 10) 10 (mod-lt n (lit< tt)))

-- one digit less
tenth_below : (n k : ℕ) → n < 10 ^ suc k → n / 10 < 10 ^ k
tenth_below n k h = (div-lt_iff_lt-mul (lit< tt)).1 (rw (pow-suc 10 k) at h)

tenth_from : (n k : ℕ) → 10 ^ suc k ≤ n → 10 ^ k ≤ n / 10
tenth_from n k h = (le-div_iff_mul-le (lit< tt)).1 (rw (pow-suc 10 k) at h)

tenth_less : (f n : ℕ) → 10 ≤ n → n < suc f → n / 10 < f
tenth_less f n h l = omega (arith, div-lt_self {n = n} {k = 10} (omega arith) (lit< tt))

ten_at_least : (k : ℕ) → 10 ≤ 10 ^ suc k
ten_at_least k = rw (pow-suc 10 k) (omega (arith, one-le-pow k 10 (lit< tt)))

-- digits of which the first is no 0, unless it is the only one
digits_are : (r f n : ℕ) → n < f → n < 10 ^ suc r → (0 < r → 10 ^ r ≤ n) → last_digits 10 (suc r) n ≡ numeral f n
digits_are r zero n l u b = absurd (omega arith)
digits_are zero (suc f) n l u b = ap (λ (d : ℕ). d ∷ []) (glyph_last n) ∙ sym (numeral_small f n u)
digits_are (suc r) (suc f) n l u b =
    let h : 10 ≤ n = omega (arith, b (omega arith), ten_at_least r) in
    ap (λ (d : ℕ). last_digits 10 (suc r) (n / 10) ++ (d ∷ [])) (glyph_last n)
    ∙ ap (λ (x : List ℕ). x ++ (last_digit n ∷ []))
    (digits_are r f (n / 10) (tenth_less f n h l) (tenth_below n (suc r) u) (λ _. tenth_from n r (b (omega arith))))
    ∙ sym (numeral_large f n h)

pub decimal_is : (n k : ℕ) → IsDigitCount 10 1 n k → last_digits 10 k n ≡ decimal n
unfolding decimal
decimal_is n zero w = absurd (omega (arith, w.0))
decimal_is n (suc r) w = digits_are r (suc n) n (omega arith) w.1 (λ h. let e : suc r - 1 ≡ r = omega arith in rw e at (w.2 (omega arith)))

numeral_none : (n : ℕ) → numeral zero n ≡ []
unfolding numeral
numeral_none n = refl

numeral_length : (k f n : ℕ) → n < 10 ^ suc k → length (numeral f n) ≤ suc k
numeral_length k zero n u = rw (numeral_none n) (omega arith)
numeral_length zero (suc f) n u = rw (numeral_small f n u) (omega arith)
numeral_length (suc k) (suc f) n u = go (dec_lt n 10) (numeral_length k f (n / 10) (tenth_below n (suc k) u))
  where
    go : Dec (n < 10) → length (numeral f (n / 10)) ≤ suc k → length (numeral (suc f) n) ≤ suc (suc k)
    go (yes h) ih = rw (numeral_small f n h) (omega arith)
    go (no h) ih = let m : 10 ≤ n = omega arith in rw (numeral_large f n m, length-append) (omega arith)

-- a number of a u64 has at most 20 digits
pub decimal_length : (n : ℕ) → n < 2 ^ 64 → length (decimal n) ≤ 20
unfolding decimal
decimal_length n h = numeral_length 19 (suc n) n (lt_of_lt_of_le h (lit≤ tt))
