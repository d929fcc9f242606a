-- Laws of a share of a frequency. Assumes nothing.
use mathlib.Core.Path.{◌≡◌, refl, sym, ◌∙◌, ap}
use Prim.Native.Nat.{ℕ, ◌+◌, ◌*◌, ◌/◌, ◌%◌, ◌≤◌, min}
use native.Mathlib.Nat.{mul-add-div, mul_assoc, add-mul, mul-le-mul_left, mul-le-mul, div-add-mod, mul-div_left, min-eq_left, min-eq_right}
use native.Mathlib.Omega.{arith}
use Rattle.numeric.specs.Share.{certain, share_of}

-- a chance of at most 1,000,000 counts as it is
pub share_plain : (f c : ℕ) → c ≤ certain → share_of f c ≡ f * c / certain
unfolding share_of
share_plain f c h = rw (min-eq_left h) refl

-- a chance of 1,000,000 or more takes all
pub share_all : (f c : ℕ) → certain ≤ c → share_of f c ≡ f
unfolding share_of
share_all f c h = rw (min-eq_right h) (mul-div_left f (omega arith))

-- a chance above 1,000,000 counts as 1,000,000
pub share_capped : (f c : ℕ) → share_of f (min c certain) ≡ share_of f c
unfolding share_of
share_capped f c = let e : min (min c certain) certain ≡ min c certain = omega arith in rw e refl

-- by the whole millions and the rest of the frequency
pub share_parts : (f c : ℕ) → c ≤ certain → f / certain * c + f % certain * c / certain ≡ share_of f c
share_parts f c h =
    let q : ℕ = f / certain in
    let r : ℕ = f % certain in
    let e : f ≡ certain * q + r = sym (div-add-mod f certain) in
    let g : f * c ≡ certain * (q * c) + r * c = ap (λ (x : ℕ). x * c) e ∙ add-mul (certain * q) r c ∙ ap (λ (x : ℕ). x + r * c) (mul_assoc certain q c) in
    sym (share_plain f c h ∙ ap (λ (x : ℕ). x / certain) g ∙ mul-add-div (omega arith) (q * c) (r * c))

-- a share is at most the whole
pub share_le : (f c : ℕ) → share_of f c ≤ f
unfolding share_of
share_le f c = let k : f * min c certain ≤ f * certain = mul-le-mul_left f (omega arith) in omega arith

-- the two products of share_parts are small
pub high_le : (f c : ℕ) → c ≤ certain → f / certain * c ≤ f
high_le f c h = let k : f / certain * c ≤ f / certain * certain = mul-le-mul_left (f / certain) h in omega arith

pub low_le : (f c : ℕ) → c ≤ certain → f % certain * c ≤ certain * certain
low_le f c h = mul-le-mul {n₁ = f % certain} {m₁ = c} {n₂ = certain} (omega arith) h
