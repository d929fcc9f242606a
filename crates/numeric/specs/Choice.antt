-- To be believed. Choices by a comparison of two numbers. They stay shut: proofs go by the case laws of proofs/ChoiceLaws.antt.
-- Assumes nothing.
use Rattle.std.specs.Prelude.{Bool, true, false, ℕ, eqb, leb, ltb}

-- the first where the test holds, else the second
abbrev pub pick {ℓ} : {A : Type ℓ} → Bool → A → A → A
pick true x y = x
pick false x y = y

-- the first where m = n, else the second
unfoldable pub if_eq {ℓ} : {A : Type ℓ} → ℕ → ℕ → A → A → A
if_eq m n x y = pick (eqb m n) x y

-- the first where m ≤ n, else the second
unfoldable pub if_le {ℓ} : {A : Type ℓ} → ℕ → ℕ → A → A → A
if_le m n x y = pick (leb m n) x y

-- the first where m < n, else the second
unfoldable pub if_lt {ℓ} : {A : Type ℓ} → ℕ → ℕ → A → A → A
if_lt m n x y = pick (ltb m n) x y
