-- To be believed. Totals and tests over a list. Assumes nothing.
use Rattle.std.specs.Prelude.{Bool, true, false, List, [], ◌∷◌, ◌++◌, ℕ, zero, suc, ◌+◌}
use Rattle.numeric.specs.Choice.{pick}

-- the total of a figure over a list
unfoldable pub sum_over : {A : Type 0} → (A → ℕ) → List A → ℕ
sum_over f [] = 0
sum_over f (x ∷ xs) = f x + sum_over f xs

-- whether a test holds at some element of a list
unfoldable pub some : {A : Type 0} → (A → Bool) → List A → Bool
some f [] = false
some f (x ∷ xs) = pick (f x) true (some f xs)

-- the lists that a function gives for the elements of a list, joined
unfoldable pub join_over : {A B : Type 0} → (A → List B) → List A → List B
join_over f [] = []
join_over f (x ∷ xs) = f x ++ join_over f xs

-- the numbers below n at which a test holds, in rising order
unfoldable pub numbers_below : (ℕ → Bool) → ℕ → List ℕ
numbers_below f zero = []
numbers_below f (suc n) = numbers_below f n ++ pick (f n) (n ∷ []) []
