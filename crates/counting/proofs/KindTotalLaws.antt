-- The six totals of the outcome kinds in an array, one of which grows. Assumes nothing.
use mathlib.Core.Path.{◌≡◌, refl, sym}
use mathlib.Core.List.{List}
use Prim.Native.Nat.{ℕ, ◌<◌, ◌≤◌}
use native.Mathlib.Decide.{ℕ_discrete}
use native.Mathlib.Omega.{arith}
use lib.ListN.{length, get_or, set}
use lib.Seq.{get_or-set_same, get_or-set_other}
use Rattle.numeric.proofs.ChoiceLaws.{eq_case, ne_case}
use Rattle.model.specs.Machine.{up_to, most64, kind_grown}

pub kind_set : (l : List ℕ) (k f j : ℕ) → length l ≡ 6 → k < 6 → get_or (set l k (up_to most64 (get_or l k 0) f)) j 0 ≡ kind_grown k j f (get_or l j 0)
unfolding kind_grown
kind_set l k f j e h = go (ℕ_discrete k j)
  where
    go : Dec (k ≡ j) → get_or (set l k (up_to most64 (get_or l k 0) f)) j 0 ≡ kind_grown k j f (get_or l j 0)
    go (yes q) = eq_case k j _ _ q (rw (← q) (get_or-set_same l k _ 0 (omega arith)))
    go (no q) = ne_case k j _ _ q (get_or-set_other l k j _ 0 (λ z. q (sym z)))

-- a number that is no kind
pub kind_none : (l : List ℕ) (k f j : ℕ) → 6 ≤ k → j < 6 → get_or l j 0 ≡ kind_grown k j f (get_or l j 0)
unfolding kind_grown
kind_none l k f j h i = ne_case k j _ _ (λ z. omega arith) refl
