-- What the loop over a piece shows after each turn. Assumes nothing.
use mathlib.Core.Path.{◌≡◌, refl, ◌∙◌, ap}
use mathlib.Core.List.{List, [], ◌++◌}
use Prim.Native.Nat.{ℕ, ◌+◌, ◌-◌, ◌≤◌}
use native.Mathlib.Omega.{arith}
use lib.ListN.{length, take, drop}
use lib.Seq.{take-add, take_all}
use Rattle.model.specs.Machine.{State, read_all}
use Rattle.model.proofs.ReadLaws.{read_append}

pub read_none : (s : State) → read_all s [] ≡ s
unfolding read_all
read_none s = refl

-- one turn more, which reads the bytes from i to n
pub read_next : (s t r : State) (l : List ℕ) (i n : ℕ) → i ≤ n → t ≡ read_all s (take i l) → r ≡ read_all t (take (n - i) (drop i l)) → r ≡ read_all s (take n l)
read_next s t r l i n h e f =
    let a : n ≡ i + (n - i) = omega arith in
    let d : take n l ≡ take i l ++ take (n - i) (drop i l) = ap (λ (x : ℕ). take x l) a ∙ take-add i (n - i) l in
    rw (d, read_append s (take i l) (take (n - i) (drop i l)), ← e) f

-- and after the loop
pub read_whole : (s t : State) (l : List ℕ) (i : ℕ) → t ≡ read_all s (take i l) → length l ≤ i → t ≡ read_all s l
read_whole s t l i e h = rw (take_all i l h) at e
