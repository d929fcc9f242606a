-- Laws of the greatest number that passes a test. Assumes nothing.
use mathlib.Core.Path.{◌≡◌, refl, sym}
use mathlib.Core.Bool.{Bool, true, false}
use Prim.Native.Nat.{ℕ, zero, suc, ◌<◌, ◌≤◌}
use native.Mathlib.Decide.{dec_le}
use native.Mathlib.Omega.{arith}
use Rattle.numeric.specs.Greatest.{greatest}

-- a number at which the test holds, and above which it fails, is the greatest
pub greatest_is : (f : ℕ → Bool) (b r : ℕ) → r ≤ b → f r ≡ true → ((j : ℕ) → r < j → f j ≡ false) → greatest f b ≡ r
unfolding greatest
greatest_is f zero r h t g = omega arith
greatest_is f (suc b) r h t g = go (dec_le r b) (λ k. greatest_is f b r k t g)
  where
    go : Dec (r ≤ b) → (r ≤ b → greatest f b ≡ r) → greatest f (suc b) ≡ r
    go (yes k) ih = rw (g (suc b) (omega arith), greatest) (ih k)
    go (no k) ih =
        let e : r ≡ suc b = omega arith in
        let u : f (suc b) ≡ true = rw e at t in
        rw (u, greatest) (sym e)

-- where a test falls from true to false once, the greatest number at which it holds is found
module _ (f : ℕ → Bool) where
  pub greatest_le : (b : ℕ) → greatest f b ≤ b
  unfolding greatest
  greatest_le zero = omega arith
  greatest_le (suc b) = go (f (suc b)) refl (greatest_le b)
    where
      go : (t : Bool) → f (suc b) ≡ t → greatest f b ≤ b → greatest f (suc b) ≤ suc b
      go true e ih = rw (e, greatest) (omega arith)
      go false e ih = rw (e, greatest) (omega arith)

  pub greatest_true : (b : ℕ) → f 0 ≡ true → f (greatest f b) ≡ true
  unfolding greatest
  greatest_true zero z = z
  greatest_true (suc b) z = go (f (suc b)) refl (greatest_true b z)
    where
      go : (t : Bool) → f (suc b) ≡ t → f (greatest f b) ≡ true → f (greatest f (suc b)) ≡ true
      go true e ih = rw (e, greatest) e
      go false e ih = rw (e, greatest) ih

  pub greatest_above : (b m : ℕ) → m ≤ b → f m ≡ true → m ≤ greatest f b
  unfolding greatest
  greatest_above zero m h t = omega arith
  greatest_above (suc b) m h t = go (f (suc b)) refl (dec_le m b) (λ k. greatest_above b m k t)
    where
      go : (u : Bool) → f (suc b) ≡ u → Dec (m ≤ b) → (m ≤ b → m ≤ greatest f b) → m ≤ greatest f (suc b)
      go true e d ih = rw (e, greatest) h
      go false e (yes k) ih = rw (e, greatest) (ih k)
      go false e (no k) ih =
          let q : m ≡ suc b = omega arith in
          let w : f (suc b) ≡ true = rw q at t in
          let z : ◌≡◌ {A = ℕ} 0 1 = cc in
          omega arith
