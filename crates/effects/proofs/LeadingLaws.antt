-- How many of the first pass a test. Assumes nothing.
use mathlib.Core.Path.{◌≡◌, refl, sym, ◌∙◌, subst}
use mathlib.Core.Bool.{Bool, true, false}
use Prim.Native.Nat.{ℕ, zero, suc, ◌+◌, ◌<◌, ◌≤◌}
use native.Mathlib.Decide.{dec_le, ℕ_discrete}
use native.Mathlib.Omega.{arith}
use lib.Dec.{T}
use Rattle.numeric.specs.Choice.{pick}
use Rattle.numeric.proofs.ChoiceLaws.{lt_case, ge_case}
use Rattle.effects.specs.Effects.{leading}

module _ (test : ℕ → Bool) where
  -- r of the first n: all of them pass, and the next one does not
  pub record Leads (n r : ℕ) : Type 0 where
    pub within : r ≤ n
    pub passes : (i : ℕ) → i < r → test i ≡ true
    pub stops : r < n → test r ≡ false

  -- what holds of the first n and of the one after them holds of the first n + 1
  pub passes_more : (n : ℕ) → ((i : ℕ) → i < n → test i ≡ true) → test n ≡ true → (i : ℕ) → i < n + 1 → test i ≡ true
  passes_more n h e i w = go (ℕ_discrete i n)
    where
      go : Dec (i ≡ n) → test i ≡ true
      go (yes q) = rw q e
      go (no q) = h i (omega arith)

  -- one more
  more : (n k : ℕ) → Leads n k → n ≤ k → (t : Bool) → test n ≡ t → Leads (suc n) (pick t (n + 1) n)
  more n k h d true e = let z : k ≡ n = omega (arith, h.within) in record { within = omega arith; passes = passes_more n (rw z at h.passes) e; stops = λ w. let x : ⊥ = omega arith in absurd x }
  more n k h d false e = let z : k ≡ n = omega (arith, h.within) in record { within = omega arith; passes = rw z at h.passes; stops = λ w. e }

  pub leading_is : (n : ℕ) → Leads n (leading test n)
  unfolding leading
  leading_is zero = record { within = omega arith; passes = λ i w. let x : ⊥ = omega arith in absurd x; stops = λ w. let x : ⊥ = omega arith in absurd x }
  leading_is (suc n) = go (leading_is n) (dec_le n (leading test n))
    where
      go : Leads n (leading test n) → Dec (n ≤ leading test n) → Leads (suc n) (leading test (suc n))
      go h (yes d) =
          let e : pick (test n) (n + 1) n ≡ leading test (suc n) = ge_case _ _ _ _ d refl in
          rw (← e) (more n _ h d (test n) refl)
      go h (no d) =
          let e : leading test n ≡ leading test (suc n) = lt_case _ _ _ _ (omega arith) refl in
          rw (← e) record { within = omega (arith, h.within); passes = h.passes; stops = λ w. h.stops (omega arith) }

  -- no other number does
  at_most : (n r k : ℕ) → Leads n r → Leads n k → Dec (k ≤ r) → k ≤ r
  at_most n r k h j (yes d) = d
  at_most n r k h j (no d) =
      let s : test r ≡ true = j.passes r (omega arith) in
      absurd (subst T (sym s ∙ h.stops (omega (arith, j.within))) tt)

  pub leading_only : (n r : ℕ) → Leads n r → r ≡ leading test n
  leading_only n r h = let j = leading_is n in omega (arith, at_most n r _ h j (dec_le _ r), at_most n _ r j h (dec_le r _))
