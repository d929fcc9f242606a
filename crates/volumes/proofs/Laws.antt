-- Laws of the root of a volume. Assumes nothing.
use mathlib.Core.Path.{◌≡◌, sym}
use mathlib.Core.Logic.{◌⊎◌, inl, inr}
use mathlib.Core.Bool.{Bool}
use mathlib.Core.List.{List}
use Prim.Native.Nat.{ℕ, ◌+◌, ◌-◌, ◌^◌, ◌<◌, ◌≤◌, zero-le}
use native.Mathlib.Nat.{le_trans, lt_of_lt_of_le, lt_of_le_of_lt, lt_of_not-le, not-le_of_lt, pow-le-pow_left, mul-le-mul_right}
use native.Mathlib.Decide.{dec_le}
use native.Mathlib.Omega.{arith}
use lib.Dec.{T, leb, ltb, leb→le, ltb→lt}
use lib.ListN.{length, get_or}
use borrow.Author.Tests.{le-leb, lt-leb, leb-true}
use Rattle.numeric.proofs.TableLaws.{both, both_left, both_right, every, entry, get_or_entry, at}
use Rattle.numeric.proofs.GreatestLaws.{greatest_is, greatest_le, greatest_true, greatest_above}
use Rattle.volumes.specs.Root.{limit, root_of, RootRule, RootRange}
use Rattle.volumes.specs.Tables.{LeastVolume, LeastVolumes}

limit_mono : (a b : ℕ) → a ≤ b → limit a ≤ limit b
limit_mono a b h = mul-le-mul_right (1000 ^ 125) (pow-le-pow_left h 4)

-- the test of an entry: it reaches its step, and one less doesn't
abbrev pub least : ℕ → ℕ → Bool
least k x = both (leb ((1000 + k) ^ 125) (limit x)) (both (ltb 0 x) (ltb (limit (x - 1)) ((1000 + k) ^ 125)))

least_of : (k x : ℕ) → T (least k x) → LeastVolume k x
least_of k x t =
    let p : ℕ = (1000 + k) ^ 125 in
    let a : Bool = leb p (limit x) in
    let b : Bool = ltb 0 x in
    let d : Bool = ltb (limit (x - 1)) p in
    let r = both_right a (both b d) t in
    let l : p ≤ limit x = leb→le _ _ (both_left a (both b d) t) in
    let z : 0 < x = ltb→lt _ _ (both_left b d r) in
    let u : limit (x - 1) < p = ltb→lt _ _ (both_right b d r) in
    record { reaches = l; least = λ v h. go v h (dec_le x v) z u }
  where
    go : (v : ℕ) → (1000 + k) ^ 125 ≤ limit v → Dec (x ≤ v) → 0 < x → limit (x - 1) < (1000 + k) ^ 125 → x ≤ v
    go v h (yes e) z u = e
    go v h (no e) z u =
        let w : v ≤ x - 1 = omega arith in
        absurd (not-le_of_lt u (le_trans h (limit_mono v (x - 1) w)))

pub least_volumes_at : (xs : List ℕ) → length xs ≡ 343 → T (every least 0 xs) → LeastVolumes xs
unfolding LeastVolumes
least_volumes_at xs e t k h = rw (get_or_entry xs k) (least_of k (entry xs k) (at least xs t k (omega arith)))

-- no volume up to 10,000 reaches 1343
past : limit 10000 < 1343 ^ 125
past = ltb→lt _ _ tt

-- the root lies between two powers
root_is : (volume r : ℕ) → r ≤ 1342 → r ^ 125 ≤ limit volume → limit volume < (r + 1) ^ 125 → root_of volume ≡ r
unfolding root_of
root_is volume r h l u =
    greatest_is (λ k. leb (k ^ 125) (limit volume)) 1342 r h (le-leb _ _ l)
    (λ j k. lt-leb _ _ (lt_of_lt_of_le u (pow-le-pow_left (omega arith) 125)))

-- the last entry that is at most the volume says the root
pub root_found : (l : List ℕ) (volume r : ℕ) → LeastVolumes l → 1 ≤ volume → volume ≤ 10000 → r < 343
    → (r ≡ 0) ⊎ (get_or l r 0 ≤ volume) → (r ≡ 342) ⊎ (volume < get_or l (r + 1) 0) → 1000 + r ≡ root_of volume
unfolding LeastVolumes
root_found l volume r t lo hi w a b = sym (root_is volume (1000 + r) (omega arith) (low a) (high b))
  where
    low : (r ≡ 0) ⊎ (get_or l r 0 ≤ volume) → (1000 + r) ^ 125 ≤ limit volume
    low (inl e) =
        let k : (1000 + 0) ^ 125 ≤ limit 1 = leb→le _ _ tt in
        rw e (le_trans k (limit_mono 1 volume lo))
    low (inr g) = le_trans (t r w).reaches (limit_mono (get_or l r 0) volume g)

    high : (r ≡ 342) ⊎ (volume < get_or l (r + 1) 0) → limit volume < (1000 + r + 1) ^ 125
    high (inl e) = rw e (lt_of_le_of_lt (limit_mono volume 10000 hi) past)
    high (inr g) = go (dec_le 342 r)
      where
        go : Dec (342 ≤ r) → limit volume < (1000 + r + 1) ^ 125
        go (yes d) =
            let e : r ≡ 342 = omega arith in
            rw e (lt_of_le_of_lt (limit_mono volume 10000 hi) past)
        go (no d) =
            let e : 1000 + r + 1 ≡ 1000 + (r + 1) = omega arith in
            rw e (lt_of_not-le (λ h. not-le_of_lt g ((t (r + 1) (omega arith)).least volume h)))

bounded : (volume k : ℕ) → volume ≤ 10000 → k ^ 125 ≤ limit volume → Dec (k ≤ 1342) → k ≤ 1342
bounded volume k w l (yes h) = h
bounded volume k w l (no h) =
    let g : 1343 ≤ k = omega arith in
    let b : 1343 ^ 125 ≤ k ^ 125 = pow-le-pow_left g 125 in
    absurd (not-le_of_lt (lt_of_le_of_lt (limit_mono volume 10000 w) past) (le_trans b l))

pub root_rule : RootRule
unfolding root_of
root_rule volume k w =
    let f : ℕ → Bool = λ j. leb (j ^ 125) (limit volume) in (
      λ l. greatest_above f 1342 k (bounded volume k w l (dec_le k 1342)) (le-leb _ _ l),
      λ l. le_trans (pow-le-pow_left l 125) (leb-true _ _ (greatest_true f 1342 (le-leb (0 ^ 125) (limit volume) zero-le))),
    )

-- no volume has none, and a root that is looked for up to 1342 is that above 10,000
pub root_zero : root_of 0 ≡ 0
root_zero = root_is 0 0 (omega arith) (leb→le _ _ tt) (ltb→lt _ _ tt)

pub root_large : (volume : ℕ) → 10000 ≤ volume → root_of volume ≡ 1342
unfolding root_of
root_large volume h =
    let f : ℕ → Bool = λ j. leb (j ^ 125) (limit volume) in
    let l : 1342 ^ 125 ≤ limit 10000 = leb→le _ _ tt in
    omega (arith, greatest_le f 1342, greatest_above f 1342 1342 (omega arith) (le-leb _ _ (le_trans l (limit_mono 10000 volume h))))

pub root_beyond : (l : List ℕ) (volume r : ℕ) → LeastVolumes l → 10000 ≤ volume → r < 343 → (r ≡ 342) ⊎ (volume < get_or l (r + 1) 0) → 1000 + r ≡ root_of volume
unfolding LeastVolumes
root_beyond l volume r t h w b = omega (arith, last b (dec_le 342 r), root_large volume h)
  where
    last : (r ≡ 342) ⊎ (volume < get_or l (r + 1) 0) → Dec (342 ≤ r) → r ≡ 342
    last (inl e) d = e
    last (inr g) (yes d) = omega arith
    last (inr g) (no d) =
        let n : 1000 + (r + 1) ≤ 1342 = omega arith in
        let p : (1000 + (r + 1)) ^ 125 ≤ 1342 ^ 125 = pow-le-pow_left n 125 in
        let q : 1342 ^ 125 ≤ limit 10000 = leb→le _ _ tt in
        let m : get_or l (r + 1) 0 ≤ 10000 = (t (r + 1) (omega arith)).least 10000 (le_trans p q) in
        let z : ⊥ = omega (arith, m, g, h) in
        absurd z

pub root_range : RootRange
root_range = (root_is 1 1000 (omega arith) (leb→le _ _ tt) (ltb→lt _ _ tt), root_is 10000 1342 (omega arith) (leb→le _ _ tt) past)
