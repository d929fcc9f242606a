-- The rule of the table, one computed test over all of its entries. Assumes nothing.
use mathlib.Core.Path.{◌≡◌, refl}
use mathlib.Core.Bool.{Bool}
use mathlib.Core.List.{List}
use Prim.Native.Nat.{ℕ, ◌+◌, ◌-◌, ◌*◌, ◌^◌, ◌<◌, ◌≤◌}
use native.Mathlib.Nat.{pow-le-pow_left}
use native.Mathlib.Decide.{dec_le}
use native.Mathlib.Omega.{arith}
use lib.Dec.{T, leb, ltb, leb→le, ltb→lt}
use lib.ListN.{length}
use Rattle.numeric.proofs.TableLaws.{both, both_left, both_right, every, entry, get_or_entry, at}
use Rattle.thresholds.specs.Thresholds.{Threshold, Thresholds, thresholds, RightThresholds}

-- the entry reaches its step, and one less doesn't
abbrev pub least : ℕ → ℕ → Bool
least k x = both (leb (2 ^ (31 * 256 + k)) (x ^ 256)) (ltb ((x - 1) ^ 256) (2 ^ (31 * 256 + k)))

threshold_of : (k x : ℕ) → T (least k x) → Threshold k x
threshold_of k x t =
    let p : ℕ = 2 ^ (31 * 256 + k) in
    let l : p ≤ x ^ 256 = leb→le _ _ (both_left (leb p (x ^ 256)) (ltb ((x - 1) ^ 256) p) t) in
    let u : (x - 1) ^ 256 < p = ltb→lt _ _ (both_right (leb p (x ^ 256)) (ltb ((x - 1) ^ 256) p) t) in
    record { reaches = l; least = λ m h. go m h (dec_le x m) u }
  where
    go : (m : ℕ) → 2 ^ (31 * 256 + k) ≤ m ^ 256 → Dec (x ≤ m) → (x - 1) ^ 256 < 2 ^ (31 * 256 + k) → x ≤ m
    go m h (yes d) u = d
    go m h (no d) u =
        let e : m ≤ x - 1 = omega arith in
        let v : m ^ 256 ≤ (x - 1) ^ 256 = pow-le-pow_left e 256 in
        let z : ⊥ = omega arith in
        absurd z

-- each entry of a table that passes the test is the threshold of its step
thresholds_at : (xs : List ℕ) → length xs ≡ 256 → T (every least 0 xs) → Thresholds xs
unfolding Thresholds
thresholds_at xs e t k h = rw (get_or_entry xs k) (threshold_of k (entry xs k) (at least xs t k (omega arith)))

pub right_thresholds : RightThresholds
right_thresholds = thresholds_at thresholds refl tt
