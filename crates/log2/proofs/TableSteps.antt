-- The rule of the near steps, one computed test over all of them. Assumes nothing.
use mathlib.Core.Path.{◌≡◌}
use mathlib.Core.Bool.{Bool, true, false}
use mathlib.Core.List.{List}
use Prim.Native.Nat.{ℕ, ◌+◌, ◌-◌, ◌*◌, ◌^◌, ◌<◌, ◌≤◌}
use native.Mathlib.Nat.{pow-le-pow_left, le_trans, lt_of_le_of_lt, lt_of_not-le, not-le_of_lt}
use native.Mathlib.Decide.{dec_le}
use native.Mathlib.Omega.{arith}
use lib.Pow.{pow_mono}
use lib.Dec.{T, leb, ltb, leb→le, ltb→lt}
use lib.ListN.{length, get_or}
use Rattle.numeric.proofs.TableLaws.{both, both_left, both_right, every, entry, get_or_entry, at}
use Rattle.thresholds.specs.Thresholds.{Threshold, Thresholds}
use Rattle.log2.specs.Tables.{NearStep, OneNearStep, NearSteps, StepOf}

-- one of two tests passes
abbrev either : Bool → Bool → Bool
either true b = true
either false b = b

either_right : (a b : Bool) → T (either a b) → (T a → ⊥) → T b
either_right true b t n = absurd (n tt)
either_right false b t n = t

-- a mantissa below a threshold doesn't reach the step
below_threshold : (k x m : ℕ) → Threshold k x → m < x → m ^ 256 < 2 ^ (31 * 256 + k)
below_threshold k x m t h = lt_of_not-le (λ l. not-le_of_lt h (t.least m l))

above_threshold : (k x m : ℕ) → Threshold k x → x ≤ m → 2 ^ (31 * 256 + k) ≤ m ^ 256
above_threshold k x m t h = le_trans t.reaches (pow-le-pow_left h 256)

-- the least and the greatest mantissa of the nine bits b lie at step g, from 1 to 255, or at the one before; the least below g, if g is not the last
abbrev pub near : ℕ → ℕ → Bool
near b g =
    both (ltb 0 g)
    (both (ltb g 256)
    (both (leb (2 ^ (31 * 256 + (g - 1))) ((2 ^ 31 + b * 2 ^ 22) ^ 256))
    (both (ltb ((2 ^ 31 + b * 2 ^ 22 + (2 ^ 22 - 1)) ^ 256) (2 ^ (31 * 256 + g + 1)))
    (either (leb 255 g) (ltb ((2 ^ 31 + b * 2 ^ 22) ^ 256) (2 ^ (31 * 256 + g)))))))

near_of : (b g : ℕ) → T (near b g) → NearStep b g
near_of b g t =
    let f : Bool = ltb 0 g in
    let w : Bool = ltb g 256 in
    let l : Bool = leb (2 ^ (31 * 256 + (g - 1))) ((2 ^ 31 + b * 2 ^ 22) ^ 256) in
    let u : Bool = ltb ((2 ^ 31 + b * 2 ^ 22 + (2 ^ 22 - 1)) ^ 256) (2 ^ (31 * 256 + g + 1)) in
    let d : Bool = ltb ((2 ^ 31 + b * 2 ^ 22) ^ 256) (2 ^ (31 * 256 + g)) in
    let e : Bool = either (leb 255 g) d in
    let r = both_right f (both w (both l (both u e))) t in
    let v = both_right w (both l (both u e)) r in
    let x = both_right l (both u e) v in
    record {
      first = ltb→lt _ _ (both_left f (both w (both l (both u e))) t);
      within = ltb→lt _ _ (both_left w (both l (both u e)) r);
      low = leb→le _ _ (both_left l (both u e) v);
      high = ltb→lt _ _ (both_left u e x);
      before = λ h. ltb→lt _ _ (either_right (leb 255 g) d (both_right u e x) (λ c. not-le_of_lt h (leb→le _ _ c)));
    }

-- of two near steps of the same nine bits neither is the less
not_less : (b g h : ℕ) → NearStep b g → NearStep b h → g < h → ⊥
not_less b g h m n l =
    let w = n.within in
    let a : 2 ^ (31 * 256 + g) ≤ 2 ^ (31 * 256 + (h - 1)) = pow_mono (omega arith) in
    not-le_of_lt (m.before (omega arith)) (le_trans a n.low)

pub one_near_step : OneNearStep
one_near_step b g h m n = go (dec_le g h) (dec_le h g)
  where
    go : Dec (g ≤ h) → Dec (h ≤ g) → g ≡ h
    go (no d) e = absurd (not_less b h g n m (omega arith))
    go (yes d) (no e) = absurd (not_less b g h m n (omega arith))
    go (yes d) (yes e) = omega arith

-- each entry of a table that passes the test is a near step of its nine bits
pub near_steps_at : (xs : List ℕ) → length xs ≡ 512 → T (every near 0 xs) → NearSteps xs
unfolding NearSteps
near_steps_at xs e t b h = rw (get_or_entry xs b) (near_of b (entry xs b) (at near xs t b (omega arith)))

-- a mantissa lies at the near step where it reaches its threshold, and else at the step before
module _ (l : List ℕ) (b g m : ℕ) (t : Thresholds l) (n : NearStep b g) (lo : 2 ^ 31 + b * 2 ^ 22 ≤ m) (hi : m ≤ 2 ^ 31 + b * 2 ^ 22 + (2 ^ 22 - 1)) where
  pub at_near : get_or l g 0 ≤ m → StepOf m g
  unfolding Thresholds
  at_near h =
      record {
        within = n.within;
        low = above_threshold g _ m (t g n.within) h;
        high = lt_of_le_of_lt (pow-le-pow_left hi 256) n.high;
      }

  pub at_before : m < get_or l g 0 → StepOf m (g - 1)
  unfolding Thresholds
  at_before h =
      let w = n.within in
      let f = n.first in
      let e : 31 * 256 + (g - 1) + 1 ≡ 31 * 256 + g = omega arith in
      record {
        within = omega arith;
        low = le_trans n.low (pow-le-pow_left lo 256);
        high = rw e (below_threshold g _ m (t g w) h);
      }
