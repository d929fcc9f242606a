-- What the tables give is L. Assumes nothing.
use mathlib.Core.Path.{◌≡◌, refl, sym, ◌∙◌}
use mathlib.Core.List.{List}
use Prim.Native.Nat.{ℕ, ◌+◌, ◌-◌, ◌*◌, ◌/◌, ◌%◌, ◌^◌, ◌<◌, ◌≤◌}
use native.Mathlib.Decide.{dec_le}
use native.Mathlib.Omega.{arith}
use lib.ListN.{get_or}
use lib.Count.{count_leading_zeros}
use Rattle.numeric.specs.Choice.{if_lt}
use Rattle.numeric.proofs.ChoiceLaws.{lt_case, ge_case}
use Rattle.thresholds.specs.Thresholds.{thresholds}
use Rattle.thresholds.proofs.Laws.{right_thresholds}
use Rattle.log2.specs.Logarithm.{logarithm}
use Rattle.log2.specs.Tables.{NearStep, NearSteps, LogTables, step_by, near_steps, RightTables}
use Rattle.log2.proofs.Laws.{log_scaled, Scaled, scaled, logarithm_small, leading_few}
use Rattle.log2.proofs.TableSteps.{near_steps_at, at_near, at_before}

near_at : (l : List ℕ) (b : ℕ) → NearSteps l → b < 512 → NearStep b (get_or l b 0)
unfolding NearSteps
near_at l b h k = h b k

module _ (t l : List ℕ) (n z : ℕ) where
  abbrev m : ℕ
  m = n * 2 ^ z

  abbrev g : ℕ
  g = get_or l (m / 2 ^ 22 % 512) 0

  -- a number's mantissa lies at its near step or at the one before
  step_of : LogTables t l → Scaled n z → m < 2 ^ 32 → logarithm n ≡ step_by t l ((31 - z) * 256) m
  unfolding step_by
  step_of h q w = go (dec_le (get_or t g 0) m) (near_at l (m / 2 ^ 22 % 512) h.near (omega arith))
    where
      go : Dec (get_or t g 0 ≤ m) → NearStep (m / 2 ^ 22 % 512) g → logarithm n ≡ (31 - z) * 256 + g - if_lt m (get_or t g 0) 1 0
      go (yes d) s =
          let f : ◌≡◌ {A = ℕ} 0 (if_lt m (get_or t g 0) 1 0) = ge_case _ _ _ _ d refl in
          rw (← f) (log_scaled n _ z _ q.few refl (at_near t _ _ _ h.thresholds s (omega (arith, q.low)) (omega (arith, q.low)) d) ∙ omega arith)
      go (no d) s =
          let f : ◌≡◌ {A = ℕ} 1 (if_lt m (get_or t g 0) 1 0) = lt_case _ _ _ _ (omega arith) refl in
          rw (← f) (log_scaled n _ z _ q.few refl (at_before t _ _ _ h.thresholds s (omega (arith, q.low)) (omega (arith, q.low)) (omega arith)) ∙ omega (arith, s.first))

pub right_tables : RightTables
right_tables = record { thresholds = right_thresholds; near = near_steps_at near_steps refl tt }

-- so the step of a number's mantissa is L
pub log_by_step : (n : ℕ) → 0 < n → n < 2 ^ 32 → step_by thresholds near_steps ((31 - count_leading_zeros 32 n) * 256) (n * 2 ^ count_leading_zeros 32 n) ≡ logarithm n
log_by_step n h w =
    let q = scaled n h w in
    sym (step_of thresholds near_steps n (count_leading_zeros 32 n) right_tables q (omega (arith, q.fits)))

-- with g for the near step and x for the threshold there
module _ (n g x : ℕ) (h : 2 ≤ n) (w : n < 2 ^ 32) where
  abbrev doubled : ℕ
  doubled = n * 2 ^ count_leading_zeros 32 n % 2 ^ 32

  module _ (f : g ≡ get_or near_steps (doubled / 2 ^ 22 % 512) 0) (t : x ≡ get_or thresholds g 0) where
    by_less : (less : ℕ) → less ≡ if_lt doubled x 1 0 → (31 - count_leading_zeros 32 n) * 256 + g - less ≡ logarithm n
    unfolding step_by
    by_less less k = let e = (scaled n (omega arith) w).fits in let q = log_by_step n (omega arith) w in cc

    pub log_below : doubled < x → (31 - count_leading_zeros 32 n) * 256 + g - 1 ≡ logarithm n
    log_below k = by_less 1 (lt_case _ _ _ _ k refl)

    pub log_from : x ≤ doubled → (31 - count_leading_zeros 32 n) * 256 + g - 0 ≡ logarithm n
    log_from k = by_less 0 (ge_case _ _ _ _ k refl)

-- what the code of `l` asks
pub ruleset log_steps = (logarithm_small, leading_few, log_below, log_from)
