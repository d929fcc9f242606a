-- The weight of each outcome is exact, and the weights of a scenario's outcomes add up to its leak. Assumes nothing.
use mathlib.Core.Path.{◌≡◌, refl, sym, ◌∙◌, ap}
use mathlib.Core.List.{List, [], ◌∷◌}
use Prim.Native.Nat.{ℕ, zero, suc, ◌+◌, ◌-◌, ◌*◌, ◌^◌, ◌≤◌}
use native.Mathlib.Nat.{add-zero, add-suc, mul-one, mul-suc, pow-zero, pow-suc, mul_assoc, mul_comm, mul_right_comm}
use native.Mathlib.Omega.{arith}
use lib.ListN.{length}
use Rattle.numeric.specs.Share.{certain}
use Rattle.model.specs.Bounds.{most_above}
use Rattle.model.specs.Content.{chance}
use Rattle.model.specs.Valid.{ChancesValid}
use Rattle.model.specs.MeaningTheorems.{product, WeightsAreExact, WeightsAddUp}
use Rattle.model.proofs.OutcomeLaws.{chance_le, weight_total, scenario_total, Branch, scenario_outcome}

pow_add : (a m n : ℕ) → a ^ (m + n) ≡ a ^ m * a ^ n
pow_add a m zero = rw (add-zero, pow-zero, mul-one) refl
pow_add a m (suc n) = rw (add-suc, pow-suc a (m + n), pow-suc a n, pow_add a m n) (mul_assoc (a ^ m) (a ^ n) a)

-- six digits for each branching
millions : (k : ℕ) → 10 ^ (6 * k) ≡ certain ^ k
millions zero = refl
millions (suc k) = rw (mul-suc, pow_add, millions k) (sym (pow-suc certain k))

-- the weight at the end of a path: 1,000,000 for each of the 8 branchings that the path does not have
unfoldable pub weight_at : ℕ → List ℕ → ℕ
weight_at leak path = leak * product path * certain ^ (suc most_above - length path)

-- its parts of 1,000,000, where a branching may stand
unfoldable pub parts_at : ℕ → List ℕ → ℕ
parts_at leak path = leak * product path * certain ^ (most_above - length path)

pub weight_parts : (leak : ℕ) (path : List ℕ) → length path ≤ most_above → weight_at leak path ≡ parts_at leak path * certain
unfolding weight_at parts_at
weight_parts leak path h =
    let n : ℕ = most_above - length path in
    let e : suc most_above - length path ≡ suc n = omega arith in
    rw (e, pow-suc) (sym (mul_assoc (leak * product path) (certain ^ n) certain))

regroup : (a b c q : ℕ) → a * b * c * q ≡ a * (q * b) * c
regroup a b c q = simp (mul_assoc, mul_comm)

-- a branch of chance q takes q of these parts
pub parts_branch : (leak q : ℕ) (path : List ℕ) → length path ≤ most_above → parts_at leak path * q ≡ weight_at leak (q ∷ path)
unfolding weight_at parts_at product
parts_branch leak q path h =
    let e : suc most_above - suc (length path) ≡ most_above - length path = omega arith in
    rw e (regroup leak (product path) (certain ^ (most_above - length path)) q)

-- the weight of a path passes to each branch
pub weight_branch : (leak f w q g v : ℕ) (path : List ℕ) → length path ≤ most_above → Branch f w q g v → w ≡ weight_at leak path → v ≡ weight_at leak (q ∷ path)
weight_branch leak f w q g v path h b e = b.weight (parts_at leak path) (e ∙ weight_parts leak path h) ∙ parts_branch leak q path h

pub weight_root : (leak : ℕ) → leak * 10 ^ 48 ≡ weight_at leak []
unfolding weight_at product
weight_root leak = rw mul-one refl

-- the weight at the end of a path, times 10^6 for each of its branchings
weight_exact : (leak : ℕ) (path : List ℕ) → length path ≤ suc most_above → weight_at leak path * 10 ^ (6 * length path) ≡ leak * 10 ^ 48 * product path
unfolding weight_at
weight_exact leak path h =
    let k : ℕ = length path in
    let n : ℕ = suc most_above - k in
    let e : n + k ≡ suc most_above = omega arith in
    rw (millions k) (
    mul_assoc (leak * product path) (certain ^ n) (certain ^ k)
    ∙ ap (λ (x : ℕ). leak * product path * x) (sym (pow_add certain n k) ∙ ap (λ (x : ℕ). certain ^ x) e)
    ∙ mul_right_comm leak (product path) (10 ^ 48)
    )

pub weights_are_exact : WeightsAreExact
weights_are_exact c v s i o m =
    let k = scenario_outcome (λ f w path. w ≡ weight_at s.frequency path) (weight_branch s.frequency) c v s i (weight_root s.frequency) o m in
    rw k.holds (weight_exact s.frequency o.path k.few)

pub weights_add_up : WeightsAddUp
unfolding ChancesValid
weights_add_up = scenario_total ChancesValid (λ f w. w)
    (λ b l r v. (v.1, v.2, λ f w. weight_total w (chance b) (chance_le b v.0)))
