-- The reported sum of a target differs from the exact one by less than its margin, or all three are 0. Assumes nothing.
use mathlib.Core.Path.{◌≡◌, refl, sym, ◌∙◌, ap, subst}
use mathlib.Core.Logic.{◌⊎◌, inl, inr, ⊎_elim}
use mathlib.Core.List.Memᴰ
use mathlib.Core.List.{List, [], ◌∷◌, Memᴰ}
use Prim.Native.Nat.{ℕ, suc, ◌+◌, ◌*◌, ◌^◌, ◌<◌, ◌≤◌}
use native.Mathlib.Nat.{one-mul, suc-mul, add-mul, mul_assoc, mul_comm, mul_right_comm, mul-le-mul_left, mul-le-mul_right, mul-lt-mul_of_pos_right, mul-pos, one-le-pow, le_of_mul-le-mul_right}
use native.Mathlib.Decide.{ℕ_discrete}
use native.Mathlib.Omega.{arith}
use lib.ListN.{length}
use Rattle.numeric.specs.Choice.{if_eq}
use Rattle.numeric.specs.Share.{certain, share_of}
use Rattle.numeric.proofs.ChoiceLaws.{eq_case, ne_case}
use Rattle.numeric.proofs.ShareLaws.{share_plain}
use Rattle.vulnerability.proofs.Laws.{effect_le}
use Rattle.model.specs.Bounds.{most_above}
use Rattle.model.specs.Sums.{sum_over}
use Rattle.model.specs.Content.{Effect, target_of, Content}
use Rattle.model.specs.Valid.{Valid}
use Rattle.model.specs.Outcomes.{Outcome, above, outcomes_of, scenario_outcomes}
use Rattle.model.specs.Report.{judgement, over_effects, sum_at, margin_at, exact_at}
use Rattle.model.specs.MeaningTheorems.{SumsWithinMargin, UnnamedNoMargin}
use Rattle.model.proofs.ListLaws.{join_found}
use Rattle.model.proofs.OutcomeLaws.{Branch, scenario_outcome}
use Rattle.model.proofs.Weights.{weight_at, parts_at, weight_parts, weight_root, weight_branch}

-- f units, each S parts, and an exact weight w lie at most d units apart
record Near (S f w d : ℕ) : Type 0 where
  not_above : f * S ≤ w + d * S
  not_below : w ≤ f * S + d * S

-- q of M parts of the two
module _ (S M f w d q : ℕ) (h : q ≤ M) (n : Near S f w d) where
  apart : d * S * q ≤ d * (S * M)
  apart = rw (← mul_assoc d S M) (mul-le-mul_left (d * S) h)

  part_not_above : f * q * S ≤ w * q + d * (S * M)
  part_not_above =
      let a : f * S * q ≤ (w + d * S) * q = mul-le-mul_right q n.not_above in
      let e = mul_right_comm f q S in
      let g = add-mul w (d * S) q in
      let k = apart in
      omega arith

  part_not_below : w * q ≤ f * q * S + d * (S * M)
  part_not_below =
      let a : w * q ≤ (f * S + d * S) * q = mul-le-mul_right q n.not_below in
      let e = mul_right_comm f q S in
      let g = add-mul (f * S) (d * S) q in
      let k = apart in
      omega arith

-- at a branch of chance q and frequency g the two lie one unit further apart at most
near_part : (S M d f u q g : ℕ) → 0 < M → q ≤ M → g * M ≤ f * q + M → f * q ≤ g * M + M → Near S f (u * M) d → Near S g (u * q) (suc d)
near_part S M d f u q g pos h hi lo n =
    let a : g * M * S ≤ (f * q + M) * S = mul-le-mul_right S hi in
    let b : f * q * S ≤ (g * M + M) * S = mul-le-mul_right S lo in
    let up = part_not_above S M f (u * M) d q h n in
    let dn = part_not_below S M f (u * M) d q h n in
    let e1 = add-mul (f * q) M S in
    let e2 = add-mul (g * M) M S in
    let e3 : g * M * S ≡ g * S * M = mul_right_comm g M S in
    let e4 : u * M * q ≡ u * q * M = mul_right_comm u M q in
    let e5 : suc d * S * M ≡ d * (S * M) + S * M = mul_assoc (suc d) S M ∙ suc-mul d (S * M) in
    let e6 = mul_comm M S in
    let c1 = add-mul (u * q) (suc d * S) M in
    let c2 = add-mul (g * S) (suc d * S) M in
    let above : g * S * M ≤ (u * q + suc d * S) * M = omega arith in
    let below : u * q * M ≤ (g * S + suc d * S) * M = omega arith in
    record { not_above = le_of_mul-le-mul_right above pos; not_below = le_of_mul-le-mul_right below pos }

-- a sum of s units, each D parts, differs from an exact sum of x parts by less than m units
record Inside (D s x m : ℕ) : Type 0 where
  not_above : s * D < x + m * D
  not_below : x < s * D + m * D

-- an effect of chance c in an outcome of frequency f and weight w: it adds s to the sum, w × c to the exact sum, d + 1 to the margin
effect_inside : (S M d f w c s : ℕ) → 0 < S → 0 < M → c ≤ M → s * M ≤ f * c → f * c < s * M + M → Near S f w d → Inside (S * M) s (w * c) (d + 1)
effect_inside S M d f w c s posS posM h lo hi n =
    let a : s * M * S ≤ f * c * S = mul-le-mul_right S lo in
    let b : f * c * S < (s * M + M) * S = mul-lt-mul_of_pos_right hi posS in
    let up = part_not_above S M f w d c h n in
    let dn = part_not_below S M f w d c h n in
    let e1 = add-mul (s * M) M S in
    let e2 : s * M * S ≡ s * (S * M) = mul_assoc s M S ∙ ap (λ (x : ℕ). s * x) (mul_comm M S) in
    let e3 : (d + 1) * (S * M) ≡ d * (S * M) + S * M = add-mul d 1 (S * M) ∙ ap (λ (x : ℕ). d * (S * M) + x) (one-mul (S * M)) in
    let e4 = mul_comm M S in
    let z : 0 < S * M = mul-pos posS posM in
    record { not_above = omega arith; not_below = omega arith }

-- no effect counts, and sum, exact sum and margin are 0
record Zero (N : Type 0) (s x m : ℕ) : Type 0 where
  none : N → ⊥
  sum : s ≡ 0
  exact : x ≡ 0
  margin : m ≡ 0

-- either an effect counts, and the totals differ by less than the margin, or none does; N says that one counts
abbrev Totals : Type 0 → ℕ → ℕ → ℕ → ℕ → Type 0
Totals N D s x m = (N × Inside D s x m) ⊎ Zero N s x m

inside_same : {D s x m t y n : ℕ} → t ≡ s → y ≡ x → n ≡ m → Inside D s x m → Inside D t y n
inside_same p q r h = rw (p, q, r) h

inside_add : (D s1 x1 m1 s2 x2 m2 : ℕ) → Inside D s1 x1 m1 → Inside D s2 x2 m2 → Inside D (s1 + s2) (x1 + x2) (m1 + m2)
inside_add D s1 x1 m1 s2 x2 m2 a b =
    let e = add-mul s1 s2 D in
    let g = add-mul m1 m2 D in
    record { not_above = omega arith; not_below = omega arith }

-- the totals of two groups, added
module _ (N N1 N2 : Type 0) (one : N1 → N) (two : N2 → N) (either : N → N1 ⊎ N2) where
  totals_add : (D s1 x1 m1 s2 x2 m2 : ℕ) → Totals N1 D s1 x1 m1 → Totals N2 D s2 x2 m2 → Totals N D (s1 + s2) (x1 + x2) (m1 + m2)
  totals_add D s1 x1 m1 s2 x2 m2 (inl a) (inl b) = inl (one a.0, inside_add D s1 x1 m1 s2 x2 m2 a.1 b.1)
  totals_add D s1 x1 m1 s2 x2 m2 (inl a) (inr b) = inl (one a.0, inside_same (omega arith) (omega arith) (omega arith) a.1)
  totals_add D s1 x1 m1 s2 x2 m2 (inr a) (inl b) = inl (two b.0, inside_same (omega arith) (omega arith) (omega arith) b.1)
  totals_add D s1 x1 m1 s2 x2 m2 (inr a) (inr b) =
      inr (record { none = λ n. ⊎_elim a.none b.none (either n); sum = omega arith; exact = omega arith; margin = omega arith })

-- the totals over a list
module _ {A : Type 0} (N : A → Type 0) (D : ℕ) (s x m : A → ℕ) where
  totals_over : (us : List A) → ((a : A) → Memᴰ a us → Totals (N a) D (s a) (x a) (m a))
      → Totals ((a : A) × Memᴰ a us × N a) D (sum_over s us) (sum_over x us) (sum_over m us)
  unfolding sum_over
  totals_over [] h = inr (record { none = λ t. Memᴰ.not-nil t.1; sum = refl; exact = refl; margin = refl })
  totals_over (b ∷ bs) h =
      totals_add ((a : A) × Memᴰ a (b ∷ bs) × N a) (N b) ((a : A) × Memᴰ a bs × N a)
      (λ n. (b, Memᴰ.head refl, n))
      (λ t. (t.0, Memᴰ.tail t.1, t.2))
      (λ t. ⊎_elim (λ e. inl (subst N e t.2)) (λ k. inr (t.0, k, t.2)) (Memᴰ.cases_cons t.1))
      D (s b) (x b) (m b) (sum_over s bs) (sum_over x bs) (sum_over m bs)
      (h b (Memᴰ.head refl)) (totals_over bs (λ a k. h a (Memᴰ.tail k)))

-- one effect, which counts if its target is t
totals_one : (i t D s x m : ℕ) → Inside D s x m → Totals (i ≡ t) D (if_eq i t s 0) (if_eq i t x 0) (if_eq i t m 0)
totals_one i t D s x m h = go (ℕ_discrete i t)
  where
    go : Dec (i ≡ t) → Totals (i ≡ t) D (if_eq i t s 0) (if_eq i t x 0) (if_eq i t m 0)
    go (yes e) = inl (e, inside_same (sym (eq_case i t s 0 e refl)) (sym (eq_case i t x 0 e refl)) (sym (eq_case i t m 0 e refl)) h)
    go (no e) =
        inr (record { none = e; sum = sym (ne_case i t s 0 e refl); exact = sym (ne_case i t x 0 e refl); margin = sym (ne_case i t m 0 e refl) })

-- at the end of a path: its weight, and a frequency at most as many units away as it has branchings
record Along (leak f w : ℕ) (path : List ℕ) : Type 0 where
  weight : w ≡ weight_at leak path
  near : Near (10 ^ 48) f w (length path)

along_branch : (leak f w q g v : ℕ) (path : List ℕ) → length path ≤ most_above → Branch f w q g v → Along leak f w path → Along leak g v (q ∷ path)
along_branch leak f w q g v path h b a =
    let u : ℕ = parts_at leak path in
    let e : w ≡ u * certain = a.weight ∙ weight_parts leak path h in
    let n : Near (10 ^ 48) f (u * certain) (length path) = rw e at a.near in
    record {
      weight = weight_branch leak f w q g v path h b a.weight;
      near = rw (b.weight u e) (near_part (10 ^ 48) certain (length path) f u q g (omega arith) b.chance b.not_above b.not_below n);
    }

near_root : (S f : ℕ) → Near S f (f * S) 0
near_root S f = record { not_above = omega arith; not_below = omega arith }

along_root : (leak : ℕ) → Along leak leak (leak * 10 ^ 48) []
along_root leak = record { weight = weight_root leak; near = near_root (10 ^ 48) leak }

outcome_near : (c : Content) → Valid c → (o : Outcome) → Memᴰ o (outcomes_of c) → Near (10 ^ 48) o.frequency o.weight (above o)
unfolding outcomes_of
outcome_near c v o m =
    let j = join_found scenario_outcomes c.scenarios o m in
    let leak : ℕ = j.0.frequency in
    (scenario_outcome (Along leak) (along_branch leak) c v j.0 j.1 (along_root leak) o j.2).holds.near

-- what an effect adds, with the share that the report adds
chance_inside : (f w d c : ℕ) → c ≤ certain → Near (10 ^ 48) f w d → Inside (10 ^ 54) (share_of f c) (w * c) (d + 1)
chance_inside f w d c h n =
    let s = share_plain f c h in
    effect_inside (10 ^ 48) certain d f w c (share_of f c) (one-le-pow 48 10 (omega arith)) (omega arith) h (omega arith) (omega arith) n

-- an effect that names t, by its outcome
abbrev Naming : Content → ℕ → Type 0
Naming c t = (o : Outcome) × Memᴰ o (outcomes_of c) × ((e : Effect) × Memᴰ e o.effects × (target_of e ≡ t))

totals : (c : Content) → Valid c → (t : ℕ) → Totals (Naming c t) (10 ^ 54) (sum_at c t) (exact_at c t) (margin_at c t)
unfolding sum_at exact_at margin_at over_effects judgement
totals c v t =
    totals_over _ (10 ^ 54) _ _ _ (outcomes_of c)
    (λ o i. totals_over _ (10 ^ 54) _ _ _ o.effects
    (λ e k. totals_one (target_of e) t (10 ^ 54) _ _ _
    (chance_inside o.frequency o.weight (above o) (judgement c o e).chance (effect_le _ _ _ _ _) (outcome_near c v o i))))

pub sums_within_margin : SumsWithinMargin
sums_within_margin c v t =
    ⊎_elim
    (λ h. let n = h.0 in inl (record {
      named = record { outcome = n.0; reached = n.1; effect = n.2.0; among = n.2.1; names = n.2.2 };
      not_above = h.1.not_above;
      not_below = h.1.not_below;
    }))
    (λ h. inr (record {
      unnamed = λ n. h.none (n.outcome, n.reached, (n.effect, n.among, n.names));
      reported = h.sum;
      exact = h.exact;
    }))
    (totals c v t)

pub unnamed_no_margin : UnnamedNoMargin
unnamed_no_margin c v t u =
    ⊎_elim
    (λ h. let n = h.0 in absurd (u (record { outcome = n.0; reached = n.1; effect = n.2.0; among = n.2.1; names = n.2.2 })))
    (λ h. h.margin)
    (totals c v t)
