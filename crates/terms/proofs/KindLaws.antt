-- Which rule an outcome kind has. Assumes nothing.
use mathlib.Core.Path.{◌≡◌}
use Prim.Native.Nat.{ℕ, ◌<◌, ◌≤◌}
use native.Mathlib.Omega.{arith}
use Rattle.numeric.proofs.ChoiceLaws.{eq_case, ne_case, le_case, gt_case, eq_both, le_both}
use Rattle.terms.specs.Terms.{by_kind}
use Rattle.terms.specs.declared.Judged.{Judged}

module _ (kind : ℕ) (fire flash blast other : Judged) {r : Judged} where
  pub by_none : kind ≡ 0 → r ≡ other → r ≡ by_kind kind fire flash blast other
  unfolding by_kind
  by_none h e = ne_case _ _ _ _ (λ z. omega arith) (ne_case _ _ _ _ (λ z. omega arith) (eq_case _ _ _ _ h e))

  pub by_fire : (kind ≡ 0 → ⊥) → kind ≤ 3 → r ≡ fire → r ≡ by_kind kind fire flash blast other
  unfolding by_kind
  by_fire n h e = ne_case _ _ _ _ (λ z. omega arith) (ne_case _ _ _ _ (λ z. omega arith) (ne_case _ _ _ _ n (le_case _ _ _ _ h e)))

  pub by_other : 3 < kind → (kind ≡ 4 → ⊥) → (kind ≡ 5 → ⊥) → r ≡ other → r ≡ by_kind kind fire flash blast other
  unfolding by_kind
  by_other h m n e = ne_case _ _ _ _ n (ne_case _ _ _ _ m (ne_case _ _ _ _ (λ z. omega arith) (gt_case _ _ _ _ h e)))

-- what holds of each rule holds of the one that the kind has
pub by_all : (P : Judged → Type 0) (kind : ℕ) (fire flash blast other : Judged) → P fire → P flash → P blast → P other → P (by_kind kind fire flash blast other)
unfolding by_kind
by_all P kind fire flash blast other a b c d =
    eq_both P kind 5 _ _ c (eq_both P kind 4 _ _ b (eq_both P kind 0 _ _ d (le_both P kind 3 _ _ a d)))
