-- An effect whose chance is 0 leaves a row's sum and facts. Assumes nothing.
use mathlib.Core.Path.{◌≡◌, refl, sym}
use mathlib.Core.Bool.{false}
use Prim.Native.Nat.{ℕ, ◌≤◌}
use native.Mathlib.Omega.{arith}
use Rattle.numeric.specs.Share.{share_of}
use Rattle.numeric.proofs.ChoiceLaws.{eq_both, ge_case}
use Rattle.state.specs.declared.Branch.{Branch}
use Rattle.state.specs.declared.Row.{Row}
use Rattle.vulnerability.specs.Domino.{listed_by}
use Rattle.model.specs.Machine.{most64, marked_facts, row_after}

pub zero_sum : (w : Row) (b : Branch) (c : ℕ) → c ≡ 0 → w.sum ≤ most64 → (row_after w b c).sum ≡ w.sum
unfolding row_after share_of
zero_sum w b c z h = rw z (omega arith)

pub zero_facts : (w : Row) (b : Branch) (c : ℕ) → c ≡ 0 → (row_after w b c).facts ≡ w.facts
unfolding row_after marked_facts listed_by
zero_facts w b c z =
    let e : listed_by c b.leak ≡ false = sym (ge_case _ _ _ _ (omega arith) refl) in
    eq_both (λ (x : ℕ). x ≡ w.facts) _ _ _ _ refl (rw e refl)
