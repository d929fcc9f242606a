-- `effects::with_unit` meets its contract: each turn finds one more. Assumes nothing.
use mathlib.Core.Path.{◌≡◌, refl, sym, ◌∙◌}
use mathlib.Core.List.{List}
use Prim.Native.Nat.{ℕ, ◌+◌, ◌*◌}
use native.Mathlib.Omega.{arith}
use lib.ListN.{drop, get_or}
use Rattle.std.proofs.lemmas.List.{get_or-drop}
use Rattle.numeric.proofs.ChoiceLaws.{eq_case, ne_case, lt_case, ge_case}
use Rattle.effects.specs.Effects.{offset}
use Rattle.effects.specs.Timings.{with_unit}
use Rattle.effects.proofs.Laws.{offset_tens}
use Rattle.effects.proofs.LeadingLaws.{passes_more, leading_only}
use Rattle.effects.proofs.with_unit.Goals as goal
use Rattle.model.specs.Verdict.{field}

-- the byte that is read
read_is : (l : List ℕ) (n : ℕ) → field (drop (offset 10 n) l) 9 1 ≡ get_or l (n * 10 + 9) 0
unfolding field
read_is l n = rw (offset_tens n, get_or-drop (n * 10) l 9 0) (omega arith)

pub returns-then-unit-gt-TENTHS : goal.returns-then-unit-gt-TENTHS
unfolding with_unit
returns-then-unit-gt-TENTHS c = lt_case _ _ _ _ c.if-unit-gt-TENTHS.true refl

pub returns-then-bytes-n : goal.returns-then-bytes-n
unfolding with_unit
returns-then-bytes-n c =
    let v = c.loop-n in
    let l = c.args.bytes.now in
    ge_case _ _ _ _ c.if-unit-gt-TENTHS.false
    (leading_only _ _ v.n
    record {
      within = omega (arith, c.loop-n-test.true);
      passes = v.invariant;
      stops = λ w. sym (ne_case _ _ _ _ (λ e. c.if-bytes-n.true (sym (read_is l v.n) ∙ e)) refl);
    })

pub loop-n-preserved : goal.loop-n-preserved
loop-n-preserved c =
    let v = c.loop-n in
    passes_more _ v.n v.invariant (sym (eq_case _ _ _ _ (read_is c.args.bytes.now v.n ∙ c.if-bytes-n.false) refl))

pub returns : goal.returns
unfolding with_unit
returns c =
    let v = c.loop-n in
    let z : v.n ≡ c.args.top = omega (arith, c.loop-n-test.false, v.auto.n-end) in
    ge_case _ _ _ _ c.if-unit-gt-TENTHS.false
    (leading_only _ _ c.args.top
    record { within = omega arith; passes = rw z at v.invariant; stops = λ w. let z : ⊥ = omega (arith, w) in absurd z })
