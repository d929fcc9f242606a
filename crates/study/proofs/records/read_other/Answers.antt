-- `study::records::read_other` meets its contract, kind by kind. Assumes nothing.
use mathlib.Core.Path.{◌≡◌, refl, sym, ◌∙◌}
use mathlib.Core.Bool.{true, false}
use native.Mathlib.Omega.{arith}
use mathlib.Core.List.{List}
use Prim.Native.Nat.{ℕ}
use lib.ListN.{get_or}
use Rattle.model.specs.Format.{closing_rec}
use Rattle.model.specs.Verdict.{field, decode}
use Rattle.decoding.proofs.DecodeLaws.{decode_opening, decode_target, decode_closing}
use Rattle.numeric.specs.Choice.{if_eq}
use Rattle.study.specs.Spans.{of_scenario}
use Rattle.study.proofs.SpanLaws.{other_kinds}
use Rattle.study.proofs.KindTotalLaws.{Other, other_read}
use Rattle.study.proofs.records.read_other.Goals as goal

pub read_target-requires : goal.read_target-requires
read_target-requires c = decode_target _ (sym c.kind-kind.ensures ∙ c.in-2.is)

pub returns-in-2-clause-facts_after : goal.returns-in-2-clause-facts_after
unfolding Other
returns-in-2-clause-facts_after c l q t s m =
    let d = decode_target c.args.p.now (sym c.kind-kind.ensures ∙ c.in-2.is) in
    rw c.ended.ensures.0 (other_read l _ _ q t s m _ t s m _ _ _ d tt (c.read_target.ensures q t s m))

pub read_opening-requires : goal.read_opening-requires
read_opening-requires c = decode_opening _ (sym c.kind-kind.ensures ∙ c.in-1.is)

pub returns-in-1-clause-facts_after : goal.returns-in-1-clause-facts_after
unfolding Other
returns-in-1-clause-facts_after c l q t s m =
    let d = decode_opening c.args.p.now (sym c.kind-kind.ensures ∙ c.in-1.is) in
    rw c.ended-in-1.ensures.0 (other_read l _ _ q t s m _ t s m _ _ _ d tt (c.read_opening.ensures q t s m _))

-- what is left is a closing
closing_at : (p : List ℕ) (kind : ℕ) → of_scenario (get_or p 0 0) ≡ false → kind ≡ get_or p 0 0 → (kind ≡ 2 → ⊥) → (kind ≡ 1 → ⊥) → decode p ≡ closing_rec (field p 1 4) (field p 5 8)
unfolding of_scenario if_eq
closing_at p kind h e target opening =
    let no : (n : ℕ) → of_scenario n ≡ true → get_or p 0 0 ≡ n → ⊥ = λ n. other_kinds _ n h in
    decode_closing p (no 10 refl) (no 8 refl) (no 6 refl) (no 5 refl) (no 4 refl) (no 3 refl) (λ z. target (e ∙ z)) (λ z. opening (e ∙ z))

pub read_closing-requires : goal.read_closing-requires
read_closing-requires c = closing_at c.args.p.now _ c.requires c.kind-kind.ensures (λ z. omega (arith, z)) (λ z. omega (arith, z))

pub returns-in_default-clause-facts_after : goal.returns-in_default-clause-facts_after
unfolding Other
returns-in_default-clause-facts_after c l q t s m =
    let d = closing_at c.args.p.now _ c.requires c.kind-kind.ensures (λ z. omega (arith, z)) (λ z. omega (arith, z)) in
    rw c.ended-in_default.ensures.0 (other_read l _ _ q t s m _ t s m _ _ _ d tt (c.read_closing.ensures q t s m _))
