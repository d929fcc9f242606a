-- `effects::add_effect` meets its contract, on a target that has a row and on one that has none. Assumes nothing.
use mathlib.Core.Path.{◌≡◌, refl, sym, ◌∙◌, ap}
use Prim.Native.Nat.{ℕ}
use lib.ListN.{set}
use lib.Seq.{set-get_or}
use borrow.Author.Rules.{rules}
use Rattle.std.specs.Prelude.{Option, Some, None}
use Rattle.std.specs.Option.{unwrap_or}
use Rattle.numeric.specs.Choice.{pick}
use Rattle.terms.specs.Scales.{standard}
use Rattle.terms.specs.declared.Judged.{Judged}
use Rattle.vulnerability.specs.Effect.{judgement}
use Rattle.vulnerability.proofs.FormLaws.{people_judged, flash_spares}
use Rattle.effects.proofs.RowLaws.{added, spared, past_added, people_unmarked}
use Rattle.effects.proofs.add_effect.Goals as goal

pub returns-then-e-ge-MOST_TARGETS : goal.returns-then-e-ge-MOST_TARGETS
returns-then-e-ge-MOST_TARGETS c = past_added _ (people_judged _ _) _ _ _ _ _ _ _ c.if-e-ge-MOST_TARGETS.true

-- no chance where no rule judges
chance_or_nought : (chance : Option ℕ) → unwrap_or chance 0 ≡ (judgement chance).chance
chance_or_nought (Some chance) = refl
chance_or_nought None = refl

-- people are not marked
pub returns-then-target-eq-PEOPLE : goal.returns-then-target-eq-PEOPLE
returns-then-target-eq-PEOPLE c =
    let j = c.effect-chance.ensures ∙ c.requires _ _ _ _ in
    let p = people_judged standard c.args.clock c.unpack_facts-target.result c.args.kind c.args.e.intensity c.args.e.duration c.if-target-eq-PEOPLE.true in
    added _ _ _ _ _ _ _ _ c.if-e-ge-MOST_TARGETS.false c.unpack_facts-target.ensures c.margin_after.ensures
    (c.unwrap_or.ensures ∙ chance_or_nought c.effect-chance.result ∙ ap (λ (x : Judged). x.chance) j) (ap (λ x. pick x 0 1) (p ∙ ap (λ (x : Judged). x.judged) (c.requires _ _ _ _))) c.add_share.ensures
    (people_unmarked c.args.rows.now.facts c.args.e.target _ c.args.b.leak c.unpack_facts-target.ensures c.if-target-eq-PEOPLE.true)

pub returns-then-kind-eq-FLASH_FIRE : goal.returns-then-kind-eq-FLASH_FIRE
returns-then-kind-eq-FLASH_FIRE c =
    let j = flash_spares standard c.args.clock c.unpack_facts-target.result c.args.kind c.args.e.intensity c.args.e.duration (search rules) (search rules) ∙ c.requires _ _ _ _ in
    spared _ _ _ _ _ _ _ _ c.if-e-ge-MOST_TARGETS.false c.unpack_facts-target.ensures c.margin_after.ensures
    (ap (λ (x : Judged). x.chance) j) (ap (λ (x : Judged). pick x.judged 0 1) j) (search rules)

pub returns-in-None : goal.returns-in-None
returns-in-None c =
    let j = c.in-None.ensures ∙ c.requires _ _ _ _ in
    spared _ _ _ _ _ _ _ _ c.if-e-ge-MOST_TARGETS.false c.unpack_facts-target.ensures c.margin_after.ensures
    (ap (λ (x : Judged). x.chance) j) (ap (λ (x : Judged). pick x.judged 0 1) j) (search rules)

pub returns-then-marked-facts : goal.returns-then-marked-facts
returns-then-marked-facts c =
    let j = c.in-Some.ensures ∙ c.requires _ _ _ _ in
    added _ _ _ _ _ _ _ _ c.if-e-ge-MOST_TARGETS.false c.unpack_facts-target.ensures c.margin_after.ensures
    (ap (λ (x : Judged). x.chance) j) (ap (λ (x : Judged). pick x.judged 0 1) j) c.add_share-in-Some.ensures (ap (set c.args.rows.now.facts c.args.e.target) c.mark-marked.ensures)

-- facts that stay are as if they were written again
pub returns-else-marked-facts : goal.returns-else-marked-facts
returns-else-marked-facts c =
    let j = c.in-Some.ensures ∙ c.requires _ _ _ _ in
    let f = c.args.rows.now.facts in
    let i = c.args.e.target in
    added _ _ _ _ _ _ _ _ c.if-e-ge-MOST_TARGETS.false c.unpack_facts-target.ensures c.margin_after.ensures
    (ap (λ (x : Judged). x.chance) j) (ap (λ (x : Judged). pick x.judged 0 1) j) c.add_share-in-Some.ensures (sym (set-get_or f i 0) ∙ ap (set f i) (sym c.if-marked-facts.false ∙ c.mark-marked.ensures))
