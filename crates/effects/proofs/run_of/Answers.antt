-- `effects::run_of` meets its contract, by the kind of the first effect. Assumes nothing.
use mathlib.Core.Path.{sym, ◌∙◌}
use native.Mathlib.Omega.{arith}
use borrow.Author.Rules.{rules}
use Rattle.effects.proofs.TimingLaws.{timing_eight, timing_six, alike_eight, alike_six, unit_most}
use Rattle.effects.proofs.run_of.Goals as goal

pub returns-in-8 : goal.returns-in-8
returns-in-8 c =
    let eight = sym c.kind.ensures ∙ c.in-8.is in
    let l = c.args.bytes.now in
    record {
      in_reach = (omega arith, omega (arith, c.with_unit.ensures, unit_most c.byte_at-unit.result l c.reach-top.result, c.reach-top.ensures));
      alike = (rw (c.clock_of.ensures, c.byte_at-unit.ensures) (timing_eight l eight), rw (c.with_unit.ensures, c.byte_at-unit.ensures, c.reach-top.ensures) (alike_eight l _ eight));
    }

pub returns-in_default : goal.returns-in_default
returns-in_default c =
    let l = c.args.bytes.now in
    record {
      in_reach = (omega arith, omega (arith, c.reach-top.ensures));
      alike = (rw c.clock_of-in_default.ensures (timing_six l (search rules)), c.reach-top.ensures ∙ alike_six l _ (search rules));
    }
