-- `study::into::read_into` meets its contract: after i bytes the arrays are the machine after the first i bytes. Assumes nothing.
use mathlib.Core.Path.{sym, ◌∙◌, ap}
use Prim.Native.Nat.{◌-◌}
use native.Mathlib.Omega.{arith}
use lib.ListN.{take, drop}
use Rattle.state.specs.declared.Core.{Core}
use Rattle.model.specs.Machine.{state}
use Rattle.study.proofs.LoopLaws.{read_none, read_next, read_whole}
use Rattle.study.proofs.SpanLaws.{stays_wide}
use Rattle.study.proofs.into.read_into.Goals as goal

pub loop-i-init : goal.loop-i-init
loop-i-init c = (omega arith, c.requires, rw c.kinds_of-kinds.ensures (sym (read_none _)))

pub read_on-run-requires : goal.read_on-run-requires
read_on-run-requires c = (c.loop-i-test.true, c.loop-i.invariant.1)

pub loop-i-smaller : goal.loop-i-smaller
loop-i-smaller c = omega (arith, c.read_on-run.ensures.from_lt_at)

pub loop-i-preserved : goal.loop-i-preserved
loop-i-preserved c =
    let v = c.loop-i in
    let l = c.args.bytes.now in
    let r = c.read_on-run in
    let n = r.result.at in (
      r.ensures.from_lt_at.1,
      stays_wide _ _ (take (n - v.i) (drop v.i l)) r.ensures.facts_after v.invariant.1,
      read_next _ _ _ l v.i n (omega (arith, r.ensures.from_lt_at)) v.invariant.2 r.ensures.facts_after,
    )

pub returns : goal.returns
returns c =
    let v = c.loop-i in
    let e = read_whole _ _ c.args.bytes.now v.i v.invariant.2 c.loop-i-test.false in
    ap (λ (x : Core). state x v.pending v.tables.stack v.tables.rows.sums v.tables.rows.margins v.tables.rows.facts) c.with_kinds.ensures ∙ e
