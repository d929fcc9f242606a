-- `study::scenarios::read_from_first` meets its contract: each turn reads a record of a tree more, or effects in a row. Assumes nothing.
use mathlib.Core.Path.{◌≡◌, subst}
use mathlib.Core.List.{List, []}
use Prim.Native.Nat.{ℕ, ◌+◌}
use native.Mathlib.Omega.{arith}
use lib.ListN.{drop, length-drop}
use Rattle.model.specs.Machine.{state, core, reading}
use Rattle.counting.specs.Kinds.{with_kinds}
use Rattle.study.specs.Spans.{length_of, Next}
use Rattle.study.proofs.SpanLaws.{Reached, standing_start, reached_start, rest_is, scenario_known, more_read, read_in, read_to, standing_next, reached_next}
use Rattle.study.proofs.MoveLaws.{at_first, counted}
use Rattle.study.proofs.scenarios.read_from_first.Goals as goal

pub loop-run-init : goal.loop-run-init
loop-run-init c =
    let g = c.args in
    let l = g.bytes.now in
    let t = g.tables.now in
    let z : length_of l ≡ 0 + length_of l = omega arith in (
      standing_start l c.requires.0,
      c.requires.1,
      λ q.
          subst (λ (x : ℕ). Reached (state (with_kinds (core (at_first (length_of l)) g.c.counts g.c.branch g.c.tally) g.kinds.now) q t.stack t.rows.sums t.rows.margins t.rows.facts) (state (with_kinds (core (reading 0 (length_of l) x 0 0 0) g.c.counts g.c.branch g.c.tally) g.kinds.now) q t.stack t.rows.sums t.rows.margins t.rows.facts) l 0)
          z (reached_start _ l),
    )

pub slice_bounds-read_one-count : goal.slice_bounds-read_one-count
slice_bounds-read_one-count c = omega (arith, c.loop-run.invariant.0.room)

pub slice_bounds-read_one-start : goal.slice_bounds-read_one-start
slice_bounds-read_one-start c = omega (arith, c.loop-run.invariant.0.room)

pub read_one-run-requires : goal.read_one-run-requires
read_one-run-requires c =
    let v = c.loop-run in
    let w = v.invariant in
    let l = c.args.bytes.now in
    (rw (rest_is l v.at) (omega (arith, length-drop v.at l, w.0.room)), rw (rest_is l v.at) w.1, rw (rest_is l v.at) (omega (arith, length-drop v.at l, w.0.room, c.well_formed)))

pub overflow_add-at : goal.overflow_add-at
overflow_add-at c =
    let v = c.loop-run in
    let l = c.args.bytes.now in
    omega (arith, (read_to l v.at _ v.invariant.0 c.read_one-run.ensures.records).there, c.well_formed)

pub slice_bounds-scenario_here-count : goal.slice_bounds-scenario_here-count
slice_bounds-scenario_here-count c =
    let v = c.loop-run in
    (read_to c.args.bytes.now v.at _ v.invariant.0 c.read_one-run.ensures.records).there

pub slice_bounds-scenario_here-start : goal.slice_bounds-scenario_here-start
slice_bounds-scenario_here-start c =
    let v = c.loop-run in
    omega (arith, (read_to c.args.bytes.now v.at _ v.invariant.0 c.read_one-run.ensures.records).there)

pub loop-run-smaller : goal.loop-run-smaller
loop-run-smaller c =
    let v = c.loop-run in
    omega (arith, v.invariant.0.room, (read_in c.args.bytes.now v.at _ c.read_one-run.ensures.records).first)

pub loop-run-preserved : goal.loop-run-preserved
loop-run-preserved c =
    let v = c.loop-run in
    let l = c.args.bytes.now in
    let w = v.invariant in
    let some = read_in l v.at _ c.read_one-run.ensures.records in
    let r = read_to l v.at _ w.0 c.read_one-run.ensures.records in
    let at = v.at + c.read_one-run.result.at in
    let a : ((q : List ℕ) → _) = λ q. more_read _ _ _ l v.at _ w.0 (w.2 q) some (rw (rest_is l v.at) at (c.read_one-run.ensures.by_index q)) in
    let n = rw (rest_is l at) at (c.scenario_here.ensures c.if-not-scenario_here.false) in
    let p = counted l at r (omega (arith, c.well_formed)) _ _ _ [] _ _ _ _ _ (a []) n.0 in
    let d = length-drop at l in
    let x : Next c.read_one-run.result.core.reading (drop at l) =
    record {
      between = record { reads = n.0; none = n.1; room = omega (arith, p, d, n.2, r.there, c.well_formed) };
      known = scenario_known _ n.3;
      room = n.2;
    } in (
      standing_next _ l at r x,
      n.3,
      λ q. rw p at (reached_next _ _ q _ _ _ _ l at r x (a q)),
    )

pub returns-then-not-scenario_here : goal.returns-then-not-scenario_here
returns-then-not-scenario_here c =
    let v = c.loop-run in
    let l = c.args.bytes.now in
    let w = v.invariant in
    let some = read_in l v.at _ c.read_one-run.ensures.records in
    record {
      records = read_to l v.at _ w.0 c.read_one-run.ensures.records;
      by_index = λ q. more_read _ _ _ l v.at _ w.0 (w.2 q) some (rw (rest_is l v.at) at (c.read_one-run.ensures.by_index q));
    }
