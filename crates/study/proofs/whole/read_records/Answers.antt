-- `study::whole::read_records` meets its contract: each turn reads a record more, or effects or records of trees in a row. Assumes nothing.
use Prim.Native.Nat.{◌+◌}
use native.Mathlib.Omega.{arith}
use lib.ListN.{drop, length-drop}
use Rattle.study.specs.Spans.{Next}
use Rattle.study.proofs.SpanLaws.{standing_start, reached_start, rest_is, more_read, read_in, read_to, standing_next, reached_next}
use Rattle.study.proofs.whole.read_records.Goals as goal

pub loop-at-init : goal.loop-at-init
loop-at-init c = (standing_start _ c.requires, λ q. reached_start _ _)

pub overflow_sub-bytes : goal.overflow_sub-bytes
overflow_sub-bytes c = omega (arith, c.loop-at.invariant.0.room)

pub slice_bounds-read_some-count : goal.slice_bounds-read_some-count
slice_bounds-read_some-count c = omega (arith, c.loop-at.invariant.0.room)

pub slice_bounds-read_some-start : goal.slice_bounds-read_some-start
slice_bounds-read_some-start c = omega (arith, c.loop-at.invariant.0.room)

pub read_some-run-requires : goal.read_some-run-requires
read_some-run-requires c =
    let v = c.loop-at in
    let l = c.args.bytes.now in
    rw (rest_is l v.at) (omega (arith, length-drop v.at l, v.invariant.0.room))

pub overflow_add-at : goal.overflow_add-at
overflow_add-at c =
    let v = c.loop-at in
    let l = c.args.bytes.now in
    omega (arith, (read_to l v.at _ v.invariant.0 c.read_some-run.ensures.records).there, c.well_formed)

pub slice_bounds-next_here-count : goal.slice_bounds-next_here-count
slice_bounds-next_here-count c =
    let v = c.loop-at in
    let l = c.args.bytes.now in
    (read_to l v.at _ v.invariant.0 c.read_some-run.ensures.records).there

pub slice_bounds-next_here-start : goal.slice_bounds-next_here-start
slice_bounds-next_here-start c =
    let v = c.loop-at in
    let l = c.args.bytes.now in
    omega (arith, (read_to l v.at _ v.invariant.0 c.read_some-run.ensures.records).there)

pub slice_bounds-entered-count : goal.slice_bounds-entered-count
slice_bounds-entered-count c =
    let v = c.loop-at in
    let l = c.args.bytes.now in
    (read_to l v.at _ v.invariant.0 c.read_some-run.ensures.records).there

pub slice_bounds-entered-start : goal.slice_bounds-entered-start
slice_bounds-entered-start c =
    let v = c.loop-at in
    let l = c.args.bytes.now in
    omega (arith, (read_to l v.at _ v.invariant.0 c.read_some-run.ensures.records).there)

pub entered-core-requires : goal.entered-core-requires
entered-core-requires c = (c.next_here.ensures c.if-not-next_here.false).between

pub loop-at-smaller : goal.loop-at-smaller
loop-at-smaller c =
    let v = c.loop-at in
    let l = c.args.bytes.now in
    omega (arith, v.invariant.0.room, (read_in l v.at _ c.read_some-run.ensures.records).first)

pub loop-at-preserved : goal.loop-at-preserved
loop-at-preserved c =
    let v = c.loop-at in
    let l = c.args.bytes.now in
    let some = read_in l v.at _ c.read_some-run.ensures.records in
    let r = read_to l v.at _ v.invariant.0 c.read_some-run.ensures.records in
    let at = v.at + c.read_some-run.result.at in
    let n : Next c.read_some-run.result.core.reading (drop at l) = rw (rest_is l at) at (c.next_here.ensures c.if-not-next_here.false) in (
      standing_next _ l at r n,
      λ q.
          let a = more_read _ _ _ l v.at _ v.invariant.0 (v.invariant.1 q) some (rw (rest_is l v.at) at (c.read_some-run.ensures.by_index q)) in
          rw (c.entered-core.ensures, rest_is l at) (reached_next _ _ q _ _ _ _ l at r n a),
    )

pub returns-then-not-next_here : goal.returns-then-not-next_here
returns-then-not-next_here c =
    let v = c.loop-at in
    let l = c.args.bytes.now in
    let some = read_in l v.at _ c.read_some-run.ensures.records in
    record {
      records = read_to l v.at _ v.invariant.0 c.read_some-run.ensures.records;
      by_index = λ q. more_read _ _ _ l v.at _ v.invariant.0 (v.invariant.1 q) some (rw (rest_is l v.at) at (c.read_some-run.ensures.by_index q));
    }

pub returns : goal.returns
returns c = let z : ⊥ = omega (arith, c.loop-at-test.false, c.loop-at.invariant.0.room) in absurd z
