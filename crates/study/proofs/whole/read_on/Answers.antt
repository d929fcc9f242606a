-- `study::whole::read_on` meets its contract: whole records, or a byte and the record that it makes whole. Assumes nothing.
use mathlib.Core.Path.{◌≡◌, ◌∙◌, ap}
use mathlib.Core.Bool.{Bool, true, false}
use mathlib.Core.List.{List}
use Prim.Native.Nat.{ℕ, ◌+◌, ◌<◌}
use native.Mathlib.Omega.{arith}
use lib.ListN.{length, get_or}
use Rattle.numeric.specs.Choice.{pick}
use Rattle.state.specs.declared.Core.{Core}
use Rattle.model.specs.Verdict.{decode}
use Rattle.model.specs.Machine.{state, core, reading, open_phase, step, cleared, record_read}
use Rattle.counting.specs.Kinds.{with_kinds}
use Rattle.study.specs.Spans.{length_of, Next}
use Rattle.study.proofs.SpanLaws.{rest, EnteredEither, either_wide, either_there, either_read, either_byte}
use Rattle.study.proofs.whole.read_on.Goals as goal

-- what has been entered, of the bytes from a place on
entered_at : (b w : Bool) (c d : Core) (n p p' l : List ℕ) (i : ℕ) → (i < length l) × (length p ≡ 16) → length p' ≡ length p → (b ≡ true → Next c.reading (rest l i))
    → (b ≡ true → (w ≡ true) × (d ≡ core (reading open_phase (length_of (rest l i)) (c.reading.place + length_of (rest l i)) c.reading.place 0 0) c.counts c.branch c.tally))
    → (b ≡ false → (x k s m f : List ℕ) → step (state (with_kinds c x) p k s m f) (get_or (rest l i) 0 0) ≡ pick w (cleared (record_read (state (with_kinds d x) p' k s m f) (decode p'))) (state (with_kinds d x) p' k s m f))
    → EnteredEither b w (with_kinds c n) (with_kinds d n) p p' l i
entered_at b w c d n p p' l i h e next record_whole byte =
    record { here = h.0; wide = h.1; stays = e; next = next; record_whole = λ z. ((record_whole z).0, ap (λ (x : Core). with_kinds x n) (record_whole z).1); byte = λ z. byte z n }

pub read_records-run-requires : goal.read_records-run-requires
read_records-run-requires c =
    let e = c.enter-e.ensures in
    either_wide c.next_here-direct.result c.args.c.reading c.args.bytes.now c.enter-e.new.p _ c.args.from c.next_here-direct.ensures (e.p_len_unchanged ∙ c.requires.1) c.source-here.ensures

pub overflow_add-result : goal.overflow_add-result
overflow_add-result c =
    let there = either_there c.next_here-direct.result c.args.bytes.now c.enter-e.new.p _ c.args.from _ c.requires.0 c.source-here.ensures c.read_records-run.ensures.records in
    omega (arith, c.taken_from.ensures, there, c.well_formed)

pub returns-then-e : goal.returns-then-e
returns-then-e c =
    let r = c.read_records-run.ensures in
    let e = c.enter-e.ensures in
    let x = entered_at _ _ c.args.c _ c.args.kinds.now _ _ c.args.bytes.now c.args.from c.requires e.p_len_unchanged c.next_here-direct.ensures e.whole_value e.bytes_value in
    record {
      from_lt_at = rw c.taken_from.ensures (either_there c.next_here-direct.result c.args.bytes.now c.enter-e.new.p _ c.args.from _ c.requires.0 c.source-here.ensures r.records);
      facts_after = rw c.taken_from.ensures (either_read _ _ _ _ _ _ _ _ _ _ _ _ _ _ _ x c.if-e.true c.source-here.ensures r.records r.by_index);
    }

pub returns : goal.returns
returns c =
    let e = c.enter-e.ensures in
    let x = entered_at _ _ c.args.c _ c.args.kinds.now _ _ c.args.bytes.now c.args.from c.requires e.p_len_unchanged c.next_here-direct.ensures e.whole_value e.bytes_value in
    record {
      from_lt_at = (omega arith, omega (arith, c.requires.0));
      facts_after = either_byte _ _ _ _ _ _ _ _ _ _ _ _ x c.if-e.false;
    }
