-- `study::scenarios::read_scenarios` meets its contract: what is read from the first record on is moved to where the study stands. Assumes nothing.
use mathlib.Core.Path.{◌≡◌, refl}
use native.Mathlib.Omega.{arith}
use Prim.Native.Nat.{◌+◌, ◌≤◌}
use lib.ListN.{length}
use Rattle.model.specs.Machine.{most64}
use Rattle.model.proofs.CodecLaws.{body_most}
use Rattle.study.specs.Spans.{length_of}
use Rattle.study.proofs.MoveLaws.{placed}
use borrow.Author.Rules.{rules}
use Rattle.study.proofs.scenarios.read_scenarios.Goals as goal

pub overflow_add-n : goal.overflow_add-n
overflow_add-n c = omega (arith, c.body_length-n.ensures, body_most c.kind.result)

pub returns : goal.returns
returns c =
    let g = c.args in
    let l = g.bytes.now in
    let r = c.read_from_first-run.ensures in
    let first : c.body_length-n.result + 1 ≡ length_of l = rw (c.body_length-n.ensures, c.kind.ensures) refl in
    let wide : length l ≤ most64 = omega (arith, c.well_formed) in
    let far : g.c.reading.place ≤ most64 = search rules in
    record {
      records = r.records;
      by_index = λ q. rw (c.core_reading.ensures, c.moved-h.ensures, first) (placed l _ r.records wide g.c.reading _ _ _ q _ _ _ _ _ _ _ _ _ _ far (r.by_index q));
    }
