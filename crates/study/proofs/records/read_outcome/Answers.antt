-- `study::records::read_outcome` meets its contract, taken or refused. Assumes nothing.
use mathlib.Core.Path.{refl, ap}
use Rattle.state.specs.declared.Core.{Core}
use Rattle.model.specs.Machine.{state, accepted, with_reading, fault_in}
use Rattle.counting.specs.Kinds.{with_kinds}
use Rattle.study.proofs.RecordLaws.{refused_for, taken_for}
use Rattle.study.proofs.records.read_outcome.Goals as goal

pub returns-in-Ok : goal.returns-in-Ok
unfolding accepted fault_in
returns-in-Ok c q s m f =
    rw c.requires
    (taken_for (state (with_kinds c.args.c c.args.kinds.now) q c.args.stack.now s m f) _ (rw (c.byte_at-kind.ensures, c.half_at-effects.ensures) at (c.in-Ok.ensures c.args.stack.now))
    (ap (λ (x : Core). state x q c.args.stack.now s m f) (rw (c.byte_at-kind.ensures, c.half_at-effects.ensures) at c.take_outcome.ensures.kinds_after)))

pub returns-in-Err : goal.returns-in-Err
unfolding with_reading fault_in
returns-in-Err c q s m f =
    rw c.requires
    (refused_for (state (with_kinds c.args.c c.args.kinds.now) q c.args.stack.now s m f) _ _ (rw (c.byte_at-kind.ensures, c.half_at-effects.ensures) at (c.in-Err.ensures c.args.stack.now)) (rw c.refused.ensures refl))
