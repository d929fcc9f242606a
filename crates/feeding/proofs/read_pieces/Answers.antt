-- `feeding::read_pieces` meets its contract: the study has read what the stream has lost, a byte at least at each turn. Assumes nothing.
use Rattle.std.proofs.Common.{◌<◌, ◌-◌, ◌^◌, length, refl, rules}
use Rattle.feeding.proofs.StreamLaws.{nothing_read, more_read, long_read, some_bytes}
use Rattle.feeding.proofs.read_pieces.Goals as goal

pub loop-init : goal.loop-init
loop-init g c = (c.requires, nothing_read _ _ c.fresh.ensures refl)

pub loop-preserved : goal.loop-preserved
loop-preserved g c =
    let room : 0 < length c.read.new.buf = search rules in (
      room,
      more_read _ _ _ _ _ _ _ c.loop.invariant.1 c.in_ok-n.ensures.bytes.0
          (some_bytes _ c.in_ok-n.n (search rules) c.if-n-eq0.false) c.piece-taken.ensures,
    )

pub returns : goal.returns
returns g c = long_read (2 ^ 64 - 1) c.loop.counter _ _ _ (search rules) c.loop.invariant.1
