-- The study has read what the stream has lost. Assumes nothing.
use Rattle.std.proofs.Common.{◌<◌, length}
use Rattle.feeding.proofs.StreamLaws.{ReadSoFar}
use Rattle.feeding.proofs.read_pieces.Given as goal

abbrev pub invariant-loop : goal.invariant-loop
invariant-loop g l = (0 < length l.buffer) × ReadSoFar l.counter (g.R.Read.remaining l.fn.input) (g.R.Read.remaining l.input) l.taken
