-- `study::Study::feed` meets its contract: the arrays are lent from the study itself, and the core that comes back is stored. Assumes nothing.
use Rattle.study.proofs.RunLaws.{piece_called}
use Rattle.study.proofs.Study.feed.Goals as goal

pub returns : goal.returns
returns c = let e = c.feed_into-fed.ensures in piece_called e.0 e.1 e.2
