-- `study::Study::piece` meets its contract: the arrays are lent, and the study is made anew of them. Assumes nothing.
use Rattle.study.proofs.RunLaws.{piece_called}
use Rattle.study.proofs.Study.piece.Goals as goal

pub returns : goal.returns
returns c = let e = c.feed_into-fed.ensures in piece_called e.0 e.1 e.2
