-- The first lines are written. Assumes nothing.
use Rattle.std.proofs.Common.{take}
use Rattle.std.specs.List.{concat}
use Rattle.std.specs.Io.KnownBytes.{Appends}
use Rattle.printing.specs.Lines.{report_lines}
use Rattle.feeding.proofs.write_report.Given as goal

abbrev pub invariant-loop-i : goal.invariant-loop-i
invariant-loop-i g l = Appends (g.W.Write.contents l.fn.to) (g.W.Write.contents l.to) (concat (take l.i (report_lines l.taken)))
