-- `feeding::write_report` meets its contract: one line more is written. Assumes nothing.
use Rattle.std.proofs.Common.{◌≡◌, length, ◌∙◌, rules}
use lib.ListN.{replicate}
use Rattle.printing.specs.Lines.{report_lines}
use Rattle.feeding.proofs.StreamLaws.{line_written, line_put}
use Rattle.feeding.proofs.write_report.Goals as goal

pub loop-i-preserved : goal.loop-i-preserved
loop-i-preserved g c =
    let whole : length c.report_line.result.text ≡ 256 = search rules in
    let line = line_put c.report_line.result c.put-n.result c.put-n.new.out (replicate 256 0) c.put-n.ensures.value c.put-n.ensures.out_after whole (search rules) in
    line_written _ _ _ (report_lines c.args.taken) c.loop-i.i _ c.loop-i.invariant c.in_ok-write_all.ensures.bytes (line ∙ c.report_line.ensures) (search rules)
