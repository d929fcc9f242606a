-- `reporting::domino::count_marked` meets its contract: the marked among the first n are as many as their numbers. Assumes nothing.
use mathlib.Core.Path.{◌≡◌, ◌∙◌}
use native.Mathlib.Omega.{arith}
use lib.ListN.{take}
use borrow.Author.Rules.{rules}
use Rattle.std.specs.List.{count_by}
use Rattle.model.specs.Machine.{mark_of}
use Rattle.reporting.proofs.MarkLaws.{count_marks}
use Rattle.reporting.proofs.domino.count_marked.Goals as goal

pub returns : goal.returns
returns c =
    let e : c.count.result ≡ count_by mark_of (take c.args.n c.args.facts.now) = search rules in
    e ∙ count_marks mark_of c.args.facts.now c.args.n (omega arith)
