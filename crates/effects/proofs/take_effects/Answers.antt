-- `effects::take_effects` meets its contract: the rule of each kind of outcome. Assumes nothing.
use mathlib.Core.Path.{sym}
use mathlib.Core.Logic.{inl, inr}
use borrow.Author.Rules.{rules}
use Rattle.vulnerability.proofs.FormLaws.{fires_alike, none_alike}
use Rattle.effects.proofs.take_effects.Goals.{in_default-via-then-b-lt1, in_default-via-else-b-lt1+else-b-lt4}
use Rattle.effects.proofs.take_effects.Goals as goal

pub take_run-requires-in-1-to-3-clause-judged_alike : goal.take_run-requires-in-1-to-3-clause-judged_alike
take_run-requires-in-1-to-3-clause-judged_alike c clock u q d = sym (fires_alike _ clock u _ q d (search rules) (search rules))

pub take_run-requires-in_default-clause-judged_alike : goal.take_run-requires-in_default-clause-judged_alike
take_run-requires-in_default-clause-judged_alike c clock u q d =
    sym (none_alike _ clock u _ q d (elim c.in_default.branch [ in_default-via-then-b-lt1 w ↦ inl (search rules) | in_default-via-else-b-lt1+else-b-lt4 w ↦ inr (search rules) ]))
