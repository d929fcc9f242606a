-- For the proofs. What effects of kinds 6 and 8 share. Assumes nothing.
use Rattle.std.specs.Prelude.{List, ℕ, get_or}
use Rattle.numeric.specs.Choice.{if_eq}
use Rattle.terms.specs.Terms.{seconds_unit}
use Rattle.model.specs.Content.{Effect, in_seconds, timed}
use Rattle.model.specs.Format.{timed_kind}
use Rattle.model.specs.Verdict.{field}

-- the unit of an effect's duration: the last byte of kind 8; kind 6 counts in seconds
unfoldable pub unit_of : List ℕ → ℕ
unit_of p = if_eq (get_or p 0 0) timed_kind (field p 9 1) seconds_unit

-- the effect that some bytes begin with
unfoldable pub effect_of : List ℕ → Effect
effect_of p =
    if_eq (get_or p 0 0) timed_kind
    (timed (field p 1 2) (field p 3 4) (field p 7 2) (field p 9 1))
    (in_seconds (field p 1 2) (field p 3 4) (field p 7 2))
