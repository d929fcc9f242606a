-- To be believed. What a report says of a content: 01, "Frequencies down a tree", "Sums, grades, list" and "What the promises have to say". Assumes nothing.
use Rattle.std.specs.Prelude.{◌≡◌, Bool, false, ℕ, ◌+◌, ◌*◌, ◌^◌, length, get_or}
use mathlib.Core.List.{List, Memᴰ}
use Rattle.numeric.specs.Choice.{pick, if_eq, if_le}
use Rattle.numeric.specs.Share.{share_of}
use Rattle.terms.specs.Terms.{people, individual}
use Rattle.terms.specs.declared.Judged.{Judged}
use Rattle.vulnerability.specs.Effect.{effect_on}
use Rattle.vulnerability.specs.Domino.{listed_by}
use Rattle.model.specs.Sums.{sum_over, some, numbers_below}
use Rattle.model.specs.Content.{Target, described, facts, Effect, target_of, intensity, duration, clock, Content}
use Rattle.model.specs.Outcomes.{Outcome, above, outcomes_of}

-- the target of a number; one that is not declared counts as a place of people
abbrev pub target_at : Content → ℕ → Target
target_at c t = get_or c.targets t (described (record { class = people; setting = individual; volume = 0 }))

-- the chance of death or damage of an effect in an outcome, and whether it is judged
unfoldable pub judgement : Content → Outcome → Effect → Judged
judgement c o e = effect_on (clock e) (facts (target_at c (target_of e))) o.kind (intensity e) (duration e)

-- "An outcome's kind total grows by its frequency."
unfoldable pub kind_total : Content → ℕ → ℕ
kind_total c k = sum_over (λ o. if_eq o.kind k o.frequency 0) (outcomes_of c)

-- the total of a figure over all effects, and over the effects that name a target
unfoldable pub over_effects : (Outcome → Effect → ℕ) → List Outcome → ℕ
over_effects g os = sum_over (λ o. sum_over (g o) o.effects) os

abbrev pub naming : ℕ → (Outcome → Effect → ℕ) → Outcome → Effect → ℕ
naming t g o e = if_eq (target_of e) t (g o e) 0

-- "the effect adds one to the report's unjudged count"
unfoldable pub unjudged_of : Content → ℕ
unjudged_of c = over_effects (λ o e. pick (judgement c o e).judged 0 1) (outcomes_of c)

-- "Each effect adds outcome frequency × chance / 1,000,000, rounded down, to its target's sum, and branchings above plus one to its margin."
unfoldable pub sum_at : Content → ℕ → ℕ
sum_at c t = over_effects (naming t (λ o e. share_of o.frequency (judgement c o e).chance)) (outcomes_of c)

unfoldable pub margin_at : Content → ℕ → ℕ
margin_at c t = over_effects (naming t (λ o e. above o + 1)) (outcomes_of c)

-- "An effect in an outcome of weight w, its chance c, adds w × c to its target's exact sum, counted in parts of 10^-54 of a unit."
unfoldable pub exact_at : Content → ℕ → ℕ
exact_at c t = over_effects (naming t (λ o e. o.weight * (judgement c o e).chance)) (outcomes_of c)

-- an effect names the target
pub record Named (c : Content) (t : ℕ) : Type 0 where
  pub outcome : Outcome
  pub reached : Memᴰ outcome (outcomes_of c)
  pub effect : Effect
  pub among : Memᴰ effect outcome.effects
  pub names : target_of effect ≡ t

-- "grade 0 below 10^5 units, 1 from 10^5, then one more at each power of ten up to 6 from 10^10"
unfoldable pub grade_of : ℕ → ℕ
grade_of s =
    if_le (10 ^ 10) s 6
    (if_le (10 ^ 9) s 5
    (if_le (10 ^ 8) s 4
    (if_le (10 ^ 7) s 3
    (if_le (10 ^ 6) s 2
    (if_le (10 ^ 5) s 1 0)))))

-- "The domino list holds exactly the equipment with an effect whose chance is above 700,000, under a leak of at least 10^7 units"
unfoldable pub listed_at : Content → ℕ → Bool
listed_at c t =
    if_eq (facts (target_at c t)).class people false
    (some (λ o. some (λ e. if_eq (target_of e) t (listed_by (judgement c o e).chance o.leak) false) o.effects) (outcomes_of c))

unfoldable pub domino_of : Content → List ℕ
domino_of c = numbers_below (listed_at c) (length c.targets)
