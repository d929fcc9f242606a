-- The totals of the six outcome kinds add up to the leaks. Assumes nothing.
use mathlib.Core.Path.{◌≡◌, sym, ◌∙◌}
use mathlib.Core.List.{List}
use Prim.Native.Nat.{ℕ, zero, suc, ◌+◌, ◌≤◌}
use native.Mathlib.Omega.{arith}
use Rattle.numeric.specs.Choice.{if_eq}
use Rattle.model.specs.Sums.{sum_over}
use Rattle.model.specs.Content.{Content}
use Rattle.model.specs.Format.{leaks_of}
use Rattle.model.specs.Outcomes.{Outcome, scenario_outcomes, outcomes_of}
use Rattle.model.specs.Report.{kind_total}
use Rattle.model.specs.MeaningTheorems.{KindsAddUp}
use Rattle.model.proofs.ListLaws.{sum_same, sum_add, sum_join}
use Rattle.model.proofs.OutcomeLaws.{frequencies_add_up, outcome_known}

-- the frequencies of all outcomes add up to the leaks
pub outcomes_total : (c : Content) → sum_over (λ o. o.frequency) (outcomes_of c) ≡ leaks_of c
unfolding outcomes_of leaks_of
outcomes_total c =
    sum_join (λ (o : Outcome). o.frequency) scenario_outcomes c.scenarios
    ∙ sum_same (λ s. sum_over (λ o. o.frequency) (scenario_outcomes s)) (λ s. s.frequency) c.scenarios (λ s m. frequencies_add_up s)

-- a known kind is exactly one of the six, so the six parts add up to the frequency
pub one_kind : (k f : ℕ) → k ≤ 5 → if_eq k 0 f 0 + if_eq k 1 f 0 + if_eq k 2 f 0 + if_eq k 3 f 0 + if_eq k 4 f 0 + if_eq k 5 f 0 ≡ f
unfolding if_eq
one_kind zero f h = omega arith
one_kind (suc zero) f h = omega arith
one_kind (suc (suc zero)) f h = omega arith
one_kind (suc (suc (suc zero))) f h = omega arith
one_kind (suc (suc (suc (suc zero)))) f h = omega arith
one_kind (suc (suc (suc (suc (suc zero))))) f h = omega arith
one_kind (suc (suc (suc (suc (suc (suc k)))))) f h = absurd (omega arith)

-- an outcome's part of the total of a kind
abbrev in_kind : ℕ → Outcome → ℕ
in_kind k o = if_eq o.kind k o.frequency 0

six_totals : (os : List Outcome)
    → sum_over (λ o. in_kind 0 o + in_kind 1 o + in_kind 2 o + in_kind 3 o + in_kind 4 o + in_kind 5 o) os
    ≡ sum_over (in_kind 0) os + sum_over (in_kind 1) os + sum_over (in_kind 2) os + sum_over (in_kind 3) os + sum_over (in_kind 4) os + sum_over (in_kind 5) os
six_totals os = simp sum_add

pub kinds_add_up : KindsAddUp
unfolding kind_total
kinds_add_up c v =
    sym (six_totals (outcomes_of c))
    ∙ sum_same (λ o. in_kind 0 o + in_kind 1 o + in_kind 2 o + in_kind 3 o + in_kind 4 o + in_kind 5 o) (λ o. o.frequency) (outcomes_of c)
    (λ o m. one_kind o.kind o.frequency (outcome_known c v o m).valid.known)
    ∙ outcomes_total c
