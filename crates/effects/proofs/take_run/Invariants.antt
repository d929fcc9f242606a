-- `effects::take_run` meets its contract: each turn takes an effect more. Assumes nothing.
use mathlib.Core.Path.{◌≡◌}
use mathlib.Core.Bool.{Bool, true}
use mathlib.Core.List.{List}
use Prim.Native.Nat.{ℕ, ◌<◌}
use lib.ListN.{drop}
use Rattle.terms.specs.declared.Clock.{Clock}
use Rattle.state.specs.declared.Branch.{Branch}
use Rattle.vulnerability.specs.Effect.{effect_on}
use Rattle.effects.specs.Effects.{Figures, figures, offset, after_effects, sound}
use Rattle.effects.proofs.take_run.Given as goal

-- whether the effect of a number is sound
abbrev pub sound_at : Clock → ℕ → ℕ → ℕ → Branch → Figures → List ℕ → ℕ → Bool
sound_at clock k w targets b g l i = sound k targets b.kind (after_effects (effect_on clock) b g w l i).next (drop (offset w i) l)

abbrev pub invariant-loop : goal.invariant-loop
invariant-loop l = (l.taken.count ≡ l.counter) × (l.taken.at ≡ offset l.timing.length l.taken.count)
    × (figures l.taken.next l.taken.unjudged l.rows.sums l.rows.margins l.rows.facts ≡ after_effects (effect_on l.timing.clock) l.b (figures l.b.next l.before l.initial.rows.sums l.initial.rows.margins l.initial.rows.facts) l.timing.length l.bytes l.taken.count)
    × ((i : ℕ) → i < l.taken.count → sound_at l.timing.clock l.timing.kind l.timing.length l.targets l.b (figures l.b.next l.before l.initial.rows.sums l.initial.rows.margins l.initial.rows.facts) l.bytes i ≡ true)
