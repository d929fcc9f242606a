-- `effects::take_run` meets its contract: each turn takes an effect more. Assumes nothing.
use mathlib.Core.Path.{◌≡◌, refl, sym, ◌∙◌, ap}
use mathlib.Core.Bool.{Bool, true, false}
use mathlib.Core.List.{List}
use Prim.Native.Nat.{ℕ, ◌+◌, ◌-◌, ◌/◌, ◌<◌, ◌≤◌}
use native.Mathlib.Omega.{arith}
use lib.ListN.{length}
use Rattle.terms.specs.declared.Clock.{Clock}
use Rattle.state.specs.declared.Branch.{Branch}
use Rattle.vulnerability.specs.Effect.{effect_on}
use Rattle.effects.specs.Effects.{Figures, offset, after_effects, sound}
use Rattle.effects.proofs.Laws.{window, effects_none, effects_next, offset_none, offset_more, offset_most, step_parts, sound_at_lem}
use Rattle.effects.proofs.LeadingLaws.{passes_more, leading_only}
use Rattle.effects.proofs.take_run.Invariants.{sound_at}
use Rattle.effects.proofs.take_run.Goals as goal

pub loop-init : goal.loop-init
loop-init c = (refl, offset_none _, effects_none _ _ _ _ _, λ i w. let z : ⊥ = omega arith in absurd z)

-- sixteen bytes are there to read the next effect in
in_reach : (l : List ℕ) (w a n top : ℕ) → w ≤ 10 → a ≡ offset w n → n < top → top ≤ (length l - 6) / 10 → a + 16 ≤ length l
in_reach l w a n top x p h q = omega (arith, offset_most w n x, p, h, q)

pub overflow_add-p : goal.overflow_add-p
overflow_add-p c =
    let v = c.loop.invariant in
    let r = c.requires.in_reach in
    omega (arith, in_reach _ _ _ _ _ r.0 v.1 (omega (arith, v.0, c.loop-test.true)) r.1, c.well_formed)

pub slice_bounds-p-end : goal.slice_bounds-p-end
slice_bounds-p-end c =
    let v = c.loop.invariant in
    let r = c.requires.in_reach in
    omega (arith, in_reach _ _ _ _ _ r.0 v.1 (omega (arith, v.0, c.loop-test.true)) r.1)

pub overflow_add-taken : goal.overflow_add-taken
overflow_add-taken c = omega (arith, c.loop.invariant.0, c.loop-test.true, c.requires.in_reach.1, c.well_formed)

pub overflow_add-taken-in-loop : goal.overflow_add-taken-in-loop
overflow_add-taken-in-loop c =
    let v = c.loop.invariant in
    let r = c.requires.in_reach in
    omega (arith, r.0, in_reach _ _ _ _ _ r.0 v.1 (omega (arith, v.0, c.loop-test.true)) r.1, c.well_formed)

-- whether the effect that is read is sound, in the bytes from its place on
here_sound : (clock : Clock) (k w targets : ℕ) (b : Branch) (g h : Figures) (l : List ℕ) (n a : ℕ) → a ≡ offset w n → h ≡ after_effects (effect_on clock) b g w l n → (t : Bool)
    → sound k targets b.kind h.next (window l a) ≡ t → sound_at clock k w targets b g l n ≡ t
here_sound clock k w targets b g h l n a p e t q = rw (← e, ← p) (sym (sound_at_lem k targets b.kind h.next l a) ∙ q)

pub loop-preserved : goal.loop-preserved
loop-preserved c =
    let v = c.loop.invariant in
    let t = c.loop.taken in
    let g = c.args in
    let e = c.in-Some.ensures in (
      ap (λ (x : ℕ). x + 1) v.0,
      ap (λ (x : ℕ). x + c.args.run.timing.length) v.1 ∙ offset_more _ t.count,
      effects_next _ _ _ _ _ _ g.bytes.now t.count t.at v.1 v.2 (step_parts _ _ _ _ e.1 e.2 e.3 c.saturating_add.ensures c.add_effect-missed.ensures),
      passes_more _ t.count v.3 (here_sound _ _ _ g.targets g.b _ _ g.bytes.now t.count t.at v.1 v.2 true e.0),
    )

pub returns-after-loop : goal.returns-after-loop
returns-after-loop c =
    let v = c.loop.invariant in
    record {
      count_value = (
        leading_only _ _ c.loop.taken.count
            record { within = omega (arith, v.0, c.loop.auto.counter-end); passes = v.3; stops = λ w. let z : ⊥ = omega (arith, w, v.0, c.loop-test.false) in absurd z },
        v.1,
      );
      facts_after = v.2;
    }

pub returns-in_default : goal.returns-in_default
returns-in_default c =
    let v = c.loop.invariant in
    let t = c.loop.taken in
    let g = c.args in
    record {
      count_value = (
        leading_only _ _ t.count
            record {
              within = omega (arith, v.0, c.loop-test.true);
              passes = v.3;
              stops = λ w. here_sound _ _ _ g.targets g.b _ _ g.bytes.now t.count t.at v.1 v.2 false c.in_default.ensures;
            },
        v.1,
      );
      facts_after = v.2;
    }
