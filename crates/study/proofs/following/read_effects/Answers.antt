-- `study::following::read_effects` meets its contract: the first effect is refused, or it is taken with those that follow it. Assumes nothing.
use mathlib.Core.Path.{◌≡◌, refl, sym, ◌∙◌, ap}
use mathlib.Core.Bool.{Bool}
use mathlib.Core.List.{List, []}
use Prim.Native.Nat.{ℕ, ◌+◌, ◌-◌, ◌/◌, ◌<◌, ◌≤◌, min}
use native.Mathlib.Omega.{arith}
use lib.ListN.{length, replicate}
use Rattle.numeric.specs.Choice.{if_lt}
use Rattle.state.specs.declared.Core.{Core}
use Rattle.model.specs.Content.{target_of, intensity, duration}
use Rattle.model.specs.Format.{effect_rec}
use Rattle.model.specs.Verdict.{field, decode}
use Rattle.model.specs.Faults.{effect_fault, unit_fault, own_fault}
use Rattle.model.specs.Machine.{state, with_reading}
use Rattle.counting.specs.Kinds.{with_kinds}
use Rattle.decoding.specs.Effects.{unit_of, effect_of}
use Rattle.decoding.proofs.DecodeLaws.{decode_effect, effect_target, effect_intensity, effect_duration, effect_unit}
use Rattle.effects.specs.Effects.{Figures, offset, leading}
use Rattle.effects.specs.Timings.{timing_of, alike_of}
use Rattle.effects.proofs.Laws.{effects_none, offset_most}
use Rattle.effects.proofs.LeadingLaws.{Leads, leading_is}
use Rattle.effects.proofs.TimingLaws.{length_most, alike_most}
use Rattle.study.specs.Placing.{place_fault}
use Rattle.study.specs.Following.{core_after}
use Rattle.study.proofs.RecordLaws.{place_refused, own_refused}
use Rattle.study.proofs.SpanLaws.{IsEffect, read_alone, records_alone}
use Rattle.study.proofs.KindTotalLaws.{Other, other_read}
use Rattle.study.proofs.FollowLaws.{within_bounds, begin, sound_at, Free, effects_read, unsound_first, with_kinds_lem}
use Rattle.faults.proofs.Laws.{number_nonzero, some_refusal}
use Rattle.state.specs.Refusals.{number_of}
use Rattle.study.proofs.following.read_effects.Goals as goal

-- how many effects may be taken
abbrev reach : ℕ → List ℕ → ℕ
reach most l = min most ((length l - 6) / 10)

-- how many are
taken_at : (f : ℕ → Bool) (m n : ℕ) → n ≡ leading f m → Leads f m n
taken_at f m n e = rw e (leading_is f m)

-- at most as many as there is room for
count_most : (l : List ℕ) (n most : ℕ) → n ≤ alike_of l (reach most l) → n ≤ reach most l
count_most l n most h = omega (arith, h, alike_most l (reach most l))

-- the bytes of so many
bytes_most : (l : List ℕ) (n most a : ℕ) → n ≤ alike_of l (reach most l) → a ≡ offset (timing_of l).length n → a ≤ length l
bytes_most l n most a h e = omega (arith, count_most l n most h, e, offset_most (timing_of l).length n (length_most l))

pub returns-in-Err : goal.returns-in-Err
unfolding with_reading Other
returns-in-Err c =
    let l = c.args.bytes.now in
    let n = c.requires.have_value.0 in record {
      records = records_alone l _ n c.requires.in_bounds.0;
      by_index = λ x q k.
          read_alone _ _ q k _ _ _ l _ n
          (other_read x c.args.c c.refused.result q k c.args.rows.now.sums c.args.rows.now.margins c.args.rows.now.facts k c.args.rows.now.sums c.args.rows.now.margins c.args.rows.now.facts (decode l) (effect_rec (effect_of l)) (decode_effect l c.requires.in_bounds.1) tt
          (rw (decode_effect l c.requires.in_bounds.1) (place_refused _ _ _ c.in-Err.ensures (number_nonzero _) (rw c.refused.ensures refl))));
    }

-- the fault of the first effect
own_is : (c : Core) (l : List ℕ) (n : ℕ) → IsEffect l → n ≡ if_lt 1 (unit_of l) 3 (effect_fault c.counts.targets c.branch.kind c.branch.next (field l 1 2) (field l 3 4) (field l 7 2))
    → n ≡ unit_fault (effect_of l) (effect_fault c.counts.targets c.branch.kind c.branch.next (target_of (effect_of l)) (intensity (effect_of l)) (duration (effect_of l)))
own_is c l n h e = rw (effect_target l, effect_intensity l, effect_duration l) (e ∙ sym (effect_unit l _ h))

-- an effect with a fault is refused
fault_is : (c : Core) (s m f l : List ℕ) (most n : ℕ) → IsEffect l → 0 < most → 16 ≤ length l → n ≡ 0 → Leads (sound_at c s m f l) (alike_of l (reach most l)) n
    → if_lt 1 (unit_of l) 3 (effect_fault c.counts.targets c.branch.kind c.branch.next (field l 1 2) (field l 3 4) (field l 7 2)) ≡ 0 → ⊥
fault_is c s m f l most n i h w z e = unsound_first c s m f l _ i (omega (arith, h, w)) (rw z at e)

pub unwrap_err-why-requires : goal.unwrap_err-why-requires
unwrap_err-why-requires c =
    let g = c.args in
    let l = g.bytes.now in
    let taken : Leads (sound_at g.c g.rows.now.sums g.rows.now.margins g.rows.now.facts l) (alike_of l (reach c.most_effects.result l)) c.take_effects-run.result.count = taken_at _ _ _ c.take_effects-run.ensures.count_value.0 in
    some_refusal _ _ c.own_effect.ensures (fault_is g.c _ _ _ l _ _ c.requires.in_bounds.1 c.most_effects.ensures.result_nonzero c.requires.in_bounds.0 c.if-run-eq0.true taken)

pub returns-then-run-eq0 : goal.returns-then-run-eq0
unfolding own_fault with_reading Other
returns-then-run-eq0 c =
    let none = c.if-run-eq0.true in
    let g = c.args in
    let l = g.bytes.now in
    let n = c.requires.have_value.0 in
    let taken : Leads (sound_at g.c g.rows.now.sums g.rows.now.margins g.rows.now.facts l) (alike_of l (reach c.most_effects.result l)) c.take_effects-run.result.count = taken_at _ _ _ c.take_effects-run.ensures.count_value.0 in
    let begun : Figures = begin g.c g.rows.now.sums g.rows.now.margins g.rows.now.facts l in
    let same = (rw none at c.take_effects-run.ensures.facts_after) ∙ sym (effects_none _ g.c.branch begun _ l) in
    let own : number_of c.unwrap_err-why.result ≡ _ = rw c.unwrap_err-why.ensures at c.own_effect.ensures in record {
      records = records_alone l _ n c.requires.in_bounds.0;
      by_index = λ x q k.
          read_alone _ _ q k _ _ _ l _ n
          (other_read x g.c c.refused-then-run-eq0.result q k g.rows.now.sums g.rows.now.margins g.rows.now.facts k _ _ _ (decode l) (effect_rec (effect_of l)) (decode_effect l c.requires.in_bounds.1) tt
          (rw (ap (λ (y : Figures). y.sums) same, ap (λ (y : Figures). y.margins) same, ap (λ (y : Figures). y.facts) same, decode_effect l c.requires.in_bounds.1)
          (own_refused _ _ _ _ c.in_default.ensures refl (own_is g.c l _ c.requires.in_bounds.1 own)
          (number_nonzero _) (rw c.refused-then-run-eq0.ensures refl))));
    }

pub core_after-requires : goal.core_after-requires
core_after-requires c =
    let g = c.args in
    let l = g.bytes.now in
    let taken : Leads (sound_at g.c g.rows.now.sums g.rows.now.margins g.rows.now.facts l) (alike_of l (reach c.most_effects.result l)) c.take_effects-run.result.count = taken_at _ _ _ c.take_effects-run.ensures.count_value.0 in
    let n = count_most l _ _ taken.within in
    let a = bytes_most l _ _ _ taken.within c.take_effects-run.ensures.count_value.1 in
    let bound : (1 < c.take_effects-run.result.count → _) = λ w. c.most_effects.ensures.upper_bound (omega (arith, w, n)) in record {
      at_bound = omega (arith, a, c.requires.have_value.2);
      count_le_left = within_bounds _ _ (c.in_default.ensures) (λ w. (omega (arith, (bound w).0, n), omega (arith, (bound w).1, n)));
    }

pub returns : goal.returns
unfolding place_fault
returns c =
    let g = c.args in
    let l = g.bytes.now in
    let e : Leads (sound_at g.c g.rows.now.sums g.rows.now.margins g.rows.now.facts l) (alike_of l (reach c.most_effects.result l)) c.take_effects-run.result.count = taken_at _ _ _ c.take_effects-run.ensures.count_value.0 in
    let n = c.take_effects-run.result.count in
    let r = count_most l _ _ e.within in
    let some = c.if-run-eq0.false in
    let free : (x : List ℕ) → Free (with_kinds g.c x) g.rows.now.sums g.rows.now.margins g.rows.now.facts l n =
    λ x. record {
      placed = c.in_default.ensures;
      entered = c.requires.have_value.1;
      room = omega (arith, some, r);
      counts = c.requires.have_value.2;
      more = λ w. let b = c.most_effects.ensures.upper_bound (omega (arith, w, r)) in (omega (arith, b.0, r), omega (arith, b.1, r));
      few = reach c.most_effects.result l;
      alike = e.within;
      sounds = e.passes;
      first = c.requires.in_bounds.1;
    } in
    let last : n ≡ n - 1 + 1 = omega (arith, some) in
    rw c.take_effects-run.ensures.count_value.1
    record {
      records = (effects_read (with_kinds g.c []) g.rows.now.sums g.rows.now.margins g.rows.now.facts l (n - 1) n last (free [])).0;
      by_index = λ x q k.
          with_kinds_lem x g.c n _ c.take_effects-run.result.next c.take_effects-run.result.unjudged (rw c.take_effects-run.ensures.count_value.1 at c.core_after.ensures)
          (ap (λ (y : Figures). state (core_after (with_kinds g.c x) n (offset (timing_of l).length n) y.next y.unjudged) (replicate 16 0) k y.sums y.margins y.facts) c.take_effects-run.ensures.facts_after ∙ (effects_read (with_kinds g.c x) g.rows.now.sums g.rows.now.margins g.rows.now.facts l (n - 1) n last (free x)).1 q k);
    }
