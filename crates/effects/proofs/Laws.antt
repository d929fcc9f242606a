-- Laws of effects taken one after the other. Assumes nothing.
use mathlib.Core.Path.{◌≡◌, refl, ◌∙◌, ap}
use mathlib.Core.Bool.{Bool}
use mathlib.Core.List.{List}
use Prim.Native.Nat.{ℕ, zero, suc, ◌+◌, ◌-◌, ◌*◌, ◌≤◌}
use native.Mathlib.Omega.{arith}
use native.Mathlib.Numerals.{add-one}
use lib.ListN.{take, drop}
use lib.Seq.{get_or-take}
use Rattle.numeric.specs.Choice.{pick}
use Rattle.state.specs.declared.Branch.{Branch}
use Rattle.model.specs.Machine.{up_to, most32, store, row_of, row_after}
use Rattle.model.specs.Verdict.{field}
use Rattle.effects.specs.Judging.{Judge, judged_in}
use Rattle.effects.specs.Effects.{Figures, figures, after_effect, offset, after_effects, sound}
use Rattle.effects.specs.Steps.{Added}

-- sixteen bytes have every field of an effect
field_window : (l : List ℕ) (i n : ℕ) → i + n ≤ 16 → field (take 16 l) i n ≡ field l i n
unfolding field
field_window l i zero h = refl
field_window l i (suc n) h = rw (field_window l i n (omega arith), get_or-take 16 l (i + n) 0 (omega arith)) refl

pub effect_window : (judge : Judge) (b : Branch) (g : Figures) (l : List ℕ) → after_effect judge b g (take 16 l) ≡ after_effect judge b g l
unfolding after_effect
effect_window judge b g l = rw (field_window l 1 2 (omega arith), field_window l 3 4 (omega arith), field_window l 7 2 (omega arith)) refl

pub sound_window : (k targets kind next : ℕ) (l : List ℕ) → sound k targets kind next (take 16 l) ≡ sound k targets kind next l
unfolding sound
sound_window k targets kind next l =
    rw (get_or-take 16 l 0 0 (omega arith), field_window l 1 2 (omega arith), field_window l 3 4 (omega arith), field_window l 7 2 (omega arith)) refl

-- no effect, and one more
pub effects_none : (judge : Judge) (b : Branch) (g : Figures) (w : ℕ) (l : List ℕ) → g ≡ after_effects judge b g w l 0
unfolding after_effects
effects_none judge b g w l = refl

pub effects_more : (judge : Judge) (b : Branch) (g h : Figures) (w : ℕ) (l : List ℕ) (n : ℕ) → h ≡ after_effects judge b g w l n → after_effect judge b h (drop (offset w n) l) ≡ after_effects judge b g w l (n + 1)
unfolding after_effects
effects_more judge b g h w l n e = rw (add-one, e) refl

-- where they begin
pub offset_none : (w : ℕ) → 0 ≡ offset w 0
unfolding offset
offset_none w = refl

pub offset_one : (w : ℕ) → offset w 1 ≡ w
unfolding offset
offset_one w = omega arith

pub offset_more : (w n : ℕ) → offset w n + w ≡ offset w (n + 1)
unfolding offset
offset_more w n = rw add-one refl

pub offset_tens : (n : ℕ) → offset 10 n ≡ n * 10
unfolding offset
offset_tens zero = omega arith
offset_tens (suc n) = omega (arith, offset_tens n)

pub offset_most : (w n : ℕ) → w ≤ 10 → offset w n ≤ n * 10
unfolding offset
offset_most w zero h = omega arith
offset_most w (suc n) h = omega (arith, offset_most w n h)

-- an effect's parts, one by one
effect_parts : (judge : Judge) (b : Branch) (g : Figures) (p s m f : List ℕ) (x u : ℕ) (j : Bool) → x ≡ field p 1 2 + 1 → u ≡ up_to most32 g.unjudged (pick j 0 1)
    → j ≡ (judged_in judge g.facts b.kind p).judged
    → s ≡ store 256 g.sums (field p 1 2) (row_after (row_of g.sums g.margins g.facts (field p 1 2)) b (judged_in judge g.facts b.kind p).chance).sum
    → m ≡ store 256 g.margins (field p 1 2) (row_after (row_of g.sums g.margins g.facts (field p 1 2)) b (judged_in judge g.facts b.kind p).chance).margin
    → f ≡ store 256 g.facts (field p 1 2) (row_after (row_of g.sums g.margins g.facts (field p 1 2)) b (judged_in judge g.facts b.kind p).chance).facts
    → figures x u s m f ≡ after_effect judge b g p
unfolding after_effect
effect_parts judge b g p s m f x u j ex eu ej es em ef = rw (ex, eu, ej, es, em, ef) refl

-- the bytes that an effect is read in
abbrev pub window : List ℕ → ℕ → List ℕ
window l i = take (i + 16 - i) (drop i l)

window_is : (l : List ℕ) (i : ℕ) → window l i ≡ take 16 (drop i l)
window_is l i = let e : i + 16 - i ≡ 16 = omega arith in rw e refl

-- one effect more, read in its window
pub effects_next : (judge : Judge) (b : Branch) (g h k : Figures) (w : ℕ) (l : List ℕ) (n i : ℕ) → i ≡ offset w n → h ≡ after_effects judge b g w l n → k ≡ after_effect judge b h (window l i)
    → k ≡ after_effects judge b g w l (n + 1)
effects_next judge b g h k w l n i p e f =
    (rw (window_is l i) at f) ∙ effect_window judge b h (drop i l) ∙ (rw p (effects_more judge b g h w l n e))

pub sound_at_lem : (k targets kind next : ℕ) (l : List ℕ) (i : ℕ) → sound k targets kind next (window l i) ≡ sound k targets kind next (drop i l)
sound_at_lem k targets kind next l i = ap (sound k targets kind next) (window_is l i) ∙ sound_window k targets kind next (drop i l)

-- what an effect that is read in some bytes leaves
pub step_parts : {judge : Judge} {b : Branch} {s m f s' m' f' : List ℕ} {missed t q d : ℕ} (x u v : ℕ) (p : List ℕ) → t ≡ field p 1 2 → q ≡ field p 3 4 → d ≡ field p 7 2 → v ≡ up_to most32 u missed → Added judge b t q d s m f missed s' m' f'
    → figures (t + 1) v s' m' f' ≡ after_effect judge b (figures x u s m f) p
step_parts {judge} {b} x u v p et eq ed e a =
    let here = (rw (et, eq, ed) at a) in
    effect_parts judge b (figures x u _ _ _) p _ _ _ _ v _ (ap (λ y. y + 1) et) (e ∙ ap (up_to most32 u) here.judging) refl here.sums here.margins here.facts
