-- Effects that follow one another leave what their bytes leave when they are read one by one. Assumes nothing.
use mathlib.Core.Path.{◌≡◌, refl, sym, ◌∙◌, ap, subst}
use mathlib.Core.Bool.{Bool, true, false}
use mathlib.Core.Logic.{inl, inr}
use mathlib.Core.List.{List}
use Prim.Native.Nat.{ℕ, zero, suc, ◌+◌, ◌-◌, ◌*◌, ◌<◌, ◌≤◌}
use native.Mathlib.Decide.{dec_le}
use native.Mathlib.Omega.{arith}
use lib.ListN.{length, get_or, drop, replicate, length-drop}
use lib.Dec.{T}
use Rattle.numeric.specs.Choice.{pick, if_eq, if_lt}
use Rattle.numeric.proofs.ChoiceLaws.{eq_case, ne_case, lt_case, ge_case, gt_case, eq_first, eq_second, le_second, lt_first, eq_elim, lt_elim}
use Rattle.terms.specs.Terms.{clock_of}
use Rattle.terms.specs.declared.Clock.{Clock}
use Rattle.vulnerability.specs.Effect.{effect_on}
use Rattle.state.specs.declared.Core.{Core}
use Rattle.model.specs.Bounds.{most_records}
use Rattle.model.specs.Content.{clock}
use Rattle.model.specs.Format.{effect_rec}
use Rattle.model.specs.Faults.{order_fault, effect_fault, unit_fault, own_fault}
use Rattle.model.specs.Verdict.{body_length, field, decode}
use Rattle.model.specs.Machine.{State, state, core, up_to, most32, most64, taken, one_record, effect_branch, effect_tally, row_after, accepted, effect_state, record_read}
use Rattle.counting.specs.Kinds.{with_kinds}
use Rattle.decoding.specs.Effects.{unit_of, effect_of}
use Rattle.decoding.proofs.DecodeLaws.{decode_effect, effect_target, effect_intensity, effect_duration, effect_clock, effect_unit}
use Rattle.effects.specs.declared.Timing.{Timing}
use Rattle.effects.specs.Judging.{Judge, judged_in}
use Rattle.effects.specs.Effects.{Figures, figures, after_effect, offset, after_effects, sound}
use Rattle.effects.specs.Timings.{timing_of, alike_of}
use Rattle.effects.proofs.Laws.{effects_more, offset_one, offset_more, offset_most}
use Rattle.effects.proofs.LeadingLaws.{Leads}
use Rattle.effects.proofs.TimingLaws.{length_most, timing_eight, alike_some, units_same}
use Rattle.study.specs.Placing.{place_fault}
use Rattle.study.specs.Spans.{Next, length_of, after_first, Records}
use Rattle.study.specs.Following.{core_after}
use Rattle.study.proofs.RecordLaws.{without_fault}
use Rattle.study.proofs.SpanLaws.{IsEffect, entering, effect_length, rest_is, read_alone, one_read, records_alone, records_more, standing_next, reached_next}

-- an effect in its place
place_zero : (c : Core) → (c.counts.records ≡ 0 → ⊥) → 0 < c.branch.left → c.counts.records < most_records → 0 ≡ place_fault c 6
unfolding place_fault order_fault if_eq
place_zero c r l m =
    eq_case _ _ _ _ (sym (ne_case _ _ _ _ r (lt_case _ _ _ _ l refl))) (gt_case _ _ _ _ m refl)

-- what its place says
placed_order : (records left trees scenarios : ℕ) → order_fault records left trees scenarios 6 ≡ 0 → 0 < left
unfolding order_fault
placed_order records left trees scenarios e =
    let b = eq_second _ _ _ _ _ e (λ z. eq_elim z (λ h q. omega (arith, h)) (λ h q. omega (arith, q))) in
    (lt_first _ _ _ _ _ b.1
    (λ z.
    lt_elim z (λ w y. eq_elim y (λ h q. omega (arith, h)) (λ g x. eq_elim x (λ h q. omega (arith, h)) (λ h q. omega (arith, q))))
    (λ w y. eq_elim y (λ h q. omega (arith, h)) (λ g x. eq_elim x (λ h q. omega (arith, h)) (λ k v. eq_elim v (λ h q. omega (arith, h)) (λ h q. omega (arith, q))))))
    ).0

placed_effect : (c : Core) → 0 ≡ place_fault c 6 → (0 < c.branch.left) × (c.counts.records < most_records)
unfolding place_fault
placed_effect c e =
    let a = eq_first _ _ _ _ _ (sym e) (λ z. omega (arith, z)) in
    (placed_order _ _ _ _ a.0, (le_second _ _ _ _ _ a.1 (λ z. omega (arith, z))).0)

-- one effect in its place, or as many as are bounded, are within the effects to come and the records that are allowed
pub within_bounds : (c : Core) (n : ℕ) → 0 ≡ place_fault c 6 → (1 < n → (n ≤ c.branch.left) × (c.counts.records + n ≤ most_records)) → (n ≤ c.branch.left) × (c.counts.records + n ≤ most_records)
within_bounds c n e h = go (dec_le 2 n)
  where
    go : Dec (2 ≤ n) → (n ≤ c.branch.left) × (c.counts.records + n ≤ most_records)
    go (yes d) = h (omega arith)
    go (no d) = let p = placed_effect c e in (omega (arith, p.0), omega (arith, p.1))

-- a sound effect: its kind byte, and no fault of its own
no_false : false ≡ true → ⊥
no_false e = subst T (sym e) tt

sound_parts : (k targets kind next : ℕ) (p : List ℕ) → sound k targets kind next p ≡ true → (get_or p 0 0 ≡ k) × (effect_fault targets kind next (field p 1 2) (field p 3 4) (field p 7 2) ≡ 0)
unfolding sound
sound_parts k targets kind next p h =
    let a = eq_first _ _ _ _ _ h no_false in
    (a.0, (eq_first _ _ _ _ _ a.1 no_false).0)

-- an effect that is not
unsound_fault : (k targets kind next : ℕ) (p : List ℕ) → sound k targets kind next p ≡ false → get_or p 0 0 ≡ k
    → effect_fault targets kind next (field p 1 2) (field p 3 4) (field p 7 2) ≡ 0 → ⊥
unfolding sound
unsound_fault k targets kind next p h e z = no_false (sym h ∙ sym (eq_case _ _ _ _ e (eq_case _ _ _ _ z refl)))

-- ---- effects timed alike

-- an effect has bytes
known_length : (p : List ℕ) → IsEffect p → 0 < body_length (get_or p 0 0)
unfolding body_length if_eq
known_length p (inl h) = rw h (omega arith)
known_length p (inr h) = rw h (omega arith)

-- the kind of the first
timing_kind : (l : List ℕ) → IsEffect l → (timing_of l).kind ≡ get_or l 0 0
unfolding timing_of if_eq
timing_kind l (inl h) = rw h refl
timing_kind l (inr h) = rw h refl

-- an effect timed as the first is: its unit is one, and has the clock of the first
pub record Alike (l p : List ℕ) : Type 0 where
  pub effect : IsEffect p
  pub unit : unit_of p ≤ 1
  pub clocked : clock_of (unit_of p) ≡ (timing_of l).clock
  pub long : length_of p ≡ (timing_of l).length

alike_six : (l p : List ℕ) → get_or l 0 0 ≡ 6 → get_or p 0 0 ≡ 6 → Alike l p
unfolding unit_of timing_of if_eq
alike_six l p h e =
    record {
      effect = inl e;
      unit = rw e (omega arith);
      clocked = rw (h, e) refl;
      long = effect_length p (inl e) ∙ rw (h, e) refl;
    }

alike_eight : (l p : List ℕ) → get_or l 0 0 ≡ 8 → get_or p 0 0 ≡ 8 → (field l 9 1 ≤ 1) × (field p 9 1 ≡ field l 9 1) → Alike l p
unfolding unit_of timing_of if_eq
alike_eight l p h e u =
    record {
      effect = inr e;
      unit = rw e (omega (arith, u.0, u.1));
      clocked = rw (h, e, u.1) refl;
      long = effect_length p (inr e) ∙ rw (h, e) refl;
    }

-- the effects that are counted with the first
pub alike_at_lem : (l : List ℕ) (n i : ℕ) → IsEffect l → i < alike_of l n → get_or (drop (offset (timing_of l).length i) l) 0 0 ≡ (timing_of l).kind → Alike l (drop (offset (timing_of l).length i) l)
alike_at_lem l n i (inl h) w e = alike_six l _ h (e ∙ timing_kind l (inl h) ∙ h)
alike_at_lem l n i (inr h) w e =
    let a : (timing_of l).length ≡ 10 = ap (λ (t : Timing). t.length) (sym (timing_eight l h)) in
    alike_eight l _ h (e ∙ timing_kind l (inr h) ∙ h) (rw a (units_same l n i h w))

-- ---- one effect

-- the parts that go by value after an effect
abbrev stepped : Core → ℕ → Bool → Core
stepped c t j = core (taken c.reading 0) (one_record c.counts) (effect_branch c.branch t) (effect_tally c.tally j)

own_zero : (c : Core) (p : List ℕ) → IsEffect p → unit_of p ≤ 1 → effect_fault c.counts.targets c.branch.kind c.branch.next (field p 1 2) (field p 3 4) (field p 7 2) ≡ 0
    → unit_fault (effect_of p) (effect_fault c.counts.targets c.branch.kind c.branch.next (field p 1 2) (field p 3 4) (field p 7 2)) ≡ 0
own_zero c p h v e = effect_unit p _ h ∙ sym (ge_case _ _ _ _ v (sym e))

effect_read : (c : Core) (q k s m f p : List ℕ) (time : Clock) (x u : ℕ) → IsEffect p → unit_of p ≤ 1 → clock_of (unit_of p) ≡ time → 0 ≡ place_fault c 6
    → effect_fault c.counts.targets c.branch.kind c.branch.next (field p 1 2) (field p 3 4) (field p 7 2) ≡ 0
    → state (stepped c (field p 1 2) (judged_in (effect_on time) f c.branch.kind p).judged) q k
    (after_effect (effect_on time) c.branch (figures x u s m f) p).sums (after_effect (effect_on time) c.branch (figures x u s m f) p).margins (after_effect (effect_on time) c.branch (figures x u s m f) p).facts
    ≡ record_read (state c q k s m f) (decode p)
unfolding accepted effect_state own_fault after_effect
effect_read c q k s m f p time x u h v y z e =
    let w : time ≡ clock (effect_of p) = sym y ∙ sym (effect_clock p h) in
    let o = own_zero c p h v e in
    rw (decode_effect p h, w, ← effect_target p, ← effect_intensity p, ← effect_duration p)
    (without_fault (state c q k s m f) (effect_rec (effect_of p)) 0 0 z refl (sym (rw (← effect_target p, ← effect_intensity p, ← effect_duration p) at o)) refl refl)

-- after the first effect, and after one more
first_core : (c : Core) (w t : ℕ) (j : Bool) → c.reading.place ≡ c.reading.start + w → stepped c t j ≡ core_after c 1 (offset w 1) (t + 1) (up_to most32 c.tally.unjudged (pick j 0 1))
unfolding taken one_record effect_branch effect_tally
first_core c w t j e =
    let a : c.reading.place ≡ c.reading.start + offset w 1 = omega (arith, e, offset_one w) in
    rw a refl

records_next : (x n : ℕ) → up_to most32 (up_to most32 x n) 1 ≡ up_to most32 x (n + 1)
records_next x n = omega arith

left_next : (x n : ℕ) → x - n - 1 ≡ x - (n + 1)
left_next x n = omega arith

place_next : (x a w : ℕ) → x + a + w ≡ x + (a + w)
place_next x a w = omega arith

next_core : (c : Core) (a w n x u t : ℕ) (j : Bool)
    → stepped (entering (core_after c n a x u) w) t j ≡ core_after c (n + 1) (a + w) (t + 1) (up_to most32 u (pick j 0 1))
unfolding taken one_record effect_branch effect_tally
next_core c a w n x u t j = rw (place_next c.reading.start a w, records_next c.counts.records n, left_next c.branch.left n) refl

-- ---- the first effects of some bytes

module _ (c : Core) (s m f l : List ℕ) where
  abbrev pub begin : Figures
  begin = figures c.branch.next c.tally.unjudged s m f

  abbrev width : ℕ
  width = (timing_of l).length

  abbrev judge : Judge
  judge = effect_on (timing_of l).clock

  abbrev after : ℕ → Figures
  after n = after_effects judge c.branch begin width l n

  -- whether the effect of a number has no fault but for its unit
  abbrev pub sound_at : ℕ → Bool
  sound_at i = sound (timing_of l).kind c.counts.targets c.branch.kind (after i).next (drop (offset width i) l)

  -- where none is taken, the first has a fault
  pub unsound_first : (n : ℕ) → IsEffect l → 0 < n → Leads sound_at (alike_of l n) 0
      → if_lt 1 (unit_of l) 3 (effect_fault c.counts.targets c.branch.kind c.branch.next (field l 1 2) (field l 3 4) (field l 7 2)) ≡ 0 → ⊥
  unfolding after_effects offset
  unsound_first n first w r e =
      lt_elim e (λ h q. omega (arith, q)) (λ h q. unsound_fault _ _ _ _ l (r.stops (alike_some l n h w)) (sym (timing_kind l first)) q)

  -- n effects that may be taken: the first has been entered, there are bytes to read them in, whose places are counted, order and records allow them, they are timed
  -- alike, and none has a fault
  pub record Free (n : ℕ) : Type 0 where
    pub placed : 0 ≡ place_fault c 6
    pub entered : c.reading.place ≡ c.reading.start + length_of l
    pub room : n * 10 + 6 ≤ length l
    pub counts : c.reading.start + length l ≤ most64
    pub more : 1 < n → (n ≤ c.branch.left) × (c.counts.records + n ≤ most_records)
    pub few : ℕ
    pub alike : n ≤ alike_of l few
    pub sounds : (i : ℕ) → i < n → sound_at i ≡ true
    pub first : IsEffect l

  -- what they leave
  abbrev Left : ℕ → Type 0
  Left n =
      Records l (offset width n)
      × ((q k : List ℕ) → state (core_after c n (offset width n) (after n).next (after n).unjudged) (replicate 16 0) k (after n).sums (after n).margins (after n).facts ≡ after_first (state c q k s m f) l (offset width n))

  -- one of them
  one_at : (n i : ℕ) → Free n → i < n → (effect_fault c.counts.targets c.branch.kind (after i).next (field (drop (offset width i) l) 1 2) (field (drop (offset width i) l) 3 4) (field (drop (offset width i) l) 7 2) ≡ 0) × Alike l (drop (offset width i) l)
  one_at n i h w =
      let e = sound_parts _ _ _ _ _ (h.sounds i w) in
      (e.1, alike_at_lem l h.few i h.first (omega (arith, h.alike)) e.0)

  left_first : Free 1 → Left 1
  unfolding after_effects after_effect offset
  left_first h =
      let e = one_at 1 0 h (omega arith) in
      let n : offset width 1 ≡ length_of l = offset_one width ∙ sym (effect_length l h.first) in
      let b : c.reading.place ≡ c.reading.start + width = h.entered ∙ ap (λ (x : ℕ). c.reading.start + x) (effect_length l h.first) in (
        records_alone l (offset width 1) n (omega (arith, h.room)),
        λ q k. read_alone _ _ q k _ _ _ l (offset width 1) n (rw (← first_core c width (field l 1 2) (judged_in judge f c.branch.kind l).judged b) (effect_read c q k s m f l (timing_of l).clock c.branch.next c.tally.unjudged h.first e.1.unit e.1.clocked h.placed e.0)),
      )

  -- one effect more
  left_more : (n : ℕ) → 0 < n → Free (n + 1) → Left n → Left (n + 1)
  unfolding after_effect row_after
  left_more n w h (r, e) =
      let g : Figures = after n in
      let d : Core = core_after c n (offset width n) g.next g.unjudged in
      let p : List ℕ = drop (offset width n) l in
      let o = one_at (n + 1) n h (omega arith) in
      let z : length_of p ≡ width = o.1.long in
      let b = h.more (omega arith) in
      let t = offset_most width n (length_most l) in
      let y : Next d.reading p =
      record {
        between = record { reads = refl; none = refl; room = omega (arith, t, h.room, h.counts) };
        known = omega (arith, known_length p o.1.effect);
        room = omega (arith, length-drop (offset width n) l, t, h.room);
      } in
      let a : offset width n + length_of p ≡ offset width (n + 1) = rw z (offset_more width n) in
      let v : 0 ≡ place_fault (entering d width) 6 = place_zero (entering d width) (omega arith) (omega (arith, b.0)) (omega (arith, b.1)) in
      let x : after_effect judge c.branch g p ≡ after (n + 1) = effects_more judge c.branch begin g width l n refl in (
        rw a at (records_more l (offset width n) _ (standing_next d.reading l (offset width n) r y) (records_alone p _ refl y.room)),
        λ q k.
            let u = reached_next (state c q k s m f) d q k g.sums g.margins g.facts l (offset width n) r y (e q k) in
            rw (← x, ← a)
            (one_read _ _ _ q k _ _ _ k _ _ _ l (offset width n) u
            (rw (z, rest_is l (offset width n), ← next_core c (offset width n) width n g.next g.unjudged (field p 1 2) (judged_in judge g.facts c.branch.kind p).judged)
            (effect_read (entering d width) q k g.sums g.margins g.facts p (timing_of l).clock g.next g.unjudged o.1.effect o.1.unit o.1.clocked v o.0))),
      )

  pub effects_read : (k n : ℕ) → n ≡ k + 1 → Free n → Left n
  effects_read zero n e h = rw e (left_first (rw e at h))
  effects_read (suc k) n e h =
      let a : n ≡ k + 1 + 1 = omega arith in
      let g : Free (k + 1 + 1) = rw a at h in
      rw a
      (left_more (k + 1) (omega arith) g
      (effects_read k (k + 1) refl
      record {
        placed = g.placed;
        entered = g.entered;
        room = omega (arith, g.room);
        counts = g.counts;
        more = λ w. let b = g.more (omega arith) in (omega (arith, b.0), omega (arith, b.1));
        few = g.few;
        alike = omega (arith, g.alike);
        sounds = λ i w. g.sounds i (omega arith);
        first = g.first;
      }))

-- whatever the totals of the kinds are
pub with_kinds_lem : {d : Core} {k s m f : List ℕ} {r : State} (x : List ℕ) (c : Core) (n a u v : ℕ) → d ≡ core_after c n a u v
    → state (core_after (with_kinds c x) n a u v) (replicate 16 0) k s m f ≡ r → state (with_kinds d x) (replicate 16 0) k s m f ≡ r
with_kinds_lem x c n a u v e h = rw e h
