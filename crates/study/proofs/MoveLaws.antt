-- Bytes whose places count from where their first record begins: each byte counts one place, and moving the places changes nothing else. Assumes
-- nothing.
use mathlib.Core.Path.{◌≡◌, refl, sym, ◌∙◌, ap, ap₂, subst}
use mathlib.Core.Logic.{◌⊎◌, inl, inr, ⊎_elim}
use mathlib.Core.List.{List, [], ◌∷◌}
use Prim.Native.Nat.{ℕ, ◌+◌, ◌-◌, ◌<◌, ◌≤◌}
use native.Mathlib.Decide.{ℕ_discrete}
use native.Mathlib.Omega.{arith}
use lib.ListN.{length, take, drop, length-drop}
use lib.Seq.{length-take-le}
use Rattle.numeric.specs.Choice.{if_eq}
use Rattle.numeric.proofs.ChoiceLaws.{eq_case, ne_case, eq_both, le_both, eq_through, le_through}
use Rattle.state.specs.declared.Reading.{Reading}
use Rattle.state.specs.declared.Counts.{Counts}
use Rattle.state.specs.declared.Branch.{Branch}
use Rattle.state.specs.declared.Tally.{Tally}
use Rattle.state.specs.declared.Core.{Core}
use Rattle.model.specs.Format.{Record, opening_rec, target_rec, leak_rec, branching_rec, outcome_rec, effect_rec, closing_rec}
use Rattle.model.specs.Verdict.{decode}
use Rattle.model.specs.Machine.{State, state, core, reading, up_to, most64, store, begun, grown, taken, refused_with, fault_in, effect_state, accepted, with_reading, record_read, cleared, ended, body, step, read_all}
use Rattle.model.proofs.ReadLaws.{read_stays}
use Rattle.reading.specs.Moving.{shifted, moved}
use Rattle.study.specs.Spans.{length_of, after_first, Records}

-- ---- a byte counts one place

-- one place more than x is counted, or the study is not read any more
abbrev Counted : ℕ → Reading → Type 0
Counted x h = (h.place ≡ x + 1) ⊎ ((h.phase ≡ 0 → ⊥) × (h.place ≡ x))

accepted_place : (s : State) (r : Record) → (accepted s r).core.reading.place ≡ s.core.reading.place
unfolding accepted effect_state taken
accepted_place s (opening_rec n) = refl
accepted_place s (target_rec n t) = refl
accepted_place s (leak_rec n f) = refl
accepted_place s (branching_rec b) = refl
accepted_place s (outcome_rec k n) = refl
accepted_place s (effect_rec e) = refl
accepted_place s (closing_rec n t) = refl

record_place : (s : State) (r : Record) → (record_read s r).core.reading.place ≡ s.core.reading.place
unfolding record_read with_reading refused_with
record_place s r = eq_both (λ (t : State). t.core.reading.place ≡ s.core.reading.place) _ _ _ _ (accepted_place s r) refl

begun_counts : (h : Reading) (k : ℕ) → h.place + 1 ≤ most64 → Counted h.place (begun h k)
unfolding begun
begun_counts h k w = eq_both (Counted h.place) _ _ _ _ (inr (λ z. omega arith, refl)) (inl (omega arith))

ended_place : (s : State) → (ended s).core.reading.place ≡ s.core.reading.place
unfolding ended cleared
ended_place s = le_both (λ (t : State). t.core.reading.place ≡ s.core.reading.place) _ _ _ _ (record_place s _) refl

body_counts : (s : State) (b : ℕ) → s.core.reading.place + 1 ≤ most64 → (body s b).core.reading.place ≡ s.core.reading.place + 1
unfolding body grown
body_counts s b w = ended_place _ ∙ omega arith

step_counts : (s : State) (b : ℕ) → s.core.reading.place + 1 ≤ most64 → Counted s.core.reading.place (step s b).core.reading
unfolding step
step_counts s b w = go (ℕ_discrete s.core.reading.phase 0)
  where
    P : State → Type 0
    P t = Counted s.core.reading.place t.core.reading

    go : Dec (s.core.reading.phase ≡ 0) → P (step s b)
    go (yes e) = subst P (eq_case _ _ _ _ e refl) (eq_both P _ _ _ _ (begun_counts s.core.reading b w) (inl (body_counts s b w)))
    go (no e) = subst P (ne_case _ _ _ _ e refl) (inr (e, refl))

read_counts : (s : State) (l : List ℕ) → s.core.reading.place + length l ≤ most64 → (read_all s l).core.reading.phase ≡ 0 → (read_all s l).core.reading.place ≡ s.core.reading.place + length l
unfolding read_all
read_counts s [] w h = omega arith
read_counts s (b ∷ l) w h =
    ⊎_elim
    (λ e. let g = read_counts (step s b) l (omega (arith, e)) h in omega (arith, g, e))
    (λ e. absurd (e.0 (ap (λ (t : State). t.core.reading.phase) (sym (read_stays (step s b) l e.0)) ∙ h)))
    (step_counts s b (omega arith))

-- ---- moving the places changes nothing else

module _ (f : Reading) (n : ℕ) where
  unfoldable moved_in : State → State
  moved_in s = with_reading s (moved f n s.core.reading)

  taken_moved : (h : Reading) (phase : ℕ) → (phase ≡ 2 → ⊥) → reading phase 0 (shifted f n h.place) (shifted f n h.place) 0 0 ≡ moved f n (taken h phase)
  unfolding moved taken
  taken_moved h phase z = ap (λ (x : ℕ). reading phase 0 (shifted f n h.place) (shifted f n h.place) 0 x) (ne_case _ _ _ _ z refl)

  refused_moved : (h : Reading) (k : ℕ) → reading 2 0 (shifted f n h.place) (shifted f n h.start) k (shifted f n h.start) ≡ moved f n (refused_with h k)
  unfolding moved refused_with
  refused_moved h k = ap (λ (x : ℕ). reading 2 0 (shifted f n h.place) (shifted f n h.start) k x) (eq_case _ _ _ _ refl refl)

  -- a record is taken or refused, wherever it stands; of the reading before it the two places alone are looked at
  record_case : (s t : State) (phase c : ℕ) → (phase ≡ 2 → ⊥)
      → if_eq c 0 (with_reading t (reading phase 0 (shifted f n s.core.reading.place) (shifted f n s.core.reading.place) 0 0))
      (with_reading s (reading 2 0 (shifted f n s.core.reading.place) (shifted f n s.core.reading.start) c (shifted f n s.core.reading.start)))
      ≡ moved_in (if_eq c 0 (with_reading t (taken s.core.reading phase)) (with_reading s (refused_with s.core.reading c)))
  unfolding moved_in with_reading
  record_case s t phase c z = eq_through moved_in _ _ (ap (with_reading t) (taken_moved s.core.reading phase z)) (ap (with_reading s) (refused_moved s.core.reading c))

  record_moved : (s : State) (phase have number at : ℕ) (r : Record)
      → record_read (with_reading s (reading phase have (shifted f n s.core.reading.place) (shifted f n s.core.reading.start) number at)) r ≡ moved_in (record_read s r)
  unfolding record_read fault_in accepted with_reading effect_state taken refused_with
  record_moved s phase have number at (opening_rec x) = record_case s (accepted s (opening_rec x)) 0 _ (λ e. omega arith)
  record_moved s phase have number at (target_rec x t) = record_case s (accepted s (target_rec x t)) 0 _ (λ e. omega arith)
  record_moved s phase have number at (leak_rec x y) = record_case s (accepted s (leak_rec x y)) 0 _ (λ e. omega arith)
  record_moved s phase have number at (branching_rec b) = record_case s (accepted s (branching_rec b)) 0 _ (λ e. omega arith)
  record_moved s phase have number at (outcome_rec k x) = record_case s (accepted s (outcome_rec k x)) 0 _ (λ e. omega arith)
  record_moved s phase have number at (effect_rec y) = record_case s (accepted s (effect_rec y)) 0 _ (λ e. omega arith)
  record_moved s phase have number at (closing_rec x t) = record_case s (accepted s (closing_rec x t)) 1 _ (λ e. omega arith)

  -- one place more
  place_moved : (x : ℕ) → 0 < n → n ≤ x → x + 1 ≤ most64 → up_to most64 (shifted f n x) 1 ≡ shifted f n (up_to most64 x 1)
  place_moved x z h w =
      let a : up_to most64 f.place (x - n) ≡ shifted f n x = ne_case _ _ _ _ (λ e. omega arith) refl in
      let b : up_to most64 f.place (up_to most64 x 1 - n) ≡ shifted f n (up_to most64 x 1) = ne_case _ _ _ _ (λ e. omega arith) refl in
      rw (← a, ← b) (omega arith)

  begun_moved : (h : Reading) (k : ℕ) → 0 < n → n ≤ h.place → h.place + 1 ≤ most64 → begun (moved f n h) k ≡ moved f n (begun h k)
  unfolding begun moved
  begun_moved h k z w v =
      eq_through (moved f n) _ _
      (ap (λ (x : ℕ). reading 2 0 (shifted f n h.place) (shifted f n h.start) 1 x) (eq_case _ _ _ _ refl refl))
      (ap₂ (λ (x y : ℕ). reading 0 1 x (shifted f n h.place) 0 y) (place_moved h.place z w v) (ne_case _ _ _ _ (λ e. omega arith) refl))

  grown_moved : (h : Reading) → 0 < n → n ≤ h.place → h.place + 1 ≤ most64 → grown (moved f n h) ≡ moved f n (grown h)
  unfolding grown moved
  grown_moved h z w v = ap₂ (λ (x y : ℕ). reading 0 (up_to 15 h.have 1) x (shifted f n h.start) 0 y) (place_moved h.place z w v) (ne_case _ _ _ _ (λ e. omega arith) refl)

  ended_moved : (s : State) → ended (moved_in s) ≡ moved_in (ended s)
  unfolding moved_in ended cleared moved with_reading
  ended_moved s = le_through moved_in _ _ (ap cleared (record_moved s _ _ _ _ (decode s.pending))) refl

  body_moved : (s : State) (b : ℕ) → 0 < n → n ≤ s.core.reading.place → s.core.reading.place + 1 ≤ most64 → body (moved_in s) b ≡ moved_in (body s b)
  unfolding moved_in body moved with_reading
  body_moved s b z w v = ap (λ (h : Reading). ended (with_reading (state s.core (store 16 s.pending s.core.reading.have b) s.stack s.sums s.margins s.facts) h)) (grown_moved s.core.reading z w v) ∙ ended_moved _

  step_moved : (s : State) (b : ℕ) → 0 < n → n ≤ s.core.reading.place → s.core.reading.place + 1 ≤ most64 → step (moved_in s) b ≡ moved_in (step s b)
  unfolding moved_in step moved with_reading
  step_moved s b z w v =
      eq_through moved_in _ _
      (eq_through moved_in _ _
      (ap (λ (h : Reading). with_reading (state s.core (store 16 s.pending 0 b) s.stack s.sums s.margins s.facts) h) (begun_moved s.core.reading b z w v))
      (body_moved s b z w v))
      refl

  read_moved : (s : State) (l : List ℕ) → 0 < n → n ≤ s.core.reading.place → s.core.reading.place + length l ≤ most64 → read_all (moved_in s) l ≡ moved_in (read_all s l)
  unfolding read_all
  read_moved s [] z w v = refl
  read_moved s (b ∷ l) z w v =
      let t : State = step s b in
      let g : (n ≤ t.core.reading.place) × (t.core.reading.place + length l ≤ most64) =
      ⊎_elim (λ e. (omega (arith, e), omega (arith, e))) (λ e. (omega (arith, e.1), omega (arith, e.1))) (step_counts s b (omega arith)) in
      ap (λ (x : State). read_all x l) (step_moved s b z w (omega arith)) ∙ read_moved t l z g.0 g.1

-- ---- the bytes of whole records, from where the first of them begins

-- the reading where the first record, of n bytes, has been entered
abbrev pub at_first : ℕ → Reading
at_first n = reading 0 n n 0 0 0

entered_moved : (h : Reading) (n : ℕ) (k : Counts) (b : Branch) (y : Tally) (q st u m f : List ℕ) (r : Record) → 0 < n → h.place ≤ most64
    → record_read (state (core h k b y) q st u m f) r ≡ moved_in h n (record_read (state (core (at_first n) k b y) q st u m f) r)
unfolding with_reading
entered_moved h n k b y q st u m f r z w =
    let a : h.place ≡ shifted h n n = ne_case _ _ _ _ (λ e. omega arith) (omega arith) in
    let c : h.start ≡ shifted h n 0 = eq_case _ _ _ _ refl refl in
    ap₂ (λ (x y' : ℕ). record_read (state (core (reading h.phase h.have x y' h.number h.at) k b y) q st u m f) r) a c
    ∙ record_moved h n (state (core (at_first n) k b y) q st u m f) h.phase h.have h.number h.at r

module _ (l : List ℕ) (n : ℕ) (r : Records l n) (w : length l ≤ most64) where
  abbrev more : List ℕ
  more = take (n - length_of l) (drop (length_of l) l)

  more_length : length more ≡ n - length_of l
  more_length = length-take-le (n - length_of l) (drop (length_of l) l) (let d = length-drop (length_of l) l in omega (arith, r.there))

  pub counted : (k : Counts) (b : Branch) (y : Tally) (q st u m f : List ℕ) (t : State) → t ≡ after_first (state (core (at_first (length_of l)) k b y) q st u m f) l n
      → t.core.reading.phase ≡ 0 → t.core.reading.place ≡ n
  unfolding cleared
  counted k b y q st u m f t e h =
      let s : State = state (core (at_first (length_of l)) k b y) q st u m f in
      let p : (record_read s (decode l)).core.reading.place ≡ length_of l = record_place s (decode l) in
      let z = ap (λ (x : State). x.core.reading.phase) (sym e) ∙ h in
      let g = read_counts (cleared (record_read s (decode l))) more (omega (arith, p, more_length, r.there)) z in
      ap (λ (x : State). x.core.reading.place) e ∙ g ∙ omega (arith, p, more_length, r.first)

  -- moved to where the study stands, with a reading where the first record has been entered
  pub placed : (h : Reading) (k : Counts) (b : Branch) (y : Tally) (q st u m f p st' u' m' f' : List ℕ) (d : Core) → h.place ≤ most64
      → state d p st' u' m' f' ≡ after_first (state (core (at_first (length_of l)) k b y) q st u m f) l n
      → state (core (moved h (length_of l) d.reading) d.counts d.branch d.tally) p st' u' m' f' ≡ after_first (state (core h k b y) q st u m f) l n
  unfolding moved_in cleared with_reading
  placed h k b y q st u m f p st' u' m' f' d v e =
      let s : State = state (core (at_first (length_of l)) k b y) q st u m f in
      let c : (record_read s (decode l)).core.reading.place ≡ length_of l = record_place s (decode l) in
      ap (moved_in h (length_of l)) e
      ∙ sym (read_moved h (length_of l) (cleared (record_read s (decode l))) more (omega arith) (omega (arith, c)) (omega (arith, c, more_length, r.there)))
      ∙ ap (λ (x : State). read_all (cleared x) more) (sym (entered_moved h (length_of l) k b y q st u m f (decode l) (omega arith) v))
