-- A record read byte by byte is the record read at once. Assumes nothing.
use mathlib.Core.Path.{◌≡◌, refl, sym, ◌∙◌, ap}
use mathlib.Core.List.{List, [], ◌∷◌, ◌++◌, append_assoc, append-nil}
use Prim.Native.Nat.{ℕ, suc, ◌+◌, ◌<◌, ◌≤◌, min}
use native.Mathlib.Decide.{ℕ_discrete}
use native.Mathlib.Omega.{arith}
use native.Mathlib.Numerals.{add-one}
use lib.ListN.{length, get_or, set, drop, length-append}
use lib.Seq.{drop-cons, set_at}
use Rattle.numeric.proofs.ChoiceLaws.{eq_case, ne_case, le_case, gt_case, lt_case}
use Rattle.state.specs.declared.Reading.{Reading}
use Rattle.state.specs.declared.Core.{Core}
use Rattle.model.specs.Format.{Record, opening_rec, target_rec, leak_rec, branching_rec, outcome_rec, effect_rec, closing_rec}
use Rattle.model.specs.Verdict.{body_length, decode}
use Rattle.model.specs.Machine.{State, state, most64, store, reading, begun, grown, core, fault_in, effect_state, accepted, with_reading, record_read, cleared, ended, body, step, read_all}

-- bytes of two lists, one after the other
pub read_append : (s : State) (a b : List ℕ) → read_all s (a ++ b) ≡ read_all (read_all s a) b
unfolding read_all
read_append s [] b = refl
read_append s (x ∷ a) b = read_append (step s x) a b

-- a study that is closed or refused stays as it is
pub read_stays : (s : State) (l : List ℕ) → (s.core.reading.phase ≡ 0 → ⊥) → read_all s l ≡ s
unfolding read_all step
read_stays s [] h = refl
read_stays s (b ∷ l) h = ap (λ (u : State). read_all u l) (sym (ne_case _ _ _ _ h refl)) ∙ read_stays s l h

-- a study between two records, with room for one more
pub record Ready (s : State) : Type 0 where
  pub reads : s.core.reading.phase ≡ 0
  pub none : s.core.reading.have ≡ 0
  pub wide : length s.pending ≡ 16
  pub room : s.core.reading.place + 13 ≤ most64

-- the study with the first bytes of a record
unfoldable pub partial : State → List ℕ → State
partial s l =
    state
    (core (reading 0 (length l) (s.core.reading.place + length l) s.core.reading.place 0 0) s.core.counts s.core.branch s.core.tally)
    (l ++ drop (length l) s.pending) s.stack s.sums s.margins s.facts

-- the study once the record of these bytes is taken
abbrev pub after_record : State → List ℕ → Record → State
after_record s l r = cleared (accepted (partial s l) r)

-- the kind byte of a known kind
pub read_kind : (s : State) (k : ℕ) → Ready s → (body_length k ≡ 0 → ⊥) → step s k ≡ partial s (k ∷ [])
unfolding step begun store partial
read_kind s k r h =
    let m : min (s.core.reading.place + 1) most64 ≡ s.core.reading.place + 1 = omega (arith, r.room) in
    let z : 0 < length s.pending = omega (arith, r.wide) in
    let b : ◌≡◌ {A = Reading} (reading 0 1 (s.core.reading.place + 1) s.core.reading.place 0 0)
    (begun s.core.reading k) = ne_case _ _ _ _ h (rw m refl) in
    let p : k ∷ drop 1 s.pending ≡ store 16 s.pending 0 k = lt_case _ _ _ _ (omega arith) (sym (first s.pending k z)) in
    sym (eq_case _ _ _ _ r.reads (eq_case _ _ _ _ r.none (cc)))
  where
    first : (l : List ℕ) (v : ℕ) → 0 < length l → set l 0 v ≡ v ∷ drop 1 l
    first [] v z = let w : ⊥ = omega arith in absurd w
    first (x ∷ l) v z = refl

-- one byte more in the pending bytes
pending_more : (l p : List ℕ) (b : ℕ) → length l < 16 → length p ≡ 16
    → (l ++ (b ∷ [])) ++ drop (length (l ++ (b ∷ []))) p ≡ store 16 (l ++ drop (length l) p) (length l) b
unfolding store
pending_more l p b h w =
    let z : length l < length p = omega arith in
    let e : length (l ++ (b ∷ [])) ≡ suc (length l) = length-append l (b ∷ []) ∙ add-one (length l) in
    lt_case _ _ _ _ h
    (rw (e, append_assoc l (b ∷ []) (drop (suc (length l)) p))
    (rw (drop-cons p (length l) 0 z) (sym (set_at l (get_or p (length l) 0) (drop (suc (length l)) p) b (length l) refl))))

-- one byte more of a record that has begun
read_more : (s : State) (l : List ℕ) (b : ℕ) → Ready s → 0 < length l → length l < 13
    → step (partial s l) b ≡ ended (partial s (l ++ (b ∷ [])))
unfolding step body grown partial
read_more s l b r h k =
    let n : length (l ++ (b ∷ [])) ≡ length l + 1 = length-append l (b ∷ []) in
    let m : min (length l + 1) 15 ≡ length l + 1 = omega arith in
    let q : min (s.core.reading.place + length l + 1) most64 ≡ s.core.reading.place + (length l + 1) = omega (arith, r.room) in
    let p = pending_more l s.pending b (omega arith) r.wide in
    let e : ◌≡◌ {A = Reading} (reading 0 (length (l ++ (b ∷ []))) (s.core.reading.place + length (l ++ (b ∷ []))) s.core.reading.place 0 0)
    (reading 0 (min (length l + 1) 15) (min (s.core.reading.place + length l + 1) most64) s.core.reading.place 0 0) = rw (n, m, q) refl in
    sym (eq_case _ _ _ _ refl (ne_case _ _ _ _ (omega arith) (cc)))

-- a record that is not yet whole, and one that is
ended_not : (s : State) (k : ℕ) (b : List ℕ) → length b < body_length k → ended (partial s (k ∷ b)) ≡ partial s (k ∷ b)
unfolding ended partial
ended_not s k b h = sym (gt_case _ _ _ _ (omega arith) refl)

ended_now : (s : State) (k : ℕ) (b : List ℕ) → length b ≡ body_length k
    → ended (partial s (k ∷ b)) ≡ cleared (record_read (partial s (k ∷ b)) (decode (partial s (k ∷ b)).pending))
unfolding ended partial
ended_now s k b h = sym (le_case _ _ _ _ (omega arith) refl)

-- the first bytes of a record
pub read_part : (s : State) (k : ℕ) (a b : List ℕ) → Ready s → length a + length b < body_length k → body_length k ≤ 12
    → read_all (partial s (k ∷ a)) b ≡ partial s (k ∷ (a ++ b))
unfolding read_all
read_part s k a [] r h m = ap (λ (u : List ℕ). partial s (k ∷ u)) (sym (append-nil a))
read_part s k a (x ∷ b) r h m =
    let n : length (a ++ (x ∷ [])) ≡ length a + 1 = length-append a (x ∷ []) in
    ap (λ (u : State). read_all u b)
    (read_more s (k ∷ a) x r (omega arith) (omega arith) ∙ ended_not s k (a ++ (x ∷ [])) (omega arith))
    ∙ read_part s k (a ++ (x ∷ [])) b r (omega arith) m
    ∙ ap (λ (u : List ℕ). partial s (k ∷ u)) (append_assoc a (x ∷ []) b)

-- the rest of a record, to its last byte, whatever comes after
read_rest : (s : State) (k : ℕ) (a b rest : List ℕ) → Ready s → 0 < length b → length a + length b ≡ body_length k → body_length k ≤ 12
    → read_all (partial s (k ∷ a)) (b ++ rest)
    ≡ read_all (cleared (record_read (partial s (k ∷ (a ++ b))) (decode (partial s (k ∷ (a ++ b))).pending))) rest
unfolding read_all
read_rest s k a [] rest r z h m = let w : ⊥ = omega arith in absurd w
read_rest s k a (x ∷ []) rest r z h m =
    let n : length (a ++ (x ∷ [])) ≡ length a + 1 = length-append a (x ∷ []) in
    ap (λ (u : State). read_all u rest)
    (read_more s (k ∷ a) x r (omega arith) (omega arith) ∙ ended_now s k (a ++ (x ∷ [])) (omega arith))
read_rest s k a (x ∷ y ∷ b) rest r z h m =
    let n : length (a ++ (x ∷ [])) ≡ length a + 1 = length-append a (x ∷ []) in
    ap (λ (u : State). read_all u ((y ∷ b) ++ rest))
    (read_more s (k ∷ a) x r (omega arith) (omega arith) ∙ ended_not s k (a ++ (x ∷ [])) (omega arith))
    ∙ read_rest s k (a ++ (x ∷ [])) (y ∷ b) rest r (omega arith) (omega arith) m
    ∙ ap (λ (u : List ℕ). read_all (cleared (record_read (partial s (k ∷ u)) (decode (partial s (k ∷ u)).pending))) rest) (append_assoc a (x ∷ []) (y ∷ b))

-- a whole record
pub read_whole : (s : State) (k : ℕ) (b rest : List ℕ) → Ready s → (body_length k ≡ 0 → ⊥) → length b ≡ body_length k → body_length k ≤ 12
    → read_all s ((k ∷ b) ++ rest) ≡ read_all (cleared (record_read (partial s (k ∷ b)) (decode (partial s (k ∷ b)).pending))) rest
unfolding read_all
read_whole s k b rest r h w m =
    ap (λ (u : State). read_all u (b ++ rest)) (read_kind s k r h) ∙ read_rest s k [] b rest r (omega arith) (omega arith) m

-- a record cut short
pub read_short : (s : State) (k : ℕ) (b : List ℕ) → Ready s → length b < body_length k → body_length k ≤ 12
    → read_all s (k ∷ b) ≡ partial s (k ∷ b)
unfolding read_all
read_short s k b r h m =
    ap (λ (u : State). read_all u b) (read_kind s k r (omega arith)) ∙ read_part s k [] b r (omega arith) m

-- ---- the pending bytes of a record that is read

-- they may as well be cleared before
cleared_accepted : (s : State) (r : Record) → cleared (accepted s r) ≡ accepted (cleared s) r
unfolding cleared accepted effect_state
cleared_accepted s (opening_rec n) = refl
cleared_accepted s (target_rec n t) = refl
cleared_accepted s (leak_rec n f) = refl
cleared_accepted s (branching_rec b) = refl
cleared_accepted s (outcome_rec k n) = refl
cleared_accepted s (effect_rec e) = refl
cleared_accepted s (closing_rec n t) = refl

cleared_before : (s : State) (r : Record) → cleared (record_read s r) ≡ record_read (cleared s) r
unfolding record_read cleared with_reading
cleared_before s r = go (ℕ_discrete (fault_in s.core s.stack r) 0)
  where
    go : Dec (fault_in s.core s.stack r ≡ 0) → cleared (record_read s r) ≡ record_read (cleared s) r
    go (yes e) = ap cleared (sym (eq_case _ _ _ _ e refl)) ∙ eq_case _ _ _ _ e (cleared_accepted s r)
    go (no n) = ap cleared (sym (ne_case _ _ _ _ n refl)) ∙ ne_case _ _ _ _ n refl

-- once they are cleared it does not matter what the pending bytes were
pub cleared_same : (c : Core) (p q k s m f : List ℕ) (r : Record) → cleared (record_read (state c p k s m f) r) ≡ cleared (record_read (state c q k s m f) r)
unfolding cleared
cleared_same c p q k s m f r = cleared_before (state c p k s m f) r ∙ sym (cleared_before (state c q k s m f) r)
