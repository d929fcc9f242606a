-- What a piece's bytes do when they are read record by record. Assumes nothing.
use mathlib.Core.Path.{◌≡◌, refl, sym, ◌∙◌, ap, subst}
use mathlib.Core.Bool.{Bool, true, false}
use mathlib.Core.Logic.{◌⊎◌, inl, inr, ⊎_elim}
use mathlib.Core.List.{List, [], ◌∷◌, ◌++◌, append-nil}
use Prim.Native.Nat.{ℕ, ◌+◌, ◌-◌, ◌<◌, ◌≤◌}
use native.Mathlib.Omega.{arith}
use native.Mathlib.Numerals.{add-one}
use lib.ListN.{length, get_or, take, drop, replicate, length-drop, take-append-drop}
use lib.Seq.{take_all, drop-cons, drop-drop, get_or-drop, length-take-le, take-add, take-take}
use lib.Dec.{T}
use Rattle.numeric.specs.Choice.{pick, if_eq}
use Rattle.numeric.proofs.ChoiceLaws.{picked_first, picked_second, eq_both, le_both, eq_elim}
use Rattle.state.specs.declared.Core.{Core}
use Rattle.state.specs.declared.Reading.{Reading}
use Rattle.model.specs.Verdict.{body_length, decode}
use Rattle.model.specs.Machine.{State, state, core, reading, record_read, cleared, ended, body, step, read_all}
use Rattle.model.proofs.Accepts.{WholeBytes}
use Rattle.model.proofs.ReadLaws.{Ready, partial, read_append, read_whole, cleared_same}
use Rattle.model.proofs.CodecLaws.{body_most, decode_prefix, pending_decode}
use Rattle.reading.proofs.EnterLaws.{store_wide}
use Rattle.effects.specs.Timings.{timing_of}
use Rattle.study.specs.Spans.{of_scenario, length_of, Next, after_first, Records}

-- ---- a record at once

-- the parts that go by value where a record of n bytes has been entered
abbrev pub entering : Core → ℕ → Core
entering c n = core (reading 0 n (c.reading.place + n) c.reading.place 0 0) c.counts c.branch c.tally

-- what a record says stands in its own bytes
own_bytes : (x : ℕ) (l : List ℕ) → 0 < body_length x → length (take (body_length x) l) ≡ body_length x → decode (x ∷ l) ≡ decode (x ∷ take (body_length x) l)
own_bytes x l h e =
    ap (λ (y : List ℕ). decode (x ∷ y)) (sym (take-append-drop (body_length x) l))
    ∙ decode_prefix (x ∷ take (body_length x) l) (drop (body_length x) l) record { kind = x; body = take (body_length x) l; same = refl; whole = record { known = omega arith; full = e } }

-- and so in the first sixteen
pub in_sixteen : (l : List ℕ) → 16 ≤ length l → 0 < body_length (get_or l 0 0) → (get_or (take 16 l) 0 0 ≡ get_or l 0 0) × (decode (take 16 l) ≡ decode l)
in_sixteen [] h k = let z : ⊥ = omega arith in absurd z
in_sixteen (x ∷ l) h k =
    let b = body_most x in
    let e : take (body_length x) (take 15 l) ≡ take (body_length x) l = take-take (body_length x) 15 l (omega arith) in
    let w : length (take 15 l) ≡ 15 = length-take-le 15 l (omega arith) in (
      refl,
      own_bytes x (take 15 l) k (length-take-le (body_length x) (take 15 l) (omega arith)) ∙ ap (λ (y : List ℕ). decode (x ∷ y)) e ∙ sym (own_bytes x l k (length-take-le (body_length x) l (omega arith))),
    )

-- the bytes of a whole record, read from between two records, leave what the record entered and read leaves
enter_bytes : (c : Core) (p q k s m f l : List ℕ) (x : ℕ) → Next c.reading (x ∷ l) → length p ≡ 16 → length (take (body_length x) l) ≡ body_length x
    → read_all (state c p k s m f) (take (body_length x + 1) (x ∷ l)) ≡ cleared (record_read (state (entering c (body_length x + 1)) q k s m f) (decode (x ∷ l)))
unfolding read_all partial
enter_bytes c p q k s m f l x n w e =
    let b : List ℕ = take (body_length x) l in
    let r : Ready (state c p k s m f) = record { reads = n.between.reads; none = n.between.none; wide = w; room = n.between.room } in
    let z : WholeBytes (x ∷ b) = record { kind = x; body = b; same = refl; whole = record { known = omega (arith, n.known); full = e } } in
    let d : decode (x ∷ l) ≡ decode (x ∷ b) = own_bytes x l n.known e in
    let g : length (x ∷ b) ≡ body_length x + 1 = omega arith in
    let t : take (body_length x + 1) (x ∷ l) ≡ (x ∷ b) ++ [] = rw add-one (sym (append-nil (x ∷ b))) in
    rw (t, read_whole (state c p k s m f) x b [] r (omega (arith, n.known)) e (body_most x), pending_decode (x ∷ b) p z, ← d, g)
    (cleared_same _ _ q k s m f (decode (x ∷ l)))

pub enter_record : (c : Core) (p q k s m f l : List ℕ) → Next c.reading l → length p ≡ 16
    → read_all (state c p k s m f) (take (length_of l) l) ≡ cleared (record_read (state (entering c (length_of l)) q k s m f) (decode l))
enter_record c p q k s m f [] n w = let z : ⊥ = omega (arith, n.room) in absurd z
enter_record c p q k s m f (x ∷ l) n w =
    enter_bytes c p q k s m f l x n w (length-take-le (body_length x) l (let b = body_most x in omega (arith, n.room)))

-- ---- the pending bytes stay sixteen

abbrev Wide : State → Type 0
Wide s = length s.pending ≡ 16

ended_wide : (s : State) → Wide s → Wide (ended s)
unfolding ended cleared
ended_wide s h = le_both Wide _ _ _ _ refl h

step_wide : (s : State) (b : ℕ) → Wide s → Wide (step s b)
unfolding step body
step_wide s b h =
    eq_both Wide _ _ _ _
    (eq_both Wide _ _ _ _ (store_wide s.pending 0 b ∙ h)
    (ended_wide _ (store_wide s.pending s.core.reading.have b ∙ h)))
    h

read_wide : (s : State) (l : List ℕ) → Wide s → Wide (read_all s l)
unfolding read_all
read_wide s [] h = h
read_wide s (b ∷ l) h = read_wide (step s b) l (step_wide s b h)

pub stays_wide : (t s : State) (l : List ℕ) → t ≡ read_all s l → length s.pending ≡ 16 → length t.pending ≡ 16
stays_wide t s l e h = rw e (read_wide s l h)

-- ---- one part of the bytes after another

-- a list of one byte
pub read_single : (s : State) (l : List ℕ) (i : ℕ) → i < length l → read_all s (take (i + 1 - i) (drop i l)) ≡ step s (get_or l i 0)
unfolding read_all
read_single s l i h = let e : i + 1 - i ≡ 1 = omega arith in rw (e, drop-cons l i 0 h) refl

run_more : (s t r : State) (l : List ℕ) (i j k : ℕ) → i ≤ j → j ≤ k → t ≡ read_all s (take (j - i) (drop i l)) → r ≡ read_all t (take (k - j) (drop j l))
    → r ≡ read_all s (take (k - i) (drop i l))
run_more s t r l i j k h w e f =
    let a : k - i ≡ (j - i) + (k - j) = omega arith in
    let b : i + (j - i) ≡ j = omega arith in
    let d : drop (j - i) (drop i l) ≡ drop j l = drop-drop (j - i) i l ∙ ap (λ (x : ℕ). drop x l) b in
    rw (a, take-add (j - i) (k - j) (drop i l), d, read_append s (take (j - i) (drop i l)) (take (k - j) (drop j l)), ← e) f

-- ---- the part of the bytes from a place on

abbrev pub rest : List ℕ → ℕ → List ℕ
rest l i = take (length l - i) (drop i l)

pub rest_is : (l : List ℕ) (i : ℕ) → rest l i ≡ drop i l
rest_is l i = take_all (length l - i) (drop i l) (let d = length-drop i l in omega arith)

-- equal kinds have records of one length
pub length_at : {j k : ℕ} → j ≡ k → body_length j + 1 ≡ body_length k + 1
length_at e = ap (λ (x : ℕ). body_length x + 1) e

no_false : false ≡ true → ⊥
no_false e = subst T (sym e) tt

-- the kinds of a scenario's records
pub scenario_cases : (P : ℕ → Type 0) → P 3 → P 4 → P 5 → P 6 → P 8 → P 10 → (k : ℕ) → of_scenario k ≡ true → P k
unfolding of_scenario
scenario_cases P p3 p4 p5 p6 p8 p10 k e =
    eq_elim e (λ z _. at z p3) (λ _ e. eq_elim e (λ z _. at z p4) (λ _ e. eq_elim e (λ z _. at z p5) (λ _ e. eq_elim e (λ z _. at z p6)
    (λ _ e. eq_elim e (λ z _. at z p8) (λ _ e. eq_elim e (λ z _. at z p10) (λ _ e. absurd (no_false e)))))))
  where
    at : {n : ℕ} → k ≡ n → P n → P k
    at z p = subst P (sym z) p

-- no other kind is one of them
pub other_kinds : (k n : ℕ) → of_scenario k ≡ false → of_scenario n ≡ true → k ≡ n → ⊥
other_kinds k n e h q = subst T (sym h ∙ ap of_scenario (sym q) ∙ e) tt

-- they are known
pub scenario_known : (k : ℕ) → of_scenario k ≡ true → 0 < body_length k
unfolding body_length if_eq
scenario_known = scenario_cases (λ k. 0 < body_length k) (omega arith) (omega arith) (omega arith) (omega arith) (omega arith) (omega arith)

-- the bytes begin with an effect of either kind
abbrev pub IsEffect : List ℕ → Type 0
IsEffect l = (get_or l 0 0 ≡ 6) ⊎ (get_or l 0 0 ≡ 8)

-- whose length is that of the effects timed as it is
pub effect_length : (l : List ℕ) → IsEffect l → length_of l ≡ (timing_of l).length
unfolding body_length timing_of if_eq
effect_length l (inl h) = rw h refl
effect_length l (inr h) = rw h refl

-- ---- the records at the front of some bytes

-- the first record alone
first_alone : (s : State) (l : List ℕ) → cleared (record_read s (decode l)) ≡ after_first s l (length_of l)
unfolding read_all
first_alone s l = let e : length_of l - length_of l ≡ 0 = omega arith in rw e refl

pub read_alone : (s : State) (d : Core) (q k u m f l : List ℕ) (n : ℕ) → n ≡ length_of l → state d q k u m f ≡ record_read s (decode l)
    → state d (replicate 16 0) k u m f ≡ after_first s l n
unfolding cleared
read_alone s d q k u m f l n h e = rw h (ap cleared e ∙ first_alone s l)

pub records_alone : (l : List ℕ) (n : ℕ) → n ≡ length_of l → 16 ≤ length l → Records l n
records_alone l n h w = let b = body_most (get_or l 0 0) in record { first = omega arith; there = omega arith; more = inl h }

-- sixteen bytes have one record at the most
pub one_record_lem : (s r : State) (l : List ℕ) (n : ℕ) → length l ≡ 16 → Records l n → r ≡ after_first s l n → r ≡ cleared (record_read s (decode l))
one_record_lem s r l n w h e = ⊎_elim (λ q. (rw q at e) ∙ sym (first_alone s l)) (λ q. let z : ⊥ = omega arith in absurd z) h.more

-- whole records from between two records on
pub front_read : (c : Core) (p q k s m f l : List ℕ) (r : State) (n : ℕ) → Next c.reading l → length p ≡ 16 → Records l n
    → r ≡ after_first (state (entering c (length_of l)) q k s m f) l n → r ≡ read_all (state c p k s m f) (take n l)
front_read c p q k s m f l r n h w z e =
    let a : n ≡ length_of l + (n - length_of l) = omega (arith, z.first) in
    let d : take n l ≡ take (length_of l) l ++ take (n - length_of l) (drop (length_of l) l) = ap (λ (x : ℕ). take x l) a ∙ take-add (length_of l) (n - length_of l) l in
    rw (d, read_append (state c p k s m f) (take (length_of l) l) (take (n - length_of l) (drop (length_of l) l)), enter_record c p q k s m f l h w) e

-- a loop over records stands at the record at place i
pub record Standing (l : List ℕ) (i : ℕ) : Type 0 where
  pub room : i + 16 ≤ length l
  pub first : length_of l ≤ i + length_of (drop i l)
  pub more : (i ≡ 0) ⊎ (length_of l + 16 ≤ length l)

-- what it shows there: the record that has been entered at place i leaves what the bytes up to its end leave
abbrev pub Reached : State → State → List ℕ → ℕ → Type 0
Reached s t l i = cleared (record_read t (decode (drop i l))) ≡ after_first s l (i + length_of (drop i l))

pub standing_start : (l : List ℕ) → 16 ≤ length l → Standing l 0
standing_start l h = record { room = h; first = omega arith; more = inl refl }

pub reached_start : (s : State) (l : List ℕ) → Reached s s l 0
reached_start s l = let e : 0 + length_of l ≡ length_of l = omega arith in rw e (first_alone s l)

pub records_more : (l : List ℕ) (i n : ℕ) → Standing l i → Records (drop i l) n → Records l (i + n)
records_more l i n s r =
    let d = length-drop i l in
    record { first = omega (arith, s.first, r.first); there = omega (arith, s.room, r.there); more = ⊎_elim (λ z. go z r.more) inr s.more }
  where
    go : i ≡ 0 → (n ≡ length_of (drop i l)) ⊎ (length_of (drop i l) + 16 ≤ length (drop i l)) → (i + n ≡ length_of l) ⊎ (length_of l + 16 ≤ length l)
    go z (inl e) = let g : n ≡ length_of l = rw z at e in inl (omega arith)
    go z (inr e) = let g : length_of l + 16 ≤ length l = rw z at e in inr g

-- what a turn reads from its place on, and the records up to its end
pub read_in : (l : List ℕ) (i n : ℕ) → Records (rest l i) n → Records (drop i l) n
read_in l i n h = rw (rest_is l i) at h

pub read_to : (l : List ℕ) (i n : ℕ) → Standing l i → Records (rest l i) n → Records l (i + n)
read_to l i n s h = records_more l i n s (read_in l i n h)

pub more_read : (s t r : State) (l : List ℕ) (i n : ℕ) → Standing l i → Reached s t l i → Records (drop i l) n → r ≡ after_first t (drop i l) n → r ≡ after_first s l (i + n)
more_read s t r l i n z h w e =
    let j : ℕ = i + length_of (drop i l) in
    let a : i + n - j ≡ n - length_of (drop i l) = omega arith in
    run_more _ (after_first s l j) r l (length_of l) j (i + n) z.first (omega (arith, w.first)) refl
    (rw (a, ← drop-drop (length_of (drop i l)) i l, ← h) e)

pub standing_next : (h : Reading) (l : List ℕ) (i : ℕ) → Records l i → Next h (drop i l) → Standing l i
standing_next h l i r n =
    let d = length-drop i l in
    record { room = omega (arith, n.room, r.there); first = omega (arith, r.first); more = inr (omega (arith, n.room, r.there, r.first)) }

pub reached_next : (s : State) (c : Core) (q k u m f l : List ℕ) (i : ℕ) → Records l i → Next c.reading (drop i l)
    → state c (replicate 16 0) k u m f ≡ after_first s l i → Reached s (state (entering c (length_of (drop i l))) q k u m f) l i
reached_next s c q k u m f l i r n e =
    let j : ℕ = i + length_of (drop i l) in
    let a : j - i ≡ length_of (drop i l) = omega arith in
    run_more _ (state c (replicate 16 0) k u m f) _ l (length_of l) i j r.first (omega arith) e
    (rw a (sym (enter_record c (replicate 16 0) q k u m f (drop i l) n refl)))

-- one record is read where the loop stands
pub one_read : (s : State) (c d : Core) (q k u m f k' u' m' f' l : List ℕ) (i : ℕ) → Reached s (state c q k u m f) l i
    → state d q k' u' m' f' ≡ record_read (state c q k u m f) (decode (rest l i)) → state d (replicate 16 0) k' u' m' f' ≡ after_first s l (i + length_of (drop i l))
unfolding cleared
one_read s c d q k u m f k' u' m' f' l i h e =
    let g : state d q k' u' m' f' ≡ record_read (state c q k u m f) (decode (drop i l)) = rw (rest_is l i) at e in
    ap cleared g ∙ h

-- ---- whole records where they stand in the piece, or one byte and the record that it makes whole

-- the bytes that the record stands in: those of the piece from a place on, or the pending ones
pub either_wide : (b : Bool) (h : Reading) (l p x : List ℕ) (i : ℕ) → (b ≡ true → Next h (rest l i)) → length p ≡ 16 → x ≡ pick b (rest l i) p → 16 ≤ length x
either_wide true h l p x i n w e = rw e (n refl).room
either_wide false h l p x i n w e = rw e (omega arith)

pub either_there : (b : Bool) (l p x : List ℕ) (i n : ℕ) → i < length l → x ≡ pick b (rest l i) p → Records x n → (i < i + pick b n 1) × (i + pick b n 1 ≤ length l)
either_there true l p x i n h e r =
    let g : Records (drop i l) n = rw (e, rest_is l i) at r in
    let d = length-drop i l in
    (omega (arith, g.first), omega (arith, g.there))
either_there false l p x i n h e r = (omega arith, omega arith)

-- the byte at a place, the first of those from there on
first_byte : (s : State) (l : List ℕ) (i : ℕ) → i < length l → step s (get_or (rest l i) 0 0) ≡ read_all s (take (i + 1 - i) (drop i l))
first_byte s l i h =
    let z : i + 0 ≡ i = omega arith in
    let e : get_or (rest l i) 0 0 ≡ get_or l i 0 = rw (rest_is l i, get_or-drop i l 0 0, z) refl in
    rw e (sym (read_single s l i h))

-- what is known where the record, or the byte, has been entered
pub record EnteredEither (b w : Bool) (c d : Core) (p p' l : List ℕ) (i : ℕ) : Type 0 where
  pub here : i < length l
  pub wide : length p ≡ 16
  pub stays : length p' ≡ length p
  pub next : b ≡ true → Next c.reading (rest l i)
  pub record_whole : b ≡ true → (w ≡ true) × (d ≡ entering c (length_of (rest l i)))
  pub byte : b ≡ false → (k s m f : List ℕ) → step (state c p k s m f) (get_or (rest l i) 0 0) ≡ pick w (cleared (record_read (state d p' k s m f) (decode p'))) (state d p' k s m f)

pub either_read : (b w : Bool) (c d : Core) (p p' k u m f l x : List ℕ) (i n : ℕ) (r : State) → EnteredEither b w c d p p' l i → w ≡ true → x ≡ pick b (rest l i) p' → Records x n
    → ((q : List ℕ) → r ≡ after_first (state d q k u m f) x n) → r ≡ read_all (state c p k u m f) (take (i + pick b n 1 - i) (drop i l))
either_read true w c d p p' k u m f l x i n r h t e z g =
    let a : i + n - i ≡ n = omega arith in
    let j : Records (drop i l) n = rw (e, rest_is l i) at z in
    let q = rw (e, (h.record_whole refl).1, rest_is l i) at (g []) in
    rw a (front_read c p [] k u m f (drop i l) r n (rw (rest_is l i) at (h.next refl)) h.wide j q)
either_read false w c d p p' k u m f l x i n r h t e z g =
    let j : Records p' n = rw e at z in
    let q = rw e at (g p') in
    one_record_lem _ r p' n (h.stays ∙ h.wide) j q ∙ sym (picked_first w _ _ _ (h.byte refl k u m f) t) ∙ first_byte _ l i h.here

pub either_byte : (b w : Bool) (c d : Core) (p p' k u m f l : List ℕ) (i : ℕ) → EnteredEither b w c d p p' l i → w ≡ false → state d p' k u m f ≡ read_all (state c p k u m f) (take (i + 1 - i) (drop i l))
either_byte true w c d p p' k u m f l i h t = absurd (subst T (sym (h.record_whole refl).0 ∙ t) tt)
either_byte false w c d p p' k u m f l i h t = sym (picked_second w _ _ _ (h.byte refl k u m f) t) ∙ first_byte _ l i h.here
