-- No sum of the machine stops at the greatest number of its memory. Assumes nothing.
use mathlib.Core.Path.{◌≡◌, refl, sym, ◌∙◌, ap, subst}
use mathlib.Core.List.{List, [], ◌∷◌, ◌++◌, append_assoc}
use Prim.Native.Nat.{ℕ, ◌+◌, ◌*◌, ◌≤◌}
use native.Mathlib.Decide.{ℕ_discrete}
use native.Mathlib.Omega.{arith}
use lib.ListN.{length, get_or}
use Rattle.numeric.proofs.ChoiceLaws.{eq_case, ne_case, eq_both}
use Rattle.state.specs.declared.Reading.{Reading}
use Rattle.state.specs.declared.Counts.{Counts}
use Rattle.model.specs.Bounds.{most_scenarios, most_records, most_frequency}
use Rattle.model.specs.Sums.{join_over}
use Rattle.model.specs.Format.{Record, closing_rec}
use Rattle.model.specs.Valid.{Each}
use Rattle.model.specs.Faults.{Context, start, role, fault, counted, context_after}
use Rattle.model.specs.Verdict.{body_length, decode, cut}
use Rattle.model.specs.Calls.{joined}
use Rattle.model.specs.Machine.{State, state, core, store, one_record, taken, begun, refused_with, with_reading, accepted, record_read, cleared, step, read_all, fresh}
use Rattle.model.specs.MachineTheorems.{FarBelow, NeverSaturates}
use Rattle.model.proofs.Accepts.{WholeBytes}
use Rattle.model.proofs.CodecLaws.{body_most}
use Rattle.model.proofs.CutLaws.{Left, nothing, unknown, short, cut_joined, cut_each, cut_left}
use Rattle.model.proofs.FaultLaws.{fault_facts}
use Rattle.model.proofs.ReadLaws.{partial, after_record, read_stays, read_short}
use Rattle.model.proofs.Follows.{Follows, follows_record, one_record_lem}
use Rattle.model.proofs.Agreement.{ready, closing_role, whole_few, read_record, record_taken, record_refused, follows_fresh}
use Rattle.model.proofs.CallLaws.{cuts_make_no_difference}
use Rattle.model.proofs.StateBounds.{Bounded, height_le, bounded_record, bounded_fresh}

-- a state with the figures that stand between two records, and perhaps one record more
far_below : (s s' : State) (x : Context) → Follows s x → Bounded s x → s'.sums ≡ s.sums → s'.margins ≡ s.margins
    → s'.core.branch ≡ s.core.branch → s'.core.tally ≡ s.core.tally
    → s'.core.counts.targets ≡ x.counts.targets → s'.core.counts.scenarios ≡ x.counts.scenarios → s'.core.counts.leaks ≡ x.counts.leaks
    → s'.core.counts.records ≤ most_records → s'.core.reading.place ≤ 13 * most_records + 12 → FarBelow s'
far_below s s' x w k su ma br ta tg sc lk re pl =
    let l : x.counts.leaks ≤ most_scenarios * most_frequency = omega (arith, w.leaks, w.scenarios) in
    record {
      place = pl;
      records = re;
      targets = rw tg w.targets;
      scenarios = rw sc w.scenarios;
      leaks = rw lk l;
      height = rw br (height_le s x w);
      kinds = rw ta (omega (arith, k.kinds));
      unjudged = rw ta (omega (arith, k.unjudged, w.records));
      sums = λ t. rw su (omega (arith, k.sums t));
      margins = λ t. rw ma (omega (arith, k.margins t, w.records));
    }

-- the same counts, and at most 13 bytes more
far_on : (s s' : State) (x : Context) → Follows s x → Bounded s x → s'.sums ≡ s.sums → s'.margins ≡ s.margins → s'.core.branch ≡ s.core.branch
    → s'.core.tally ≡ s.core.tally → s'.core.counts ≡ s.core.counts → s'.core.reading.place ≤ s.core.reading.place + 13 → FarBelow s'
far_on s s' x w k su ma br ta co pl =
    let c = co ∙ w.counts in
    far_below s s' x w k su ma br ta (ap (λ (c : Counts). c.targets) c) (ap (λ (c : Counts). c.scenarios) c) (ap (λ (c : Counts). c.leaks) c)
    (rw c w.records) (room (ℕ_discrete x.counts.records 0))
  where
    room : Dec (x.counts.records ≡ 0) → s'.core.reading.place ≤ 13 * most_records + 12
    room (yes z) = omega (arith, w.place)
    room (no n) = omega (arith, w.records, k.place (omega arith))

-- the study after a kind byte; one of an unknown kind ends it
abbrev kind_state : State → ℕ → State
kind_state s k =
    state (core (begun s.core.reading k) s.core.counts s.core.branch s.core.tally) (store 16 s.pending 0 k) s.stack s.sums s.margins s.facts

step_kind : (s : State) (k : ℕ) → s.core.reading.phase ≡ 0 → s.core.reading.have ≡ 0 → step s k ≡ kind_state s k
unfolding step
step_kind s k p h = sym (eq_case _ _ _ _ p (eq_case _ _ _ _ h refl))

unknown_stays : (s : State) (k : ℕ) (l : List ℕ) → body_length k ≡ 0 → read_all (kind_state s k) l ≡ kind_state s k
unfolding begun
unknown_stays s k l u =
    let p : (begun s.core.reading k).phase ≡ 2 = ap (λ (h : Reading). h.phase) (sym (eq_case (body_length k) 0 _ _ u refl)) in
    read_stays (kind_state s k) l (λ z. omega arith)

kind_place : (h : Reading) (k : ℕ) → (begun h k).place ≤ h.place + 13
unfolding begun
kind_place h k = eq_both (λ (r : Reading). r.place ≤ h.place + 13) (body_length k) 0 _ _ (omega arith) (omega arith)

-- what is left after the whole records
far_left : (s : State) (x : Context) (l : List ℕ) → Follows s x → Bounded s x → Left l → FarBelow (read_all s l)
unfolding read_all partial
far_left s x l w k nothing = far_on s s x w k refl refl refl refl refl (omega arith)
far_left s x l w k (unknown b m u) =
    subst FarBelow (sym (ap (λ (v : State). read_all v m) (step_kind s b w.reads w.none) ∙ unknown_stays s b m u))
    (far_on s (kind_state s b) x w k refl refl refl refl refl (kind_place s.core.reading b))
far_left s x l w k (short b m n h) =
    let most = body_most b in
    subst FarBelow (sym (read_short s b m (ready s x w) h most)) (far_on s (partial s (b ∷ m)) x w k refl refl refl refl refl (omega arith))

-- an opening record has 5 bytes
opening_kind_lem : (l : List ℕ) → (get_or l 0 0 ≡ 1 → ⊥) → role (decode l) ≡ 1 → ⊥
unfolding decode
opening_kind_lem l n =
    subst Other (ne_case k 1 _ _ n refl)
    (eq_both Other k 2 _ _ (λ z. omega arith)
    (eq_both Other k 3 _ _ (λ z. omega arith)
    (eq_both Other k 4 _ _ (λ z. omega arith)
    (eq_both Other k 5 _ _ (λ z. omega arith) (eq_both Other k 6 _ _ (λ z. omega arith)
    (eq_both Other k 8 _ _ (λ z. omega arith) (eq_both Other k 10 _ _ (λ z. omega arith) (λ z. omega arith))))))))
  where
    k : ℕ
    k = get_or l 0 0

    Other : Record → Type 0
    Other r = role r ≡ 1 → ⊥

opening_few : (b : List ℕ) → WholeBytes b → role (decode b) ≡ 1 → length b ≤ 5
unfolding body_length
opening_few b w e = go (ℕ_discrete (get_or b 0 0) 1)
  where
    go : Dec (get_or b 0 0 ≡ 1) → length b ≤ 5
    go (yes q) =
        let k : w.kind ≡ 1 = sym (ap (λ (l : List ℕ). get_or l 0 0) w.same) ∙ q in
        let f : body_length w.kind ≡ 4 = sym (eq_case w.kind 1 _ _ k refl) in
        omega (arith, w.whole.full, ap length w.same)
    go (no n) = absurd (opening_kind_lem b n e)

-- a closing record without fault, and a record that is refused: what follows them changes nothing
closing_far : (s : State) (x : Context) (b rest : List ℕ) (n t : ℕ) → Follows s x → Bounded s x → length b ≤ 13 → fault x (closing_rec n t) ≡ 0
    → FarBelow (read_all (after_record s b (closing_rec n t)) rest)
unfolding cleared accepted partial taken
closing_far s x b rest n t w k h f =
    let z = (fault_facts x (closing_rec n t) f).few in
    let p = w.place in
    let c : one_record s.core.counts ≡ counted x.counts = ap one_record w.counts ∙ one_record_lem x.counts z in
    subst FarBelow (sym (read_stays (after_record s b (closing_rec n t)) rest (λ z. omega arith)))
    (far_below s (after_record s b (closing_rec n t)) x w k refl refl refl refl (ap (λ (c : Counts). c.targets) c) (ap (λ (c : Counts). c.scenarios) c) (ap (λ (c : Counts). c.leaks) c)
    (rw c (omega arith)) (omega arith))

refused_far : (s : State) (x : Context) (b rest : List ℕ) (n : ℕ) → Follows s x → Bounded s x → length b ≤ 13
    → FarBelow (read_all (cleared (with_reading (partial s b) (refused_with (partial s b).core.reading n))) rest)
unfolding cleared with_reading refused_with partial
refused_far s x b rest n w k h =
    let v : State = cleared (with_reading (partial s b) (refused_with (partial s b).core.reading n)) in
    subst FarBelow (sym (read_stays v rest (λ z. omega arith))) (far_on s v x w k refl refl refl refl refl (omega arith))

-- one whole record and then more, given what holds after a record that is taken
far_record : (s : State) (x : Context) (b rest : List ℕ) → Follows s x → Bounded s x → WholeBytes b
    → (Follows (after_record s b (decode b)) (context_after x (decode b)) → Bounded (after_record s b (decode b)) (context_after x (decode b))
    → FarBelow (read_all (after_record s b (decode b)) rest)) → FarBelow (read_all s (b ++ rest))
far_record s x b rest w k y ih = subst FarBelow (sym (read_record s x b rest w y)) (go (ℕ_discrete (fault x (decode b)) 0) (ℕ_discrete (role (decode b)) 7))
  where
    few : length b ≤ 13
    few = whole_few b y

    closing : fault x (decode b) ≡ 0 → (n : ℕ) × (t : ℕ) × (decode b ≡ closing_rec n t) → FarBelow (read_all (after_record s b (decode b)) rest)
    closing f c = rw c.2 (closing_far s x b rest c.0 c.1 w k few (rw c.2 at f))

    taken_on : fault x (decode b) ≡ 0 → Dec (role (decode b) ≡ 7) → FarBelow (read_all (after_record s b (decode b)) rest)
    taken_on f (yes c) = closing f (closing_role (decode b) c)
    taken_on f (no c) = ih (follows_record s x b (decode b) w few f c) (bounded_record s x b (decode b) w k few (opening_few b y) f c)

    go : Dec (fault x (decode b) ≡ 0) → Dec (role (decode b) ≡ 7) → FarBelow (read_all (cleared (record_read (partial s b) (decode b))) rest)
    go (yes f) d = rw (record_taken s x b (decode b) w f) (taken_on f d)
    go (no n) d = rw (record_refused s x b (decode b) w n) (refused_far s x b rest (fault x (decode b)) w k few)

-- the records one after the other, and what is left
far_all : (bs : List (List ℕ)) (left : List ℕ) (s : State) (x : Context) → Follows s x → Bounded s x → Each WholeBytes bs → Left left
    → FarBelow (read_all s (join_over (λ b. b) bs ++ left))
unfolding join_over
far_all [] left s x w k y v = far_left s x left w k v
far_all (b ∷ bs) left s x w k y v =
    rw (append_assoc b (join_over (λ b. b) bs) left)
    (far_record s x b (join_over (λ b. b) bs ++ left) w k y.0 (λ f g. far_all bs left _ _ f g y.1 v))

pub never_saturates : NeverSaturates
never_saturates cs y =
    let l : List ℕ = joined [] cs in
    rw (cuts_make_no_difference cs, ← cut_joined l)
    (far_all (cut l).whole (cut l).left fresh start follows_fresh bounded_fresh (cut_each l) (cut_left l))
