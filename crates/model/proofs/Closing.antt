-- A study is closed exactly when its bytes begin with those of a valid content. A refusal and a closing stay. Demand 3. Assumes nothing.
use mathlib.Core.Path.{◌≡◌, refl, sym, ◌∙◌, ap, ap₂, subst}
use mathlib.Core.List.{List, [], ◌∷◌, ◌++◌, append_assoc, append-nil, map, map-append}
use Prim.Native.Nat.{ℕ, ◌+◌, ◌<◌}
use native.Mathlib.Nat.{add_assoc, add-zero}
use native.Mathlib.Decide.{ℕ_discrete}
use native.Mathlib.Omega.{arith}
use lib.ListN.{length, length-append}
use Rattle.numeric.specs.Choice.{if_eq}
use Rattle.numeric.proofs.ChoiceLaws.{eq_case, ne_case, lt_case, eq_first, eq_elim}
use Rattle.model.specs.Content.{Content}
use Rattle.model.specs.Sums.{sum_over, join_over}
use Rattle.model.specs.Format.{Record, closing_rec, encode, open_records, count_of, leaks_of, records_of, bytes_of}
use Rattle.model.specs.Valid.{Each, Valid}
use Rattle.model.specs.Faults.{Context, start, role, fault, context_after, context_after_all}
use Rattle.model.specs.Verdict.{decode, cut, content_of, Verdict, unclosed, closed, refused, judge_left, judge, verdict}
use Rattle.model.specs.Calls.{Call, gave_totals, gave_target, totals_of, target_report_of, answer, joined_after, joined, Bytes, Callable}
use Rattle.model.specs.Machine.{State, read_all, fresh, state_after_all, answer_in}
use Rattle.model.specs.MachineTheorems.{Answers, ClosedFront, ClosedExactlyThen, ClosedContent, RefusalStays, ClosingStays, TotalsHold, TargetHolds, Demand3}
use Rattle.model.proofs.ListLaws.{each_parts, join_append, join_one, each_join}
use Rattle.model.proofs.Accepts.{Accepts, Fits, WholeBytes}
use Rattle.model.proofs.CodecLaws.{decode_encode, encode_decode, decode_fits, encode_bytes}
use Rattle.model.proofs.CutLaws.{cut_records, cut_joined, cut_each}
use Rattle.model.proofs.ReadLaws.{read_append, read_stays}
use Rattle.model.proofs.Agreement.{ClosedState, Agrees, closing_role, accepts_more, context_more, fits_more, bytes_each, fresh_agrees}
use Rattle.model.proofs.CallLaws.{cuts_make_no_difference, call_answer, all_answers, joined_bytes}
use Rattle.model.proofs.Complete.{content_accepted}
use Rattle.model.proofs.Sound.{accepted_valid}
use Rattle.model.proofs.ClosedLaws.{closes}
use Rattle.model.proofs.Totals.{kinds_add_up}
use Rattle.model.proofs.Margin.{sums_within_margin}

-- Answers, with what a closing record closes
pub answers_hold : Answers
answers_hold = all_answers closes

-- one call after bytes
pub call_answered : (before : List ℕ) (c : Call) → Bytes before → Callable c → answer_in (read_all fresh before) c ≡ answer before c
call_answered = call_answer closes

-- ---- the bytes of a valid content close the study

-- records without fault are judged one after the other
judge_records : (rs : List Record) (x : Context) (place : ℕ) (taken : List Record) (more : List (List ℕ)) (left : List ℕ) → Accepts x rs → Each Fits rs
    → judge x place taken (map encode rs ++ more) left ≡ judge (context_after_all x rs) (place + length (join_over encode rs)) (taken ++ rs) more left
unfolding judge Accepts context_after_all join_over
judge_records [] x place taken more left a f = rw (append-nil taken, add-zero place) refl
judge_records (r ∷ rs) x place taken more left a f =
    let d = decode_encode r f.0 in
    let n : place + length (encode r) + length (join_over encode rs) ≡ place + length (encode r ++ join_over encode rs) =
    add_assoc place (length (encode r)) (length (join_over encode rs)) ∙ ap (λ (k : ℕ). place + k) (sym (length-append (encode r) (join_over encode rs))) in
    let t : (taken ++ (r ∷ [])) ++ rs ≡ taken ++ (r ∷ rs) = append_assoc taken (r ∷ []) rs in
    let ih = judge_records rs (context_after x r) (place + length (encode r)) (taken ++ (r ∷ [])) more left a.2 f.1 in
    rw d (sym (eq_case _ _ _ _ a.0 (ne_case _ _ _ _ a.1 refl)) ∙ ih ∙ rw (n, t) refl)

-- a closing record without fault closes
judge_closing : (x : Context) (place n t : ℕ) (taken : List Record) (more : List (List ℕ)) (left : List ℕ) → fault x (closing_rec n t) ≡ 0 → Fits (closing_rec n t)
    → judge x place taken (encode (closing_rec n t) ∷ more) left ≡ closed (place + length (encode (closing_rec n t))) (content_of taken)
unfolding judge
judge_closing x place n t taken more left e f = rw (decode_encode (closing_rec n t) f) (sym (eq_case _ _ _ _ e (eq_case _ _ _ _ refl refl)))

pub closed_content : ClosedContent
unfolding verdict bytes_of records_of
closed_content c v tail =
    let a = content_accepted c v in
    let q : Record = closing_rec (count_of c) (leaks_of c) in
    let f = each_parts Fits (open_records c) (q ∷ []) a.fits in
    let k = cut_records (open_records c ++ (q ∷ [])) tail in
    let w = k.0 ∙ ap (λ (x : List (List ℕ)). x ++ (cut tail).whole) (map-append encode (open_records c) (q ∷ [])) ∙ append_assoc (map encode (open_records c)) (encode q ∷ []) (cut tail).whole in
    let b : length (join_over encode (open_records c ++ (q ∷ []))) ≡ 0 + length (join_over encode (open_records c)) + length (encode q) =
    ap length (join_append encode (open_records c) (q ∷ []) ∙ ap (λ (x : List ℕ). join_over encode (open_records c) ++ x) (join_one encode q))
    ∙ length-append (join_over encode (open_records c)) (encode q) ∙ omega arith in
    ap (λ (l : List (List ℕ)). judge start 0 [] l (cut (join_over encode (open_records c ++ (q ∷ [])) ++ tail)).left) w
    ∙ judge_records (open_records c) start 0 [] (encode q ∷ (cut tail).whole) (cut (join_over encode (open_records c ++ (q ∷ [])) ++ tail)).left a.accepts f.0
    ∙ judge_closing (context_after_all start (open_records c)) (0 + length (join_over encode (open_records c))) (count_of c) (leaks_of c) (open_records c) (cut tail).whole (cut (join_over encode (open_records c ++ (q ∷ [])) ++ tail)).left a.closing f.1.0
    ∙ ap₂ closed (sym b) a.content

-- ---- a closed study's bytes begin with those of a valid content

unclosed_not : (p : ℕ) (c : Content) → unclosed ≡ closed p c → ⊥
unclosed_not p c e = let z : ◌≡◌ {A = ℕ} 0 1 = cc in omega arith

refused_not : (n q p : ℕ) (c : Content) → refused n q ≡ closed p c → ⊥
refused_not n q p c e = let z : ◌≡◌ {A = ℕ} 0 1 = cc in omega arith

-- what is left after the whole records closes nothing
left_open : (left : List ℕ) (place p : ℕ) (c : Content) → judge_left place left ≡ closed p c → ⊥
unfolding judge_left
left_open [] place p c j = unclosed_not p c j
left_open (k ∷ l) place p c j = refused_not 1 place p c (eq_first _ _ _ _ _ j (unclosed_not p c)).1

-- one record more, as bytes
join_decoded : (rs : List Record) (b rest : List ℕ) → Bytes b → WholeBytes b → join_over encode (rs ++ (decode b ∷ [])) ++ rest ≡ join_over encode rs ++ (b ++ rest)
join_decoded rs b rest y w =
    let e : join_over encode (rs ++ (decode b ∷ [])) ≡ join_over encode rs ++ b =
    join_append encode rs (decode b ∷ []) ∙ ap (λ (x : List ℕ). join_over encode rs ++ x) (join_one encode (decode b) ∙ encode_decode b y w) in
    ap (λ (x : List ℕ). x ++ rest) e ∙ append_assoc (join_over encode rs) b rest

-- a closing record without fault ends the bytes of a valid content
front_closing : (rs : List Record) (b rest : List ℕ) (n t : ℕ) → Accepts start rs → Each Fits rs → decode b ≡ closing_rec n t → fault (context_after_all start rs) (closing_rec n t) ≡ 0
    → Bytes b → WholeBytes b → ClosedFront (join_over encode rs ++ (b ++ rest))
unfolding bytes_of records_of
front_closing rs b rest n t a f d e y w =
    let v = accepted_valid rs n t a e f in
    let q : rs ++ (decode b ∷ []) ≡ open_records (content_of rs) ++ (closing_rec (count_of (content_of rs)) (leaks_of (content_of rs)) ∷ []) =
    ap₂ (λ (x : List Record) (r : Record). x ++ (r ∷ [])) (sym v.same) (d ∙ ap₂ closing_rec v.count v.sum) in
    record {
      content = content_of rs;
      valid = v.valid;
      tail = rest;
      same = sym (join_decoded rs b rest y w) ∙ ap (λ (x : List Record). join_over encode x ++ rest) q;
    }

-- the verdict closed, on records that follow others
front_of : (bs : List (List ℕ)) (left : List ℕ) (x : Context) (place : ℕ) (rs : List Record) (p : ℕ) (c : Content) → Accepts start rs → context_after_all start rs ≡ x → Each Fits rs
    → Each WholeBytes bs → Each Bytes bs → judge x place rs bs left ≡ closed p c
    → ClosedFront (join_over encode rs ++ (join_over (λ b. b) bs ++ left))
unfolding judge join_over
front_of [] left x place rs p c a e f w y j = absurd (left_open left place p c j)
front_of (b ∷ bs) left x place rs p c a e f w y j =
    let rest : List ℕ = join_over (λ b. b) bs ++ left in
    let z = eq_first _ _ _ _ _ j (refused_not (fault x (decode b)) place p c) in
    let g : fault (context_after_all start rs) (decode b) ≡ 0 = rw e z.0 in
    subst (λ (l : List ℕ). ClosedFront (join_over encode rs ++ l)) (sym (append_assoc b (join_over (λ b. b) bs) left))
    (go rest z g (ℕ_discrete (role (decode b)) 7)
    (λ k m.
    subst ClosedFront (join_decoded rs b rest y.0 w.0)
    (front_of bs left (context_after x (decode b)) (place + length b) (rs ++ (decode b ∷ [])) p c (accepts_more start rs (decode b) a g k)
    (context_more start rs (decode b) ∙ ap (λ (u : Context). context_after u (decode b)) e) (fits_more rs (decode b) f (decode_fits b y.0 w.0)) w.1 y.1 m)))
  where
    go : (rest : List ℕ)
        → (fault x (decode b) ≡ 0) × (if_eq (role (decode b)) 7 (closed (place + length b) (content_of rs)) (judge (context_after x (decode b)) (place + length b) (rs ++ (decode b ∷ [])) bs left) ≡ closed p c)
        → fault (context_after_all start rs) (decode b) ≡ 0 → Dec (role (decode b) ≡ 7)
        → ((role (decode b) ≡ 7 → ⊥) → judge (context_after x (decode b)) (place + length b) (rs ++ (decode b ∷ [])) bs left ≡ closed p c → ClosedFront (join_over encode rs ++ (b ++ rest)))
        → ClosedFront (join_over encode rs ++ (b ++ rest))
    go rest z g (yes k) ih =
        let q = closing_role (decode b) k in
        front_closing rs b rest q.0 q.1 a f q.2 (rw q.2 at g) y.0 w.0
    go rest z g (no k) ih = ih k (ne_case _ _ _ _ k refl ∙ z.1)

accepts_none : Accepts start []
unfolding Accepts
accepts_none = tt

pub verdict_front : (l : List ℕ) (p : ℕ) (c : Content) → Bytes l → verdict l ≡ closed p c → ClosedFront l
unfolding verdict join_over context_after_all
verdict_front l p c y v =
    let j = cut_joined l in
    rw j at
    (front_of (cut l).whole (cut l).left start 0 [] p c accepts_none refl tt (cut_each l) (bytes_each (cut l).whole (cut l).left (rw j y)) v)

-- the number of a refusal is none that a call is taken with
left_number : (left : List ℕ) (place n p : ℕ) → judge_left place left ≡ refused n p → n ≡ 0 → ⊥
unfolding judge_left
left_number [] place n p j z = let y : ◌≡◌ {A = ℕ} 0 1 = cc in omega arith
left_number (k ∷ l) place n p j z =
    eq_elim j
    (λ e q. let y : ◌≡◌ {A = ℕ} 1 n = cc in omega arith)
    (λ e q. let y : ◌≡◌ {A = ℕ} 0 1 = cc in omega arith)

judge_number : (bs : List (List ℕ)) (left : List ℕ) (x : Context) (place : ℕ) (taken : List Record) (n p : ℕ) → judge x place taken bs left ≡ refused n p → n ≡ 0 → ⊥
unfolding judge
judge_number [] left x place taken n p j z = left_number left place n p j z
judge_number (b ∷ bs) left x place taken n p j z =
    eq_elim j
    (λ f q.
    eq_elim q
    (λ k e. refused_not n p (place + length b) (content_of taken) (sym e))
    (λ k e. judge_number bs left (context_after x (decode b)) (place + length b) (taken ++ (decode b ∷ [])) n p e z))
    (λ f q. f (let y : fault x (decode b) ≡ n = cc in y ∙ z))

pub refusal_number : (l : List ℕ) (n p : ℕ) → verdict l ≡ refused n p → n ≡ 0 → ⊥
unfolding verdict
refusal_number l n p e = judge_number (cut l).whole (cut l).left start 0 [] n p e

-- a study that is closed or refused stays so, whatever follows
ended_stays : (l more : List ℕ) → ((read_all fresh l).core.reading.phase ≡ 0 → ⊥) → read_all fresh (l ++ more) ≡ read_all fresh l
ended_stays l more h = read_append fresh l more ∙ read_stays (read_all fresh l) more h

-- a phase of 2 is that of a refusal
phase_refused : (s : State) (total n p : ℕ) (v : Verdict) → Agrees s total v → s.core.reading.phase ≡ 2 → s.core.reading.number ≡ n → s.core.reading.at ≡ p → v ≡ refused n p
unfolding Agrees
phase_refused s total n p unclosed a h i j = let k = a.0 in let z : ⊥ = omega arith in absurd z
phase_refused s total n p (refused m q) a h i j = ap₂ refused (sym a.1 ∙ i) (sym a.2 ∙ j)
phase_refused s total n p (closed q c) a h i j = let k = a.phase in let z : ⊥ = omega arith in absurd z

pub refusal_stays : RefusalStays
unfolding Agrees
refusal_stays l more n p y e =
    let f = fresh_agrees closes l (each_parts (λ (b : ℕ). b < 256) l more y).0 in
    let a : Agrees (read_all fresh l) (length l) (refused n p) = subst (Agrees (read_all fresh l) (length l)) e f in
    let h = a.0 in
    let q = ended_stays l more (λ z. omega arith) in
    phase_refused (read_all fresh (l ++ more)) (length (l ++ more)) n p (verdict (l ++ more)) (fresh_agrees closes (l ++ more) y) (rw q h) (rw q a.1) (rw q a.2)

pub closing_stays : ClosingStays
closing_stays l more p c y e =
    let f = verdict_front l p c (each_parts (λ (b : ℕ). b < 256) l more y).0 e in
    let b : List ℕ = bytes_of f.content in
    ap (λ (x : List ℕ). verdict (x ++ more)) f.same
    ∙ ap verdict (append_assoc b f.tail more)
    ∙ closed_content f.content f.valid (f.tail ++ more)
    ∙ sym (closed_content f.content f.valid f.tail)
    ∙ ap verdict (sym f.same)
    ∙ e

-- the bytes of calls
calls_bytes : (before : List ℕ) (cs : List Call) → Bytes before → Each Callable cs → Bytes (joined before cs)
unfolding joined
calls_bytes before [] y z = y
calls_bytes before (c ∷ cs) y z = calls_bytes (joined_after before c) cs (joined_bytes before c y z.0) z.1

-- a content's bytes are bytes
content_bytes : (c : Content) → Bytes (bytes_of c)
unfolding bytes_of
content_bytes c = each_join (λ (n : ℕ). n < 256) encode (records_of c) encode_bytes

-- the state after the bytes of a valid content, whatever follows
pub content_closed : (c : Content) → Valid c → (tail : List ℕ) → ClosedState (read_all fresh (bytes_of c ++ tail)) (length (bytes_of c)) (length (bytes_of c)) c
unfolding Agrees
content_closed c v tail =
    let e : verdict (bytes_of c) ≡ closed (length (bytes_of c)) c = rw (append-nil (bytes_of c)) at (closed_content c v []) in
    let a : ClosedState (read_all fresh (bytes_of c)) (length (bytes_of c)) (length (bytes_of c)) c =
    subst (Agrees (read_all fresh (bytes_of c)) (length (bytes_of c))) e (fresh_agrees closes (bytes_of c) (content_bytes c)) in
    let p = a.phase in
    let q = ended_stays (bytes_of c) tail (λ z. omega arith) in
    subst (λ (s : State). ClosedState s (length (bytes_of c)) (length (bytes_of c)) c) (sym q) a

-- a phase of 1 is that of a closed verdict
phase_closed : (s : State) (total : ℕ) (l : List ℕ) (v : Verdict) → verdict l ≡ v → Bytes l → Agrees s total v → s.core.reading.phase ≡ 1 → ClosedFront l
unfolding Agrees
phase_closed s total l unclosed e y a h = let p : s.core.reading.phase ≡ 0 = a.0 in let z : ⊥ = omega arith in absurd z
phase_closed s total l (refused n q) e y a h = let p : s.core.reading.phase ≡ 2 = a.0 in let z : ⊥ = omega arith in absurd z
phase_closed s total l (closed q c) e y a h = verdict_front l q c y e

-- from the fresh study on
from_fresh : (cs : List Call) → state_after_all fresh cs ≡ read_all fresh (joined [] cs)
from_fresh cs = cuts_make_no_difference cs

pub closed_exactly_then : ClosedExactlyThen
closed_exactly_then cs z =
    let l : List ℕ = joined [] cs in
    let y : Bytes l = calls_bytes [] cs tt z in (
      λ h. phase_closed (read_all fresh l) (length l) l (verdict l) refl y (fresh_agrees closes l y) (rw (from_fresh cs) at h),
      λ f. rw (from_fresh cs, f.same) (content_closed f.content f.valid f.tail).phase,
    )

-- ---- demand 3

demand_totals : (cs : List Call) (c : Content) → Valid c → (s : State) → s ≡ state_after_all fresh cs → ClosedState s (length (bytes_of c)) (length (bytes_of c)) c → TotalsHold cs c
unfolding answer_in totals_of sum_over
demand_totals cs c v s e a =
    let k = kinds_add_up c v in
    record {
      report = totals_of (length (bytes_of c)) c;
      answered = rw (← e) (ap gave_totals a.totals);
      taken = refl;
      leaks = refl;
      six = refl;
      kinds = omega arith;
    }

demand_target : (cs : List Call) (c : Content) → Valid c → (s : State) → s ≡ state_after_all fresh cs → ClosedState s (length (bytes_of c)) (length (bytes_of c)) c
    → (t : ℕ) → t < length c.targets → TargetHolds cs c t
unfolding answer_in target_report_of
demand_target cs c v s e a t h =
    record {
      report = target_report_of (length (bytes_of c)) c t;
      answered = rw (← e) (ap gave_target (a.target t ∙ sym (lt_case _ _ _ _ h refl)));
      taken = refl;
      margin = refl;
      near = sums_within_margin c v t;
    }

pub demand_3 : Demand3
demand_3 cs c v tail e =
    let s : State = read_all fresh (bytes_of c ++ tail) in
    let q : s ≡ state_after_all fresh cs = ap (read_all fresh) (sym e) ∙ sym (from_fresh cs) in
    let a = content_closed c v tail in
    record { totals = demand_totals cs c v s q a; targets = demand_target cs c v s q a }
