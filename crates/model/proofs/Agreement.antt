-- The machine says of bytes what the verdict says. Assumes nothing.
use mathlib.Core.Path.{◌≡◌, refl, sym, ◌∙◌, ap, subst}
use mathlib.Core.List.{List, [], ◌∷◌, ◌++◌, append_assoc}
use Prim.Native.Nat.{ℕ, ◌+◌, ◌<◌, ◌≤◌}
use native.Mathlib.Decide.{ℕ_discrete}
use native.Mathlib.Omega.{arith}
use lib.ListN.{length, length-append}
use Rattle.numeric.specs.Choice.{if_eq, if_lt}
use Rattle.numeric.proofs.ChoiceLaws.{eq_case, ne_case}
use Rattle.state.specs.declared.Reading.{Reading}
use Rattle.model.specs.Content.{Content}
use Rattle.model.specs.Sums.{join_over}
use Rattle.model.specs.Format.{Record, opening_rec, target_rec, leak_rec, branching_rec, outcome_rec, effect_rec, closing_rec}
use Rattle.model.specs.Valid.{Each, Valid}
use Rattle.model.specs.Report.{domino_of}
use Rattle.model.specs.Faults.{Context, start, role, fault, context_after, context_after_all}
use Rattle.model.specs.Verdict.{body_length, decode, cut, content_of, Verdict, unclosed, closed, refused, judge_left, judge, verdict}
use Rattle.model.specs.Calls.{Bytes, totals_of, target_report_of, no_target}
use Rattle.model.specs.Machine.{State, with_reading, refused_with, reading, begun, taken, fault_in, effect_state, accepted, record_read, cleared, step, read_all, fresh, totals_in, target_in, marked_in}
use Rattle.model.proofs.ListLaws.{each_append, each_parts}
use Rattle.model.proofs.ContextLaws.{after_append}
use Rattle.model.proofs.Accepts.{Accepts, Fits, WholeBytes}
use Rattle.model.proofs.CodecLaws.{decode_fits, pending_decode, body_most}
use Rattle.model.proofs.CutLaws.{Left, nothing, unknown, short, cut_joined, cut_each, cut_left}
use Rattle.model.proofs.ReadLaws.{Ready, partial, after_record, read_stays, read_whole, read_short}
use Rattle.model.proofs.Follows.{pile, aboves, Placed, Follows, same_fault, follows_record}
use Rattle.model.proofs.RunData.{Data, data_of, after, run, data_accepted, run_append}

-- a study that is closed at a place, and what its reports say
pub record ClosedState (s : State) (total p : ℕ) (c : Content) : Type 0 where
  pub phase : s.core.reading.phase ≡ 1
  pub place : s.core.reading.place ≡ p
  pub within : p ≤ total
  pub valid : Valid c
  pub totals : totals_in s.core ≡ totals_of p c
  pub target : (t : ℕ) → target_in s t ≡ if_lt t (length c.targets) (target_report_of p c t) (no_target 9 p)
  pub domino : marked_in s ≡ domino_of c

-- the state after so many bytes agrees with a verdict on them
unfoldable pub Agrees : State → ℕ → Verdict → Type 0
Agrees s total unclosed = (s.core.reading.phase ≡ 0) × (s.core.reading.place ≡ total)
Agrees s total (refused n p) = (s.core.reading.phase ≡ 2) × (s.core.reading.number ≡ n) × (s.core.reading.at ≡ p)
Agrees s total (closed p c) = ClosedState s total p c

-- the study between two records, all of them taken
pub record Here (s : State) (x : Context) (rs : List Record) : Type 0 where
  pub follows : Follows s x
  pub accepts : Accepts start rs
  pub context : context_after_all start rs ≡ x
  pub fits : Each Fits rs
  pub figures : data_of s ≡ run (data_of fresh) rs

-- what a list of records without fault and a closing record close
abbrev pub Closes : Type 0
Closes = (s : State) (x : Context) (rs : List Record) (n t total : ℕ) (l : List ℕ) → Here s x rs → fault x (closing_rec n t) ≡ 0 → length l ≤ 13
    → s.core.reading.place + length l ≤ total
    → ClosedState (after_record s l (closing_rec n t)) total (s.core.reading.place + length l) (content_of rs)

pub ready : (s : State) (x : Context) → Follows s x → Ready s
ready s x f =
    let p = f.place in
    let r = f.records in
    record { reads = f.reads; none = f.none; wide = f.wide; room = omega arith }

-- one record more
pub accepts_more : (x : Context) (rs : List Record) (r : Record) → Accepts x rs → fault (context_after_all x rs) r ≡ 0 → (role r ≡ 7 → ⊥) → Accepts x (rs ++ (r ∷ []))
unfolding Accepts context_after_all
accepts_more x [] r a e n = (e, n, tt)
accepts_more x (q ∷ rs) r a e n = (a.0, a.1, accepts_more (context_after x q) rs r a.2 e n)

pub context_more : (x : Context) (rs : List Record) (r : Record) → context_after_all x (rs ++ (r ∷ [])) ≡ context_after (context_after_all x rs) r
unfolding context_after_all
context_more x rs r = after_append x rs (r ∷ [])

pub fits_more : (rs : List Record) (r : Record) → Each Fits rs → Fits r → Each Fits (rs ++ (r ∷ []))
fits_more rs r f g = each_append Fits rs (r ∷ []) f (g, tt)

run_one : (d : Data) (r : Record) → run d (r ∷ []) ≡ after d r
unfolding run
run_one d r = refl

part_data : (s : State) (l : List ℕ) → data_of (partial s l) ≡ data_of s
unfolding partial
part_data s l = refl

cleared_data : (s : State) → data_of (cleared s) ≡ data_of s
unfolding cleared
cleared_data s = refl

-- what a record does to the data, read from its bytes
pub data_read : (s : State) (l : List ℕ) (r : Record) → data_of (after_record s l r) ≡ after (data_of s) r
data_read s l r =
    cleared_data (accepted (partial s l) r) ∙ data_accepted (partial s l) r ∙ ap (λ (d : Data). after d r) (part_data s l)

pub here_more : (s : State) (x : Context) (rs : List Record) (l : List ℕ) (r : Record) → Here s x rs → length l ≤ 13 → fault x r ≡ 0 → (role r ≡ 7 → ⊥) → Fits r
    → Here (after_record s l r) (context_after x r) (rs ++ (r ∷ []))
here_more s x rs l r h w e n f =
    record {
      follows = follows_record s x l r h.follows w e n;
      accepts = accepts_more start rs r h.accepts (rw h.context e) n;
      context = context_more start rs r ∙ ap (λ (y : Context). context_after y r) h.context;
      fits = fits_more rs r h.fits f;
      figures =
          data_read s l r
          ∙ ap (λ (d : Data). after d r) h.figures
          ∙ sym (run_append (data_of fresh) rs (r ∷ []) ∙ run_one (run (data_of fresh) rs) r);
    }

-- the fault does not depend on the pending bytes
part_fault : (s : State) (l : List ℕ) (r : Record) → fault_in (partial s l).core (partial s l).stack r ≡ fault_in s.core s.stack r
unfolding partial fault_in
part_fault s l r = refl

-- only a closing record has its role
pub closing_role : (r : Record) → role r ≡ 7 → (n : ℕ) × (t : ℕ) × (r ≡ closing_rec n t)
closing_role (opening_rec n) e = let z : ⊥ = omega arith in absurd z
closing_role (target_rec n t) e = let z : ⊥ = omega arith in absurd z
closing_role (leak_rec n f) e = let z : ⊥ = omega arith in absurd z
closing_role (branching_rec b) e = let z : ⊥ = omega arith in absurd z
closing_role (outcome_rec k n) e = let z : ⊥ = omega arith in absurd z
closing_role (effect_rec f) e = let z : ⊥ = omega arith in absurd z
closing_role (closing_rec n t) e = (n, t, refl)

part_decode : (s : State) (l : List ℕ) → WholeBytes l → decode (partial s l).pending ≡ decode l
unfolding partial
part_decode s l w = pending_decode l s.pending w

pub whole_few : (b : List ℕ) → WholeBytes b → length b ≤ 13
whole_few b w = let m = body_most w.kind in let f = w.whole.full in let e = ap length w.same in omega arith

-- a whole record is read at once
pub read_record : (s : State) (x : Context) (b rest : List ℕ) → Follows s x → WholeBytes b
    → read_all s (b ++ rest) ≡ read_all (cleared (record_read (partial s b) (decode b))) rest
read_record s x b rest f w =
    rw w.same
    (read_whole s w.kind w.body rest (ready s x f) w.whole.known w.whole.full (body_most w.kind)
    ∙ ap (λ (r : Record). read_all (cleared (record_read (partial s (w.kind ∷ w.body)) r)) rest) (part_decode s (w.kind ∷ w.body) again))
  where
    again : WholeBytes (w.kind ∷ w.body)
    again = record { kind = w.kind; body = w.body; same = refl; whole = w.whole }

-- it is taken where the context finds no fault, and refused at its first byte where it finds one
pub record_taken : (s : State) (x : Context) (b : List ℕ) (r : Record) → Follows s x → fault x r ≡ 0 → record_read (partial s b) r ≡ accepted (partial s b) r
unfolding record_read
record_taken s x b r f e = sym (eq_case _ _ _ _ (part_fault s b r ∙ same_fault s x r f ∙ e) refl)

pub record_refused : (s : State) (x : Context) (b : List ℕ) (r : Record) → Follows s x → (fault x r ≡ 0 → ⊥)
    → record_read (partial s b) r ≡ with_reading (partial s b) (refused_with (partial s b).core.reading (fault x r))
unfolding record_read
record_refused s x b r f e =
    let q = part_fault s b r ∙ same_fault s x r f in
    sym (ne_case _ _ _ _ (λ z. e (sym q ∙ z)) (rw q refl))

-- an unknown kind byte is refused where it stands
unknown_kind : (s : State) (k : ℕ) → s.core.reading.phase ≡ 0 → s.core.reading.have ≡ 0 → body_length k ≡ 0
    → (step s k).core.reading ≡ reading 2 0 s.core.reading.place s.core.reading.start 1 s.core.reading.place
unfolding step begun
unknown_kind s k p h u =
    ap (λ (v : State). v.core.reading) (sym (eq_case _ _ _ _ p (eq_case _ _ _ _ h refl)))
    ∙ sym (eq_case (body_length k) 0 _ _ u refl)

partial_open : (s : State) (l : List ℕ) → ((partial s l).core.reading.phase ≡ 0) × ((partial s l).core.reading.place ≡ s.core.reading.place + length l)
unfolding partial
partial_open s l = (refl, refl)

-- what is left after the whole records
read_left : (s : State) (x : Context) (l : List ℕ) (total : ℕ) → Follows s x → Left l → s.core.reading.place + length l ≡ total
    → Agrees (read_all s l) total (judge_left s.core.reading.place l)
unfolding Agrees judge_left read_all
read_left s x l total f nothing e = (f.reads, omega arith)
read_left s x l total f (unknown k b u) e =
    let q : refused 1 s.core.reading.place ≡ if_eq (body_length k) 0 (refused 1 s.core.reading.place) unclosed = eq_case _ _ _ _ u refl in
    let r = unknown_kind s k f.reads f.none u in
    let p : (step s k).core.reading.phase ≡ 2 = ap (λ (h : Reading). h.phase) r in
    let t : read_all (step s k) b ≡ step s k = read_stays (step s k) b (λ z. omega arith) in
    subst (Agrees (read_all (step s k) b) total) q
    (subst (λ (v : State). Agrees v total (refused 1 s.core.reading.place)) (sym t)
    (p, ap (λ (h : Reading). h.number) r, ap (λ (h : Reading). h.at) r))
read_left s x l total f (short k b n h) e =
    let q : unclosed ≡ if_eq (body_length k) 0 (refused 1 s.core.reading.place) unclosed = ne_case _ _ _ _ n refl in
    let o = partial_open s (k ∷ b) in
    subst (Agrees (read_all s (k ∷ b)) total) q
    (subst (λ (v : State). Agrees v total unclosed) (sym (read_short s k b (ready s x f) h (body_most k))) (o.0, o.1 ∙ e))

-- a refused study
refused_state : (s : State) (l rest : List ℕ) (n total : ℕ)
    → Agrees (read_all (cleared (with_reading (partial s l) (refused_with (partial s l).core.reading n))) rest) total (refused n s.core.reading.place)
unfolding Agrees cleared with_reading refused_with partial
refused_state s l rest n total =
    subst (λ (v : State). Agrees v total (refused n s.core.reading.place))
    (sym (read_stays (cleared (with_reading (partial s l) (refused_with (partial s l).core.reading n))) rest (λ z. omega arith))) (refl, refl, refl)

accepted_place : (s : State) (l : List ℕ) (r : Record) → (after_record s l r).core.reading.place ≡ s.core.reading.place + length l
unfolding cleared accepted effect_state partial taken
accepted_place s l (opening_rec n) = refl
accepted_place s l (target_rec n t) = refl
accepted_place s l (leak_rec n f) = refl
accepted_place s l (branching_rec b) = refl
accepted_place s l (outcome_rec k n) = refl
accepted_place s l (effect_rec e) = refl
accepted_place s l (closing_rec n t) = refl

-- one whole record and then more, given what holds after a record that is taken
module _ (closes : Closes) (b rest : List ℕ) (s : State) (x : Context) (rs : List Record) (total : ℕ) (h : Here s x rs) (w : WholeBytes b) (y : Bytes b)
    (e : s.core.reading.place + (length b + length rest) ≡ total) (v : Verdict)
    (ih : fault x (decode b) ≡ 0 → (role (decode b) ≡ 7 → ⊥) → Agrees (read_all (after_record s b (decode b)) rest) total v) where
  taken_on : fault x (decode b) ≡ 0 → read_all s (b ++ rest) ≡ read_all (after_record s b (decode b)) rest
  taken_on f = read_record s x b rest h.follows w ∙ ap (λ (u : State). read_all (cleared u) rest) (record_taken s x b (decode b) h.follows f)

  closing_on : fault x (decode b) ≡ 0 → role (decode b) ≡ 7 → Agrees (read_all s (b ++ rest)) total (closed (s.core.reading.place + length b) (content_of rs))
  unfolding Agrees
  closing_on f k =
      let c = closing_role (decode b) k in
      let g : fault x (closing_rec c.0 c.1) ≡ 0 = rw c.2 at f in
      let z = closes s x rs c.0 c.1 total b h g (whole_few b w) (omega arith) in
      let p = z.phase in
      let q : read_all s (b ++ rest) ≡ after_record s b (closing_rec c.0 c.1) =
      taken_on f ∙ ap (λ (r : Record). read_all (after_record s b r) rest) c.2
      ∙ read_stays (after_record s b (closing_rec c.0 c.1)) rest (λ n. omega arith) in
      subst (λ (u : State). ClosedState u total (s.core.reading.place + length b) (content_of rs)) (sym q) z

  one_record_lem : Dec (fault x (decode b) ≡ 0) → Dec (role (decode b) ≡ 7)
      → Agrees (read_all s (b ++ rest)) total
      (if_eq (fault x (decode b)) 0
      (if_eq (role (decode b)) 7 (closed (s.core.reading.place + length b) (content_of rs)) v)
      (refused (fault x (decode b)) s.core.reading.place))
  one_record_lem (no n) d =
      subst (Agrees (read_all s (b ++ rest)) total) (ne_case _ _ _ _ n refl)
      (subst (λ (u : State). Agrees u total (refused (fault x (decode b)) s.core.reading.place))
      (sym (read_record s x b rest h.follows w ∙ ap (λ (u : State). read_all (cleared u) rest) (record_refused s x b (decode b) h.follows n)))
      (refused_state s b rest (fault x (decode b)) total))
  one_record_lem (yes f) (yes k) =
      subst (Agrees (read_all s (b ++ rest)) total) (eq_case _ _ _ _ f (eq_case _ _ _ _ k refl)) (closing_on f k)
  one_record_lem (yes f) (no k) =
      subst (Agrees (read_all s (b ++ rest)) total) (eq_case _ _ _ _ f (ne_case _ _ _ _ k refl))
      (subst (λ (u : State). Agrees u total v) (sym (taken_on f)) (ih f k))

-- the fresh study, before the first record
pub follows_fresh : Follows fresh start
unfolding fresh pile aboves Placed
follows_fresh =
    record {
      reads = refl;
      none = refl;
      place = omega arith;
      wide = refl;
      counts = refl;
      left = refl;
      kind = refl;
      next = refl;
      nine = refl;
      trees = refl;
      placed = tt;
      small = tt;
      records = omega arith;
      targets = omega arith;
      scenarios = omega arith;
      leaks = omega arith;
    }

pub here_fresh : Here fresh start []
unfolding context_after_all Accepts run
here_fresh = record { follows = follows_fresh; accepts = tt; context = refl; fits = tt; figures = refl }

-- each part of bytes is bytes
pub bytes_each : (bs : List (List ℕ)) (left : List ℕ) → Bytes (join_over (λ b. b) bs ++ left) → Each Bytes bs
unfolding join_over
bytes_each [] left y = tt
bytes_each (b ∷ bs) left y =
    let z : Bytes (b ++ (join_over (λ b. b) bs ++ left)) = rw append_assoc at y in
    let w = each_parts (λ (n : ℕ). n < 256) b (join_over (λ b. b) bs ++ left) z in
    (w.0, bytes_each bs left w.1)

fresh_length : (l : List ℕ) → fresh.core.reading.place + length l ≡ length l
unfolding fresh
fresh_length l = omega arith

module _ (closes : Closes) where
  -- the records one after the other, and what is left
  agrees : (bs : List (List ℕ)) (left : List ℕ) (s : State) (x : Context) (rs : List Record) (total : ℕ) → Here s x rs
      → Each WholeBytes bs → Each Bytes bs → Left left → s.core.reading.place + length (join_over (λ b. b) bs ++ left) ≡ total
      → Agrees (read_all s (join_over (λ b. b) bs ++ left)) total (judge x s.core.reading.place rs bs left)
  unfolding judge join_over
  agrees [] left s x rs total h w y v e = read_left s x left total h.follows v e
  agrees (b ∷ bs) left s x rs total h w y v e =
      let rest : List ℕ = join_over (λ b. b) bs ++ left in
      let a : b ++ join_over (λ b. b) bs ++ left ≡ b ++ rest = append_assoc b (join_over (λ b. b) bs) left in
      let n : length (b ++ join_over (λ b. b) bs ++ left) ≡ length b + length rest = ap length a ∙ length-append b rest in
      let p = accepted_place s b (decode b) in
      rw a
      (one_record_lem closes b rest s x rs total h w.0 y.0 (omega arith) (judge (context_after x (decode b)) (s.core.reading.place + length b) (rs ++ (decode b ∷ [])) bs left)
      (λ f k.
      subst (λ (q : ℕ). Agrees (read_all (after_record s b (decode b)) rest) total (judge (context_after x (decode b)) q (rs ++ (decode b ∷ [])) bs left)) p
      (agrees bs left (after_record s b (decode b)) (context_after x (decode b)) (rs ++ (decode b ∷ [])) total
      (here_more s x rs b (decode b) h (whole_few b w.0) f k (decode_fits b y.0 w.0)) w.1 y.1 v (omega arith)))
      (ℕ_discrete (fault x (decode b)) 0) (ℕ_discrete (role (decode b)) 7))

  -- all bytes from the fresh study on
  pub fresh_agrees : (l : List ℕ) → Bytes l → Agrees (read_all fresh l) (length l) (verdict l)
  unfolding verdict fresh
  fresh_agrees l y =
      let j = cut_joined l in
      let a =
      agrees (cut l).whole (cut l).left fresh start [] (length l) here_fresh (cut_each l)
      (bytes_each (cut l).whole (cut l).left (rw j y)) (cut_left l) (fresh_length (join_over (λ b. b) (cut l).whole ++ (cut l).left) ∙ ap length j) in
      subst (λ (m : List ℕ). Agrees (read_all fresh m) (length l) (judge start 0 [] (cut l).whole (cut l).left)) j a
