-- Every call is answered from the bytes joined before it. Assumes nothing.
use mathlib.Core.Path.{◌≡◌, refl, sym, ◌∙◌, ap, ap₂, subst}
use mathlib.Core.List.{List, [], ◌∷◌, ◌++◌}
use Prim.Native.Nat.{ℕ, ◌+◌, ◌-◌, ◌<◌, ◌≤◌}
use native.Mathlib.Nat.{sub_self, sub-eq-zero_of_le}
use native.Mathlib.Decide.{ℕ_discrete, dec_le, dec_lt}
use native.Mathlib.Omega.{arith}
use lib.ListN.{length, length-append}
use Rattle.numeric.specs.Choice.{if_eq, if_le, if_lt}
use Rattle.numeric.proofs.ChoiceLaws.{eq_case, ne_case, le_case, gt_case, lt_case, ge_case}
use Rattle.state.specs.declared.Reading.{Reading}
use Rattle.model.specs.Valid.{Each}
use Rattle.model.specs.Report.{domino_of}
use Rattle.model.specs.Verdict.{Verdict, unclosed, closed, refused, verdict}
use Rattle.model.specs.Calls.{Call, piece, totals, target, domino, Answer, took_piece, gave_totals, gave_target, gave_domino, no_totals, no_target, no_domino, front, piece_number, piece_answer, totals_answer, target_answer, domino_answer, answer, joined_after, joined, answers, Bytes, Callable}
use Rattle.model.specs.Machine.{State, read_all, fresh, number_after, place_after, totals_in, target_in, marked_in, domino_in, list_after, state_after, answer_in, state_after_all, answers_in}
use Rattle.model.specs.MachineTheorems.{Answers, CutsMakeNoDifference}
use Rattle.model.proofs.ListLaws.{each_append}
use Rattle.model.proofs.ReadLaws.{read_append, read_stays}
use Rattle.model.proofs.Agreement.{Agrees, Closes, fresh_agrees}

-- ---- cuts

call_joined : (before : List ℕ) (c : Call) → state_after (read_all fresh before) c ≡ read_all fresh (joined_after before c)
unfolding state_after joined_after
call_joined before (piece b) = sym (read_append fresh before b)
call_joined before totals = refl
call_joined before (target t) = refl
call_joined before (domino l) = refl

pub calls_joined : (before : List ℕ) (cs : List Call) → state_after_all (read_all fresh before) cs ≡ read_all fresh (joined before cs)
unfolding state_after_all joined
calls_joined before [] = refl
calls_joined before (c ∷ cs) = ap (λ (s : State). state_after_all s cs) (call_joined before c) ∙ calls_joined (joined_after before c) cs

pub cuts_make_no_difference : CutsMakeNoDifference
unfolding read_all
cuts_make_no_difference cs = calls_joined [] cs

-- ---- a report of a state that agrees with a verdict

report_totals : (s : State) (total : ℕ) (v : Verdict) → Agrees s total v → gave_totals (totals_in s.core) ≡ totals_answer v total
unfolding Agrees totals_answer totals_in
report_totals s total unclosed a =
    let p = a.0 in
    ap gave_totals (sym (ne_case _ _ _ _ (omega arith) (ne_case _ _ _ _ (omega arith) (ap (no_totals 8) (sym a.1)))))
report_totals s total (refused n p) a =
    let h = a.0 in
    ap gave_totals (sym (eq_case _ _ _ _ h (ap₂ no_totals (sym a.1) (sym a.2))))
report_totals s total (closed p c) a = ap gave_totals a.totals

report_target : (s : State) (total t : ℕ) (v : Verdict) → Agrees s total v → gave_target (target_in s t) ≡ target_answer v total t
unfolding Agrees target_answer target_in
report_target s total t unclosed a =
    let p = a.0 in
    ap gave_target (sym (ne_case _ _ _ _ (omega arith) (ne_case _ _ _ _ (omega arith) (ap (no_target 8) (sym a.1)))))
report_target s total t (refused n p) a =
    let h = a.0 in
    ap gave_target (sym (eq_case _ _ _ _ h (ap₂ no_target (sym a.1) (sym a.2))))
report_target s total t (closed p c) a = ap gave_target (a.target t)

report_domino : (s : State) (total : ℕ) (l : List ℕ) (v : Verdict) → Agrees s total v → gave_domino (domino_in s (length l)) (list_after s l) ≡ domino_answer v total l
unfolding Agrees domino_answer domino_in list_after
report_domino s total l unclosed a =
    let p = a.0 in
    ap₂ gave_domino
    (sym (ne_case _ _ _ _ (omega arith) (ne_case _ _ _ _ (omega arith) (ap (no_domino 8) (sym a.1)))))
    (sym (ne_case _ _ _ _ (omega arith) refl))
report_domino s total l (refused n p) a =
    let h = a.0 in
    ap₂ gave_domino (sym (eq_case _ _ _ _ h (ap₂ no_domino (sym a.1) (sym a.2)))) (sym (ne_case _ _ _ _ (omega arith) refl))
report_domino s total l (closed p c) a = room (dec_le (length (domino_of c)) (length l))
  where
    q : s.core.reading.phase ≡ 2 → ⊥
    q z = let h = a.phase in omega arith

    m : length (marked_in s) ≡ length (domino_of c)
    m = ap length a.domino

    room : Dec (length (domino_of c) ≤ length l)
        → gave_domino (domino_in s (length l)) (list_after s l)
        ≡ if_le (length (domino_of c)) (length l) (gave_domino (record { number = 0; place = p; count = length (domino_of c) }) (front (domino_of c) l)) (gave_domino (no_domino 10 p) l)
    room (yes h) =
        le_case _ _ _ _ h
        (ap₂ gave_domino
        (sym (ne_case _ _ _ _ q (eq_case _ _ _ _ a.phase (le_case _ _ _ _ (omega (arith, m)) (ap₂ (λ (x y : ℕ). record { number = 0; place = x; count = y }) (sym a.place) (sym m))))))
        (sym (eq_case _ _ _ _ a.phase (le_case _ _ _ _ (omega (arith, m)) (ap (λ (x : List ℕ). front x l) (sym a.domino))))))
    room (no h) =
        gt_case _ _ _ _ (omega arith)
        (ap₂ gave_domino
        (sym (ne_case _ _ _ _ q (eq_case _ _ _ _ a.phase (gt_case _ _ _ _ (omega (arith, m)) (ap (no_domino 10) (sym a.place))))))
        (sym (eq_case _ _ _ _ a.phase (gt_case _ _ _ _ (omega (arith, m)) refl))))

pub bytes_join : (a b : List ℕ) → Bytes a → Bytes b → Bytes (a ++ b)
bytes_join a b y z = each_append (λ (n : ℕ). n < 256) a b y z

pub joined_bytes : (before : List ℕ) (c : Call) → Bytes before → Callable c → Bytes (joined_after before c)
unfolding joined_after Callable
joined_bytes before (piece b) y z = bytes_join before b y z
joined_bytes before totals y z = y
joined_bytes before (target t) y z = y
joined_bytes before (domino l) y z = y

-- ---- a piece

piece_number_lem : (before n total p : ℕ) → total ≡ before + n → if_lt (p - before) n 7 0 ≡ piece_number total p n
unfolding piece_number
piece_number_lem before n total p e = more (ℕ_discrete n 0) (dec_lt p total)
  where
    more : Dec (n ≡ 0) → Dec (p < total) → ◌≡◌ {A = ℕ} (if_lt (p - before) n 7 0) (if_eq n 0 0 (if_lt p total 7 0))
    more (yes z) d = eq_case _ _ _ _ z (sym (ge_case _ _ _ _ (omega arith) refl))
    more (no z) (yes d) = ne_case _ _ _ _ z (lt_case _ _ _ _ d (sym (lt_case _ _ _ _ (omega arith) refl)))
    more (no z) (no d) = ne_case _ _ _ _ z (ge_case _ _ _ _ (omega arith) (sym (ge_case _ _ _ _ (omega arith) refl)))

-- after the end every byte is one too many
piece_late : (before n total p : ℕ) → total ≡ before + n → p ≤ before → if_lt (p - p) n 7 0 ≡ piece_number total p n
piece_late before n total p e h = rw (sub_self p) (rw (sub-eq-zero_of_le h) at (piece_number_lem before n total p e))

-- the answer to a piece, from the states before and after it
piece_answer_lem : (s t : State) (b : List ℕ) (before total : ℕ) (v w : Verdict) → total ≡ before + length b → t ≡ read_all s b → Agrees s before v → Agrees t total w
    → took_piece (number_after s.core.reading.place (length b) t.core.reading) (place_after t.core.reading) ≡ piece_answer w total (length b)
unfolding Agrees piece_answer number_after place_after
piece_answer_lem s t b before total v unclosed e r a g =
    let p = g.0 in
    ap₂ took_piece (sym (ne_case _ _ _ _ (omega arith) (ne_case _ _ _ _ (omega arith) refl))) (sym (ne_case _ _ _ _ (omega arith) (sym g.1)))
piece_answer_lem s t b before total v (refused n p) e r a g =
    ap₂ took_piece (sym (eq_case _ _ _ _ g.0 (sym g.1))) (sym (eq_case _ _ _ _ g.0 (sym g.2)))
piece_answer_lem s t b before total v (closed p c) e r a g =
    let h = g.phase in
    ap₂ took_piece
    (sym (ne_case _ _ _ _ (omega arith) (eq_case _ _ _ _ h (sym (seven v a)))))
    (sym (ne_case _ _ _ _ (omega arith) (sym g.place)))
  where
    stayed : (s.core.reading.phase ≡ 0 → ⊥) → t.core.reading ≡ s.core.reading
    stayed n = ap (λ (u : State). u.core.reading) (r ∙ read_stays s b n)

    seven : (v : Verdict) → Agrees s before v → if_lt (t.core.reading.place - s.core.reading.place) (length b) 7 0 ≡ piece_number total p (length b)
    seven unclosed a = rw (g.place, a.1) (piece_number_lem before (length b) total p e)
    seven (refused n q) a =
        let h : s.core.reading.phase ≡ 2 = a.0 in
        let k = ap (λ (u : Reading). u.phase) (stayed (λ z. omega arith)) in
        let m = g.phase in
        let z : ⊥ = omega arith in
        absurd z
    seven (closed q d) a =
        let h : s.core.reading.phase ≡ 1 = a.phase in
        let k : t.core.reading.place ≡ s.core.reading.place = ap (λ (u : Reading). u.place) (stayed (λ z. omega arith)) in
        let j = g.place in
        let y = a.place in
        let i = a.within in
        let x : s.core.reading.place ≡ p = sym k ∙ j in
        rw (j, x) (piece_late before (length b) total p e (omega arith))

module _ (closes : Closes) where
  pub call_answer : (before : List ℕ) (c : Call) → Bytes before → Callable c → answer_in (read_all fresh before) c ≡ answer before c
  unfolding answer_in answer Callable
  call_answer before (piece b) y z =
      let j = read_append fresh before b in
      let n = length-append before b in
      let u = bytes_join before b y z in
      piece_answer_lem (read_all fresh before) (read_all (read_all fresh before) b) b (length before) (length (before ++ b)) (verdict before) (verdict (before ++ b)) n refl
      (fresh_agrees closes before y) (subst (λ (s : State). Agrees s (length (before ++ b)) (verdict (before ++ b))) j (fresh_agrees closes (before ++ b) u))
  call_answer before totals y z = report_totals (read_all fresh before) (length before) (verdict before) (fresh_agrees closes before y)
  call_answer before (target t) y z = report_target (read_all fresh before) (length before) t (verdict before) (fresh_agrees closes before y)
  call_answer before (domino l) y z = report_domino (read_all fresh before) (length before) l (verdict before) (fresh_agrees closes before y)

  calls_answered : (before : List ℕ) (cs : List Call) → Bytes before → Each Callable cs → answers_in (read_all fresh before) cs ≡ answers before cs
  unfolding answers_in answers
  calls_answered before [] y z = refl
  calls_answered before (c ∷ cs) y z =
      ap₂ (λ (a : Answer) (l : List Answer). a ∷ l) (call_answer before c y z.0)
      (ap (λ (s : State). answers_in s cs) (call_joined before c) ∙ calls_answered (joined_after before c) cs (joined_bytes before c y z.0) z.1)

  pub all_answers : Answers
  unfolding read_all
  all_answers cs z = calls_answered [] cs tt z
