-- The lines are those of the verdict on the bytes that were read. Assumes nothing.
use mathlib.Core.Path.{◌≡◌, refl, sym, ◌∙◌, ap, ap₂}
use mathlib.Core.List.{List, [], ◌∷◌, ◌++◌, append-nil}
use Prim.Native.Nat.{ℕ, zero, suc, ◌<◌, ◌≤◌}
use native.Mathlib.Decide.{dec_lt, ℕ_discrete}
use native.Mathlib.Omega.{arith}
use lib.ListN.{length, length-append}
use Rattle.numeric.specs.Choice.{if_eq, if_lt}
use Rattle.numeric.proofs.ChoiceLaws.{ne_case, lt_case, ge_case}
use Rattle.state.specs.declared.Totals.{Totals}
use Rattle.state.specs.declared.TargetReport.{TargetReport}
use Rattle.model.specs.Content.{Content}
use Rattle.model.specs.Format.{bytes_of}
use Rattle.model.specs.Valid.{Valid}
use Rattle.model.specs.Verdict.{Verdict, unclosed, closed, refused, cut, cut_first, judge, judge_left, verdict}
use Rattle.model.specs.Calls.{Call, piece, totals, target, Answer, took_piece, gave_totals, gave_target, no_totals, no_target, totals_of, target_report_of, piece_number, piece_answer, totals_answer, target_answer, answer, joined, Bytes, Callable}
use Rattle.model.specs.Machine.{State, read_all, number_after, place_after, fresh, totals_in, target_in, state_after, answer_in}
use Rattle.model.specs.Runs.{none}
use Rattle.model.proofs.ListLaws.{each_parts}
use Rattle.model.proofs.ReadLaws.{read_append}
use Rattle.model.proofs.CallLaws.{cuts_make_no_difference}
use Rattle.model.proofs.Closing.{call_answered, closed_content, verdict_front, refusal_number}
use Rattle.study.specs.declared.Study.{Study}
use Rattle.study.specs.declared.pieces.Taken.{Taken}
use Rattle.study.specs.View.{view, unview}
use Rattle.study.specs.Runs.{Called, Ran}
use Rattle.study.proofs.RunLaws.{ran_state, piece_read}
use Rattle.lines.specs.Text.{refused_line, target_line}
use Rattle.printing.specs.Report.{target_lines, closed_lines}
use Rattle.printing.specs.Lines.{lines_of, report_lines}
use Rattle.printing.specs.Prints.{TakenAfter, nothing, last, refusal_line, Prints, EveryListRead}
use Rattle.printing.proofs.ListLaws.{lines_closed, lines_refused, report_seven, report_other}

-- targets with the same reports have the same lines
same_targets : (f g : ℕ → TargetReport) (n : ℕ) → ((t : ℕ) → t < n → f t ≡ g t) → target_lines f n ≡ target_lines g n
unfolding target_lines
same_targets f g zero h = refl
same_targets f g (suc n) h =
    ap₂ (λ (a : List (List ℕ)) (r : TargetReport). a ++ (target_line n r ∷ [])) (same_targets f g n (λ t k. h t (omega arith))) (h n (omega arith))

same_lines : (f g : ℕ → TargetReport) (t : Totals) → ((i : ℕ) → i < t.targets → f i ≡ g i) → closed_lines f t ≡ closed_lines g t
unfolding closed_lines
same_lines f g t h = rw (same_targets f g t.targets h) refl

-- the report of a closed study
closed_text : (t : Taken) (p : ℕ) (c : Content) → t.number ≡ 0 → gave_totals (totals_in t.study.core) ≡ gave_totals (totals_of p c)
    → ((i : ℕ) → gave_target (target_in (view t.study) i) ≡ gave_target (if_lt i (length c.targets) (target_report_of p c i) (no_target 9 p)))
    → report_lines t ≡ closed_lines (target_report_of p c) (totals_of p c)
unfolding totals_of
closed_text t p c z s g =
    let e : totals_in t.study.core ≡ totals_of p c = cc in
    report_other t (λ w. omega arith)
    ∙ ap (lines_of (target_in (view t.study))) e
    ∙ lines_closed (target_in (view t.study)) (totals_of p c) refl
    ∙ same_lines (target_in (view t.study)) (target_report_of p c) (totals_of p c)
    (λ i h. let q = g i ∙ ap gave_target (sym (lt_case _ _ _ _ h refl)) in let r : target_in (view t.study) i ≡ target_report_of p c i = cc in r)

-- a refusal
refused_text : (t : Taken) (n p : ℕ) → (t.number ≡ 7 → ⊥) → (n ≡ 0 → ⊥) → gave_totals (totals_in t.study.core) ≡ gave_totals (no_totals n p)
    → report_lines t ≡ refused_line n p ∷ []
refused_text t n p z h s =
    let e : totals_in t.study.core ≡ no_totals n p = cc in
    report_other t z ∙ ap (lines_of (target_in (view t.study))) e ∙ lines_refused (target_in (view t.study)) (no_totals n p) h

seven_text : (t : Taken) (p : ℕ) → t.number ≡ 7 → t.place ≡ p → report_lines t ≡ refused_line 7 p ∷ []
seven_text t p e q = report_seven t e ∙ ap (λ (x : ℕ). refused_line 7 x ∷ []) q

-- ---- the text by the verdict on the bytes so far

text_from : Verdict → ℕ → List (List ℕ)
text_from unclosed total = refused_line 8 total ∷ []
text_from (closed p c) total = if_lt p total (refused_line 7 p ∷ []) (closed_lines (target_report_of p c) (totals_of p c))
text_from (refused n p) total = refused_line n p ∷ []

-- where the answers to a piece with bytes and to the reports are those of the verdict
text_said : (t : Taken) (v : Verdict) (total n : ℕ) → ((k p : ℕ) → v ≡ refused k p → k ≡ 0 → ⊥) → 0 < n
    → took_piece t.number t.place ≡ piece_answer v total n
    → gave_totals (totals_in t.study.core) ≡ totals_answer v total
    → ((i : ℕ) → gave_target (target_in (view t.study) i) ≡ target_answer v total i)
    → report_lines t ≡ text_from v total
unfolding piece_answer piece_number totals_answer target_answer text_from
text_said t unclosed total n z h e s g =
    let a : t.number ≡ 0 = cc in
    refused_text t 8 total (λ w. omega arith) (λ w. omega arith) s
text_said t (refused k p) total n z h e s g = go (ℕ_discrete t.number 7)
  where
    go : Dec (t.number ≡ 7) → report_lines t ≡ refused_line k p ∷ []
    go (yes w) =
        let a : t.number ≡ k = cc in
        let b : t.place ≡ p = cc in
        seven_text t p w b ∙ ap (λ (x : ℕ). refused_line x p ∷ []) (sym w ∙ a)
    go (no w) = refused_text t k p w (z k p refl) s
text_said t (closed p c) total n z h e s g = go (dec_lt p total)
  where
    a : t.number ≡ if_eq n 0 0 (if_lt p total 7 0)
    a = cc

    b : t.place ≡ p
    b = cc

    go : Dec (p < total) → report_lines t ≡ if_lt p total (refused_line 7 p ∷ []) (closed_lines (target_report_of p c) (totals_of p c))
    go (yes w) = lt_case _ _ _ _ w (seven_text t p (a ∙ sym (ne_case _ _ _ _ (λ q. omega arith) (lt_case _ _ _ _ w refl))) b)
    go (no w) =
        ge_case _ _ _ _ (omega arith)
        (closed_text t p c (a ∙ sym (ne_case _ _ _ _ (λ q. omega arith) (ge_case _ _ _ _ (omega arith) refl))) s g)

-- the reports of a study that has read bytes
totals_read : (s : Study) (l : List ℕ) → view s ≡ read_all fresh l → Bytes l → gave_totals (totals_in s.core) ≡ totals_answer (verdict l) (length l)
unfolding answer_in answer Callable
totals_read s l e y = ap (λ (v : State). gave_totals (totals_in v.core)) e ∙ call_answered l totals y tt

target_read : (s : Study) (l : List ℕ) → view s ≡ read_all fresh l → Bytes l → (i : ℕ) → gave_target (target_in (view s) i) ≡ target_answer (verdict l) (length l) i
unfolding answer_in answer Callable
target_read s l e y i = ap (λ (v : State). gave_target (target_in v i)) e ∙ call_answered l (target i) y tt

read_nothing : (s : Study) → view s ≡ fresh → view s ≡ read_all fresh []
unfolding read_all
read_nothing s e = e

nothing_open : verdict [] ≡ unclosed
unfolding verdict cut cut_first judge judge_left
nothing_open = refl

nothing_text : (t : Taken) → view t.study ≡ fresh → t.number ≡ 0 → report_lines t ≡ text_from (verdict []) 0
unfolding totals_answer text_from
nothing_text t e z =
    let s = totals_read t.study [] (read_nothing t.study e) tt ∙ ap (λ (v : Verdict). totals_answer v 0) nothing_open in
    refused_text t 8 0 (λ w. omega arith) (λ w. omega arith) s ∙ ap (λ (v : Verdict). text_from v 0) (sym nothing_open)

last_text : (cs : List Call) (xs : List Answer) (s : Study) (t : Taken) (b : List ℕ) → Ran cs xs s → 0 < length b
    → Called s (piece b) (took_piece t.number t.place) t.study → Bytes (joined [] cs ++ b)
    → report_lines t ≡ text_from (verdict (joined [] cs ++ b)) (length (joined [] cs ++ b))
unfolding answer Callable
last_text cs xs s t b r h k y =
    let l : List ℕ = joined [] cs in
    let w = each_parts (λ (n : ℕ). n < 256) l b y in
    let e : view s ≡ read_all fresh l = ran_state r ∙ cuts_make_no_difference cs in
    let f : view t.study ≡ read_all fresh (l ++ b) = piece_read k ∙ ap (λ (v : State). read_all v b) e ∙ sym (read_append fresh l b) in
    text_said t (verdict (l ++ b)) (length (l ++ b)) (length b) (refusal_number (l ++ b)) h
    (k.answer ∙ ap (λ (v : State). answer_in v (piece b)) e ∙ call_answered l (piece b) w.0 w.1)
    (totals_read t.study (l ++ b) f y) (target_read t.study (l ++ b) f y)

taken_text : (l : List ℕ) (t : Taken) → TakenAfter l t → Bytes l → report_lines t ≡ text_from (verdict l) (length l)
taken_text l t (nothing e z) y = nothing_text t e z
taken_text l t (last b r h k) y = last_text _ _ _ t b r h k y

-- ---- the text of a valid content's bytes, and of all others

report_text_lem : (l : List ℕ) (c : Content) → Valid c → l ≡ bytes_of c → text_from (verdict l) (length l) ≡ closed_lines (target_report_of (length (bytes_of c)) c) (totals_of (length (bytes_of c)) c)
unfolding text_from
report_text_lem l c v e =
    let q : verdict l ≡ closed (length (bytes_of c)) c = ap verdict (e ∙ sym (append-nil (bytes_of c))) ∙ closed_content c v [] in
    ap₂ text_from q (ap length e) ∙ sym (ge_case _ _ _ _ (omega arith) refl)

none_left : (l : List ℕ) → length l ≡ 0 → l ≡ []
none_left [] e = refl
none_left (x ∷ l) e = absurd (omega arith)

-- a closed study with no byte after it is that of a valid content
closed_whole : (l : List ℕ) (p : ℕ) (c : Content) → Bytes l → verdict l ≡ closed p c → length l ≤ p → (d : Content) × Valid d × (l ≡ bytes_of d)
closed_whole l p c y e h =
    let f = verdict_front l p c y e in
    let d : Content = f.content in
    let q : closed p c ≡ closed (length (bytes_of d)) d = sym e ∙ ap verdict f.same ∙ closed_content d f.valid f.tail in
    let n : p ≡ length (bytes_of d) = cc in
    let m = ap length f.same ∙ length-append (bytes_of d) f.tail in
    let z : f.tail ≡ [] = none_left f.tail (omega arith) in
    (d, f.valid, f.same ∙ ap (λ (x : List ℕ). bytes_of d ++ x) z ∙ append-nil (bytes_of d))

refusal_text : (l : List ℕ) (v : Verdict) → Bytes l → verdict l ≡ v → ((c : Content) → Valid c → l ≡ bytes_of c → ⊥) → text_from v (length l) ≡ refusal_line v (length l) ∷ []
unfolding text_from refusal_line
refusal_text l unclosed y e other = refl
refusal_text l (refused n p) y e other = refl
refusal_text l (closed p c) y e other = go (dec_lt p (length l))
  where
    go : Dec (p < length l) → if_lt p (length l) (refused_line 7 p ∷ []) (closed_lines (target_report_of p c) (totals_of p c)) ≡ refused_line 7 p ∷ []
    go (yes w) = sym (lt_case _ _ _ _ w refl)
    go (no w) = let f = closed_whole l p c y e (omega arith) in absurd (other f.0 f.1 f.2)

pub prints : Prints
prints l t k y =
    let e = taken_text l t k y in
    record { report = λ c v q. e ∙ report_text_lem l c v q; refusal = λ other. e ∙ refusal_text l (verdict l) y refl other }

pub every_list_read : EveryListRead
unfolding state_after answer_in joined
every_list_read [] = record { taken = record { study = unview fresh; number = 0; place = 0 }; after = nothing refl refl }
every_list_read (b ∷ l) =
    let f : State = view (unview fresh) in
    let s : State = read_all f (b ∷ l) in
    record {
      taken = record { study = unview s; number = number_after f.core.reading.place (length (b ∷ l)) s.core.reading; place = place_after s.core.reading };
      after = last {cs = []} (b ∷ l) (record { first = unview fresh; started = refl; calls = none }) (omega arith) (record { answer = refl; state = refl });
    }
