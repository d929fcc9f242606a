-- To be believed. What each call answers, from the bytes joined before it and the call alone: 01, "Numbers the desk says no with". Assumes nothing.
use Rattle.std.specs.Prelude.{false, List, [], ◌∷◌, ◌++◌, ℕ, ◌<◌, length, drop}
use Rattle.numeric.specs.Choice.{if_eq, if_le, if_lt}
use Rattle.terms.specs.Terms.{no_effect, pool_fire, jet_fire, fireball, flash_fire, explosion, people}
use Rattle.state.specs.declared.Totals.{Totals}
use Rattle.state.specs.declared.TargetReport.{TargetReport}
use Rattle.state.specs.declared.DominoReport.{DominoReport}
use Rattle.model.specs.Content.{facts, Content}
use Rattle.model.specs.Format.{leaks_of, count_of}
use Rattle.model.specs.Report.{target_at, kind_total, unjudged_of, sum_at, margin_at, grade_of, listed_at, domino_of}
use Rattle.model.specs.Valid.{Each}
use Rattle.model.specs.Verdict.{Verdict, unclosed, closed, refused, verdict}

-- a call on a study: a piece; a report of the totals, of one target, or of the domino list into a lent list
pub data Call : Type 0 where
  piece : List ℕ → Call
  totals : Call
  target : ℕ → Call
  domino : List ℕ → Call

-- an answer: number and place of a piece; a report; the domino list's, with the lent list afterwards
pub data Answer : Type 0 where
  took_piece : ℕ → ℕ → Answer
  gave_totals : Totals → Answer
  gave_target : TargetReport → Answer
  gave_domino : DominoReport → List ℕ → Answer

-- "A report that is refused gives its number and place and nothing else."
abbrev pub no_totals : ℕ → ℕ → Totals
no_totals n p = record { number = n; place = p; study = 0; records = 0; leaks = 0; kinds = 0 ∷ 0 ∷ 0 ∷ 0 ∷ 0 ∷ 0 ∷ []; unjudged = 0; targets = 0 }

abbrev pub no_target : ℕ → ℕ → TargetReport
no_target n p = record { number = n; place = p; sum = 0; margin = 0; class = 0; grade = 0; listed = false }

abbrev pub no_domino : ℕ → ℕ → DominoReport
no_domino n p = record { number = n; place = p; count = 0 }

-- the reports of a closed study of length p
unfoldable pub totals_of : ℕ → Content → Totals
totals_of p c =
    record {
      number = 0;
      place = p;
      study = c.number;
      records = count_of c;
      leaks = leaks_of c;
      kinds = kind_total c no_effect ∷ kind_total c pool_fire ∷ kind_total c jet_fire ∷ kind_total c fireball ∷ kind_total c flash_fire ∷ kind_total c explosion ∷ [];
      unjudged = unjudged_of c;
      targets = length c.targets;
    }

-- "A place of people has grade ..": its grade; equipment: whether it is listed
unfoldable pub target_report_of : ℕ → Content → ℕ → TargetReport
target_report_of p c t =
    record {
      number = 0;
      place = p;
      sum = sum_at c t;
      margin = margin_at c t;
      class = (facts (target_at c t)).class;
      grade = if_eq (facts (target_at c t)).class people (grade_of (sum_at c t)) 0;
      listed = listed_at c t;
    }

-- a list whose front is written over
unfoldable pub front : List ℕ → List ℕ → List ℕ
front a l = a ++ drop (length a) l

-- "Refusal 7 gives the length of the closed study": bytes after the closing record; an empty piece is taken
unfoldable pub piece_number : ℕ → ℕ → ℕ → ℕ
piece_number total closedLength n = if_eq n 0 0 (if_lt closedLength total 7 0)

unfoldable pub piece_answer : Verdict → ℕ → ℕ → Answer
piece_answer unclosed total n = took_piece 0 total
piece_answer (closed p c) total n = took_piece (piece_number total p n) p
piece_answer (refused k p) total n = took_piece k p

unfoldable pub totals_answer : Verdict → ℕ → Answer
totals_answer unclosed total = gave_totals (no_totals 8 total)
totals_answer (closed p c) total = gave_totals (totals_of p c)
totals_answer (refused k p) total = gave_totals (no_totals k p)

unfoldable pub target_answer : Verdict → ℕ → ℕ → Answer
target_answer unclosed total t = gave_target (no_target 8 total)
target_answer (closed p c) total t = gave_target (if_lt t (length c.targets) (target_report_of p c t) (no_target 9 p))
target_answer (refused k p) total t = gave_target (no_target k p)

-- "The domino list fills the lent 16-bit numbers from the front in rising order; the rest of them stays. A refused call writes none."
unfoldable pub domino_answer : Verdict → ℕ → List ℕ → Answer
domino_answer unclosed total l = gave_domino (no_domino 8 total) l
domino_answer (closed p c) total l =
    if_le (length (domino_of c)) (length l)
    (gave_domino (record { number = 0; place = p; count = length (domino_of c) }) (front (domino_of c) l))
    (gave_domino (no_domino 10 p) l)
domino_answer (refused k p) total l = gave_domino (no_domino k p) l

-- "A report gives the kept refusal if there is one, then 8, 9, 10 in that order. With 0, 8, 9 and 10 the place is the bytes read so far."
unfoldable pub answer : List ℕ → Call → Answer
answer before (piece b) = piece_answer (verdict (before ++ b)) (length (before ++ b)) (length b)
answer before totals = totals_answer (verdict before) (length before)
answer before (target t) = target_answer (verdict before) (length before) t
answer before (domino l) = domino_answer (verdict before) (length before) l

-- the bytes of the pieces joined, refused ones too
unfoldable pub joined_after : List ℕ → Call → List ℕ
joined_after before (piece b) = before ++ b
joined_after before totals = before
joined_after before (target t) = before
joined_after before (domino l) = before

unfoldable pub joined : List ℕ → List Call → List ℕ
joined before [] = before
joined before (c ∷ cs) = joined (joined_after before c) cs

unfoldable pub answers : List ℕ → List Call → List Answer
answers before [] = []
answers before (c ∷ cs) = answer before c ∷ answers (joined_after before c) cs

-- a list of calls that a caller can make: pieces are of bytes
abbrev pub Bytes : List ℕ → Type 0
Bytes l = Each (λ b. b < 256) l

unfoldable pub Callable : Call → Type 0
Callable (piece b) = Bytes b
Callable totals = Unit {0}
Callable (target t) = Unit {0}
Callable (domino l) = Unit {0}
