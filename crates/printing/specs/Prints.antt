-- Proved. The text that is printed, by the bytes that were read. Assumes nothing.
use Rattle.std.specs.Prelude.{◌≡◌, List, [], ◌∷◌, ◌++◌, ℕ, ◌<◌, length}
use Rattle.model.specs.Content.{Content}
use Rattle.model.specs.Format.{bytes_of}
use Rattle.model.specs.Valid.{Valid}
use Rattle.model.specs.Verdict.{Verdict, unclosed, closed, refused, verdict}
use Rattle.model.specs.Calls.{Call, piece, Answer, took_piece, totals_of, target_report_of, joined, Bytes}
use Rattle.model.specs.Machine.{fresh}
use Rattle.study.specs.declared.Study.{Study}
use Rattle.study.specs.declared.pieces.Taken.{Taken}
use Rattle.study.specs.View.{view}
use Rattle.study.specs.Runs.{Called, Ran}
use Rattle.lines.specs.Text.{refused_line}
use Rattle.printing.specs.Report.{closed_lines}
use Rattle.printing.specs.Lines.{report_lines}

-- All bytes so far, and what the last piece with bytes in it left: after any calls from a fresh study on, or before the first piece.
pub data TakenAfter : List ℕ → Taken → Type 0 where
  nothing : {t : Taken} → view t.study ≡ fresh → t.number ≡ 0 → TakenAfter [] t
  last : {cs : List Call} {xs : List Answer} {s : Study} {t : Taken} (b : List ℕ) → Ran cs xs s → 0 < length b
      → Called s (piece b) (took_piece t.number t.place) t.study → TakenAfter (joined [] cs ++ b) t

-- the report of a content: the study, the six kinds, each target with its sum, its margin, and its grade or its mark on the domino list, and the unjudged effects
abbrev pub report_text : Content → List (List ℕ)
report_text c = closed_lines (target_report_of (length (bytes_of c)) c) (totals_of (length (bytes_of c)) c)

-- "A refusal prints only `refused N at P`; for 8, P is the bytes read." Where bytes follow the closing record: 7, and the length of the closed study.
unfoldable pub refusal_line : Verdict → ℕ → List ℕ
refusal_line unclosed total = refused_line 8 total
refusal_line (closed p c) total = refused_line 7 p
refusal_line (refused n p) total = refused_line n p

-- the text of bytes that are those of a valid content, and of all other bytes
pub record Printed (l : List ℕ) (text : List (List ℕ)) : Type 0 where
  pub report : (c : Content) → Valid c → l ≡ bytes_of c → text ≡ report_text c
  pub refusal : ((c : Content) → Valid c → l ≡ bytes_of c → ⊥) → text ≡ refusal_line (verdict l) (length l) ∷ []

-- EveryListRead: there is no list of bytes that Prints says nothing of: each was read by some calls.
pub record Readable (l : List ℕ) : Type 0 where
  pub taken : Taken
  pub after : TakenAfter l taken

abbrev pub EveryListRead : Type 0
EveryListRead = (l : List ℕ) → Readable l

-- Prints: whatever bytes were read, wherever they were cut, this is the text whose lines `report_length` counts and `report_line` gives.
abbrev pub Prints : Type 0
Prints = (l : List ℕ) (t : Taken) → TakenAfter l t → Bytes l → Printed l (report_lines t)
