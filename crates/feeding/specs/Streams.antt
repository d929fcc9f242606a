-- Proved. What is read from a stream whose bytes are known, and the report as bytes. Assumes nothing.
use Rattle.std.specs.Prelude.{List, ℕ, ◌-◌, ◌^◌, ◌≤◌, length, Option, Result, IfOk, IfSome, MatchOption}
use Rattle.std.specs.List.{concat}
use Rattle.study.specs.declared.pieces.Taken.{Taken}
use Rattle.printing.specs.Lines.{report_lines}
use Rattle.printing.specs.Prints.{TakenAfter}

-- the study has read all the bytes that the stream had, and the answer is that to the last piece: of such a study Prints says the report; there is none where
-- the stream has 2^64 - 1 bytes or more
abbrev pub ReadWhole : {E : Type 0} → Option (List ℕ) → Result (Option Taken) E → Type 0
ReadWhole known r = IfOk r (λ taken. IfSome known (λ l. MatchOption taken (2 ^ 64 - 1 ≤ length l) (λ t. TakenAfter l t)))

-- the report's lines, one after the other
abbrev pub report_bytes : Taken → List ℕ
report_bytes t = concat (report_lines t)
