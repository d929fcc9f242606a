-- Proved. 01, "The specimen study": the text that its bytes have. Assumes nothing.
use Rattle.std.specs.Prelude.{◌≡◌, List, [], ◌∷◌, ℕ}
use Prim.Native.Char.{code}
use Prim.Native.String as S
use Rattle.model.specs.Instances.{specimen_bytes}
use Rattle.study.specs.declared.pieces.Taken.{Taken}
use Rattle.printing.specs.Lines.{report_lines}
use Rattle.printing.specs.Prints.{TakenAfter}

-- a text as the codes of its characters
unfoldable pub codes : S.String → List ℕ
codes S.[] = []
codes (S.◌∷◌ c s) = code c ∷ codes s

-- as 01 prints it
unfoldable pub specimen_text : List (List ℕ)
specimen_text =
    codes "study 7 records 13 leaks 100000000\n" ∷
    codes "kind 0 67500000\n" ∷
    codes "kind 1 0\n" ∷
    codes "kind 2 10000000\n" ∷
    codes "kind 3 0\n" ∷
    codes "kind 4 0\n" ∷
    codes "kind 5 22500000\n" ∷
    codes "target 0 sum 600000 margin 5 grade 1\n" ∷
    codes "target 1 sum 16200000 margin 3 domino\n" ∷
    codes "unjudged 0\n" ∷
    []

-- 01's 98 bytes, wherever they are cut, have 01's text
abbrev pub SpecimenPrints : Type 0
SpecimenPrints = (t : Taken) → TakenAfter specimen_bytes t → report_lines t ≡ specimen_text
