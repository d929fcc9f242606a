-- To be believed. The lines of the report's text as bytes: 01, "The specimen study". Assumes nothing.
use Rattle.std.specs.Prelude.{List, [], ◌∷◌, ◌++◌, ℕ, zero, suc, ◌+◌, ◌/◌, ◌%◌, length, take}
use Rattle.numeric.specs.Choice.{pick, if_eq, if_le, if_lt}
use Rattle.terms.specs.Terms.{people}
use Rattle.state.specs.declared.Totals.{Totals}
use Rattle.state.specs.declared.TargetReport.{TargetReport}
use Rattle.lines.specs.declared.Line.{Line}

-- the ASCII code of the last digit of a number
abbrev pub last_digit : ℕ → ℕ
last_digit n = 48 + n % 10

-- the digits of a number, the most significant first and no 0 in front, as far as the fuel goes: one unit for each digit
unfoldable pub numeral : ℕ → ℕ → List ℕ
numeral zero n = []
numeral (suc fuel) n = if_lt n 10 (last_digit n ∷ []) (numeral fuel (n / 10) ++ (last_digit n ∷ []))

-- a number in decimal; it has at most n + 1 digits, so the fuel never ends first
unfoldable pub decimal : ℕ → List ℕ
decimal n = numeral (suc n) n

-- the words of the text
-- "study "
abbrev pub study_word : List ℕ
study_word = 115 ∷ 116 ∷ 117 ∷ 100 ∷ 121 ∷ 32 ∷ []

-- " records "
abbrev pub records_word : List ℕ
records_word = 32 ∷ 114 ∷ 101 ∷ 99 ∷ 111 ∷ 114 ∷ 100 ∷ 115 ∷ 32 ∷ []

-- " leaks "
abbrev pub leaks_word : List ℕ
leaks_word = 32 ∷ 108 ∷ 101 ∷ 97 ∷ 107 ∷ 115 ∷ 32 ∷ []

-- "kind "
abbrev pub kind_word : List ℕ
kind_word = 107 ∷ 105 ∷ 110 ∷ 100 ∷ 32 ∷ []

-- " "
abbrev pub space_word : List ℕ
space_word = 32 ∷ []

-- "target "
abbrev pub target_word : List ℕ
target_word = 116 ∷ 97 ∷ 114 ∷ 103 ∷ 101 ∷ 116 ∷ 32 ∷ []

-- " sum "
abbrev pub sum_word : List ℕ
sum_word = 32 ∷ 115 ∷ 117 ∷ 109 ∷ 32 ∷ []

-- " margin "
abbrev pub margin_word : List ℕ
margin_word = 32 ∷ 109 ∷ 97 ∷ 114 ∷ 103 ∷ 105 ∷ 110 ∷ 32 ∷ []

-- " grade "
abbrev pub grade_word : List ℕ
grade_word = 32 ∷ 103 ∷ 114 ∷ 97 ∷ 100 ∷ 101 ∷ 32 ∷ []

-- " domino"
abbrev pub domino_word : List ℕ
domino_word = 32 ∷ 100 ∷ 111 ∷ 109 ∷ 105 ∷ 110 ∷ 111 ∷ []

-- "unjudged "
abbrev pub unjudged_word : List ℕ
unjudged_word = 117 ∷ 110 ∷ 106 ∷ 117 ∷ 100 ∷ 103 ∷ 101 ∷ 100 ∷ 32 ∷ []

-- "refused "
abbrev pub refused_word : List ℕ
refused_word = 114 ∷ 101 ∷ 102 ∷ 117 ∷ 115 ∷ 101 ∷ 100 ∷ 32 ∷ []

-- " at "
abbrev pub at_word : List ℕ
at_word = 32 ∷ 97 ∷ 116 ∷ 32 ∷ []

-- "\n"
abbrev pub end_word : List ℕ
end_word = 10 ∷ []

-- "study S records R leaks F"
unfoldable pub study_line : Totals → List ℕ
study_line t =
    study_word ++ decimal t.study ++ records_word ++ decimal t.records ++ leaks_word ++ decimal t.leaks ++ end_word

-- "kind K V"
unfoldable pub kind_line : ℕ → ℕ → List ℕ
kind_line k v = kind_word ++ decimal k ++ space_word ++ decimal v ++ end_word

-- after the margin: " grade G" of a place of people, " domino" of equipment on the domino list, nothing of other equipment
unfoldable pub judged_words : TargetReport → List ℕ
judged_words r = if_eq r.class people (grade_word ++ decimal r.grade) (pick r.listed domino_word [])

-- "target T sum S margin M" and those words
unfoldable pub target_line : ℕ → TargetReport → List ℕ
target_line t r =
    target_word ++ decimal t ++ sum_word ++ decimal r.sum ++ margin_word ++ decimal r.margin ++ judged_words r ++ end_word

-- "unjudged U"
unfoldable pub unjudged_line : ℕ → List ℕ
unjudged_line u = unjudged_word ++ decimal u ++ end_word

-- "refused N at P"
unfoldable pub refused_line : ℕ → ℕ → List ℕ
refused_line n p = refused_word ++ decimal n ++ at_word ++ decimal p ++ end_word

-- the text of a line: the first len bytes of its array
unfoldable pub text_of : Line → List ℕ
text_of l = take l.len l.text

-- a text with a word behind it; the text as it was where the two take more than 256 bytes
unfoldable pub appended : List ℕ → List ℕ → List ℕ
appended a w = if_le (length a + length w) 256 (a ++ w) a
