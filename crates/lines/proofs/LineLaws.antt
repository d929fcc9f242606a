-- A word behind a line's text. Assumes nothing.
use Rattle.std.proofs.Common.{◌≡◌, refl, sym, ap, ◌∙◌, Bool, true, false, eqb, List, [], ◌++◌, append_assoc, append-nil, ℕ, ◌+◌, ◌-◌, ◌^◌, ◌≤◌, ◌<◌, min, length, take, drop, arith, lit≤, length-append, length-take, take_all}
use Rattle.std.proofs.Math.Nat.{min-eq_left, min-eq_right}
use Rattle.std.proofs.Math.Decide.{dec_le}
use Rattle.std.proofs.lemmas.Slice.{take-put_mid}
use borrow.Rule.Slice.PartMut.{put_mid}
use Rattle.numeric.specs.Choice.{pick, if_eq, if_le}
use Rattle.numeric.proofs.ChoiceLaws.{eq_case, ne_case, le_case, gt_case, eq_both}
use Rattle.state.specs.declared.TargetReport.{TargetReport}
use Rattle.lines.specs.Text.{appended, decimal, grade_word, domino_word, judged_words}
use Rattle.lines.proofs.NumeralLaws.{decimal_length}

-- with room
pub append_fits : (a w : List ℕ) → length a + length w ≤ 256 → appended a w ≡ a ++ w
unfolding appended
append_fits a w h = sym (le_case _ _ _ _ h refl)

-- without
pub append_full : (a w : List ℕ) → 256 < length a + length w → appended a w ≡ a
unfolding appended
append_full a w h = sym (gt_case _ _ _ _ h refl)

-- the first bytes of an array of 256
take_least : (text : List ℕ) (len : ℕ) → length text ≡ 256 → take (min len 256) text ≡ take len text
take_least text len e = go (dec_le len 256)
  where
    go : Dec (len ≤ 256) → take (min len 256) text ≡ take len text
    go (yes h) = rw (min-eq_left h)
    go (no h) =
        let k : 256 ≤ len = omega arith in
        rw (min-eq_right k) (take_all 256 text (omega arith) ∙ sym (take_all len text (omega arith)))

take_count : (text : List ℕ) (len : ℕ) → length text ≡ 256 → length (take len text) ≡ min len 256
take_count text len e = length-take len text ∙ ap (min len) e

module _ (text : List ℕ) (len at : ℕ) (w : List ℕ) (e : length text ≡ 256) (a : at ≡ min len 256) where
  -- the word copied behind the text
  pub word_fits : (copy : List ℕ) → copy ≡ w → length w ≤ 256 - at → take (at + length w) (put_mid at (at + length w - at) text copy) ≡ appended (take len text) w
  word_fits copy s h =
      let k : length (take len text) ≡ at = take_count text len e ∙ sym a in
      let b : at ≤ 256 = omega arith in
      take-put_mid at (at + length w - at) text copy (at + length w) (omega (arith, ap length s)) (omega arith)
      ∙ ap (λ (x : List ℕ). take at text ++ x) s
      ∙ ap (λ (x : List ℕ). x ++ w) (ap (λ (n : ℕ). take n text) a ∙ take_least text len e)
      ∙ sym (append_fits (take len text) w (omega arith))

  -- and without room the text as it was
  pub word_left : 256 - at < length w → take len text ≡ appended (take len text) w
  word_left h =
      let k : length (take len text) ≡ at = take_count text len e ∙ sym a in
      sym (append_full (take len text) w (omega arith))

-- a word and a number of a u64 behind a text that leaves them room
abbrev pub figure : List ℕ → List ℕ → ℕ → List ℕ
figure a w n = appended (appended a w) (decimal n)

pub figure_fits : (a w : List ℕ) (n : ℕ) → length a + length w ≤ 236 → n < 2 ^ 64 → figure a w n ≡ a ++ w ++ decimal n
figure_fits a w n s f = grind (arith, length-append, append_fits, decimal_length)

-- where each side of a choice stands behind a text, the choice does
behind : (t : List ℕ) (b : Bool) (u v x y : List ℕ) → u ≡ t ++ x → v ≡ t ++ y → pick b u v ≡ t ++ pick b x y
behind t true u v x y p q = p
behind t false u v x y p q = q

behind_eq : (t : List ℕ) (m n : ℕ) (u v x y : List ℕ) → u ≡ t ++ x → v ≡ t ++ y → if_eq m n u v ≡ t ++ if_eq m n x y
unfolding if_eq
behind_eq t m n u v x y p q = behind t (eqb m n) u v x y p q

short_pick : (b : Bool) (x y : List ℕ) → length x ≤ 30 → length y ≤ 30 → length (pick b x y) ≤ 30
short_pick true x y p q = p
short_pick false x y p q = q

-- what stands after the margin, behind a text
abbrev pub judged : List ℕ → TargetReport → List ℕ
judged t r = if_eq r.class 0 (figure t grade_word r.grade) (pick r.listed (appended t domino_word) t)

-- by the class, and by the list
pub of_people : (m : ℕ) (b : Bool) (x y z : List ℕ) → m ≡ 0 → x ≡ if_eq m 0 x (pick b y z)
of_people m b x y z h = eq_case _ _ _ _ h refl

pub of_equipment : (m : ℕ) (b : Bool) (x y z : List ℕ) → (m ≡ 0 → ⊥) → pick b y z ≡ if_eq m 0 x (pick b y z)
of_equipment m b x y z h = ne_case _ _ _ _ h refl

-- on a text that leaves it room
module _ (r : TargetReport) (f : r.grade < 2 ^ 64) where
  pub judged_is : (t : List ℕ) → length t ≤ 226 → judged t r ≡ t ++ judged_words r
  unfolding judged_words
  judged_is t s =
      behind_eq t r.class 0 _ _ _ _
      (figure_fits t grade_word r.grade (omega arith) f ∙ append_assoc t grade_word (decimal r.grade))
      (behind t r.listed _ _ _ _ (append_fits t domino_word (omega arith)) (sym (append-nil t)))

  pub judged_short : length (judged_words r) ≤ 30
  unfolding judged_words
  judged_short =
      eq_both (λ (x : List ℕ). length x ≤ 30) r.class 0 _ _
      (let d = decimal_length r.grade f in omega arith)
      (short_pick r.listed domino_word [] (omega arith) (omega arith))

-- the steps of a line: each word and number has room behind the text so far
pub ruleset line_steps = (append_assoc, length-append, append_fits, figure_fits, decimal_length, judged_is, judged_short)

-- a line's text at the front of a list
module _ (text : List ℕ) (len n : ℕ) (out : List ℕ) (e : length text ≡ 256) (a : n ≡ min len 256) where
  text_count : length (take len text) ≡ n
  text_count = take_count text len e ∙ sym a

  abbrev after : List ℕ
  after = take len text ++ drop (length (take len text)) out

  pub put_count : n ≤ length out → n ≡ if_le (length (take len text)) (length out) (length (take len text)) 0
  put_count h = le_case _ _ _ _ (let k = text_count in omega arith) (sym text_count)

  pub put_list : (copy : List ℕ) → copy ≡ take n text → n ≤ length out → copy ++ drop n out ≡ if_le (length (take len text)) (length out) after out
  put_list copy s h =
      le_case _ _ _ _ (let k = text_count in omega arith)
      (ap (λ (x : List ℕ). x ++ drop n out) (s ∙ ap (λ (k : ℕ). take k text) a ∙ take_least text len e)
      ∙ ap (λ (k : ℕ). take len text ++ drop k out) (sym text_count))

  -- a list that is too short
  pub short_count : length out < n → 0 ≡ if_le (length (take len text)) (length out) (length (take len text)) 0
  short_count h = gt_case _ _ _ _ (let k = text_count in omega arith) refl

  pub short_list : length out < n → out ≡ if_le (length (take len text)) (length out) after out
  short_list h = gt_case _ _ _ _ (let k = text_count in omega arith) refl

-- what the code of `word` asks, and that of `put`
pub ruleset word_steps = (word_fits, word_left)

pub ruleset put_steps = (put_count, put_list, short_count, short_list)
