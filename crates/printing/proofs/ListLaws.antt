-- The line at a place of the text, and how many lines there are. Assumes nothing.
use mathlib.Core.Path.{◌≡◌, refl, sym, ap, ◌∙◌}
use mathlib.Core.List.{List, [], ◌∷◌, ◌++◌}
use Prim.Native.Nat.{ℕ, zero, suc, ◌+◌, ◌-◌, ◌≤◌, ◌<◌}
use native.Mathlib.Omega.{arith}
use native.Mathlib.Decide.{dec_lt, ℕ_discrete}
use lib.ListN.{length, get_or, length-append, get_or-append, get_or-eq_default}
use lib.Seq.{get_or-append-add, get_or_at}
use Rattle.state.specs.declared.Totals.{Totals}
use Rattle.state.specs.declared.TargetReport.{TargetReport}
use Rattle.model.specs.Machine.{totals_in, target_in}
use Rattle.lines.specs.Text.{study_line, kind_line, target_line, unjudged_line, refused_line}
use Rattle.study.specs.View.{view}
use Rattle.study.specs.declared.pieces.Taken.{Taken}
use Rattle.numeric.specs.Choice.{if_eq}
use Rattle.numeric.proofs.ChoiceLaws.{eq_case, ne_case}
use Rattle.printing.specs.Report.{kind_lines, target_lines, closed_lines}
use Rattle.printing.specs.Lines.{lines_of, report_lines}

-- one line
pub only_first : (x : List ℕ) (i : ℕ) → i ≡ 0 → get_or (x ∷ []) i [] ≡ x
only_first x i e = rw e

pub only_other : (x : List ℕ) (i : ℕ) → (i ≡ 0 → ⊥) → get_or (x ∷ []) i [] ≡ []
only_other x i h = get_or-eq_default (x ∷ []) [] {n = i} (omega arith)

-- six kinds
six_at : (f : ℕ → List ℕ) (i : ℕ) → i < 6 → get_or (f 0 ∷ f 1 ∷ f 2 ∷ f 3 ∷ f 4 ∷ f 5 ∷ []) i [] ≡ f i
six_at f zero h = refl
six_at f (suc zero) h = refl
six_at f (suc (suc zero)) h = refl
six_at f (suc (suc (suc zero))) h = refl
six_at f (suc (suc (suc (suc zero)))) h = refl
six_at f (suc (suc (suc (suc (suc zero))))) h = refl
six_at f (suc (suc (suc (suc (suc (suc i)))))) h = absurd (omega arith)

pub kind_at : (v : List ℕ) (k : ℕ) → k < 6 → get_or (kind_lines v) k [] ≡ kind_line k (get_or v k 0)
unfolding kind_lines
kind_at v k h = six_at (λ i. kind_line i (get_or v i 0)) k h

kinds_six : (v : List ℕ) → length (kind_lines v) ≡ 6
unfolding kind_lines
kinds_six v = refl

pub kind_past : (v : List ℕ) (k : ℕ) → 6 ≤ k → get_or (kind_lines v) k [] ≡ []
kind_past v k h = get_or-eq_default (kind_lines v) [] (rw (kinds_six v) h)

-- targets
targets_none : (f : ℕ → TargetReport) → target_lines f 0 ≡ []
unfolding target_lines
targets_none f = refl

targets_more : (f : ℕ → TargetReport) (n : ℕ) → target_lines f (suc n) ≡ target_lines f n ++ (target_line n (f n) ∷ [])
unfolding target_lines
targets_more f n = refl

targets_length : (f : ℕ → TargetReport) (n : ℕ) → length (target_lines f n) ≡ n
targets_length f zero = rw (targets_none f)
targets_length f (suc n) = rw (targets_more f n, length-append) (omega (arith, targets_length f n))

target_at_lem : (f : ℕ → TargetReport) (n t : ℕ) → t < n → get_or (target_lines f n) t [] ≡ target_line t (f t)
target_at_lem f zero t h = absurd (omega arith)
target_at_lem f (suc n) t h = go (dec_lt t n) (λ k. target_at_lem f n t k)
  where
    go : Dec (t < n) → (t < n → get_or (target_lines f n) t [] ≡ target_line t (f t)) → get_or (target_lines f (suc n)) t [] ≡ target_line t (f t)
    go (yes k) ih =
        rw (targets_more f n) (get_or-append (target_lines f n) (target_line n (f n) ∷ []) [] t (omega (arith, targets_length f n)) ∙ ih k)
    go (no k) ih =
        let e : t ≡ n = omega arith in
        rw (targets_more f n, e) (get_or_at (target_lines f n) (target_line n (f n)) [] [] n (targets_length f n))

-- the report of a closed study
module _ (f : ℕ → TargetReport) (t : Totals) where
  abbrev rest : List (List ℕ)
  rest = target_lines f t.targets ++ (unjudged_line t.unjudged ∷ [])

  pub closed_first : (i : ℕ) → i ≡ 0 → get_or (closed_lines f t) i [] ≡ study_line t
  unfolding closed_lines
  closed_first i e = rw e

  closed_next : (i : ℕ) → get_or (closed_lines f t) (suc i) [] ≡ get_or (kind_lines t.kinds ++ rest) i []
  unfolding closed_lines
  closed_next i = refl

  pub closed_kind : (i : ℕ) → 0 < i → i < 7 → get_or (closed_lines f t) i [] ≡ get_or (kind_lines t.kinds) (i - 1) []
  closed_kind i l h =
      let e : i ≡ suc (i - 1) = omega arith in
      ap (λ (j : ℕ). get_or (closed_lines f t) j []) e
      ∙ closed_next (i - 1)
      ∙ get_or-append (kind_lines t.kinds) rest [] (i - 1) (omega (arith, kinds_six t.kinds))

  closed_rest : (n : ℕ) → get_or (closed_lines f t) (7 + n) [] ≡ get_or rest n []
  closed_rest n =
      let e : 7 + n ≡ suc (length (kind_lines t.kinds) + n) = omega (arith, kinds_six t.kinds) in
      ap (λ (j : ℕ). get_or (closed_lines f t) j []) e
      ∙ closed_next (length (kind_lines t.kinds) + n)
      ∙ get_or-append-add (kind_lines t.kinds) rest n []

  pub closed_target : (n : ℕ) → n < t.targets → get_or (closed_lines f t) (7 + n) [] ≡ target_line n (f n)
  closed_target n l =
      closed_rest n
      ∙ get_or-append (target_lines f t.targets) (unjudged_line t.unjudged ∷ []) [] n (omega (arith, targets_length f t.targets))
      ∙ target_at_lem f t.targets n l

  pub closed_last : (n : ℕ) → n ≡ t.targets → get_or (closed_lines f t) (7 + n) [] ≡ unjudged_line t.unjudged
  closed_last n e =
      closed_rest n ∙ get_or_at (target_lines f t.targets) (unjudged_line t.unjudged) [] [] n (targets_length f t.targets ∙ sym e)

  rest_length : length rest ≡ t.targets + 1
  rest_length = length-append (target_lines f t.targets) (unjudged_line t.unjudged ∷ []) ∙ ap (λ (n : ℕ). n + 1) (targets_length f t.targets)

  pub closed_past : (n : ℕ) → t.targets < n → get_or (closed_lines f t) (7 + n) [] ≡ []
  closed_past n l = closed_rest n ∙ get_or-eq_default rest [] {n = n} (omega (arith, rest_length))

  -- the lines after the kinds, counted from the seventh
  pub closed_after : (i : ℕ) → 7 ≤ i → get_or (closed_lines f t) (7 + (i - 7)) [] ≡ get_or (closed_lines f t) i []
  closed_after i h = let e : 7 + (i - 7) ≡ i = omega arith in ap (λ (j : ℕ). get_or (closed_lines f t) j []) e

  pub closed_length : length (closed_lines f t) ≡ 8 + t.targets
  unfolding closed_lines
  closed_length =
      let k = kinds_six t.kinds in
      let r = rest_length in
      ap suc (length-append (kind_lines t.kinds) rest) ∙ omega arith

  -- closed or refused
  pub lines_closed : t.number ≡ 0 → lines_of f t ≡ closed_lines f t
  unfolding lines_of
  lines_closed e = sym (eq_case _ _ _ _ e refl)

  pub lines_refused : (t.number ≡ 0 → ⊥) → lines_of f t ≡ refused_line t.number t.place ∷ []
  unfolding lines_of
  lines_refused h = sym (ne_case _ _ _ _ h refl)

  pub lines_length : length (lines_of f t) ≡ if_eq t.number 0 (8 + t.targets) 1
  lines_length = go (ℕ_discrete t.number 0)
    where
      go : Dec (t.number ≡ 0) → length (lines_of f t) ≡ if_eq t.number 0 (8 + t.targets) 1
      go (yes e) = eq_case _ _ _ _ e (ap length (lines_closed e) ∙ closed_length)
      go (no h) = ne_case _ _ _ _ h (ap length (lines_refused h))

-- and bytes after the closing record
module _ (t : Taken) where
  pub report_seven : t.number ≡ 7 → report_lines t ≡ refused_line 7 t.place ∷ []
  unfolding report_lines
  report_seven e = sym (eq_case _ _ _ _ e refl)

  pub report_other : (t.number ≡ 7 → ⊥) → report_lines t ≡ lines_of (target_in (view t.study)) (totals_in t.study.core)
  unfolding report_lines
  report_other h = sym (ne_case _ _ _ _ h refl)

-- what the code of any line of a closed report asks
pub ruleset closed_steps = (closed_first, closed_kind, closed_after)
