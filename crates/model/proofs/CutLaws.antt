-- Bytes cut into whole records: the whole ones and what is left. Assumes nothing.
use mathlib.Core.Path.{◌≡◌, refl, sym, ◌∙◌, ap, ap₂, subst}
use mathlib.Core.List.{List, [], ◌∷◌, ◌++◌, append_assoc, map}
use Prim.Native.Nat.{ℕ, zero, suc, ◌<◌, ◌≤◌}
use native.Mathlib.Nat.{le_refl}
use native.Mathlib.Decide.{ℕ_discrete, dec_le}
use native.Mathlib.Omega.{arith}
use lib.ListN.{length, take, drop, length-append, length-drop, take-append-drop}
use lib.Seq.{take_at, drop_at, length-take-le}
use Rattle.numeric.specs.Choice.{if_eq, if_le}
use Rattle.numeric.proofs.ChoiceLaws.{eq_case, ne_case, le_case, gt_case}
use Rattle.model.specs.Sums.{join_over}
use Rattle.model.specs.Format.{Record, encode}
use Rattle.model.specs.Valid.{Each}
use Rattle.model.specs.Verdict.{body_length, Cut, cut_short, one_more, cut_first, cut}
use Rattle.model.proofs.Accepts.{Whole, WholeBytes}
use Rattle.model.proofs.CodecLaws.{encode_whole}

-- a bound of at least the length on the number of records does not matter
pub cut_fuel : (n m : ℕ) (l : List ℕ) → length l ≤ n → length l ≤ m → cut_first n l ≡ cut_first m l
unfolding cut_first
cut_fuel zero zero l h g = refl
cut_fuel zero (suc m) [] h g = refl
cut_fuel zero (suc m) (k ∷ l) h g = absurd (omega arith)
cut_fuel (suc n) zero [] h g = refl
cut_fuel (suc n) zero (k ∷ l) h g = absurd (omega arith)
cut_fuel (suc n) (suc m) [] h g = refl
cut_fuel (suc n) (suc m) (k ∷ l) h g =
    let d = length-drop (body_length k) l in
    ap
    (λ (c : Cut). if_eq (body_length k) 0 (cut_short (k ∷ l)) (if_le (body_length k) (length l) (one_more (k ∷ take (body_length k) l) c) (cut_short (k ∷ l))))
    (cut_fuel n m (drop (body_length k) l) (omega arith) (omega arith))

pub cut_whole : (k : ℕ) (b l : List ℕ) → Whole k b → cut ((k ∷ b) ++ l) ≡ one_more (k ∷ b) (cut l)
unfolding cut cut_first
cut_whole k b l w =
    let e = w.full in
    let s = length-append b l in
    sym (ne_case (body_length k) 0 _ _ w.known (le_case (body_length k) (length (b ++ l)) _ _ (omega arith) refl))
    ∙ ap₂ (λ (x y : List ℕ). one_more (k ∷ x) (cut_first (length (b ++ l)) y)) (take_at b l (body_length k) e) (drop_at b l (body_length k) e)
    ∙ ap (one_more (k ∷ b)) (cut_fuel (length (b ++ l)) (length l) l (omega arith) (le_refl (length l)))

pub cut_encode : (r : Record) (l : List ℕ) → cut (encode r ++ l) ≡ one_more (encode r) (cut l)
cut_encode r l =
    let w = encode_whole r in
    subst (λ (x : List ℕ). cut (x ++ l) ≡ one_more x (cut l)) (sym w.same) (cut_whole w.kind w.body l w.whole)

-- the bytes of records are cut into those of each, and the cut goes on after them
pub cut_records : (rs : List Record) (l : List ℕ)
    → ((cut (join_over encode rs ++ l)).whole ≡ map encode rs ++ (cut l).whole) × ((cut (join_over encode rs ++ l)).left ≡ (cut l).left)
unfolding join_over
cut_records [] l = (refl, refl)
cut_records (r ∷ rs) l =
    let ih = cut_records rs l in
    let e : cut (encode r ++ join_over encode rs ++ l) ≡ one_more (encode r) (cut (join_over encode rs ++ l)) =
    ap cut (append_assoc (encode r) (join_over encode rs) l) ∙ cut_encode r (join_over encode rs ++ l) in
    (ap (λ (c : Cut). c.whole) e ∙ ap (λ (x : List (List ℕ)). encode r ∷ x) ih.0, ap (λ (c : Cut). c.left) e ∙ ih.1)

-- What is left after the whole records: nothing, bytes that start with an unknown kind, or a record cut short.
pub data Left : List ℕ → Type 0 where
  nothing : Left []
  unknown : (k : ℕ) (b : List ℕ) → body_length k ≡ 0 → Left (k ∷ b)
  short : (k : ℕ) (b : List ℕ) → (body_length k ≡ 0 → ⊥) → length b < body_length k → Left (k ∷ b)

-- what is left holds no whole record
pub cut_short_lem : (l : List ℕ) → Left l → cut l ≡ cut_short l
unfolding cut cut_first
cut_short_lem l nothing = refl
cut_short_lem l (unknown k b e) = sym (eq_case (body_length k) 0 _ _ e refl)
cut_short_lem l (short k b n h) = sym (ne_case (body_length k) 0 _ _ n (gt_case (body_length k) (length b) _ _ h refl))

-- what holds of bytes that are left, and of a whole record before bytes of which it holds, holds of all bytes with their cut
cut_cases : (P : List ℕ → Cut → Type 0) → ((l : List ℕ) → Left l → P l (cut_short l))
    → ((k : ℕ) (b l : List ℕ) → Whole k b → P l (cut l) → P ((k ∷ b) ++ l) (one_more (k ∷ b) (cut l))) → (l : List ℕ) → P l (cut l)
cut_cases P base step l = go (length l) l (le_refl (length l))
  where
    at : (l : List ℕ) → Left l → P l (cut l)
    at l g = subst (P l) (sym (cut_short_lem l g)) (base l g)

    one : (k : ℕ) (b l : List ℕ) → Whole k b → P l (cut l) → P ((k ∷ b) ++ l) (cut ((k ∷ b) ++ l))
    one k b l w p = subst (P ((k ∷ b) ++ l)) (sym (cut_whole k b l w)) (step k b l w p)

    go : (n : ℕ) (l : List ℕ) → length l ≤ n → P l (cut l)
    go zero [] h = at [] nothing
    go zero (k ∷ l) h = absurd (omega arith)
    go (suc n) [] h = at [] nothing
    go (suc n) (k ∷ l) h =
        known (ℕ_discrete (body_length k) 0) (dec_le (body_length k) (length l)) (go n (drop (body_length k) l) (omega (arith, length-drop (body_length k) l)))
      where
        known : Dec (body_length k ≡ 0) → Dec (body_length k ≤ length l) → P (drop (body_length k) l) (cut (drop (body_length k) l)) → P (k ∷ l) (cut (k ∷ l))
        known (yes e) d p = at (k ∷ l) (unknown k l e)
        known (no n) (yes g) p =
            subst (λ (x : List ℕ). P (k ∷ x) (cut (k ∷ x))) (take-append-drop (body_length k) l)
            (one k (take (body_length k) l) (drop (body_length k) l) (record { known = n; full = length-take-le (body_length k) l g }) p)
        known (no n) (no g) p = at (k ∷ l) (short k l n (omega arith))

pub cut_joined : (l : List ℕ) → join_over (λ b. b) (cut l).whole ++ (cut l).left ≡ l
unfolding join_over
cut_joined =
    cut_cases (λ l c. join_over (λ b. b) c.whole ++ c.left ≡ l) (λ l g. refl)
    (λ k b l w e. ap (λ (x : List ℕ). k ∷ x) (append_assoc b (join_over (λ b. b) (cut l).whole) (cut l).left ∙ ap (λ (x : List ℕ). b ++ x) e))

pub cut_each : (l : List ℕ) → Each WholeBytes (cut l).whole
cut_each =
    cut_cases (λ l c. Each WholeBytes c.whole) (λ l g. tt)
    (λ k b l w e. (record { kind = k; body = b; same = refl; whole = w }, e))

pub cut_left : (l : List ℕ) → Left (cut l).left
cut_left = cut_cases (λ l c. Left c.left) (λ l g. g) (λ k b l w e. e)
