-- A stream read piece by piece. Assumes nothing.
use Rattle.std.proofs.Common.{◌≡◌, refl, sym, ap, ◌∙◌, subst, Option, None, Some, List, [], ◌∷◌, ◌++◌, append_assoc, append-nil, ℕ, ◌+◌, ◌<◌, ◌≤◌, length, take, drop, get_or, length-take, length-take-le, arith}
use Rattle.std.proofs.Math.Seq.{take-append_seam}
use Rattle.std.proofs.lemmas.List.{take_more, length-append}
use Rattle.std.proofs.Common.{take_all}
use Rattle.std.proofs.lemmas.List.Folds.{concat-append}
use Rattle.std.specs.Prelude.{IfSome}
use Rattle.std.specs.List.{concat}
use Rattle.std.specs.Io.KnownBytes.{Consumes, Appends, IsAtEnd}
use Rattle.numeric.specs.Choice.{if_le}
use Rattle.numeric.proofs.ChoiceLaws.{le_case}
use Rattle.lines.specs.declared.Line.{Line}
use Rattle.lines.specs.Text.{text_of}
use Rattle.model.specs.Calls.{Call, piece, Answer, took_piece, joined, joined_after}
use Rattle.model.specs.Machine.{fresh}
use Rattle.model.specs.Runs.{Run, none, call}
use Rattle.model.specs.Runs as Frame
use Rattle.study.specs.declared.Study.{Study}
use Rattle.study.specs.declared.pieces.Taken.{Taken}
use Rattle.study.specs.View.{view}
use Rattle.study.specs.Runs.{Called}
use Rattle.printing.specs.Prints.{TakenAfter, nothing, last}

-- the study has read what the stream has lost
pub record ReadSoFar (turns : ℕ) (before now : Option (List ℕ)) (t : Taken) : Type 0 where
  pub bytes : List ℕ
  pub taken : TakenAfter bytes t
  pub lost : Consumes before now bytes
  pub each : turns ≤ length bytes

-- a call more at the end of a run
run_more : {s u v : Study} {cs : List Call} {xs : List Answer} {c : Call} {a : Answer} → Run (Frame.Called view) s cs xs u → Frame.Called view u c a v
    → Run (Frame.Called view) s (cs ++ (c ∷ [])) (xs ++ (a ∷ [])) v
run_more none k = call k none
run_more (call j r) k = call j (run_more r k)

joined_more : (before b : List ℕ) (cs : List Call) → joined before (cs ++ (piece b ∷ [])) ≡ joined before cs ++ b
unfolding joined joined_after
joined_more before b [] = refl
joined_more before b (c ∷ cs) = joined_more (joined_after before c) b cs

joined_none : joined [] [] ≡ []
unfolding joined
joined_none = refl

-- a piece more
pub taken_more : (l b : List ℕ) (t u : Taken) → TakenAfter l t → 0 < length b → Called t.study (piece b) (took_piece u.number u.place) u.study → TakenAfter (l ++ b) u
taken_more l b t u (nothing f z) h k =
    subst (λ (x : List ℕ). TakenAfter (x ++ b) u) joined_none
    (last {cs = []} b (record { first = t.study; started = f; calls = none }) h k)
taken_more l b t u (last {cs} {xs} {s} c r p q) h k =
    subst (λ (x : List ℕ). TakenAfter (x ++ b) u) (joined_more [] c cs)
    (last {cs = cs ++ (piece c ∷ [])} b (record { first = r.first; started = r.started; calls = run_more r.calls q }) h k)

-- ---- the bytes that a stream has lost

consumed_none : (k : Option (List ℕ)) → Consumes k k []
consumed_none None = tt
consumed_none (Some xs) = refl

consumed_more : (a b c : Option (List ℕ)) (x y : List ℕ) → Consumes a b x → Consumes b c y → Consumes a c (x ++ y)
consumed_more None b c x y p q = tt
consumed_more (Some xs) None c x y p q = absurd p
consumed_more (Some xs) (Some ys) None x y p q = absurd q
consumed_more (Some xs) (Some ys) (Some zs) x y p q = p ∙ ap (λ (l : List ℕ). x ++ l) q ∙ sym (append_assoc x y zs)

-- a read of some bytes gave some
pub some_bytes : (buffer : List ℕ) (n : ℕ) → n ≤ length buffer → (n ≡ 0 → ⊥) → 0 < length (take n buffer)
some_bytes buffer n h z = rw (length-take-le n buffer h) (omega arith)

-- before the first read
pub nothing_read : (k : Option (List ℕ)) (t : Taken) → view t.study ≡ fresh → t.number ≡ 0 → ReadSoFar 0 k k t
nothing_read k t f z = record { bytes = []; taken = nothing f z; lost = consumed_none k; each = omega arith }

-- after a read of some bytes, which a piece took
pub more_read : (n : ℕ) (a b c : Option (List ℕ)) (x : List ℕ) (t u : Taken) → ReadSoFar n a b t → Consumes b c x → 0 < length x
    → Called t.study (piece x) (took_piece u.number u.place) u.study → ReadSoFar (n + 1) a c u
more_read n a b c x t u r q h k =
    record {
      bytes = r.bytes ++ x;
      taken = taken_more r.bytes x t u r.taken h k;
      lost = consumed_more a b c r.bytes x r.lost q;
      each = omega (arith, length-append r.bytes x, r.each);
    }

-- after a read of none, at the end
pub all_read : (n : ℕ) (a b c : Option (List ℕ)) (x : List ℕ) (t : Taken) → ReadSoFar n a b t → Consumes b c x → x ≡ [] → IsAtEnd c → IfSome a (λ l. TakenAfter l t)
all_read n None b c x t r q e w = tt
all_read n (Some xs) b c x t r q e w = go c (consumed_more (Some xs) b c r.bytes x r.lost q) w
  where
    go : (c : Option (List ℕ)) → Consumes (Some xs) c (r.bytes ++ x) → IsAtEnd c → TakenAfter xs t
    go None p z = absurd p
    go (Some zs) p z =
        let f : xs ≡ r.bytes = p ∙ ap (λ (l : List ℕ). (r.bytes ++ x) ++ l) z ∙ append-nil (r.bytes ++ x) ∙ ap (λ (l : List ℕ). r.bytes ++ l) e ∙ append-nil r.bytes in
        subst (λ (l : List ℕ). TakenAfter l t) (sym f) r.taken

-- after so many reads of some bytes the stream had as many
pub long_read : (m n : ℕ) (a b : Option (List ℕ)) (t : Taken) → m ≤ n → ReadSoFar n a b t → IfSome a (λ l. m ≤ length l)
long_read m n None b t h r = tt
long_read m n (Some xs) None t h r = absurd r.lost
long_read m n (Some xs) (Some ys) t h r = omega (arith, ap (λ (l : List ℕ). length l) r.lost, length-append r.bytes ys, r.each)

-- ---- the bytes that a writer has gained

pub appended_none : (k : Option (List ℕ)) → Appends k k []
appended_none None = tt
appended_none (Some xs) = sym (append-nil xs)

appended_more : (a b c : Option (List ℕ)) (x y : List ℕ) → Appends a b x → Appends b c y → Appends a c (x ++ y)
appended_more None b c x y p q = tt
appended_more (Some xs) None c x y p q = absurd p
appended_more (Some xs) (Some ys) None x y p q = absurd q
appended_more (Some xs) (Some ys) (Some zs) x y p q = q ∙ ap (λ (l : List ℕ). l ++ y) p ∙ append_assoc xs x y

-- a line more
pub line_written : (a b c : Option (List ℕ)) (lines : List (List ℕ)) (i : ℕ) (x : List ℕ) → Appends a b (concat (take i lines)) → Appends b c x
    → x ≡ get_or lines i [] → i < length lines → Appends a c (concat (take (i + 1) lines))
line_written a b c lines i x p q e h =
    let f : concat (take i lines) ++ x ≡ concat (take (i + 1) lines) = sym (ap concat (take_more lines i [] h) ∙ concat-append (take i lines) (get_or lines i [] ∷ []) ∙ ap (λ (l : List ℕ). concat (take i lines) ++ l) (append-nil (get_or lines i []) ∙ sym e)) in
    subst (Appends a c) f (appended_more a b c (concat (take i lines)) x p q)

-- a line fits into 256 bytes
pub line_put : (line : Line) (n : ℕ) (out before : List ℕ)
    → n ≡ if_le (length (text_of line)) (length before) (length (text_of line)) 0
    → out ≡ if_le (length (text_of line)) (length before) (text_of line ++ drop (length (text_of line)) before) before
    → length line.text ≡ 256 → length before ≡ 256 → take n out ≡ text_of line
unfolding text_of
line_put line n out before p q e f =
    let h : length (take line.len line.text) ≤ length before = omega (arith, length-take line.len line.text) in
    let a : length (take line.len line.text) ≡ n = le_case _ _ _ _ h refl ∙ sym p in
    let b : take line.len line.text ++ drop (length (take line.len line.text)) before ≡ out = le_case _ _ _ _ h refl ∙ sym q in
    rw (← a, ← b) (take-append_seam (take line.len line.text) _)

-- what the code of `read_pieces` asks, and that of `write_report`
pub ruleset read_steps = (nothing_read, more_read, all_read, long_read, some_bytes)

pub ruleset write_steps = (appended_none, take_all)
