-- To be believed. What the desk says of bytes: 01, "Numbers the desk says no with". It goes by the records that the kinds' lengths cut. Assumes nothing.
use Rattle.std.specs.Prelude.{List, [], ◌∷◌, ◌++◌, ℕ, zero, suc, ◌+◌, ◌*◌, length, get_or, take, drop}
use Rattle.numeric.specs.Choice.{if_eq, if_le}
use Rattle.terms.specs.declared.Target.{Target as Facts}
use Rattle.model.specs.Content.{given, on_curve, Target, described, Effect, in_seconds, timed, Tree, outcome, branching, Scenario, Content}
use Rattle.model.specs.Format.{opening_kind, target_kind, leak_kind, branching_kind, outcome_kind, effect_kind, closing_kind, timed_kind, curve_kind, Record, opening_rec, target_rec, leak_rec, branching_rec, outcome_rec, effect_rec, closing_rec}
use Rattle.model.specs.Faults.{Context, start, role, fault, context_after}

-- 01, "Records", and 02, requests P3 and P6: the length of a kind's body; 0 for an unknown kind
unfoldable pub body_length : ℕ → ℕ
body_length k =
    if_eq k opening_kind 4
    (if_eq k target_kind 8
    (if_eq k leak_kind 12
    (if_eq k branching_kind 4
    (if_eq k outcome_kind 3
    (if_eq k effect_kind 8
    (if_eq k closing_kind 12
    (if_eq k timed_kind 9
    (if_eq k curve_kind 5 0))))))))

-- the number in n bytes from a place on, the most significant first
unfoldable pub field : List ℕ → ℕ → ℕ → ℕ
field l i zero = 0
field l i (suc n) = field l i n * 256 + get_or l (i + n) 0

-- the record that some bytes are, kind byte first
abbrev pub facts_at : List ℕ → Facts
facts_at l = record { class = field l 3 1; setting = field l 4 1; volume = field l 5 4 }

unfoldable pub decode : List ℕ → Record
decode l =
    if_eq (get_or l 0 0) opening_kind (opening_rec (field l 1 4))
    (if_eq (get_or l 0 0) target_kind (target_rec (field l 1 2) (described (facts_at l)))
    (if_eq (get_or l 0 0) leak_kind (leak_rec (field l 1 4) (field l 5 8))
    (if_eq (get_or l 0 0) branching_kind (branching_rec (given (field l 1 4)))
    (if_eq (get_or l 0 0) outcome_kind (outcome_rec (field l 1 1) (field l 2 2))
    (if_eq (get_or l 0 0) effect_kind (effect_rec (in_seconds (field l 1 2) (field l 3 4) (field l 7 2)))
    (if_eq (get_or l 0 0) timed_kind (effect_rec (timed (field l 1 2) (field l 3 4) (field l 7 2) (field l 9 1)))
    (if_eq (get_or l 0 0) curve_kind (branching_rec (on_curve (field l 1 1) (field l 2 4)))
    (closing_rec (field l 1 4) (field l 5 8)))))))))

-- bytes cut into whole records; what is left is empty, a record cut short, or starts with an unknown kind byte
pub record Cut : Type 0 where
  pub whole : List (List ℕ)
  pub left : List ℕ

abbrev pub cut_short : List ℕ → Cut
cut_short l = record { whole = []; left = l }

abbrev pub one_more : List ℕ → Cut → Cut
one_more r c = record { whole = r ∷ c.whole; left = c.left }

-- at most n records
unfoldable pub cut_first : ℕ → List ℕ → Cut
cut_first zero l = cut_short l
cut_first (suc n) [] = cut_short []
cut_first (suc n) (k ∷ l) =
    if_eq (body_length k) 0 (cut_short (k ∷ l))
    (if_le (body_length k) (length l)
    (one_more (k ∷ take (body_length k) l) (cut_first n (drop (body_length k) l)))
    (cut_short (k ∷ l)))

unfoldable pub cut : List ℕ → Cut
cut l = cut_first (length l) l

-- A content from its records, read from the last to the first: the effects, trees and scenarios that wait for what stands before them.
pub record Parts : Type 0 where
  pub number : ℕ
  pub targets : List Target
  pub scenarios : List Scenario
  pub trees : List Tree
  pub effects : List Effect

abbrev pub some_tree : Tree
some_tree = outcome 0 []

abbrev pub parts : ℕ → List Target → List Scenario → List Tree → List Effect → Parts
parts n ts ss trees es = record { number = n; targets = ts; scenarios = ss; trees = trees; effects = es }

unfoldable pub parts_of : List Record → Parts
parts_of [] = parts 0 [] [] [] []
parts_of (opening_rec n ∷ rs) = let p = parts_of rs in parts n p.targets p.scenarios p.trees p.effects
parts_of (target_rec n t ∷ rs) = let p = parts_of rs in parts p.number (t ∷ p.targets) p.scenarios p.trees p.effects
parts_of (leak_rec n f ∷ rs) =
    let p = parts_of rs in
    parts p.number p.targets (record { number = n; frequency = f; tree = get_or p.trees 0 some_tree } ∷ p.scenarios) (drop 1 p.trees) p.effects
parts_of (branching_rec b ∷ rs) =
    let p = parts_of rs in
    parts p.number p.targets p.scenarios (branching b (get_or p.trees 0 some_tree) (get_or p.trees 1 some_tree) ∷ drop 2 p.trees) p.effects
parts_of (outcome_rec k n ∷ rs) = let p = parts_of rs in parts p.number p.targets p.scenarios (outcome k p.effects ∷ p.trees) []
parts_of (effect_rec e ∷ rs) = let p = parts_of rs in parts p.number p.targets p.scenarios p.trees (e ∷ p.effects)
parts_of (closing_rec n s ∷ rs) = parts_of rs

unfoldable pub content_of : List Record → Content
content_of rs = record { number = (parts_of rs).number; targets = (parts_of rs).targets; scenarios = (parts_of rs).scenarios }

-- what is said of bytes: still open; closed, with the length and the content of the closed part; refused, with the number and the place
pub data Verdict : Type 0 where
  unclosed : Verdict
  closed : ℕ → Content → Verdict
  refused : ℕ → ℕ → Verdict

-- "Refusal 1 is given at the kind byte": what is left after the whole records is open, unless it starts with an unknown kind byte
unfoldable pub judge_left : ℕ → List ℕ → Verdict
judge_left place [] = unclosed
judge_left place (k ∷ l) = if_eq (body_length k) 0 (refused 1 place) unclosed

-- "the rest at the record's last byte. Refusals 1 to 6 give the place of the record's first byte in the whole study."
-- The records are judged one after the other; the first fault decides, and a closing record without fault ends the study.
unfoldable pub judge : Context → ℕ → List Record → List (List ℕ) → List ℕ → Verdict
judge x place taken [] left = judge_left place left
judge x place taken (b ∷ bs) left =
    if_eq (fault x (decode b)) 0
    (if_eq (role (decode b)) closing_kind
    (closed (place + length b) (content_of taken))
    (judge (context_after x (decode b)) (place + length b) (taken ++ (decode b ∷ [])) bs left))
    (refused (fault x (decode b)) place)

unfoldable pub verdict : List ℕ → Verdict
verdict l = judge start 0 [] (cut l).whole (cut l).left
