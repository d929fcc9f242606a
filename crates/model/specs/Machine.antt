-- For the proofs. The machine that reads a study byte by byte in fixed memory. It is total on every state: sums stop at the greatest number that
-- their memory holds, and nothing is written past an end. Assumes nothing.
use Rattle.std.specs.Prelude.{Bool, true, false, List, [], ◌∷◌, ℕ, zero, suc, ◌+◌, ◌-◌, ◌*◌, ◌/◌, ◌%◌, min, length, get_or, set, replicate}
use Rattle.numeric.specs.Choice.{pick, if_eq, if_le, if_lt}
use Rattle.numeric.specs.Share.{share_of, split_of}
use Rattle.terms.specs.Terms.{people}
use Rattle.terms.specs.declared.Judged.{Judged}
use Rattle.terms.specs.declared.Target.{Target as Facts}
use Rattle.vulnerability.specs.Effect.{effect_on}
use Rattle.vulnerability.specs.Domino.{listed_by}
use Rattle.state.specs.declared.Reading.{Reading}
use Rattle.state.specs.declared.Counts.{Counts}
use Rattle.state.specs.declared.Branch.{Branch}
use Rattle.state.specs.declared.Tally.{Tally}
use Rattle.state.specs.declared.Core.{Core}
use Rattle.state.specs.declared.Row.{Row}
use Rattle.state.specs.declared.Totals.{Totals}
use Rattle.state.specs.declared.TargetReport.{TargetReport}
use Rattle.state.specs.declared.DominoReport.{DominoReport}
use Rattle.model.specs.Bounds.{most_targets}
use Rattle.model.specs.Sums.{numbers_below}
use Rattle.model.specs.Content.{chance, facts as facts_of, target_of, intensity, duration, clock}
use Rattle.model.specs.Format.{Record, opening_rec, target_rec, leak_rec, branching_rec, outcome_rec, effect_rec, closing_rec}
use Rattle.model.specs.Faults.{Context, context, fault}
use Rattle.model.specs.Verdict.{body_length, decode}
use Rattle.model.specs.Report.{grade_of}
use Rattle.model.specs.Calls.{Call, piece, totals, target, domino, Answer, took_piece, gave_totals, gave_target, gave_domino, no_totals, no_target, no_domino, front}

-- the parts that go by value, 16 pending bytes, nine pending trees, and three figures for each of the most targets that a study has
pub record State : Type 0 where
  pub core : Core
  pub pending : List ℕ
  pub stack : List ℕ
  pub sums : List ℕ
  pub margins : List ℕ
  pub facts : List ℕ

abbrev pub state : Core → List ℕ → List ℕ → List ℕ → List ℕ → List ℕ → State
state c p k s m f = record { core = c; pending = p; stack = k; sums = s; margins = m; facts = f }

-- a sum that stops at a greatest number
abbrev pub up_to : ℕ → ℕ → ℕ → ℕ
up_to most x y = min (x + y) most

abbrev pub most16 : ℕ
most16 = 65535

abbrev pub most32 : ℕ
most32 = 4294967295

abbrev pub most64 : ℕ
most64 = 18446744073709551615

-- a store at a place below a length; nothing past it
unfoldable pub store : ℕ → List ℕ → ℕ → ℕ → List ℕ
store n l i v = if_lt i n (set l i v) l

-- what stands at a place below a length; 0 past it
unfoldable pub fetch : ℕ → List ℕ → ℕ → ℕ
fetch n l i = if_lt i n (get_or l i 0) 0

-- ---- the reading

-- its phases: records are still read; the study is closed; a refusal is kept
abbrev pub open_phase : ℕ
open_phase = 0

abbrev pub closed_phase : ℕ
closed_phase = 1

abbrev pub refused_phase : ℕ
refused_phase = 2

abbrev pub reading : ℕ → ℕ → ℕ → ℕ → ℕ → ℕ → Reading
reading phase have place start number at = record { phase = phase; have = have; place = place; start = start; number = number; at = at }

-- the kind byte: a record begins, or refusal 1 at this byte
unfoldable pub begun : Reading → ℕ → Reading
begun h k =
    if_eq (body_length k) 0
    (reading refused_phase 0 h.place h.start 1 h.place)
    (reading open_phase 1 (up_to most64 h.place 1) h.place 0 0)

-- one byte more of the body
unfoldable pub grown : Reading → Reading
grown h = reading open_phase (up_to 15 h.have 1) (up_to most64 h.place 1) h.start 0 0

-- a record is taken; the study goes on in a phase, and a record that follows begins at the place
unfoldable pub taken : Reading → ℕ → Reading
taken h phase = reading phase 0 h.place h.place 0 0

-- a record is refused at its first byte
unfoldable pub refused_with : Reading → ℕ → Reading
refused_with h n = reading refused_phase 0 h.place h.start n h.start

-- ---- the counts

unfoldable pub one_record : Counts → Counts
one_record k = record { records = up_to most32 k.records 1; targets = k.targets; scenarios = k.scenarios; last = k.last; leaks = k.leaks }

unfoldable pub one_target : Counts → Counts
one_target k = record { records = up_to most32 k.records 1; targets = up_to most16 k.targets 1; scenarios = k.scenarios; last = k.last; leaks = k.leaks }

unfoldable pub one_leak : Counts → ℕ → ℕ → Counts
one_leak k n f = record { records = up_to most32 k.records 1; targets = k.targets; scenarios = up_to most32 k.scenarios 1; last = n; leaks = up_to most64 k.leaks f }

-- ---- the trees still to come: each in one number, its frequency and the branchings above it

unfoldable pub packed : ℕ → ℕ → ℕ
packed f above = min (f * 16 + above % 16) most64

abbrev pub frequency_of : ℕ → ℕ
frequency_of x = x / 16

abbrev pub above_of : ℕ → ℕ
above_of x = x % 16

-- the next tree; 0 where there is none
unfoldable pub top : List ℕ → ℕ → ℕ
top l height = if_eq height 0 0 (if_le height 9 (get_or l (height - 1) 0) 0)

-- a leak's tree alone
unfoldable pub leak_stack : List ℕ → ℕ → List ℕ
leak_stack l f = store 9 l 0 (packed f 0)

-- the second branch in the place of the next tree, and the first branch upon it
unfoldable pub branch_stack : List ℕ → ℕ → ℕ → List ℕ
branch_stack l height p =
    store 9
    (store 9 l (height - 1) (packed (split_of (frequency_of (top l height)) p).second (above_of (top l height) + 1)))
    height (packed (split_of (frequency_of (top l height)) p).first (above_of (top l height) + 1))

unfoldable pub leak_branch : Branch → ℕ → Branch
leak_branch b f = record { height = 1; left = b.left; next = b.next; leak = f; kind = b.kind; frequency = b.frequency; above = b.above }

unfoldable pub branched_branch : Branch → Branch
branched_branch b = record { height = up_to 9 b.height 1; left = b.left; next = b.next; leak = b.leak; kind = b.kind; frequency = b.frequency; above = b.above }

-- an outcome takes the next tree, and its effects begin
unfoldable pub outcome_branch : Branch → ℕ → ℕ → ℕ → Branch
outcome_branch b x k n = record { height = b.height - 1; left = n; next = 0; leak = b.leak; kind = k; frequency = frequency_of x; above = above_of x }

unfoldable pub effect_branch : Branch → ℕ → Branch
effect_branch b t = record { height = b.height; left = b.left - 1; next = t + 1; leak = b.leak; kind = b.kind; frequency = b.frequency; above = b.above }

-- ---- the totals

unfoldable pub study_tally : Tally → ℕ → Tally
study_tally y n = record { study = n; kind0 = y.kind0; kind1 = y.kind1; kind2 = y.kind2; kind3 = y.kind3; kind4 = y.kind4; kind5 = y.kind5; unjudged = y.unjudged }

-- a kind's total grows by the frequency of an outcome of the kind
unfoldable pub kind_grown : ℕ → ℕ → ℕ → ℕ → ℕ
kind_grown k i f x = if_eq k i (up_to most64 x f) x

unfoldable pub outcome_tally : Tally → ℕ → ℕ → Tally
outcome_tally y k f =
    record {
      study = y.study;
      kind0 = kind_grown k 0 f y.kind0;
      kind1 = kind_grown k 1 f y.kind1;
      kind2 = kind_grown k 2 f y.kind2;
      kind3 = kind_grown k 3 f y.kind3;
      kind4 = kind_grown k 4 f y.kind4;
      kind5 = kind_grown k 5 f y.kind5;
      unjudged = y.unjudged;
    }

unfoldable pub effect_tally : Tally → Bool → Tally
effect_tally y b = record { study = y.study; kind0 = y.kind0; kind1 = y.kind1; kind2 = y.kind2; kind3 = y.kind3; kind4 = y.kind4; kind5 = y.kind5; unjudged = up_to most32 y.unjudged (pick b 0 1) }

-- ---- one target: its facts in one number, the lowest bit its mark on the domino list

unfoldable pub packed_facts : Facts → ℕ
packed_facts f = f.volume * 64 + f.class % 8 * 8 + f.setting % 4 * 2

unfoldable pub unpacked_facts : ℕ → Facts
unpacked_facts x = record { class = x / 8 % 8; setting = x / 2 % 4; volume = x / 64 % 4294967296 }

abbrev pub mark_of : ℕ → Bool
mark_of x = if_eq (x % 2) 1 true false

-- equipment is marked by an effect that lists it, and stays so
unfoldable pub marked_facts : ℕ → ℕ → ℕ → ℕ
marked_facts x c leak = if_eq (x / 8 % 8) people x (pick (listed_by c leak) (x / 2 * 2 + 1) x)

-- an effect of a chance on one target
unfoldable pub row_after : Row → Branch → ℕ → Row
row_after w b c =
    record {
      sum = up_to most64 w.sum (share_of b.frequency c);
      margin = up_to most32 w.margin (b.above + 1);
      facts = marked_facts w.facts c b.leak;
    }

-- ---- a record

-- what the machine knows before a record: for each tree still to come the branchings above it, the next tree first
unfoldable pub trees_in : List ℕ → ℕ → List ℕ
trees_in k zero = []
trees_in k (suc n) = above_of (top k (suc n)) ∷ trees_in k n

abbrev pub context_in : Core → List ℕ → Context
context_in c k = context c.counts (trees_in k c.branch.height) c.branch.left c.branch.kind c.branch.next

unfoldable pub fault_in : Core → List ℕ → Record → ℕ
fault_in c k r = fault (context_in c k) r

abbrev pub core : Reading → Counts → Branch → Tally → Core
core h k b y = record { reading = h; counts = k; branch = b; tally = y }

-- the figures of one target
abbrev pub row_of : List ℕ → List ℕ → List ℕ → ℕ → Row
row_of sums margins facts t = record { sum = get_or sums t 0; margin = get_or margins t 0; facts = get_or facts t 0 }

abbrev pub row_at : State → ℕ → Row
row_at s t = row_of s.sums s.margins s.facts t

-- what an effect does, in a study whose target has a judged chance
unfoldable pub effect_state : State → ℕ → Judged → State
effect_state s t j =
    state
    (core (taken s.core.reading open_phase) (one_record s.core.counts) (effect_branch s.core.branch t) (effect_tally s.core.tally j.judged))
    s.pending s.stack
    (store most_targets s.sums t (row_after (row_at s t) s.core.branch j.chance).sum)
    (store most_targets s.margins t (row_after (row_at s t) s.core.branch j.chance).margin)
    (store most_targets s.facts t (row_after (row_at s t) s.core.branch j.chance).facts)

-- a record without fault is taken
unfoldable pub accepted : State → Record → State
accepted s (opening_rec n) =
    state (core (taken s.core.reading open_phase) (one_record s.core.counts) s.core.branch (study_tally s.core.tally n))
    s.pending s.stack s.sums s.margins s.facts
accepted s (target_rec n t) =
    state (core (taken s.core.reading open_phase) (one_target s.core.counts) s.core.branch s.core.tally)
    s.pending s.stack s.sums s.margins (store most_targets s.facts s.core.counts.targets (packed_facts (facts_of t)))
accepted s (leak_rec n f) =
    state (core (taken s.core.reading open_phase) (one_leak s.core.counts n f) (leak_branch s.core.branch f) s.core.tally)
    s.pending (leak_stack s.stack f) s.sums s.margins s.facts
accepted s (branching_rec b) =
    state (core (taken s.core.reading open_phase) (one_record s.core.counts) (branched_branch s.core.branch) s.core.tally)
    s.pending (branch_stack s.stack s.core.branch.height (chance b)) s.sums s.margins s.facts
accepted s (outcome_rec k n) =
    state
    (core (taken s.core.reading open_phase) (one_record s.core.counts)
    (outcome_branch s.core.branch (top s.stack s.core.branch.height) k n)
    (outcome_tally s.core.tally k (frequency_of (top s.stack s.core.branch.height))))
    s.pending s.stack s.sums s.margins s.facts
accepted s (effect_rec e) =
    effect_state s (target_of e) (effect_on (clock e) (unpacked_facts (fetch most_targets s.facts (target_of e))) s.core.branch.kind (intensity e) (duration e))
accepted s (closing_rec n t) =
    state (core (taken s.core.reading closed_phase) (one_record s.core.counts) s.core.branch s.core.tally)
    s.pending s.stack s.sums s.margins s.facts

unfoldable pub with_reading : State → Reading → State
with_reading s h = state (core h s.core.counts s.core.branch s.core.tally) s.pending s.stack s.sums s.margins s.facts

unfoldable pub record_read : State → Record → State
record_read s r =
    if_eq (fault_in s.core s.stack r) 0
    (accepted s r)
    (with_reading s (refused_with s.core.reading (fault_in s.core s.stack r)))

-- the pending bytes are forgotten once their record is read
unfoldable pub cleared : State → State
cleared s = state s.core (replicate 16 0) s.stack s.sums s.margins s.facts

-- ---- a byte

-- the record is read once it is whole
unfoldable pub ended : State → State
ended s = if_le (body_length (get_or s.pending 0 0)) (s.core.reading.have - 1) (cleared (record_read s (decode s.pending))) s

-- one byte more of a record that has begun
unfoldable pub body : State → ℕ → State
body s b =
    ended
    (state (core (grown s.core.reading) s.core.counts s.core.branch s.core.tally)
    (store 16 s.pending s.core.reading.have b) s.stack s.sums s.margins s.facts)

unfoldable pub step : State → ℕ → State
step s b =
    if_eq s.core.reading.phase open_phase
    (if_eq s.core.reading.have 0
    (state (core (begun s.core.reading b) s.core.counts s.core.branch s.core.tally)
    (store 16 s.pending 0 b) s.stack s.sums s.margins s.facts)
    (body s b))
    s

unfoldable pub read_all : State → List ℕ → State
read_all s [] = s
read_all s (b ∷ bs) = read_all (step s b) bs

-- ---- calls

-- 01: "A fresh study has all 256 sums at nought"
abbrev pub fresh_core : Core
fresh_core =
    core (reading open_phase 0 0 0 0 0)
    (record { records = 0; targets = 0; scenarios = 0; last = 0; leaks = 0 })
    (record { height = 0; left = 0; next = 0; leak = 0; kind = 0; frequency = 0; above = 0 })
    (record { study = 0; kind0 = 0; kind1 = 0; kind2 = 0; kind3 = 0; kind4 = 0; kind5 = 0; unjudged = 0 })

unfoldable pub fresh : State
fresh = state fresh_core (replicate 16 0) (replicate 9 0) (replicate most_targets 0) (replicate most_targets 0) (replicate most_targets 0)

-- number and place that a piece of n bytes answers with, from the place before it and the reading after it
unfoldable pub number_after : ℕ → ℕ → Reading → ℕ
number_after before n h = if_eq h.phase refused_phase h.number (if_eq h.phase closed_phase (if_lt (h.place - before) n 7 0) 0)

unfoldable pub place_after : Reading → ℕ
place_after h = if_eq h.phase refused_phase h.at h.place

unfoldable pub totals_in : Core → Totals
totals_in c =
    if_eq c.reading.phase refused_phase (no_totals c.reading.number c.reading.at)
    (if_eq c.reading.phase closed_phase
    (record {
      number = 0;
      place = c.reading.place;
      study = c.tally.study;
      records = c.counts.records;
      leaks = c.counts.leaks;
      kinds = c.tally.kind0 ∷ c.tally.kind1 ∷ c.tally.kind2 ∷ c.tally.kind3 ∷ c.tally.kind4 ∷ c.tally.kind5 ∷ [];
      unjudged = c.tally.unjudged;
      targets = c.counts.targets;
    })
    (no_totals 8 c.reading.place))

-- the report of a row
unfoldable pub row_report : ℕ → Row → TargetReport
row_report p w =
    record {
      number = 0;
      place = p;
      sum = w.sum;
      margin = w.margin;
      class = w.facts / 8 % 8;
      grade = if_eq (w.facts / 8 % 8) people (grade_of w.sum) 0;
      listed = mark_of w.facts;
    }

unfoldable pub target_in : State → ℕ → TargetReport
target_in s t =
    if_eq s.core.reading.phase refused_phase (no_target s.core.reading.number s.core.reading.at)
    (if_eq s.core.reading.phase closed_phase
    (if_lt t (min s.core.counts.targets most_targets)
    (row_report s.core.reading.place (row_at s t))
    (no_target 9 s.core.reading.place))
    (no_target 8 s.core.reading.place))

-- the marked targets
unfoldable pub marked_in : State → List ℕ
marked_in s = numbers_below (λ t. mark_of (get_or s.facts t 0)) (min s.core.counts.targets most_targets)

unfoldable pub domino_in : State → ℕ → DominoReport
domino_in s n =
    if_eq s.core.reading.phase refused_phase (no_domino s.core.reading.number s.core.reading.at)
    (if_eq s.core.reading.phase closed_phase
    (if_le (length (marked_in s)) n
    (record { number = 0; place = s.core.reading.place; count = length (marked_in s) })
    (no_domino 10 s.core.reading.place))
    (no_domino 8 s.core.reading.place))

-- the lent list afterwards
unfoldable pub list_after : State → List ℕ → List ℕ
list_after s l =
    if_eq s.core.reading.phase closed_phase
    (if_le (length (marked_in s)) (length l) (front (marked_in s) l) l)
    l

-- the state after a call, and its answer
unfoldable pub state_after : State → Call → State
state_after s (piece b) = read_all s b
state_after s totals = s
state_after s (target t) = s
state_after s (domino l) = s

unfoldable pub answer_in : State → Call → Answer
answer_in s (piece b) =
    took_piece (number_after s.core.reading.place (length b) (read_all s b).core.reading) (place_after (read_all s b).core.reading)
answer_in s totals = gave_totals (totals_in s.core)
answer_in s (target t) = gave_target (target_in s t)
answer_in s (domino l) = gave_domino (domino_in s (length l)) (list_after s l)

unfoldable pub state_after_all : State → List Call → State
state_after_all s [] = s
state_after_all s (c ∷ cs) = state_after_all (state_after s c) cs

unfoldable pub answers_in : State → List Call → List Answer
answers_in s [] = []
answers_in s (c ∷ cs) = answer_in s c ∷ answers_in (state_after s c) cs
