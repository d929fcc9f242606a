-- Proved. The theorems over every list of calls from the fresh study. Proofs stand in proofs/. Assumes nothing.
use Rattle.std.specs.Prelude.{◌≡◌, ◌↔◌, ◌⊎◌, List, [], ◌∷◌, ◌++◌, map, ℕ, ◌+◌, ◌*◌, ◌<◌, ◌≤◌, length, get_or}
use Rattle.numeric.specs.Choice.{if_eq}
use Rattle.state.specs.declared.Branch.{Branch}
use Rattle.state.specs.declared.Totals.{Totals}
use Rattle.state.specs.declared.TargetReport.{TargetReport}
use Rattle.model.specs.Bounds.{most_targets, most_scenarios, most_records, most_frequency}
use Rattle.model.specs.Content.{Target, Scenario, Content}
use Rattle.model.specs.Sums.{sum_over, join_over}
use Rattle.model.specs.Format.{outcome_kind, closing_kind, Record, opening_rec, target_rec, closing_rec, scenario_records, leaks_of, open_records, records_of, encode, bytes_of}
use Rattle.model.specs.Valid.{Valid, Each}
use Rattle.model.specs.Outcomes.{Outcome, above, outcomes_of}
use Rattle.model.specs.Report.{margin_at}
use Rattle.model.specs.MeaningTheorems.{Near, BothZero}
use Rattle.model.specs.Faults.{Context, start, role, order_fault, context_after, context_after_all}
use Rattle.model.specs.Verdict.{closed, refused, verdict}
use Rattle.model.specs.Calls.{Call, totals, target, gave_totals, gave_target, answers, joined, Bytes, Callable}
use Rattle.model.specs.Machine.{State, closed_phase, accepted, fresh, read_all, state_after_all, answer_in, answers_in}

-- Answers: every call is answered as 01 says from the bytes joined before it and the call alone, wherever the bytes were cut (demands 1 and 2).
abbrev pub Answers : Type 0
Answers = (cs : List Call) → Each Callable cs → answers_in fresh cs ≡ answers [] cs

-- "It is closed once a front part of them runs from opening to closing with nothing that refusals 1 to 6 name."
pub record ClosedFront (l : List ℕ) : Type 0 where
  pub content : Content
  pub valid : Valid content
  pub tail : List ℕ
  pub same : l ≡ bytes_of content ++ tail

abbrev pub ClosedExactlyThen : Type 0
ClosedExactlyThen = (cs : List Call) → Each Callable cs → ((state_after_all fresh cs).core.reading.phase ≡ closed_phase) ↔ ClosedFront (joined [] cs)

-- and then the content is that part's, whatever follows it
abbrev pub ClosedContent : Type 0
ClosedContent = (c : Content) → Valid c → (tail : List ℕ) → verdict (bytes_of c ++ tail) ≡ closed (length (bytes_of c)) c

-- a refusal stays, whatever bytes follow, and so does a closing
abbrev pub RefusalStays : Type 0
RefusalStays = (l more : List ℕ) (n p : ℕ) → Bytes (l ++ more) → verdict l ≡ refused n p → verdict (l ++ more) ≡ refused n p

abbrev pub ClosingStays : Type 0
ClosingStays = (l more : List ℕ) (p : ℕ) (c : Content) → Bytes (l ++ more) → verdict l ≡ closed p c → verdict (l ++ more) ≡ closed p c

-- "the totals of the six outcome kinds add up to the leaks, to the last unit"
pub record TotalsHold (cs : List Call) (c : Content) : Type 0 where
  pub report : Totals
  pub answered : answer_in (state_after_all fresh cs) totals ≡ gave_totals report
  pub taken : report.number ≡ 0
  pub leaks : report.leaks ≡ leaks_of c
  pub six : length report.kinds ≡ 6
  pub kinds : sum_over (λ x. x) report.kinds ≡ leaks_of c

-- "at each target the reported sum differs from the exact one by less than its margin, or both are nought if no effect names it"
pub record TargetHolds (cs : List Call) (c : Content) (t : ℕ) : Type 0 where
  pub report : TargetReport
  pub answered : answer_in (state_after_all fresh cs) (target t) ≡ gave_target report
  pub taken : report.number ≡ 0
  pub margin : report.margin ≡ margin_at c t
  pub near : Near c t report.sum report.margin ⊎ BothZero c t report.sum

pub record DemandHolds (cs : List Call) (c : Content) : Type 0 where
  pub totals : TotalsHold cs c
  pub targets : (t : ℕ) → t < length c.targets → TargetHolds cs c t

-- Demand 3, one claim about every list of calls
abbrev pub Demand3 : Type 0
Demand3 = (cs : List Call) (c : Content) → Valid c → (tail : List ℕ) → joined [] cs ≡ bytes_of c ++ tail → DemandHolds cs c

-- "wherever they were cut"
abbrev pub CutsMakeNoDifference : Type 0
CutsMakeNoDifference = (cs : List Call) → state_after_all fresh cs ≡ read_all fresh (joined [] cs)

-- a list of records in 01's order: opening; targets; a leak and a tree, as many effects as announced, any number of times; closing
pub record Numbered : Type 0 where
  pub number : ℕ
  pub target : Target

pub record InOrder (rs : List Record) : Type 0 where
  pub study : ℕ
  pub targets : List Numbered
  pub scenarios : List Scenario
  pub count : ℕ
  pub sum : ℕ
  pub same : rs ≡ opening_rec study ∷ join_over (λ t. target_rec t.number t.target ∷ []) targets ++ join_over scenario_records scenarios ++ (closing_rec count sum ∷ [])

-- the order allows a record
abbrev pub Allowed : Context → Record → Type 0
Allowed x r = order_fault x.counts.records x.left (length x.trees) x.counts.scenarios (role r) ≡ 0

unfoldable pub AllAllowed : Context → List Record → Type 0
AllAllowed x [] = Unit {0}
AllAllowed x (r ∷ rs) = Allowed x r × (role r ≡ closing_kind → ⊥) × AllAllowed (context_after x r) rs

pub record Continued (rs : List Record) (k : ℕ) : Type 0 where
  pub next : Record
  pub kind : role next ≡ k
  pub rest : List Record
  pub order : InOrder (rs ++ (next ∷ rest))

-- the order allows kind k after these records exactly when some list of records in 01's order begins with them and a record of kind k
abbrev pub OrderIsTheFormats : Type 0
OrderIsTheFormats = (rs : List Record) (r : Record)
    → (AllAllowed start rs × Allowed (context_after_all start rs) r) ↔ Continued rs (role r)

-- what the machine holds of an outcome when its record has been taken
pub record Seen : Type 0 where
  pub kind : ℕ
  pub leak : ℕ
  pub frequency : ℕ
  pub above : ℕ

-- the records are taken one after the other, and after each outcome's record the machine's figures of it are noted
abbrev pub seen_at : Branch → Seen
seen_at b = record { kind = b.kind; leak = b.leak; frequency = b.frequency; above = b.above }

unfoldable pub seen_in : State → List Record → List Seen
seen_in s [] = []
seen_in s (r ∷ rs) = if_eq (role r) outcome_kind (seen_at (accepted s r).core.branch ∷ []) [] ++ seen_in (accepted s r) rs

-- the same four figures of an outcome of the meaning
abbrev pub seen_of : Outcome → Seen
seen_of o = record { kind = o.kind; leak = o.leak; frequency = o.frequency; above = above o }

-- the machine holds each outcome of the meaning, in order, with the meaning's kind, leak, frequency and branchings above
abbrev pub OutcomesAreTheMeanings : Type 0
OutcomesAreTheMeanings = (c : Content) → Valid c → seen_in fresh (open_records c) ≡ map seen_of (outcomes_of c)

-- The same by bytes: after each front part of the bytes that ends in an outcome's record the machine's figures are noted. The bytes of the records before are given.
unfoldable pub seen_in_bytes : List ℕ → List Record → List Seen
seen_in_bytes before [] = []
seen_in_bytes before (r ∷ rs) =
    if_eq (role r) outcome_kind (seen_at (read_all fresh (before ++ encode r)).core.branch ∷ []) [] ++ seen_in_bytes (before ++ encode r) rs

-- so it holds each outcome of the meaning, in order, once the bytes so far have been read, wherever they were cut (CutsMakeNoDifference)
abbrev pub OutcomesInBytes : Type 0
OutcomesInBytes = (c : Content) → Valid c → seen_in_bytes [] (records_of c) ≡ map seen_of (outcomes_of c)

-- No sum of the machine stops at the greatest number of its memory on a study that calls made: all stay far below.
pub record FarBelow (s : State) : Type 0 where
  pub place : s.core.reading.place ≤ 13 * most_records + 12
  pub records : s.core.counts.records ≤ most_records
  pub targets : s.core.counts.targets ≤ most_targets
  pub scenarios : s.core.counts.scenarios ≤ most_scenarios
  pub leaks : s.core.counts.leaks ≤ most_scenarios * most_frequency
  pub height : s.core.branch.height ≤ 9
  pub kinds : s.core.tally.kind0 + s.core.tally.kind1 + s.core.tally.kind2 + s.core.tally.kind3 + s.core.tally.kind4 + s.core.tally.kind5 ≤ most_scenarios * most_frequency
  pub unjudged : s.core.tally.unjudged ≤ most_records
  pub sums : (t : ℕ) → get_or s.sums t 0 ≤ most_scenarios * most_frequency
  pub margins : (t : ℕ) → get_or s.margins t 0 ≤ 9000000

abbrev pub NeverSaturates : Type 0
NeverSaturates = (cs : List Call) → Each Callable cs → FarBelow (state_after_all fresh cs)
