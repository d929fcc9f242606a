-- To be believed. 01, "Numbers the desk says no with": the fault of a record, from the records before it. Assumes nothing.
use Rattle.std.specs.Prelude.{List, [], ◌∷◌, ℕ, suc, ◌+◌, ◌-◌, length, get_or, drop}
use Rattle.numeric.specs.Choice.{if_eq, if_le, if_lt}
use Rattle.numeric.specs.Share.{certain}
use Rattle.terms.specs.Terms.{no_effect, fireball, flash_fire, people, individual, tenths_unit}
use Rattle.terms.specs.declared.Target.{Target as Facts}
use Rattle.state.specs.declared.Counts.{Counts}
use Rattle.model.specs.Bounds.{most_targets, most_scenarios, most_records, most_above, most_volume, least_frequency, most_frequency, most_effects, most_kind, most_class, most_setting, most_curve}
use Rattle.model.specs.Content.{Branching, given, on_curve, facts, Effect, in_seconds, timed, target_of, intensity, duration}
use Rattle.model.specs.Format.{opening_kind, target_kind, leak_kind, branching_kind, outcome_kind, effect_kind, closing_kind, Record, opening_rec, target_rec, leak_rec, branching_rec, outcome_rec, effect_rec, closing_rec}

-- the place of a record in 01's order, by the number of its kind in 01's table
abbrev pub role : Record → ℕ
role (opening_rec n) = opening_kind
role (target_rec n t) = target_kind
role (leak_rec n f) = leak_kind
role (branching_rec b) = branching_kind
role (outcome_rec k n) = outcome_kind
role (effect_rec e) = effect_kind
role (closing_rec n s) = closing_kind

-- 2, a record the order doesn't allow here: opening first; effects as many as announced; a tree to its end; targets before all scenarios
unfoldable pub order_fault : ℕ → ℕ → ℕ → ℕ → ℕ → ℕ
order_fault records left trees scenarios k =
    if_eq records 0 (if_eq k opening_kind 0 2)
    (if_lt 0 left (if_eq k effect_kind 0 2)
    (if_lt 0 trees (if_eq k branching_kind 0 (if_eq k outcome_kind 0 2))
    (if_eq k target_kind (if_eq scenarios 0 0 2)
    (if_eq k leak_kind 0 (if_eq k closing_kind 0 2)))))

-- 5, one too many; 3, a field outside its bounds; 4, a number that breaks its rule; in this order, kind by kind
unfoldable pub target_fault : ℕ → ℕ → Facts → ℕ
target_fault targets n f =
    if_le most_targets targets 5
    (if_lt most_class f.class 3
    (if_lt most_setting f.setting 3
    (if_lt most_volume f.volume 3
    (if_eq f.class people (if_eq n targets 0 4)
    (if_eq f.setting individual (if_eq n targets 0 4) 3)))))

unfoldable pub leak_fault : ℕ → ℕ → ℕ → ℕ → ℕ
leak_fault scenarios last n f =
    if_le most_scenarios scenarios 5
    (if_lt f least_frequency 3
    (if_lt most_frequency f 3
    (if_eq scenarios 0 0
    (if_lt last n 0 4))))

-- 02, request P3: 3 for a curve that there is not, and for rate 0
unfoldable pub chance_fault : Branching → ℕ
chance_fault (given p) = if_lt certain p 3 0
chance_fault (on_curve c r) = if_eq c 0 3 (if_lt most_curve c 3 (if_eq r 0 3 0))

unfoldable pub branching_fault : ℕ → Branching → ℕ
branching_fault above b = if_lt most_above above 5 (chance_fault b)

unfoldable pub outcome_fault : ℕ → ℕ → ℕ
outcome_fault k n =
    if_lt most_kind k 3
    (if_lt most_effects n 3
    (if_eq k no_effect (if_eq n 0 0 3) 0))

-- an effect names declared targets in strictly rising order
unfoldable pub naming_fault : ℕ → ℕ → ℕ → ℕ
naming_fault targets next t = if_lt t next 4 (if_lt t targets 0 4)

unfoldable pub effect_fault : ℕ → ℕ → ℕ → ℕ → ℕ → ℕ → ℕ
effect_fault targets kind next t i d =
    if_le kind fireball (if_eq d 0 3 (naming_fault targets next t))
    (if_eq d 0
    (if_eq kind flash_fire (if_le i 1 (naming_fault targets next t) 3) (naming_fault targets next t))
    3)

-- 02, request P6: 3 for a last byte that is no unit, before 4
unfoldable pub unit_fault : Effect → ℕ → ℕ
unit_fault (in_seconds t i d) n = n
unit_fault (timed t i d u) n = if_lt tenths_unit u 3 n

-- 6, closing count or sum differs; the count has the closing record in it
unfoldable pub closing_fault : ℕ → ℕ → ℕ → ℕ → ℕ
closing_fault records leaks n s = if_eq n (records + 1) (if_eq s leaks 0 6) 6

-- what is known before a record
pub record Context : Type 0 where
  -- records, targets, scenarios, the last scenario's number, the sum of the leaks
  pub counts : Counts
  -- for each tree still to come, the branchings above it, the next tree first
  pub trees : List ℕ
  -- effects still to come, their outcome's kind, the least target that the next may name
  pub left : ℕ
  pub kind : ℕ
  pub next : ℕ

unfoldable pub own_fault : Context → Record → ℕ
own_fault x (opening_rec n) = 0
own_fault x (target_rec n t) = target_fault x.counts.targets n (facts t)
own_fault x (leak_rec n f) = leak_fault x.counts.scenarios x.counts.last n f
own_fault x (branching_rec b) = branching_fault (get_or x.trees 0 0) b
own_fault x (outcome_rec k n) = outcome_fault k n
own_fault x (effect_rec e) = unit_fault e (effect_fault x.counts.targets x.kind x.next (target_of e) (intensity e) (duration e))
own_fault x (closing_rec n s) = closing_fault x.counts.records x.counts.leaks n s

-- "For a record with several faults: 1, 2, 5, 3, 4, 6." 1 is a kind byte's and comes before a record is read. 0 is no fault.
unfoldable pub fault : Context → Record → ℕ
fault x r =
    if_eq (order_fault x.counts.records x.left (length x.trees) x.counts.scenarios (role r)) 0
    (if_le most_records x.counts.records 5 (own_fault x r))
    2

abbrev pub context : Counts → List ℕ → ℕ → ℕ → ℕ → Context
context k trees left kind next = record { counts = k; trees = trees; left = left; kind = kind; next = next }

-- one record more; one that declares a target; one that is a leak
abbrev pub counted : Counts → Counts
counted k = record { records = k.records + 1; targets = k.targets; scenarios = k.scenarios; last = k.last; leaks = k.leaks }

abbrev pub declaring : Counts → Counts
declaring k = record { records = k.records + 1; targets = k.targets + 1; scenarios = k.scenarios; last = k.last; leaks = k.leaks }

abbrev pub leaking : Counts → ℕ → ℕ → Counts
leaking k n f = record { records = k.records + 1; targets = k.targets; scenarios = k.scenarios + 1; last = n; leaks = k.leaks + f }

-- both trees of a branching are still to come, under one branching more
abbrev pub branched : List ℕ → List ℕ
branched l = suc (get_or l 0 0) ∷ suc (get_or l 0 0) ∷ drop 1 l

-- what is known after a record
unfoldable pub context_after : Context → Record → Context
context_after x (opening_rec n) = context (counted x.counts) x.trees x.left x.kind x.next
context_after x (target_rec n t) = context (declaring x.counts) x.trees x.left x.kind x.next
context_after x (leak_rec n f) = context (leaking x.counts n f) (0 ∷ []) x.left x.kind x.next
context_after x (branching_rec b) = context (counted x.counts) (branched x.trees) x.left x.kind x.next
context_after x (outcome_rec k n) = context (counted x.counts) (drop 1 x.trees) n k 0
context_after x (effect_rec e) = context (counted x.counts) x.trees (x.left - 1) x.kind (target_of e + 1)
context_after x (closing_rec n s) = context (counted x.counts) x.trees x.left x.kind x.next

unfoldable pub context_after_all : Context → List Record → Context
context_after_all x [] = x
context_after_all x (r ∷ rs) = context_after_all (context_after x r) rs

-- before the first record
abbrev pub start_counts : Counts
start_counts = record { records = 0; targets = 0; scenarios = 0; last = 0; leaks = 0 }

abbrev pub start : Context
start = context start_counts [] 0 0 0
