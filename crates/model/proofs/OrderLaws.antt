-- The order allows a record exactly where some list of records in 01's order goes on with one of its kind. Assumes nothing.
use mathlib.Core.Path.{◌≡◌, refl, sym, ap}
use mathlib.Core.List.{List, [], ◌∷◌, ◌++◌, append_assoc}
use Prim.Native.Nat.{ℕ, ◌<◌}
use native.Mathlib.Decide.{ℕ_discrete}
use native.Mathlib.Omega.{arith}
use lib.ListN.{length, replicate, length-replicate, length-append}
use Rattle.state.specs.declared.Counts.{Counts}
use Rattle.model.specs.Sums.{join_over}
use Rattle.model.specs.Content.{in_seconds, Scenario}
use Rattle.model.specs.Format.{Record, opening_rec, closing_rec, effect_records, tree_records, scenario_records}
use Rattle.model.specs.Faults.{Context, context, counted, start_counts, start, role, context_after, context_after_all}
use Rattle.model.specs.Verdict.{some_tree}
use Rattle.model.specs.MachineTheorems.{Numbered, InOrder, Allowed, AllAllowed, Continued, OrderIsTheFormats}
use Rattle.model.proofs.FaultLaws.{closing_order}
use Rattle.model.proofs.ContextLaws.{begun, advanced, extended, next_after, kind_at_end, next_at_end, numbered_record, after_append, record_counted, after_effects_lem, after_tree, after_scenarios, after_numbered}
use Rattle.model.proofs.AcceptLaws.{allowed_append}
use Rattle.model.proofs.Shape.{effects_allowed, tree_allowed, opening_allowed, Opened, opened}

-- records that finish what has begun, up to a closing record
pub record Ending (x : Context) : Type 0 where
  pub rest : List Record
  pub allowed : AllAllowed x rest
  pub closed : (n s : ℕ) → Allowed (context_after_all x rest) (closing_rec n s)

-- a tree in front of an ending
tree_ending : (k : Counts) (above : ℕ) (rest : List ℕ) (kind next : ℕ) → 0 < k.records
    → Ending (context (advanced k (length (tree_records some_tree))) rest 0 (kind_at_end some_tree) (next_at_end some_tree))
    → Ending (context k (above ∷ rest) 0 kind next)
tree_ending k above rest kind next h w =
    let x = context k (above ∷ rest) 0 kind next in
    let e = after_tree some_tree k above rest kind next in
    record {
      rest = tree_records some_tree ++ w.rest;
      allowed = allowed_append x (tree_records some_tree) w.rest (tree_allowed some_tree k above rest kind next h) (rw e w.allowed);
      closed = λ n s. rw (after_append x (tree_records some_tree) w.rest, e) (w.closed n s);
    }

trees_ending : (trees : List ℕ) (k : Counts) (kind next : ℕ) → 0 < k.records → Ending (context k trees 0 kind next)
unfolding AllAllowed context_after_all
trees_ending [] k kind next h = record { rest = []; allowed = tt; closed = λ n s. closing_order _ _ _ _ h refl refl }
trees_ending (above ∷ trees) k kind next h =
    tree_ending k above trees kind next h
    (trees_ending trees (advanced k (length (tree_records some_tree))) (kind_at_end some_tree) (next_at_end some_tree) (omega arith))

pub ending : (x : Context) → 0 < x.counts.records → Ending x
ending x h =
    let es = replicate x.left (in_seconds 0 0 0) in
    let i = sym (length-replicate x.left (in_seconds 0 0 0)) in
    let e = after_effects_lem es x.counts x.trees x.left x.kind x.next i in
    let w = trees_ending x.trees (advanced x.counts (length es)) x.kind (next_after x.next es) (omega arith) in
    record {
      rest = effect_records es ++ w.rest;
      allowed = allowed_append x (effect_records es) w.rest (effects_allowed es x.counts x.trees x.left x.kind x.next h i) (rw e w.allowed);
      closed = λ n s. rw (after_append x (effect_records es) w.rest, e) (w.closed n s);
    }

in_order : (rs : List Record) (n s : ℕ) → Opened rs → InOrder (rs ++ (closing_rec n s ∷ []))
in_order rs n s w =
    record {
      study = w.study;
      targets = w.targets;
      scenarios = w.scenarios;
      count = n;
      sum = s;
      same = ap (λ (l : List Record). l ++ (closing_rec n s ∷ [])) w.same;
    }

-- an allowed record, and the records that finish after it
continued_by : (rs : List Record) (r : Record) → AllAllowed start rs → Allowed (context_after_all start rs) r → (role r ≡ 7 → ⊥) → Continued rs (role r)
unfolding AllAllowed context_after_all
continued_by rs r a h i =
    let x = context_after_all start rs in
    let k = record_counted x r in
    let w = ending (context_after x r) (omega arith) in
    let all : AllAllowed start (rs ++ (r ∷ w.rest)) = allowed_append start rs (r ∷ w.rest) a (h, i, w.allowed) in
    let c : Allowed (context_after_all start (rs ++ (r ∷ w.rest))) (closing_rec 0 0) = rw (after_append start rs (r ∷ w.rest)) (w.closed 0 0) in
    let o = in_order (rs ++ (r ∷ w.rest)) 0 0 (opened (rs ++ (r ∷ w.rest)) 0 0 all c) in
    record {
      next = r;
      kind = refl;
      rest = w.rest ++ (closing_rec 0 0 ∷ []);
      order = rw append_assoc at o;
    }

closed_by : (rs : List Record) (r : Record) → AllAllowed start rs → Allowed (context_after_all start rs) r → role r ≡ 7 → Continued rs (role r)
closed_by rs r a h i =
    let c : Allowed (context_after_all start rs) (closing_rec 0 0) = rw i at h in
    record { next = closing_rec 0 0; kind = sym i; rest = []; order = in_order rs 0 0 (opened rs 0 0 a c) }

-- a front part of records that are allowed up to the last is allowed, and so is the record after it
front_allowed : (x : Context) (rs : List Record) (r : Record) (rest o : List Record) (c : Record) → rs ++ (r ∷ rest) ≡ o ++ (c ∷ [])
    → AllAllowed x o → Allowed (context_after_all x o) c → AllAllowed x rs × Allowed (context_after_all x rs) r
unfolding AllAllowed context_after_all
front_allowed x [] r rest [] c e a h = let q : r ≡ c = cc in (tt, rw q h)
front_allowed x [] r rest (p ∷ o) c e a h = let q : r ≡ p = cc in (tt, rw q a.0)
front_allowed x (u ∷ rs) r rest [] c e a h =
    let n = length-append rs (r ∷ rest) in
    let m = ap length e in
    absurd (omega arith)
front_allowed x (u ∷ rs) r rest (p ∷ o) c e a h =
    let q : p ≡ u = cc in
    let t : rs ++ (r ∷ rest) ≡ o ++ (c ∷ []) = cc in
    let b : AllAllowed (context_after x u) o = rw q at a.2 in
    let g : Allowed (context_after_all (context_after x u) o) c = rw q at h in
    let w = front_allowed (context_after x u) rs r rest o c t b g in
    ((rw q at a.0, rw q at a.1, w.0), w.1)

-- the closing record is allowed after an opening, targets and scenarios
closing_allowed : (study : ℕ) (ts : List Numbered) (ss : List Scenario) (n s : ℕ)
    → Allowed (context_after_all start (opening_rec study ∷ join_over numbered_record ts ++ join_over scenario_records ss)) (closing_rec n s)
unfolding context_after_all context_after
closing_allowed study ts ss n s =
    rw (after_append begun (join_over numbered_record ts) (join_over scenario_records ss), after_numbered ts (counted start_counts) 0 0, after_scenarios ss (extended (counted start_counts) (length ts)) 0 0)
    (closing_order _ _ _ _ (omega arith) refl refl)

order_front : (rs : List Record) (r : Record) → Continued rs (role r) → AllAllowed start rs × Allowed (context_after_all start rs) r
order_front rs r w =
    let o = w.order in
    let f = front_allowed start rs w.next w.rest (opening_rec o.study ∷ join_over numbered_record o.targets ++ join_over scenario_records o.scenarios) (closing_rec o.count o.sum)
    o.same (opening_allowed o.study o.targets o.scenarios) (closing_allowed o.study o.targets o.scenarios o.count o.sum) in
    (f.0, rw w.kind at f.1)

pub order_is_the_formats : OrderIsTheFormats
order_is_the_formats rs r = (λ h. go (ℕ_discrete (role r) 7) h.0 h.1, order_front rs r)
  where
    go : Dec (role r ≡ 7) → AllAllowed start rs → Allowed (context_after_all start rs) r → Continued rs (role r)
    go (yes e) a h = closed_by rs r a h e
    go (no e) a h = continued_by rs r a h e
