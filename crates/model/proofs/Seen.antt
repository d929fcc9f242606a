-- The machine holds each outcome of the meaning, in order, with the meaning's figures. Assumes nothing.
use mathlib.Core.Path.{◌≡◌, refl, sym, ◌∙◌, ap, ap₂}
use mathlib.Core.List.{List, [], ◌∷◌, ◌++◌, append_assoc, append-nil, map, map-append}
use Prim.Native.Nat.{ℕ, suc, ◌-◌, ◌*◌, ◌^◌, ◌≤◌}
use native.Mathlib.Omega.{arith}
use lib.ListN.{length}
use Rattle.numeric.specs.Choice.{if_eq}
use Rattle.numeric.specs.Share.{certain, split_of}
use Rattle.model.specs.Bounds.{most_above, most_frequency}
use Rattle.model.specs.Sums.{join_over}
use Rattle.model.specs.Content.{chance, Target, Effect, Tree, outcome, branching, Scenario}
use Rattle.model.specs.Format.{Record, opening_rec, leak_rec, target_rec, branching_rec, outcome_rec, effect_rec, closing_rec, encode, target_records, effect_records, tree_records, scenario_records, open_records, count_of, leaks_of, records_of}
use Rattle.model.specs.Faults.{Context, start, role, fault, context_after}
use Rattle.model.specs.Valid.{Each, ValidTree, ValidScenario}
use Rattle.model.specs.Outcomes.{first_weight, second_weight, tree_outcomes, scenario_outcomes, outcomes_of}
use Rattle.model.specs.Machine.{State, accepted, record_read, cleared, read_all, fresh}
use Rattle.model.specs.MachineTheorems.{Seen, seen_at, seen_in, seen_of, OutcomesAreTheMeanings, seen_in_bytes, OutcomesInBytes}
use Rattle.model.proofs.RunData.{Data, data_of, after, run, data_accepted}
use Rattle.model.proofs.StackRuns.{Ready, AtHand, run_size, leak_ready, outcome_at_hand, branches}
use Rattle.model.proofs.Runs.{opened_size}
use Rattle.model.proofs.ListLaws.{each_parts}
use Rattle.model.proofs.Accepts.{Accepts, Fits}
use Rattle.model.proofs.CodecLaws.{encode_whole, decode_encode}
use Rattle.model.proofs.ReadLaws.{partial, after_record, read_append}
use Rattle.model.proofs.Agreement.{Here, data_read, here_more, here_fresh, whole_few, read_record, record_taken}
use Rattle.model.proofs.Complete.{content_accepted}

-- the same over the data alone
noted : Data → Record → List Seen
noted d r = if_eq (role r) 5 (seen_at (after d r).branch ∷ []) []

seen_from : Data → List Record → List Seen
seen_from d [] = []
seen_from d (r ∷ rs) = noted d r ++ seen_from (after d r) rs

seen_data : (s : State) (rs : List Record) → seen_in s rs ≡ seen_from (data_of s) rs
unfolding seen_in seen_from noted
seen_data s [] = refl
seen_data s (r ∷ rs) =
    ap (λ (l : List Seen). if_eq (role r) 5 (seen_at (accepted s r).core.branch ∷ []) [] ++ l) (seen_data (accepted s r) rs)
    ∙ ap (λ (d : Data). if_eq (role r) 5 (seen_at d.branch ∷ []) [] ++ seen_from d rs) (data_accepted s r)

seen_append : (d : Data) (a b : List Record) → seen_from d (a ++ b) ≡ seen_from d a ++ seen_from (run d a) b
unfolding seen_from run
seen_append d [] b = refl
seen_append d (r ∷ a) b =
    ap (λ (l : List Seen). noted d r ++ l) (seen_append (after d r) a b)
    ∙ sym (append_assoc (noted d r) (seen_from (after d r) a) (seen_from (run (after d r) a) b))

-- no effect and no target is an outcome
effects_seen : (es : List Effect) (d : Data) → seen_from d (effect_records es) ≡ []
unfolding seen_from noted effect_records if_eq
effects_seen [] d = refl
effects_seen (e ∷ es) d = effects_seen es (after d (effect_rec e))

targets_seen : (ts : List Target) (n : ℕ) (d : Data) → seen_from d (target_records n ts) ≡ []
unfolding seen_from noted target_records if_eq
targets_seen [] n d = refl
targets_seen (t ∷ ts) n d = targets_seen ts (suc n) (after d (target_rec n t))

-- the outcome at hand is the meaning's
at_hand_seen : (d : Data) (h leak kind f a : ℕ) → AtHand d h leak kind f a
    → seen_at d.branch ≡ record { kind = kind; leak = leak; frequency = f; above = a }
at_hand_seen d h leak kind f a r = λ i. record { kind = r.kind i; leak = r.leak i; frequency = r.frequency i; above = r.above i }

tree_seen : (t : Tree) (d : Data) (h leak f w : ℕ) (path : List ℕ) (targets : ℕ) → ValidTree targets (length path) t → h ≤ length path
    → length path ≤ suc most_above → f ≤ most_frequency → Ready d h leak f (length path)
    → seen_from d (tree_records t) ≡ map seen_of (tree_outcomes leak f w path t)
unfolding seen_from noted tree_records tree_outcomes ValidTree if_eq
tree_seen (outcome k es) d h leak f w path targets v low shallow small r =
    ap₂ ◌∷◌
    (at_hand_seen _ h leak k f (length path) (outcome_at_hand d h leak f (length path) r low k (length es) shallow))
    (effects_seen es (after d (outcome_rec k (length es))))
tree_seen (branching b l m) d h leak f w path targets v low shallow small r =
    let p : ℕ = chance b in
    let a : ℕ = length path in
    let d₀ : Data = after d (branching_rec b) in
    let d₁ : Data = run d₀ (tree_records l) in
    let g : a ≤ most_above = v.0 in
    let t = branches b l m d h leak f a targets v low small r in
    seen_append d₀ (tree_records l) (tree_records m)
    ∙ ap₂ ◌++◌
    (tree_seen l d₀ (suc h) leak (split_of f p).first (first_weight w p) (p ∷ path) targets v.2 (omega arith) (omega arith) t.first_small t.first)
    (tree_seen m d₁ h leak (split_of f p).second (second_weight w p) ((certain - p) ∷ path) targets v.3 (omega arith) (omega arith) t.second_small t.second)
    ∙ sym (map-append seen_of (tree_outcomes leak (split_of f p).first (first_weight w p) (p ∷ path) l) _)

scenario_seen : (x : Scenario) (d : Data) (targets : ℕ) → ValidScenario targets x → length d.stack ≡ 9
    → seen_from d (scenario_records x) ≡ map seen_of (scenario_outcomes x)
unfolding seen_from noted scenario_records scenario_outcomes if_eq
scenario_seen x d targets v size =
    tree_seen x.tree (after d (leak_rec x.number x.frequency)) 0 x.frequency x.frequency (x.frequency * 10 ^ 48) [] targets
    v.tree (omega arith) (omega arith) v.most (leak_ready d x.number x.frequency size v.most)

scenarios_seen : (xs : List Scenario) (d : Data) (targets : ℕ) → Each (ValidScenario targets) xs → length d.stack ≡ 9
    → seen_from d (join_over scenario_records xs) ≡ map seen_of (join_over scenario_outcomes xs)
unfolding seen_from join_over
scenarios_seen [] d targets v size = refl
scenarios_seen (x ∷ xs) d targets v size =
    seen_append d (scenario_records x) (join_over scenario_records xs)
    ∙ ap₂ ◌++◌ (scenario_seen x d targets v.0 size)
    (scenarios_seen xs (run d (scenario_records x)) targets v.1 (run_size d (scenario_records x) ∙ size))
    ∙ sym (map-append seen_of (scenario_outcomes x) (join_over scenario_outcomes xs))

pub outcomes_are_the_meanings : OutcomesAreTheMeanings
unfolding seen_from noted open_records outcomes_of if_eq
outcomes_are_the_meanings c v =
    let d : Data = after (data_of fresh) (opening_rec c.number) in
    let ts : List Record = target_records 0 c.targets in
    seen_data fresh (open_records c)
    ∙ seen_append d ts (join_over scenario_records c.scenarios)
    ∙ ap₂ ◌++◌ (targets_seen c.targets 0 d)
    (scenarios_seen c.scenarios (run d ts) (length c.targets) v.scenarios (run_size d ts ∙ opened_size c))

-- ---- the same by bytes

-- the bytes of a record without fault are read
read_encoded : (s : State) (x : Context) (rs : List Record) (r : Record) → Here s x rs → fault x r ≡ 0 → Fits r
    → read_all s (encode r) ≡ after_record s (encode r) r
unfolding read_all
read_encoded s x rs r h e f =
    ap (read_all s) (sym (append-nil (encode r)))
    ∙ read_record s x (encode r) [] h.follows (encode_whole r)
    ∙ ap (λ (q : Record). cleared (record_read (partial s (encode r)) q)) (decode_encode r f)
    ∙ ap cleared (record_taken s x (encode r) r h.follows e)

-- the records before a closing one
seen_bytes : (rs : List Record) (n t : ℕ) (before : List ℕ) (s : State) (x : Context) (done : List Record) → read_all fresh before ≡ s → Here s x done
    → Accepts x rs → Each Fits rs → seen_in_bytes before (rs ++ (closing_rec n t ∷ [])) ≡ seen_from (data_of s) rs
unfolding seen_in_bytes seen_from noted Accepts if_eq
seen_bytes [] n t before s x done e h a f = refl
seen_bytes (r ∷ rs) n t before s x done e h a f =
    let b : List ℕ = encode r in
    let q : read_all fresh (before ++ b) ≡ after_record s b r =
    read_append fresh before b ∙ ap (λ (v : State). read_all v b) e ∙ read_encoded s x done r h a.0 f.0 in
    ap₂ (λ (v : State) (l : List Seen). if_eq (role r) 5 (seen_at v.core.branch ∷ []) [] ++ l) q
    (seen_bytes rs n t (before ++ b) (after_record s b r) (context_after x r) (done ++ (r ∷ [])) q
    (here_more s x done b r h (whole_few b (encode_whole r)) a.0 a.1 f.0) a.2 f.1)
    ∙ ap (λ (d : Data). if_eq (role r) 5 (seen_at d.branch ∷ []) [] ++ seen_from d rs) (data_read s b r)

pub outcomes_in_bytes : OutcomesInBytes
unfolding records_of read_all
outcomes_in_bytes c v =
    let a = content_accepted c v in
    seen_bytes (open_records c) (count_of c) (leaks_of c) [] fresh start [] refl here_fresh a.accepts
    (each_parts Fits (open_records c) (closing_rec (count_of c) (leaks_of c) ∷ []) a.fits).0
    ∙ sym (seen_data fresh (open_records c))
    ∙ outcomes_are_the_meanings c v
