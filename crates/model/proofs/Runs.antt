-- What the machine has added up after the records of a valid content is what the meaning says. Assumes nothing.
use mathlib.Core.Path.{◌≡◌, refl, sym, ◌∙◌, ap, subst}
use mathlib.Core.List.{List, [], ◌∷◌, ◌++◌, append-nil, append_assoc}
use Prim.Native.Nat.{ℕ, zero, suc, ◌+◌, ◌-◌, ◌*◌, ◌^◌, ◌<◌, ◌≤◌, min}
use native.Mathlib.Nat.{zero-add, le_trans, add-zero, add_assoc, not-suc-le-zero}
use native.Mathlib.Omega.{arith}
use lib.ListN.{length, get_or, replicate, length-append, length-replicate}
use lib.Seq.{get_or_at}
use Rattle.numeric.specs.Share.{certain, split_of}
use Rattle.numeric.proofs.ChoiceLaws.{pick_both}
use Rattle.model.specs.Bounds.{most_scenarios, most_above, most_frequency}
use Rattle.model.specs.Sums.{sum_over, join_over}
use Rattle.model.specs.Content.{Branching, chance, Target, facts as facts_of, Effect, target_of, Tree, outcome, branching, Scenario, Content}
use Rattle.model.specs.Format.{opening_rec, target_rec, leak_rec, branching_rec, outcome_rec, effect_rec, target_records, effect_records, tree_records, scenario_records, leaks_of, open_records, count_of}
use Rattle.model.specs.Valid.{Each, ValidTarget, ValidEffect, ValidTree, ValidScenario, Valid}
use Rattle.model.specs.Outcomes.{Outcome, first_weight, second_weight, tree_outcomes, scenario_outcomes, outcomes_of}
use Rattle.model.specs.Report.{target_at, judgement, over_effects, kind_total, unjudged_of, sum_at, margin_at, listed_at}
use Rattle.model.specs.Machine.{fetch, most32, most64, accepted, effect_state, row_after, one_record, one_target, one_leak, unpacked_facts, mark_of, study_tally, frequency_of, top, outcome_branch, fresh}
use Rattle.model.proofs.Totals.{kinds_add_up}
use Rattle.model.proofs.SumBounds.{sum_le_leaks, leaks_le, effects_le, over_most, margin_le}
use Rattle.model.proofs.StackLaws.{fetched}
use Rattle.model.proofs.RunData.{Data, data_of, after, run, run_append, run_records}
use Rattle.model.proofs.StackRuns.{Ready, AtHand, run_size, leak_ready, outcome_at_hand, effect_at_hand, branches}
use Rattle.model.proofs.PartFigures.{unjudged_by, up_to_now}
use Rattle.model.proofs.RowSteps.{TallyIs, RowsAre, target_rows, outcome_tally_lem, outcome_rows, effect_tally_lem, effect_rows}

-- n targets are declared, the leaks add up to a sum, and the figures are those of some outcomes
record Holds (c : Content) (n sum : ℕ) (os : List Outcome) (d : Data) : Type 0 where
  targets : d.counts.targets ≡ n
  leaks : d.counts.leaks ≡ min sum most64
  tally : TallyIs c os d.tally
  rows : RowsAre c n os d.sums d.margins d.facts

module _ (c : Content) (n sum : ℕ) where
  module _ (kind leak f w : ℕ) (path : List ℕ) (os : List Outcome) where
    -- the list of outcomes with some effects of the last
    abbrev now : List Effect → List Outcome
    now = up_to_now kind leak f w path os

    -- an outcome
    outcome_step : (d : Data) (k h : ℕ) → h ≤ length path → length path ≤ suc most_above → Ready d h leak f (length path) → Holds c n sum os d
        → Holds c n sum (now []) (after d (outcome_rec kind k))
    unfolding after accepted one_record outcome_branch
    outcome_step d k h low shallow r s =
        let e : frequency_of (top d.stack d.branch.height) ≡ f =
        (outcome_at_hand d h leak f (length path) r low kind k shallow).frequency in
        record {
          targets = s.targets;
          leaks = s.leaks;
          tally = rw e (outcome_tally_lem c kind leak f w path os d.tally s.tally);
          rows = outcome_rows c kind leak f w path os n d.sums d.margins d.facts s.rows;
        }

    -- an effect
    effect_step : (done : List Effect) (e : Effect) (d : Data) (h : ℕ) → n ≤ 256 → target_of e < n → AtHand d h leak kind f (length path)
        → Holds c n sum (now done) d → Holds c n sum (now (done ++ (e ∷ []))) (after d (effect_rec e))
    unfolding after accepted effect_state one_record row_after
    effect_step done e d h few declared a s =
        let k = s.rows.known (target_of e) declared in
        let g : fetch 256 d.facts (target_of e) ≡ get_or d.facts (target_of e) 0 = fetched 256 d.facts (target_of e) (omega arith) in
        record {
          targets = s.targets;
          leaks = s.leaks;
          tally = rw (a.kind, g, k) (effect_tally_lem c kind leak f w path os done e d.tally s.tally);
          rows =
              rw (a.kind, a.frequency, a.above, a.leak, g, k)
              (effect_rows c kind leak f w path os done e n d.sums d.margins d.facts s.rows declared few);
        }

    effects_run : (es done : List Effect) (d : Data) (h : ℕ) → n ≤ 256 → Each (ValidEffect kind n) es → AtHand d h leak kind f (length path)
        → Holds c n sum (now done) d → Holds c n sum (now (done ++ es)) (run d (effect_records es))
    unfolding run effect_records
    effects_run [] done d h few v a s = rw (append-nil done) s
    effects_run (e ∷ es) done d h few v a s =
        rw (← append_assoc done (e ∷ []) es)
        (effects_run es (done ++ (e ∷ [])) (after d (effect_rec e)) h few v.1
        (effect_at_hand d e h leak kind f (length path) a) (effect_step done e d h few v.0.declared a s))

  -- a branching
  branching_step : (b : Branching) (os : List Outcome) (d : Data) → Holds c n sum os d → Holds c n sum os (after d (branching_rec b))
  unfolding after accepted one_record
  branching_step b os d s = record { targets = s.targets; leaks = s.leaks; tally = s.tally; rows = s.rows }

  -- the records of a tree
  tree_run : (t : Tree) (os : List Outcome) (d : Data) (h leak f w : ℕ) (path : List ℕ) → n ≤ 256 → ValidTree n (length path) t
      → h ≤ length path → length path ≤ suc most_above → f ≤ most_frequency → Ready d h leak f (length path)
      → Holds c n sum os d → Holds c n sum (os ++ tree_outcomes leak f w path t) (run d (tree_records t))
  unfolding run tree_records tree_outcomes ValidTree
  tree_run (outcome k es) os d h leak f w path few v low shallow small r s =
      effects_run k leak f w path os es [] (after d (outcome_rec k (length es))) h few v.effects
      (outcome_at_hand d h leak f (length path) r low k (length es) shallow)
      (outcome_step k leak f w path os d (length es) h low shallow r s)
  tree_run (branching b l m) os d h leak f w path few v low shallow small r s =
      let p : ℕ = chance b in
      let a : ℕ = length path in
      let d₀ : Data = after d (branching_rec b) in
      let d₁ : Data = run d₀ (tree_records l) in
      let g : a ≤ most_above = v.0 in
      let t = branches b l m d h leak f a n v low small r in
      let one =
      tree_run l os d₀ (suc h) leak (split_of f p).first (first_weight w p) (p ∷ path) few v.2 (omega arith) (omega arith) t.first_small t.first
      (branching_step b os d s) in
      rw (run_append d₀ (tree_records l) (tree_records m))
      (subst (λ (x : List Outcome). Holds c n sum x (run d₁ (tree_records m))) (append_assoc os (tree_outcomes leak (split_of f p).first (first_weight w p) (p ∷ path) l) _)
      (tree_run m _ d₁ h leak (split_of f p).second (second_weight w p) ((certain - p) ∷ path) few v.3 (omega arith) (omega arith) t.second_small
      t.second one))

-- a leak
leak_step : (c : Content) (n sum k f : ℕ) (os : List Outcome) (d : Data) → Holds c n sum os d → Holds c n (sum + f) os (after d (leak_rec k f))
unfolding after accepted one_leak
leak_step c n sum k f os d s =
    let e = s.leaks in
    record { targets = s.targets; leaks = omega arith; tally = s.tally; rows = s.rows }

-- the records of a scenario, and of scenarios
scenario_run : (c : Content) (n sum : ℕ) (x : Scenario) (os : List Outcome) (d : Data) → n ≤ 256 → ValidScenario n x → length d.stack ≡ 9 → Holds c n sum os d
    → Holds c n (sum + x.frequency) (os ++ scenario_outcomes x) (run d (scenario_records x))
unfolding run scenario_records scenario_outcomes
scenario_run c n sum x os d few v size s =
    tree_run c n (sum + x.frequency) x.tree os (after d (leak_rec x.number x.frequency)) 0 x.frequency x.frequency (x.frequency * 10 ^ 48) []
    few v.tree (omega arith) (omega arith) v.most (leak_ready d x.number x.frequency size v.most)
    (leak_step c n sum x.number x.frequency os d s)

scenarios_run : (c : Content) (n sum : ℕ) (xs : List Scenario) (os : List Outcome) (d : Data) → n ≤ 256 → Each (ValidScenario n) xs → length d.stack ≡ 9
    → Holds c n sum os d
    → Holds c n (sum + sum_over (λ x. x.frequency) xs) (os ++ join_over scenario_outcomes xs) (run d (join_over scenario_records xs))
unfolding run join_over sum_over
scenarios_run c n sum [] os d few v size s = rw (append-nil os, add-zero sum) s
scenarios_run c n sum (x ∷ xs) os d few v size s =
    rw (
      run_append d (scenario_records x) (join_over scenario_records xs),
      ← append_assoc os (scenario_outcomes x) (join_over scenario_outcomes xs),
      ← add_assoc sum x.frequency (sum_over (λ x. x.frequency) xs),
    )
    (scenarios_run c n (sum + x.frequency) xs (os ++ scenario_outcomes x) (run d (scenario_records x)) few v.1 (run_size d (scenario_records x) ∙ size)
    (scenario_run c n sum x os d few v.0 size s))

-- a target, and the records of targets
target_step : (c : Content) (n : ℕ) (t : Target) (d : Data) → n < 256 → ValidTarget t → target_at c n ≡ t → Holds c n 0 [] d
    → Holds c (suc n) 0 [] (after d (target_rec n t))
unfolding after accepted one_target
target_step c n t d small v e s =
    let k = s.targets in
    record {
      targets = omega arith;
      leaks = s.leaks;
      tally = s.tally;
      rows = rw s.targets (target_rows c n d.sums d.margins d.facts small s.rows t v e);
    }

targets_run : (c : Content) (ts done : List Target) (n : ℕ) (d : Data) → c.targets ≡ done ++ ts → length done ≡ n → length c.targets ≤ 256
    → Each ValidTarget ts → Holds c n 0 [] d → Holds c (length c.targets) 0 [] (run d (target_records n ts))
unfolding run target_records
targets_run c [] done n d e k few v s =
    let l : length c.targets ≡ n = ap length (e ∙ append-nil done) ∙ k in rw l s
targets_run c (t ∷ ts) done n d e k few v s =
    let l : length c.targets ≡ length done + suc (length ts) = ap length e ∙ length-append done (t ∷ ts) in
    let i : length (done ++ (t ∷ [])) ≡ suc n = length-append done (t ∷ []) ∙ omega arith in
    targets_run c ts (done ++ (t ∷ [])) (suc n) (after d (target_rec n t)) (e ∙ sym (append_assoc done (t ∷ []) ts)) i few v.1
    (target_step c n t d (omega arith) v.0 (rw e (get_or_at done t ts _ n k)) s)

-- the opening record
zeros : (n i : ℕ) → get_or {A = ℕ} (replicate n 0) i 0 ≡ 0
zeros zero i = refl
zeros (suc n) zero = refl
zeros (suc n) (suc i) = zeros n i

opened : (c : Content) → Holds c 0 0 [] (after (data_of fresh) (opening_rec c.number))
unfolding after accepted one_record study_tally fresh sum_over over_effects
opened c =
    record {
      targets = refl;
      leaks = refl;
      tally = record { study = refl; kind0 = refl; kind1 = refl; kind2 = refl; kind3 = refl; kind4 = refl; kind5 = refl; unjudged = refl };
      rows = record {
        sums_length = length-replicate {A = ℕ} 256 0;
        margins_length = length-replicate {A = ℕ} 256 0;
        facts_length = length-replicate {A = ℕ} 256 0;
        sum = λ t. zeros 256 t;
        margin = λ t. zeros 256 t;
        known = λ t h. absurd (not-suc-le-zero h);
        mark = λ t h. absurd (not-suc-le-zero h);
      };
    }

pub opened_size : (c : Content) → length (after (data_of fresh) (opening_rec c.number)).stack ≡ 9
unfolding after accepted fresh
opened_size c = refl

content_run : (c : Content) → Valid c → Holds c (length c.targets) (leaks_of c) (outcomes_of c) (run (data_of fresh) (open_records c))
unfolding run open_records leaks_of outcomes_of
content_run c v =
    rw (run_append (after (data_of fresh) (opening_rec c.number)) (target_records 0 c.targets) (join_over scenario_records c.scenarios))
    (rw (zero-add (sum_over (λ x. x.frequency) c.scenarios)) at
    (scenarios_run c (length c.targets) 0 c.scenarios [] _ v.few_targets v.scenarios
    (run_size (after (data_of fresh) (opening_rec c.number)) (target_records 0 c.targets) ∙ opened_size c)
    (targets_run c c.targets [] 0 (after (data_of fresh) (opening_rec c.number)) refl refl v.few_targets v.targets (opened c))))

-- there are at most as many unjudged effects as records
pub unjudged_le : (c : Content) → unjudged_of c ≤ count_of c
unfolding unjudged_of
unjudged_le c =
    le_trans
    (over_most (unjudged_by c) 1 (outcomes_of c) (λ o m e. pick_both (λ (n : ℕ). n ≤ 1) (judgement c o e).judged 0 1 (omega arith) (omega arith)))
    (let k = effects_le c in omega arith)

-- the figures of a target are those of the meaning
pub record RowIs (c : Content) (d : Data) (t : ℕ) : Type 0 where
  pub sum : get_or d.sums t 0 ≡ sum_at c t
  pub margin : get_or d.margins t 0 ≡ margin_at c t
  pub known : unpacked_facts (get_or d.facts t 0) ≡ facts_of (target_at c t)
  pub mark : mark_of (get_or d.facts t 0) ≡ listed_at c t

-- what the machine has added up is what the meaning says; the closing record is one record more
pub record Reported (c : Content) (d : Data) : Type 0 where
  pub records : d.counts.records + 1 ≡ count_of c
  pub targets : d.counts.targets ≡ length c.targets
  pub leaks : d.counts.leaks ≡ leaks_of c
  pub study : d.tally.study ≡ c.number
  pub kind0 : d.tally.kind0 ≡ kind_total c 0
  pub kind1 : d.tally.kind1 ≡ kind_total c 1
  pub kind2 : d.tally.kind2 ≡ kind_total c 2
  pub kind3 : d.tally.kind3 ≡ kind_total c 3
  pub kind4 : d.tally.kind4 ≡ kind_total c 4
  pub kind5 : d.tally.kind5 ≡ kind_total c 5
  pub unjudged : d.tally.unjudged ≡ unjudged_of c
  pub row : (t : ℕ) → t < length c.targets → RowIs c d t

-- no sum reaches the greatest number
within : (x total most : ℕ) → x ≡ min total most → total ≤ most → x ≡ total
within x total most e h = omega arith

row_run : (c : Content) → Valid c → (d : Data) → RowsAre c (length c.targets) (outcomes_of c) d.sums d.margins d.facts
    → (t : ℕ) → t < length c.targets → RowIs c d t
unfolding sum_at margin_at listed_at
row_run c v d r t h =
    let a : sum_at c t ≤ leaks_of c = sum_le_leaks c v t in
    let b : leaks_of c ≤ most_scenarios * most_frequency = leaks_le c v in
    let m : margin_at c t ≤ 9000000 = margin_le c v t in
    record {
      sum = within (get_or d.sums t 0) (sum_at c t) most64 (r.sum t) (omega arith);
      margin = within (get_or d.margins t 0) (margin_at c t) most32 (r.margin t) (omega arith);
      known = r.known t h;
      mark = r.mark t h;
    }

fresh_records : (data_of fresh).counts.records ≡ 0
unfolding fresh
fresh_records = refl

pub run_content : (c : Content) → Valid c → Reported c (run (data_of fresh) (open_records c))
unfolding kind_total unjudged_of count_of
run_content c v =
    let d : Data = run (data_of fresh) (open_records c) in
    let s = content_run c v in
    let y = s.tally in
    let b : leaks_of c ≤ most_scenarios * most_frequency = leaks_le c v in
    let k = kinds_add_up c v in
    let u = unjudged_le c in
    let m = v.few_records in
    let n : d.counts.records ≡ min (0 + length (open_records c)) most32 = run_records (data_of fresh) (open_records c) 0 fresh_records in
    record {
      records = omega arith;
      targets = s.targets;
      leaks = within d.counts.leaks (leaks_of c) most64 s.leaks (omega arith);
      study = y.study;
      kind0 = within d.tally.kind0 (kind_total c 0) most64 y.kind0 (omega arith);
      kind1 = within d.tally.kind1 (kind_total c 1) most64 y.kind1 (omega arith);
      kind2 = within d.tally.kind2 (kind_total c 2) most64 y.kind2 (omega arith);
      kind3 = within d.tally.kind3 (kind_total c 3) most64 y.kind3 (omega arith);
      kind4 = within d.tally.kind4 (kind_total c 4) most64 y.kind4 (omega arith);
      kind5 = within d.tally.kind5 (kind_total c 5) most64 y.kind5 (omega arith);
      unjudged = within d.tally.unjudged (unjudged_of c) most32 y.unjudged (omega arith);
      row = row_run c v d s.rows;
    }
