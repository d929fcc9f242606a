-- A study is closed exactly when its bytes begin with those of a valid content, and then its reports are the content's. Assumes nothing.
use mathlib.Core.Path.{◌≡◌, refl, sym, ◌∙◌, ap, ap₂, subst}
use mathlib.Core.Bool.{Bool}
use mathlib.Core.List.{List, [], ◌∷◌, ◌++◌}
use Prim.Native.Nat.{ℕ, zero, suc, ◌+◌, ◌/◌, ◌%◌, ◌<◌, min}
use native.Mathlib.Decide.{dec_lt}
use native.Mathlib.Omega.{arith}
use lib.ListN.{length, get_or}
use Rattle.numeric.specs.Choice.{pick, if_lt}
use Rattle.numeric.proofs.ChoiceLaws.{eq_case, ne_case, lt_case, ge_case}
use Rattle.terms.specs.declared.Target.{Target as Facts}
use Rattle.state.specs.declared.Counts.{Counts}
use Rattle.state.specs.declared.Tally.{Tally}
use Rattle.state.specs.declared.Core.{Core}
use Rattle.state.specs.declared.Row.{Row}
use Rattle.model.specs.Content.{facts, Content}
use Rattle.model.specs.Sums.{numbers_below}
use Rattle.model.specs.Format.{closing_rec, open_records, count_of, leaks_of}
use Rattle.model.specs.Valid.{Valid}
use Rattle.model.specs.Report.{target_at, kind_total, unjudged_of, sum_at, margin_at, listed_at, domino_of}
use Rattle.model.specs.Verdict.{content_of}
use Rattle.model.specs.Calls.{totals_of, target_report_of, no_target}
use Rattle.model.specs.Machine.{State, one_record, taken, mark_of, unpacked_facts, row_at, accepted, cleared, fresh, totals_in, row_report, target_in, marked_in}
use Rattle.model.proofs.ReadLaws.{partial, after_record}
use Rattle.model.proofs.RunData.{data_of, run}
use Rattle.model.proofs.Agreement.{Closes}
use Rattle.model.proofs.Sound.{accepted_valid}
use Rattle.model.proofs.Runs.{Reported, run_content}

-- ---- the reports of a closed study are the content's

-- the figures are kept where the closing record is taken
record Kept (s : State) (l : List ℕ) (n t : ℕ) (v : State) : Type 0 where
  phase : v.core.reading.phase ≡ 1
  place : v.core.reading.place ≡ s.core.reading.place + length l
  counts : v.core.counts ≡ one_record s.core.counts
  tally : v.core.tally ≡ s.core.tally
  sums : v.sums ≡ s.sums
  margins : v.margins ≡ s.margins
  facts : v.facts ≡ s.facts

kept : (s : State) (l : List ℕ) (n t : ℕ) → Kept s l n t (after_record s l (closing_rec n t))
unfolding cleared accepted partial taken
kept s l n t = record { phase = refl; place = refl; counts = refl; tally = refl; sums = refl; margins = refl; facts = refl }

-- two tests that agree below n find the same numbers there
same_numbers : (f g : ℕ → Bool) (n : ℕ) → ((t : ℕ) → t < n → f t ≡ g t) → numbers_below f n ≡ numbers_below g n
unfolding numbers_below
same_numbers f g zero h = refl
same_numbers f g (suc n) h =
    ap₂ (λ (a : List ℕ) (b : Bool). a ++ pick b (n ∷ []) []) (same_numbers f g n (λ t k. h t (omega arith))) (h n (omega arith))

-- the report of a row
row_report_lem : (c : Content) (t p : ℕ) (w : Row) → w.sum ≡ sum_at c t → w.margin ≡ margin_at c t → unpacked_facts w.facts ≡ facts (target_at c t) → mark_of w.facts ≡ listed_at c t
    → row_report p w ≡ target_report_of p c t
unfolding row_report target_report_of unpacked_facts
row_report_lem c t p w s m k l =
    let q : w.facts / 8 % 8 ≡ (facts (target_at c t)).class = ap (λ (f : Facts). f.class) k in
    cc

-- the report of the totals
totals_same : (c : Content) (p : ℕ) (u : Core) → u.reading.phase ≡ 1 → u.reading.place ≡ p → u.counts.records ≡ count_of c → u.counts.targets ≡ length c.targets
    → u.counts.leaks ≡ leaks_of c → u.tally.study ≡ c.number → u.tally.kind0 ≡ kind_total c 0 → u.tally.kind1 ≡ kind_total c 1 → u.tally.kind2 ≡ kind_total c 2
    → u.tally.kind3 ≡ kind_total c 3 → u.tally.kind4 ≡ kind_total c 4 → u.tally.kind5 ≡ kind_total c 5 → u.tally.unjudged ≡ unjudged_of c → totals_in u ≡ totals_of p c
unfolding totals_in totals_of
totals_same c p u ph pl re tg le st k0 k1 k2 k3 k4 k5 un = sym (ne_case _ _ _ _ (omega arith) (eq_case _ _ _ _ ph (cc)))

module _ (c : Content) (v : Valid c) (s : State) (p : ℕ) (r : Reported c (data_of s)) where
  few_targets_lem : min s.core.counts.targets 256 ≡ length c.targets
  few_targets_lem = let e = r.targets in let f = v.few_targets in omega arith

  target_report : (u : State) → u.core.reading.phase ≡ 1 → u.core.reading.place ≡ p → u.core.counts.targets ≡ s.core.counts.targets
      → u.sums ≡ s.sums → u.margins ≡ s.margins → u.facts ≡ s.facts
      → (t : ℕ) → target_in u t ≡ if_lt t (length c.targets) (target_report_of p c t) (no_target 9 p)
  unfolding target_in
  target_report u ph pl tg su ma fa t =
      let n : min u.core.counts.targets 256 ≡ length c.targets = rw tg few_targets_lem in
      sym (ne_case _ _ _ _ (omega arith) (eq_case _ _ _ _ ph (go n (dec_lt t (length c.targets)))))
    where
      go : min u.core.counts.targets 256 ≡ length c.targets → Dec (t < length c.targets)
          → if_lt t (length c.targets) (target_report_of p c t) (no_target 9 p)
          ≡ if_lt t (min u.core.counts.targets 256) (row_report u.core.reading.place (row_at u t)) (no_target 9 u.core.reading.place)
      go n (yes h) =
          let w = r.row t h in
          sym (lt_case _ _ _ _ h refl)
          ∙ lt_case _ _ _ _ (omega arith)
          (sym
          (ap (λ (q : ℕ). row_report q (row_at u t)) pl
          ∙ row_report_lem c t p (row_at u t) (rw su w.sum) (rw ma w.margin) (rw fa w.known) (rw fa w.mark)))
      go n (no h) = sym (ge_case _ _ _ _ (omega arith) refl) ∙ ge_case _ _ _ _ (omega arith) (ap (no_target 9) (sym pl))

  domino_list : (u : State) → u.core.counts.targets ≡ s.core.counts.targets → u.facts ≡ s.facts → marked_in u ≡ domino_of c
  unfolding marked_in domino_of
  domino_list u tg fa =
      let n : min u.core.counts.targets 256 ≡ length c.targets = rw tg few_targets_lem in
      ap (numbers_below (λ t. mark_of (get_or u.facts t 0))) n
      ∙ same_numbers (λ t. mark_of (get_or u.facts t 0)) (listed_at c) (length c.targets) (λ t h. rw fa (r.row t h).mark)

  totals_report : (u : State) → u.core.reading.phase ≡ 1 → u.core.reading.place ≡ p → u.core.counts ≡ one_record s.core.counts → u.core.tally ≡ s.core.tally
      → totals_in u.core ≡ totals_of p c
  unfolding one_record
  totals_report u ph pl co ta =
      let a = v.few_records in
      let b = r.records in
      let m : min (s.core.counts.records + 1) 4294967295 ≡ count_of c = omega arith in
      totals_same c p u.core ph pl (ap (λ (k : Counts). k.records) co ∙ m) (ap (λ (k : Counts). k.targets) co ∙ r.targets) (ap (λ (k : Counts). k.leaks) co ∙ r.leaks)
      (ap (λ (y : Tally). y.study) ta ∙ r.study) (ap (λ (y : Tally). y.kind0) ta ∙ r.kind0) (ap (λ (y : Tally). y.kind1) ta ∙ r.kind1)
      (ap (λ (y : Tally). y.kind2) ta ∙ r.kind2) (ap (λ (y : Tally). y.kind3) ta ∙ r.kind3) (ap (λ (y : Tally). y.kind4) ta ∙ r.kind4)
      (ap (λ (y : Tally). y.kind5) ta ∙ r.kind5) (ap (λ (y : Tally). y.unjudged) ta ∙ r.unjudged)

kept_targets : (s : State) (k : Counts) → k ≡ one_record s.core.counts → k.targets ≡ s.core.counts.targets
unfolding one_record
kept_targets s k q = ap (λ (k : Counts). k.targets) q

-- what a closing record without fault closes
pub closes : Closes
closes s x rs n t total l h f w e =
    let a = accepted_valid rs n t h.accepts (rw h.context f) h.fits in
    let c : Content = content_of rs in
    let g : run (data_of fresh) (open_records c) ≡ data_of s = ap (run (data_of fresh)) a.same ∙ sym h.figures in
    let r : Reported c (data_of s) = subst (Reported c) g (run_content c a.valid) in
    let k = kept s l n t in
    let u : State = after_record s l (closing_rec n t) in
    let p : ℕ = s.core.reading.place + length l in
    let tg : u.core.counts.targets ≡ s.core.counts.targets = kept_targets s u.core.counts k.counts in
    record {
      phase = k.phase;
      place = k.place;
      within = e;
      valid = a.valid;
      totals = totals_report c a.valid s p r u k.phase k.place k.counts k.tally;
      target = target_report c a.valid s p r u k.phase k.place tg k.sums k.margins k.facts;
      domino = domino_list c a.valid s p r u tg k.facts;
    }
