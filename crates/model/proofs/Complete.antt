-- The records of a valid content are taken from the first to the closing one, and the content is read from them. Assumes nothing.
use mathlib.Core.Path.{◌≡◌, refl, sym, ◌∙◌, ap, subst}
use mathlib.Core.List.{List, [], ◌∷◌, ◌++◌}
use Prim.Native.Nat.{ℕ, ◌+◌, ◌<◌}
use native.Mathlib.Nat.{zero-add}
use native.Mathlib.Omega.{arith}
use lib.ListN.{length}
use Rattle.model.specs.Sums.{join_over}
use Rattle.model.specs.Content.{Content}
use Rattle.model.specs.Format.{Record, opening_rec, closing_rec, target_records, scenario_records, leaks_of, open_records, count_of, records_of}
use Rattle.model.specs.Valid.{Each, Valid}
use Rattle.model.specs.Faults.{Context, context, start, start_counts, counted, own_fault, fault, context_after, context_after_all}
use Rattle.model.specs.MachineTheorems.{AllAllowed}
use Rattle.model.specs.Verdict.{content_of}
use Rattle.model.proofs.ListLaws.{each_append}
use Rattle.model.proofs.SumBounds.{leaks_le}
use Rattle.model.proofs.Accepts.{Accepts, Fits}
use Rattle.model.proofs.FaultLaws.{closing_order, closing_free, fault_free}
use Rattle.model.proofs.ContextLaws.{begun, extended, continued, kind_after, next_after_all, after_append, records_counted, after_scenarios, after_targets}
use Rattle.model.proofs.AcceptLaws.{AllOwn, accepts_from, own_append}
use Rattle.model.proofs.Shape.{numbered_from, numbered_records, opening_allowed}
use Rattle.model.proofs.OwnLaws.{scenarios_own, scenarios_fit, targets_own, targets_fit}
use Rattle.model.proofs.PartsLaws.{content_open}

-- what is known after all records of a content but the closing one
pub record OpenCounts (c : Content) (x : Context) : Type 0 where
  pub records : x.counts.records + 1 ≡ count_of c
  pub targets : x.counts.targets ≡ length c.targets
  pub scenarios : x.counts.scenarios ≡ length c.scenarios
  pub leaks : x.counts.leaks ≡ leaks_of c
  pub trees : x.trees ≡ []
  pub left : x.left ≡ 0

pub record ContentAccepted (c : Content) : Type 0 where
  pub accepts : Accepts start (open_records c)
  pub closing : fault (context_after_all start (open_records c)) (closing_rec (count_of c) (leaks_of c)) ≡ 0
  pub fits : Each Fits (records_of c)
  pub content : content_of (open_records c) ≡ c

module _ (c : Content) where
  pub after_open : context_after_all start (open_records c)
      ≡ context (continued (extended (counted start_counts) (length c.targets)) c.scenarios) [] 0 (kind_after 0 c.scenarios) (next_after_all 0 c.scenarios)
  unfolding context_after_all context_after open_records
  after_open =
      after_append begun (target_records 0 c.targets) (join_over scenario_records c.scenarios)
      ∙ ap (λ (x : Context). context_after_all x (join_over scenario_records c.scenarios)) (after_targets 0 c.targets (counted start_counts) 0 0)
      ∙ after_scenarios c.scenarios (extended (counted start_counts) (length c.targets)) 0 0

  pub open_allowed : AllAllowed start (open_records c)
  unfolding open_records
  open_allowed =
      subst (λ (l : List Record). AllAllowed start (opening_rec c.number ∷ l ++ join_over scenario_records c.scenarios))
      (sym (numbered_records 0 c.targets))
      (opening_allowed c.number (numbered_from 0 c.targets) c.scenarios)

  open_own : Valid c → AllOwn start (open_records c)
  unfolding AllOwn own_fault context_after open_records
  open_own v =
      let few = v.few_targets in
      let more = v.few_scenarios in (
        refl,
        own_append begun (target_records 0 c.targets) (join_over scenario_records c.scenarios)
            (targets_own c.targets 0 (counted start_counts) 0 0 refl (omega arith) v.targets)
            (rw (after_targets 0 c.targets (counted start_counts) 0 0)
            (scenarios_own c.scenarios (extended (counted start_counts) (length c.targets)) 0 0 0
            (record { first = λ h. refl; later = λ h. absurd (omega arith) })
            (record { few = omega arith; rising = v.rising; each = rw (zero-add (length c.targets)) v.scenarios }))),
      )

  -- what the records of a content add up to
  pub open_counts : OpenCounts c (context_after_all start (open_records c))
  unfolding leaks_of count_of
  open_counts =
      let h = records_counted start (open_records c) in
      record {
        records = ap (λ (n : ℕ). n + 1) (h ∙ zero-add (length (open_records c)));
        targets = ap (λ (x : Context). x.counts.targets) after_open ∙ zero-add (length c.targets);
        scenarios = ap (λ (x : Context). x.counts.scenarios) after_open ∙ zero-add (length c.scenarios);
        leaks = ap (λ (x : Context). x.counts.leaks) after_open ∙ zero-add _;
        trees = ap (λ (x : Context). x.trees) after_open;
        left = ap (λ (x : Context). x.left) after_open;
      }

  records_fit : Valid c → Each Fits (records_of c)
  unfolding records_of open_records Fits
  records_fit v =
      let few = v.few_targets in
      let most = v.few_records in
      let sum = leaks_le c v in
      each_append Fits (open_records c) (closing_rec (count_of c) (leaks_of c) ∷ []) (
        v.number,
        each_append Fits (target_records 0 c.targets) (join_over scenario_records c.scenarios)
            (targets_fit c.targets 0 (omega arith) v.targets)
            (scenarios_fit c.scenarios (length c.targets) few v.scenarios),
      )
      ((omega arith, omega arith), tt)

  closing_taken : Valid c → OpenCounts c (context_after_all start (open_records c)) → fault (context_after_all start (open_records c)) (closing_rec (count_of c) (leaks_of c)) ≡ 0
  unfolding own_fault
  closing_taken v h =
      let x : Context = context_after_all start (open_records c) in
      let most = v.few_records in
      let n = h.records in
      let e = ap (λ (y : Context). y.counts.records) after_open in
      let p : 0 < x.counts.records = omega arith in
      fault_free x (closing_rec (count_of c) (leaks_of c))
      (record {
        order = closing_order _ _ _ _ p h.left (ap length h.trees);
        few = omega arith;
        own = closing_free _ _ _ _ (sym n) (sym h.leaks);
      })

pub content_accepted : (c : Content) → Valid c → ContentAccepted c
unfolding count_of
content_accepted c v =
    record {
      accepts = accepts_from start (open_records c) (open_allowed c) (open_own c v) (let most = v.few_records in omega arith);
      closing = closing_taken c v (open_counts c);
      fits = records_fit c v;
      content = content_open c;
    }
