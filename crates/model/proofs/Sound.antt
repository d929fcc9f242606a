-- Records that are taken up to a closing one are those of a valid content, closed with its count and its sum. Assumes nothing.
use mathlib.Core.Path.{◌≡◌, refl, sym, ◌∙◌, ap, subst}
use mathlib.Core.List.{List, ◌∷◌, ◌++◌}
use Prim.Native.Nat.{ℕ}
use native.Mathlib.Nat.{zero-add}
use native.Mathlib.Omega.{arith}
use lib.ListN.{length}
use Rattle.model.specs.Sums.{join_over}
use Rattle.model.specs.Content.{Content}
use Rattle.model.specs.Format.{Record, opening_rec, closing_rec, target_records, scenario_records, leaks_of, open_records, count_of}
use Rattle.model.specs.Valid.{Each, Valid}
use Rattle.model.specs.Faults.{start, start_counts, counted, own_fault, fault, context_after, context_after_all}
use Rattle.model.specs.Verdict.{content_of}
use Rattle.model.proofs.Accepts.{Accepts, Fits}
use Rattle.model.proofs.FaultLaws.{closing_facts, fault_facts}
use Rattle.model.proofs.ContextLaws.{begun, extended, numbered_record, after_targets}
use Rattle.model.proofs.ListLaws.{each_parts}
use Rattle.model.proofs.AcceptLaws.{AllOwn, accepts_order, accepts_own, own_parts}
use Rattle.model.proofs.Shape.{Opened, opened}
use Rattle.model.proofs.OwnLaws.{bare, numbered_places, targets_valid, scenarios_valid}
use Rattle.model.proofs.PartsLaws.{content_open}
use Rattle.model.proofs.Complete.{open_counts}

pub record AcceptedValid (rs : List Record) (n s : ℕ) : Type 0 where
  pub valid : Valid (content_of rs)
  pub same : open_records (content_of rs) ≡ rs
  pub count : n ≡ count_of (content_of rs)
  pub sum : s ≡ leaks_of (content_of rs)

-- an opening, targets under their own numbers and scenarios that keep their rules are the records of a content
pub record ContentOpen (rs : List Record) : Type 0 where
  pub content : Content
  pub same : rs ≡ open_records content

open_content : (rs : List Record) → Opened rs → AllOwn start rs → ContentOpen rs
unfolding AllOwn context_after open_records
open_content rs w o =
    let p : AllOwn start (opening_rec w.study ∷ join_over numbered_record w.targets ++ join_over scenario_records w.scenarios) = subst (AllOwn start) w.same o in
    let q = (own_parts begun (join_over numbered_record w.targets) (join_over scenario_records w.scenarios) p.1).0 in
    let e = numbered_places w.targets 0 (counted start_counts) 0 0 refl q in
    record {
      content = record { number = w.study; targets = bare w.targets; scenarios = w.scenarios };
      same = w.same ∙ ap (λ (l : List Record). opening_rec w.study ∷ l ++ join_over scenario_records w.scenarios) e;
    }

-- the records of a content that keep their rules and fit their bytes make it valid
open_valid : (c : Content) (n s : ℕ) → AllOwn start (open_records c) → fault (context_after_all start (open_records c)) (closing_rec n s) ≡ 0 → Each Fits (open_records c)
    → Valid c × (n ≡ count_of c) × (s ≡ leaks_of c)
unfolding AllOwn own_fault context_after open_records Fits
open_valid c n s o e f =
    let t = fault_facts (context_after_all start (open_records c)) (closing_rec n s) e in
    let few = t.few in
    let k = closing_facts _ _ _ _ t.own in
    let h = open_counts c in
    let i = h.records in
    let w = own_parts begun (target_records 0 c.targets) (join_over scenario_records c.scenarios) o.1 in
    let g = each_parts Fits (target_records 0 c.targets) (join_over scenario_records c.scenarios) f.1 in
    let ts = targets_valid c.targets 0 (counted start_counts) 0 0 (omega arith) w.0 in
    let tn = ts.0 in
    let ss = scenarios_valid c.scenarios (extended (counted start_counts) (length c.targets)) 0 0 0
    (record { first = λ z. refl; later = λ z. absurd (omega arith) }) (omega arith)
    (rw (after_targets 0 c.targets (counted start_counts) 0 0) at w.1) g.1 in
    let sn = ss.few in (
      record {
        number = f.0;
        few_targets = omega arith;
        targets = ts.1;
        few_scenarios = omega arith;
        rising = ss.rising;
        scenarios = rw (zero-add (length c.targets)) at ss.each;
        few_records = omega arith;
      },
      k.0 ∙ i,
      k.1 ∙ h.leaks,
    )

open_accepted : (c : Content) (n s : ℕ) → Valid c × (n ≡ count_of c) × (s ≡ leaks_of c) → AcceptedValid (open_records c) n s
open_accepted c n s h =
    let e = content_open c in
    record { valid = rw e h.0; same = ap open_records e; count = rw e h.1; sum = rw e h.2 }

pub accepted_valid : (rs : List Record) (n s : ℕ) → Accepts start rs → fault (context_after_all start rs) (closing_rec n s) ≡ 0 → Each Fits rs → AcceptedValid rs n s
accepted_valid rs n s a e f =
    let t = fault_facts (context_after_all start rs) (closing_rec n s) e in
    let o = accepts_own start rs a in
    let w = open_content rs (opened rs n s (accepts_order start rs a) t.order) o in
    from w.content w.same o
  where
    from : (c : Content) → rs ≡ open_records c → AllOwn start rs → AcceptedValid rs n s
    from c q o =
        subst (λ (l : List Record). AcceptedValid l n s) (sym q)
        (open_accepted c n s
        (open_valid c n s (subst (AllOwn start) q o)
        (subst (λ (l : List Record). fault (context_after_all start l) (closing_rec n s) ≡ 0) q e)
        (subst (Each Fits) q f)))
