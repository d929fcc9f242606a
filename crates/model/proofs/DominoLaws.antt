-- The domino list holds exactly the equipment that 01 names, in rising order. Assumes nothing.
use mathlib.Core.Path.{◌≡◌, refl, sym}
use mathlib.Core.Bool.{true, false}
use mathlib.Core.List.{Memᴰ}
use Prim.Native.Nat.{ℕ, ◌<◌, ◌≤◌}
use native.Mathlib.Omega.{arith}
use lib.ListN.{length}
use Rattle.numeric.proofs.ChoiceLaws.{eq_case, ne_case, le_case, lt_case, eq_first, eq_second, le_first, lt_first}
use Rattle.terms.specs.Terms.{people}
use Rattle.vulnerability.specs.Domino.{listed_by}
use Rattle.model.specs.Sums.{some}
use Rattle.model.specs.Content.{facts, Effect, target_of, Content}
use Rattle.model.specs.Outcomes.{Outcome, scenario_outcomes, outcomes_of}
use Rattle.model.specs.Report.{target_at, judgement, listed_at, domino_of}
use Rattle.model.specs.MeaningTheorems.{Listed, DominoExactly, DominoRises}
use Rattle.model.proofs.ListLaws.{some_found, some_holds, join_found, join_holds, below_found, below_holds, below_rises}
use Rattle.model.proofs.OutcomeLaws.{scenario_leak}
use Rattle.model.proofs.PartFigures.{listing}

false_not : false ≡ true → ⊥
false_not e = let z : ◌≡◌ {A = ℕ} 0 1 = cc in omega arith

-- an effect puts its equipment on the domino list exactly when its chance is above 700,000 and the leak at least 10^7 units
pub listed_found : (chance leak : ℕ) → listed_by chance leak ≡ true → (700000 < chance) × (10000000 ≤ leak)
unfolding listed_by
listed_found chance leak e = let w = lt_first _ _ _ _ _ e false_not in (w.0, (le_first _ _ _ _ _ w.1 false_not).0)

pub listed_holds : (chance leak : ℕ) → 700000 < chance → 10000000 ≤ leak → listed_by chance leak ≡ true
unfolding listed_by
listed_holds chance leak h k = sym (lt_case _ _ _ _ h (le_case _ _ _ _ k refl))

module _ (c : Content) (t : ℕ) where
  found : Memᴰ t (domino_of c) → Listed c t
  unfolding domino_of listed_at outcomes_of
  found m =
      let b = below_found (listed_at c) (length c.targets) t m in
      let i = eq_second (facts (target_at c t)).class people false (some (λ o. some (listing c t o) o.effects) (outcomes_of c)) true b.1 false_not in
      let o = some_found (λ (o : Outcome). some (listing c t o) o.effects) (outcomes_of c) i.1 in
      let e = some_found (listing c t o.0) o.0.effects o.2 in
      let n = eq_first (target_of e.0) t (listed_by (judgement c o.0 e.0).chance o.0.leak) false true e.2 false_not in
      let l = listed_found (judgement c o.0 e.0).chance o.0.leak n.1 in
      let s = join_found scenario_outcomes c.scenarios o.0 o.1 in
      let k = scenario_leak s.0 o.0 s.2 in
      let h : 10000000 ≤ s.0.frequency = rw k at l.1 in
      record {
        declared = b.0;
        equipment = i.0;
        scenario = s.0;
        among = s.1;
        leak = h;
        outcome = o.0;
        reached = s.2;
        effect = e.0;
        within = e.1;
        names = n.0;
        chance = omega (arith, l.0);
      }

  holds : Listed c t → Memᴰ t (domino_of c)
  unfolding domino_of listed_at outcomes_of
  holds d =
      let o : Outcome = d.outcome in
      let e : Effect = d.effect in
      let k = scenario_leak d.scenario o d.reached in
      let h : 10000000 ≤ o.leak = rw k d.leak in
      let a : listing c t o e ≡ true =
      sym (eq_case (target_of e) t _ false d.names (sym (listed_holds (judgement c o e).chance o.leak d.chance h))) in
      let m = join_holds scenario_outcomes c.scenarios d.scenario o d.among d.reached in
      let q = some_holds (λ (p : Outcome). some (listing c t p) p.effects) (outcomes_of c) o m (some_holds (listing c t o) o.effects e d.within a) in
      below_holds (listed_at c) (length c.targets) t d.declared
      (sym (ne_case (facts (target_at c t)).class people false _ d.equipment (sym q)))

pub domino_exactly : DominoExactly
domino_exactly c t = (found c t, holds c t)

pub domino_rises : DominoRises
unfolding domino_of
domino_rises c = below_rises (listed_at c) (length c.targets)
