-- What a target, an outcome and an effect do to the totals and to the figures of the targets. Assumes nothing.
use mathlib.Core.Path.{◌≡◌, refl, sym, ◌∙◌, ap}
use mathlib.Core.Bool.{Bool, true, false}
use mathlib.Core.List.{List, [], ◌∷◌, ◌++◌}
use Prim.Native.Nat.{ℕ, suc, ◌+◌, ◌<◌, ◌≤◌, min}
use native.Mathlib.Decide.{ℕ_discrete}
use native.Mathlib.Omega.{arith}
use lib.ListN.{length, get_or}
use Rattle.numeric.specs.Choice.{pick, if_eq}
use Rattle.numeric.specs.Share.{share_of}
use Rattle.numeric.proofs.ChoiceLaws.{eq_case, ne_case, eq_both}
use Rattle.terms.specs.Terms.{people}
use Rattle.terms.specs.declared.Judged.{Judged}
use Rattle.terms.specs.declared.Target.{Target as Facts}
use Rattle.vulnerability.specs.Effect.{effect_on}
use Rattle.vulnerability.specs.Domino.{listed_by}
use Rattle.state.specs.declared.Tally.{Tally}
use Rattle.model.specs.Sums.{some}
use Rattle.model.specs.Content.{Target, facts as facts_of, Effect, target_of, intensity, duration, clock, Content}
use Rattle.model.specs.Valid.{ValidTarget}
use Rattle.model.specs.Outcomes.{Outcome}
use Rattle.model.specs.Report.{target_at, judgement, over_effects}
use Rattle.model.specs.Machine.{up_to, most32, most64, store, kind_grown, outcome_tally, effect_tally, packed_facts, unpacked_facts, mark_of, marked_facts}
use Rattle.model.proofs.StackLaws.{stored_length, stored_here, stored_other}
use Rattle.model.proofs.RowLaws.{grown_at, facts_packed, mark_packed, marked_facts_lem, mark_of_people, mark_of_equipment}
use Rattle.model.proofs.PartFigures.{kind_over, unjudged_by, sum_by, margin_by, listing, listed_over, partly, up_to_now, kind_begun, effects_begun, effects_grown, some_begun, some_grown, or_none}

-- the totals are those of the outcomes so far, up to the greatest number
pub record TallyIs (c : Content) (os : List Outcome) (y : Tally) : Type 0 where
  pub study : y.study ≡ c.number
  pub kind0 : y.kind0 ≡ min (kind_over 0 os) most64
  pub kind1 : y.kind1 ≡ min (kind_over 1 os) most64
  pub kind2 : y.kind2 ≡ min (kind_over 2 os) most64
  pub kind3 : y.kind3 ≡ min (kind_over 3 os) most64
  pub kind4 : y.kind4 ≡ min (kind_over 4 os) most64
  pub kind5 : y.kind5 ≡ min (kind_over 5 os) most64
  pub unjudged : y.unjudged ≡ min (over_effects (unjudged_by c) os) most32

-- the figures of the targets are those of the outcomes so far; n targets are declared
pub record RowsAre (c : Content) (n : ℕ) (os : List Outcome) (sums margins facts : List ℕ) : Type 0 where
  pub sums_length : length sums ≡ 256
  pub margins_length : length margins ≡ 256
  pub facts_length : length facts ≡ 256
  pub sum : (t : ℕ) → get_or sums t 0 ≡ min (over_effects (sum_by c t) os) most64
  pub margin : (t : ℕ) → get_or margins t 0 ≡ min (over_effects (margin_by t) os) most32
  pub known : (t : ℕ) → t < n → unpacked_facts (get_or facts t 0) ≡ facts_of (target_at c t)
  pub mark : (t : ℕ) → t < n → mark_of (get_or facts t 0) ≡ listed_over c t os

-- a target is declared
module _ (c : Content) (n : ℕ) (sums margins facts : List ℕ) (small : n < 256) (r : RowsAre c n [] sums margins facts)
    (t : Target) (v : ValidTarget t) (e : target_at c n ≡ t) where
  after_target : List ℕ
  after_target = store 256 facts n (packed_facts (facts_of t))

  here : get_or after_target n 0 ≡ packed_facts (facts_of t)
  unfolding after_target
  here = stored_here 256 facts n _ r.facts_length small

  there : (i : ℕ) → (i ≡ n → ⊥) → get_or after_target i 0 ≡ get_or facts i 0
  unfolding after_target
  there i h = stored_other 256 facts n i _ h

  known_target : (i : ℕ) → i < suc n → unpacked_facts (get_or after_target i 0) ≡ facts_of (target_at c i)
  known_target i h = go (ℕ_discrete i n)
    where
      go : Dec (i ≡ n) → unpacked_facts (get_or after_target i 0) ≡ facts_of (target_at c i)
      go (yes q) =
          rw (q, here, e) (facts_packed (facts_of t) v.class v.setting v.volume)
      go (no q) = ap unpacked_facts (there i q) ∙ r.known i (omega arith)

  mark_target : (i : ℕ) → i < suc n → mark_of (get_or after_target i 0) ≡ listed_over c i []
  unfolding some
  mark_target i h = go (ℕ_discrete i n)
    where
      go : Dec (i ≡ n) → mark_of (get_or after_target i 0) ≡ listed_over c i []
      go (yes q) =
          ap (λ (j : ℕ). mark_of (get_or after_target j 0)) q ∙ ap mark_of here ∙ mark_packed (facts_of t)
          ∙ eq_both (λ (b : Bool). false ≡ b) (facts_of (target_at c i)).class people false false refl refl
      go (no q) = ap mark_of (there i q) ∙ r.mark i (omega arith)

  pub target_rows : RowsAre c (suc n) [] sums margins (store 256 facts n (packed_facts (facts_of t)))
  unfolding after_target
  target_rows =
      record {
        sums_length = r.sums_length;
        margins_length = r.margins_length;
        facts_length = stored_length 256 facts n _ ∙ r.facts_length;
        sum = r.sum;
        margin = r.margin;
        known = known_target;
        mark = mark_target;
      }

-- a kind's total grows
kind_grown_lem : (k i f x total : ℕ) → x ≡ min total most64 → kind_grown k i f x ≡ min (total + if_eq k i f 0) most64
unfolding kind_grown
kind_grown_lem k i f x total e = go (ℕ_discrete k i)
  where
    go : Dec (k ≡ i) → if_eq k i (up_to most64 x f) x ≡ min (total + if_eq k i f 0) most64
    go (yes q) =
        let a : f ≡ if_eq k i f 0 = eq_case k i f 0 q refl in
        sym (eq_case k i (up_to most64 x f) x q (omega arith))
    go (no q) =
        let a : 0 ≡ if_eq k i f 0 = ne_case k i f 0 q refl in
        sym (ne_case k i (up_to most64 x f) x q (omega arith))

module _ (c : Content) (kind leak f w : ℕ) (path : List ℕ) (os : List Outcome) where
  -- the list of outcomes with some effects of the last
  abbrev now : List Effect → List Outcome
  now = up_to_now kind leak f w path os

  -- an outcome begins
  pub outcome_tally_lem : (y : Tally) → TallyIs c os y → TallyIs c (now []) (outcome_tally y kind f)
  unfolding outcome_tally
  outcome_tally_lem y h =
      record {
        study = h.study;
        kind0 = kind_at 0 y.kind0 h.kind0;
        kind1 = kind_at 1 y.kind1 h.kind1;
        kind2 = kind_at 2 y.kind2 h.kind2;
        kind3 = kind_at 3 y.kind3 h.kind3;
        kind4 = kind_at 4 y.kind4 h.kind4;
        kind5 = kind_at 5 y.kind5 h.kind5;
        unjudged = h.unjudged ∙ ap (λ (x : ℕ). min x most32) (sym (effects_begun kind leak f w path os (unjudged_by c)));
      }
    where
      kind_at : (k x : ℕ) → x ≡ min (kind_over k os) most64 → kind_grown kind k f x ≡ min (kind_over k (now [])) most64
      kind_at k x e =
          kind_grown_lem kind k f x (kind_over k os) e ∙ ap (λ (x : ℕ). min x most64) (sym (kind_begun kind leak f w path os k []))

  pub outcome_rows : (n : ℕ) (sums margins facts : List ℕ) → RowsAre c n os sums margins facts → RowsAre c n (now []) sums margins facts
  outcome_rows n sums margins facts r =
      record {
        sums_length = r.sums_length;
        margins_length = r.margins_length;
        facts_length = r.facts_length;
        sum = λ t. r.sum t ∙ ap (λ (x : ℕ). min x most64) (sym (effects_begun kind leak f w path os (sum_by c t)));
        margin = λ t. r.margin t ∙ ap (λ (x : ℕ). min x most32) (sym (effects_begun kind leak f w path os (margin_by t)));
        known = r.known;
        mark = λ t h. r.mark t h
            ∙ ap (λ (b : Bool). if_eq (facts_of (target_at c t)).class people false b) (sym (some_begun kind leak f w path os (listing c t)));
      }

  -- an effect of the outcome is read
  module _ (done : List Effect) (e : Effect) where
    abbrev all : List Effect
    all = done ++ (e ∷ [])

    abbrev judged : Judged
    judged = effect_on (clock e) (facts_of (target_at c (target_of e))) kind (intensity e) (duration e)

    kind_same : (k x : ℕ) → x ≡ min (kind_over k (now done)) most64 → x ≡ min (kind_over k (now all)) most64
    kind_same k x h =
        h ∙ ap (λ (x : ℕ). min x most64) (kind_begun kind leak f w path os k done ∙ sym (kind_begun kind leak f w path os k all))

    pub effect_tally_lem : (y : Tally) → TallyIs c (now done) y → TallyIs c (now all) (effect_tally y judged.judged)
    unfolding effect_tally judgement
    effect_tally_lem y h =
        let u = effects_grown kind leak f w path os (unjudged_by c) (unjudged_by c (partly kind leak f w path [])) (λ es x. refl) done e in
        let v = h.unjudged in
        record {
          study = h.study;
          kind0 = kind_same 0 y.kind0 h.kind0;
          kind1 = kind_same 1 y.kind1 h.kind1;
          kind2 = kind_same 2 y.kind2 h.kind2;
          kind3 = kind_same 3 y.kind3 h.kind3;
          kind4 = kind_same 4 y.kind4 h.kind4;
          kind5 = kind_same 5 y.kind5 h.kind5;
          unjudged = omega arith;
        }

    -- whether an outcome so far lists the target t
    abbrev listed_now : ℕ → List Effect → Bool
    listed_now t es = some (λ o. some (listing c t o) o.effects) (now es)

    listed_grown : (t : ℕ) → listed_now t all ≡ pick (listed_now t done) true (if_eq (target_of e) t (listed_by judged.chance leak) false)
    unfolding judgement
    listed_grown t = some_grown kind leak f w path os (listing c t) (listing c t (partly kind leak f w path [])) (λ es. refl) done e

    listed_other : (t : ℕ) → (target_of e ≡ t → ⊥) → listed_now t all ≡ listed_now t done
    listed_other t h =
        listed_grown t
        ∙ ap (λ (b : Bool). pick (listed_now t done) true b) (sym (ne_case (target_of e) t (listed_by judged.chance leak) false h refl))
        ∙ or_none (listed_now t done)

    module _ (n : ℕ) (sums margins facts : List ℕ) (r : RowsAre c n (now done) sums margins facts) (declared : target_of e < n) (few : n ≤ 256) where
      -- the packed facts of the effect's target
      before : ℕ
      before = get_or facts (target_of e) 0

      facts_after : List ℕ
      facts_after = store 256 facts (target_of e) (marked_facts (get_or facts (target_of e) 0) judged.chance leak)

      facts_here : get_or facts_after (target_of e) 0 ≡ marked_facts before judged.chance leak
      unfolding facts_after before
      facts_here = stored_here 256 facts (target_of e) _ r.facts_length (omega arith)

      facts_there : (t : ℕ) → (target_of e ≡ t → ⊥) → get_or facts_after t 0 ≡ get_or facts t 0
      unfolding facts_after
      facts_there t h = stored_other 256 facts (target_of e) t _ (λ z. h (sym z))

      known_effect : (t : ℕ) → t < n → unpacked_facts (get_or facts_after t 0) ≡ facts_of (target_at c t)
      unfolding before
      known_effect t h = go (ℕ_discrete (target_of e) t)
        where
          go : Dec (target_of e ≡ t) → unpacked_facts (get_or facts_after t 0) ≡ facts_of (target_at c t)
          go (yes q) =
              rw (← q) (ap unpacked_facts facts_here ∙ marked_facts_lem before judged.chance leak ∙ r.known (target_of e) declared)
          go (no q) = ap unpacked_facts (facts_there t q) ∙ r.known t h

      -- the class of a target decides whether a mark counts
      abbrev class_of : ℕ → ℕ
      class_of t = (facts_of (target_at c t)).class

      mark_here : mark_of (marked_facts before judged.chance leak) ≡ listed_over c (target_of e) (now all)
      unfolding before
      mark_here = go (ℕ_discrete (class_of (target_of e)) people)
        where
          class_before : (unpacked_facts before).class ≡ class_of (target_of e)
          class_before = ap (λ (x : Facts). x.class) (r.known (target_of e) declared)

          go : Dec (class_of (target_of e) ≡ people) → mark_of (marked_facts before judged.chance leak) ≡ listed_over c (target_of e) (now all)
          go (yes q) =
              ap mark_of (mark_of_people before judged.chance leak (class_before ∙ q))
              ∙ r.mark (target_of e) declared
              ∙ sym (eq_case (class_of (target_of e)) people false (listed_now (target_of e) done) q refl)
              ∙ eq_case (class_of (target_of e)) people false (listed_now (target_of e) all) q refl
          go (no q) =
              mark_of_equipment before judged.chance leak (λ z. q (sym class_before ∙ z))
              ∙ ap (λ (b : Bool). pick b true (listed_by judged.chance leak))
              (r.mark (target_of e) declared ∙ sym (ne_case (class_of (target_of e)) people false (listed_now (target_of e) done) q refl))
              ∙ ap (λ (b : Bool). pick (listed_now (target_of e) done) true b) (eq_case (target_of e) (target_of e) (listed_by judged.chance leak) false refl refl)
              ∙ sym (listed_grown (target_of e))
              ∙ ne_case (class_of (target_of e)) people false (listed_now (target_of e) all) q refl

      mark_effect : (t : ℕ) → t < n → mark_of (get_or facts_after t 0) ≡ listed_over c t (now all)
      mark_effect t h = go (ℕ_discrete (target_of e) t)
        where
          go : Dec (target_of e ≡ t) → mark_of (get_or facts_after t 0) ≡ listed_over c t (now all)
          go (yes q) = rw (← q) (ap mark_of facts_here ∙ mark_here)
          go (no q) =
              ap mark_of (facts_there t q) ∙ r.mark t h
              ∙ ap (λ (b : Bool). if_eq (class_of t) people false b) (sym (listed_other t q))

      pub effect_rows : RowsAre c n (now all)
          (store 256 sums (target_of e) (up_to most64 (get_or sums (target_of e) 0) (share_of f judged.chance)))
          (store 256 margins (target_of e) (up_to most32 (get_or margins (target_of e) 0) (length path + 1)))
          (store 256 facts (target_of e) (marked_facts (get_or facts (target_of e) 0) judged.chance leak))
      unfolding facts_after judgement
      effect_rows =
          record {
            sums_length = stored_length 256 sums (target_of e) _ ∙ r.sums_length;
            margins_length = stored_length 256 margins (target_of e) _ ∙ r.margins_length;
            facts_length = stored_length 256 facts (target_of e) _ ∙ r.facts_length;
            sum = λ t. grown_at most64 256 sums (target_of e) (share_of f judged.chance) r.sums_length (omega arith) t
                (over_effects (sum_by c t) (now done)) (r.sum t)
                ∙ ap (λ (x : ℕ). min x most64)
                (sym (effects_grown kind leak f w path os (sum_by c t) (sum_by c t (partly kind leak f w path [])) (λ es x. refl) done e));
            margin = λ t. grown_at most32 256 margins (target_of e) (length path + 1) r.margins_length (omega arith) t
                (over_effects (margin_by t) (now done)) (r.margin t)
                ∙ ap (λ (x : ℕ). min x most32)
                (sym (effects_grown kind leak f w path os (margin_by t) (margin_by t (partly kind leak f w path [])) (λ es x. refl) done e));
            known = known_effect;
            mark = mark_effect;
          }
