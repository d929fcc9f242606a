-- What it means that a record has no fault, rule by rule and in both directions. Assumes nothing.
use mathlib.Core.Path.{◌≡◌, refl, sym}
use Prim.Native.Nat.{ℕ, ◌+◌, ◌<◌, ◌≤◌}
use native.Mathlib.Decide.{dec_le, ℕ_discrete}
use native.Mathlib.Omega.{arith}
use Rattle.numeric.specs.Choice.{if_eq, if_le, if_lt}
use Rattle.numeric.specs.Share.{certain}
use Rattle.numeric.proofs.ChoiceLaws.{eq_case, ne_case, le_case, gt_case, lt_case, ge_case, eq_elim, le_elim, lt_elim}
use Rattle.terms.specs.Terms.{no_effect, fireball, flash_fire, people}
use Rattle.model.specs.Bounds.{most_targets, most_scenarios, most_records, most_above, most_volume, least_frequency, most_frequency, most_effects, most_kind, most_class, most_setting, most_curve, CurvesAreAll}
use Rattle.model.specs.Content.{Branching, given, on_curve, Target, facts, Effect, in_seconds, timed}
use Rattle.model.specs.Format.{Record, branching_rec}
use Rattle.model.specs.Valid.{ValidTarget, ValidBranching, ValidUnit}
use Rattle.model.specs.Faults.{Context, order_fault, target_fault, leak_fault, chance_fault, branching_fault, outcome_fault, naming_fault, effect_fault, unit_fault, closing_fault, own_fault, fault}
use Rattle.model.specs.MachineTheorems.{Allowed}
use Rattle.model.proofs.Accepts.{Fits}

-- where the order allows a record of kind k
pub record Order (r l t s k : ℕ) : Type 0 where
  pub opening : k ≡ 1 → r ≡ 0
  pub target : k ≡ 2 → (0 < r) × (l ≡ 0) × (t ≡ 0) × (s ≡ 0)
  pub leak : k ≡ 3 → (0 < r) × (l ≡ 0) × (t ≡ 0)
  pub branching : k ≡ 4 → (0 < r) × (l ≡ 0) × (0 < t)
  pub outcome : k ≡ 5 → (0 < r) × (l ≡ 0) × (0 < t)
  pub effect : k ≡ 6 → (0 < r) × (0 < l)
  pub closing : k ≡ 7 → (0 < r) × (l ≡ 0) × (t ≡ 0)

pub order_facts : (r l t s k : ℕ) → order_fault r l t s k ≡ 0 → Order r l t s k
unfolding order_fault
order_facts r l t s k e =
    eq_elim e (λ h q. eq_elim q (λ i q. omega arith) (λ i q. omega arith))
    (λ a q.
    lt_elim q (λ b q. eq_elim q (λ i q. omega arith) (λ i q. omega arith))
    (λ b q.
    lt_elim q (λ c q. eq_elim q (λ i q. omega arith) (λ i q. eq_elim q (λ j q. omega arith) (λ j q. omega arith)))
    (λ c q.
    eq_elim q (λ i q. eq_elim q (λ j q. omega arith) (λ j q. omega arith))
    (λ i q. eq_elim q (λ j q. omega arith) (λ j q. eq_elim q (λ u q. omega arith) (λ u q. omega arith))))))

module _ (r l t s : ℕ) where
  pub opening_order : r ≡ 0 → order_fault r l t s 1 ≡ 0
  unfolding order_fault
  opening_order h = sym (eq_case r 0 _ _ h (eq_case 1 1 _ _ refl refl))

module _ (r l t s : ℕ) (h : 0 < r) where
  pub effect_order : 0 < l → order_fault r l t s 6 ≡ 0
  unfolding order_fault
  effect_order i = sym (ne_case r 0 _ _ (omega arith) (lt_case 0 l _ _ i (eq_case 6 6 _ _ refl refl)))

module _ (r l t s : ℕ) (h : 0 < r) (i : l ≡ 0) where
  pub branching_order : 0 < t → order_fault r l t s 4 ≡ 0
  unfolding order_fault
  branching_order j = sym (ne_case r 0 _ _ (omega arith) (ge_case 0 l _ _ (omega arith) (lt_case 0 t _ _ j (eq_case 4 4 _ _ refl refl))))

  pub outcome_order : 0 < t → order_fault r l t s 5 ≡ 0
  unfolding order_fault
  outcome_order j =
      sym (ne_case r 0 _ _ (omega arith)
      (ge_case 0 l _ _ (omega arith) (lt_case 0 t _ _ j (ne_case 5 4 _ _ (omega arith) (eq_case 5 5 _ _ refl refl)))))

  pub target_order : t ≡ 0 → s ≡ 0 → order_fault r l t s 2 ≡ 0
  unfolding order_fault
  target_order j k =
      sym (ne_case r 0 _ _ (omega arith)
      (ge_case 0 l _ _ (omega arith) (ge_case 0 t _ _ (omega arith) (eq_case 2 2 _ _ refl (eq_case s 0 _ _ k refl)))))

  pub leak_order : t ≡ 0 → order_fault r l t s 3 ≡ 0
  unfolding order_fault
  leak_order j =
      sym (ne_case r 0 _ _ (omega arith)
      (ge_case 0 l _ _ (omega arith)
      (ge_case 0 t _ _ (omega arith) (ne_case 3 2 _ _ (omega arith) (eq_case 3 3 _ _ refl refl)))))

  pub closing_order : t ≡ 0 → order_fault r l t s 7 ≡ 0
  unfolding order_fault
  closing_order j =
      sym (ne_case r 0 _ _ (omega arith)
      (ge_case 0 l _ _ (omega arith)
      (ge_case 0 t _ _ (omega arith)
      (ne_case 7 2 _ _ (omega arith) (ne_case 7 3 _ _ (omega arith) (eq_case 7 7 _ _ refl refl))))))

-- a target without fault: one more is allowed, its fields are in their bounds, its number is the next
pub record TargetTaken (targets n : ℕ) (t : Target) : Type 0 where
  pub few : targets < most_targets
  pub valid : ValidTarget t
  pub place : n ≡ targets

pub target_facts : (targets n : ℕ) (t : Target) → target_fault targets n (facts t) ≡ 0 → TargetTaken targets n t
unfolding target_fault
target_facts targets n t e =
    le_elim e (λ h q. absurd (omega arith))
    (λ few q.
    lt_elim q (λ h q. absurd (omega arith))
    (λ class q.
    lt_elim q (λ h q. absurd (omega arith))
    (λ setting q.
    lt_elim q (λ h q. absurd (omega arith))
    (λ volume q.
    eq_elim q
    (λ c q.
    eq_elim q
    (λ p q. record { few = few; valid = record { class = class; setting = setting; equipment = λ d. absurd (d c); volume = volume }; place = p })
    (λ p q. absurd (omega arith)))
    (λ c q.
    eq_elim q
    (λ z q.
    eq_elim q
    (λ p q. record { few = few; valid = record { class = class; setting = setting; equipment = λ d. z; volume = volume }; place = p })
    (λ p q. absurd (omega arith)))
    (λ z q. absurd (omega arith)))))))

pub target_free : (targets n : ℕ) (t : Target) → TargetTaken targets n t → target_fault targets n (facts t) ≡ 0
unfolding target_fault
target_free targets n t f =
    sym (gt_case most_targets targets _ _ f.few
    (ge_case most_class (facts t).class _ _ f.valid.class
    (ge_case most_setting (facts t).setting _ _ f.valid.setting
    (ge_case most_volume (facts t).volume _ _ f.valid.volume (go (ℕ_discrete (facts t).class people))))))
  where
    last : ◌≡◌ {A = ℕ} 0 (if_eq n targets 0 4)
    last = eq_case n targets _ _ f.place refl

    go : Dec ((facts t).class ≡ people) → ◌≡◌ {A = ℕ} 0 (if_eq (facts t).class people (if_eq n targets 0 4) (if_eq (facts t).setting 0 (if_eq n targets 0 4) 3))
    go (yes c) = eq_case (facts t).class people _ _ c last
    go (no c) = ne_case (facts t).class people _ _ c (eq_case (facts t).setting 0 _ _ (f.valid.equipment c) last)

-- a leak without fault: one more is allowed, its frequency is in its bounds, its number is above the last
pub record LeakTaken (scenarios last n f : ℕ) : Type 0 where
  pub few : scenarios < most_scenarios
  pub least : least_frequency ≤ f
  pub most : f ≤ most_frequency
  pub rising : 0 < scenarios → last < n

pub leak_facts : (scenarios last n f : ℕ) → leak_fault scenarios last n f ≡ 0 → LeakTaken scenarios last n f
unfolding leak_fault
leak_facts scenarios last n f e =
    le_elim e (λ h q. absurd (omega arith))
    (λ few q.
    lt_elim q (λ h q. absurd (omega arith))
    (λ least q.
    lt_elim q (λ h q. absurd (omega arith))
    (λ most q. eq_elim q (λ h q. omega arith) (λ h q. lt_elim q (λ i q. omega arith) (λ i q. absurd (omega arith))))))

pub leak_free : (scenarios last n f : ℕ) → LeakTaken scenarios last n f → leak_fault scenarios last n f ≡ 0
unfolding leak_fault
leak_free scenarios last n f t =
    sym (gt_case most_scenarios scenarios _ _ t.few
    (ge_case f least_frequency _ _ t.least (ge_case most_frequency f _ _ t.most (go (ℕ_discrete scenarios 0)))))
  where
    go : Dec (scenarios ≡ 0) → ◌≡◌ {A = ℕ} 0 (if_eq scenarios 0 0 (if_lt last n 0 4))
    go (yes z) = eq_case scenarios 0 _ _ z refl
    go (no z) = ne_case scenarios 0 _ _ z (lt_case last n _ _ (t.rising (omega arith)) refl)

-- a branching without fault
pub branching_facts : (above : ℕ) (b : Branching) → branching_fault above b ≡ 0 → (above ≤ most_above) × (chance_fault b ≡ 0)
unfolding branching_fault
branching_facts above b e = lt_elim e (λ h q. absurd (omega arith)) (λ h q. (h, q))

pub branching_free : (above : ℕ) (b : Branching) → above ≤ most_above → chance_fault b ≡ 0 → branching_fault above b ≡ 0
unfolding branching_fault
branching_free above b h e = sym (ge_case most_above above _ _ h (sym e))

pub curves_are_all : CurvesAreAll
curves_are_all = refl

-- a chance without fault, in fields of the record's widths
pub chance_facts : (b : Branching) → chance_fault b ≡ 0 → Fits (branching_rec b) → ValidBranching b
unfolding chance_fault Fits
chance_facts (given p) e f = lt_elim e (λ h q. absurd (omega arith)) (λ h q. h)
chance_facts (on_curve c r) e f =
    eq_elim e (λ h q. absurd (omega arith))
    (λ h q. lt_elim q (λ i q. absurd (omega arith)) (λ i q. eq_elim q (λ j q. absurd (omega arith)) (λ j q. (omega arith, i, omega arith, f.1))))

pub chance_free : (b : Branching) → ValidBranching b → chance_fault b ≡ 0
unfolding chance_fault
chance_free (given p) v = sym (ge_case certain p _ _ v refl)
chance_free (on_curve c r) v = sym (ne_case c 0 _ _ (λ z. omega (arith, v.0)) (ge_case most_curve c _ _ v.1 (ne_case r 0 _ _ (λ z. omega (arith, v.2)) refl)))

-- an outcome without fault
pub record OutcomeTaken (k n : ℕ) : Type 0 where
  pub known : k ≤ most_kind
  pub few : n ≤ most_effects
  pub none : k ≡ no_effect → n ≡ 0

pub outcome_facts : (k n : ℕ) → outcome_fault k n ≡ 0 → OutcomeTaken k n
unfolding outcome_fault
outcome_facts k n e =
    lt_elim e (λ h q. absurd (omega arith))
    (λ h q.
    lt_elim q (λ i q. absurd (omega arith))
    (λ i q. eq_elim q (λ j q. eq_elim q (λ u q. omega arith) (λ u q. absurd (omega arith))) (λ j q. omega arith)))

pub outcome_free : (k n : ℕ) → OutcomeTaken k n → outcome_fault k n ≡ 0
unfolding outcome_fault
outcome_free k n t = sym (ge_case most_kind k _ _ t.known (ge_case most_effects n _ _ t.few (go (ℕ_discrete k no_effect))))
  where
    go : Dec (k ≡ no_effect) → ◌≡◌ {A = ℕ} 0 (if_eq k no_effect (if_eq n 0 0 3) 0)
    go (yes z) = eq_case k no_effect _ _ z (eq_case n 0 _ _ (t.none z) refl)
    go (no z) = ne_case k no_effect _ _ z refl

-- an effect without fault: duration and intensity as the kind wants, a declared target that was not named yet
pub record EffectTaken (targets kind next t i d : ℕ) : Type 0 where
  pub fire : kind ≤ fireball → 1 ≤ d
  pub other : fireball < kind → d ≡ 0
  pub flash : kind ≡ flash_fire → i ≤ 1
  pub rising : next ≤ t
  pub declared : t < targets

naming_facts : (targets next t : ℕ) → naming_fault targets next t ≡ 0 → (next ≤ t) × (t < targets)
unfolding naming_fault
naming_facts targets next t e = lt_elim e (λ h q. absurd (omega arith)) (λ h q. lt_elim q (λ i q. (h, i)) (λ i q. absurd (omega arith)))

pub effect_facts : (targets kind next t i d : ℕ) → effect_fault targets kind next t i d ≡ 0 → EffectTaken targets kind next t i d
unfolding effect_fault
effect_facts targets kind next t i d e =
    le_elim e
    (λ h q. eq_elim q (λ z q. absurd (omega arith)) (λ z q. let w = naming_facts targets next t q in omega arith))
    (λ h q.
    eq_elim q
    (λ z q.
    eq_elim q
    (λ f q. le_elim q (λ j q. let w = naming_facts targets next t q in omega arith) (λ j q. absurd (omega arith)))
    (λ f q. let w = naming_facts targets next t q in omega arith))
    (λ z q. absurd (omega arith)))

pub effect_free : (targets kind next t i d : ℕ) → EffectTaken targets kind next t i d → effect_fault targets kind next t i d ≡ 0
unfolding effect_fault naming_fault
effect_free targets kind next t i d f = sym (go (dec_le kind fireball))
  where
    named : 0 ≡ naming_fault targets next t
    named = ge_case t next _ _ f.rising (lt_case t targets _ _ f.declared refl)

    flash : Dec (kind ≡ flash_fire) → ◌≡◌ {A = ℕ} 0 (if_eq kind flash_fire (if_le i 1 (naming_fault targets next t) 3) (naming_fault targets next t))
    flash (yes k) = eq_case kind flash_fire _ _ k (le_case i 1 _ _ (f.flash k) named)
    flash (no k) = ne_case kind flash_fire _ _ k named

    go : Dec (kind ≤ fireball) → 0 ≡ effect_fault targets kind next t i d
    go (yes h) = le_case kind fireball _ _ h (ne_case d 0 _ _ (let l = f.fire h in omega arith) named)
    go (no h) =
        let g : fireball < kind = omega arith in
        gt_case kind fireball _ _ g (eq_case d 0 _ _ (f.other g) (flash (ℕ_discrete kind flash_fire)))

-- an effect whose unit, if it has one, is right
pub unit_facts : (e : Effect) (n : ℕ) → unit_fault e n ≡ 0 → ValidUnit e × (n ≡ 0)
unfolding unit_fault
unit_facts (in_seconds t i d) n h = (tt, h)
unit_facts (timed t i d u) n h = lt_elim h (λ w q. absurd (omega arith)) (λ w q. (w, q))

pub unit_free : (e : Effect) (n : ℕ) → ValidUnit e → n ≡ 0 → unit_fault e n ≡ 0
unfolding unit_fault
unit_free (in_seconds t i d) n w h = h
unit_free (timed t i d u) n w h = sym (ge_case 1 u _ _ w (sym h))

-- a closing record without fault
pub closing_facts : (records leaks n s : ℕ) → closing_fault records leaks n s ≡ 0 → (n ≡ records + 1) × (s ≡ leaks)
unfolding closing_fault
closing_facts records leaks n s e = eq_elim e (λ h q. eq_elim q (λ i q. (h, i)) (λ i q. absurd (omega arith))) (λ h q. absurd (omega arith))

pub closing_free : (records leaks n s : ℕ) → n ≡ records + 1 → s ≡ leaks → closing_fault records leaks n s ≡ 0
unfolding closing_fault
closing_free records leaks n s h i = sym (eq_case n (records + 1) _ _ h (eq_case s leaks _ _ i refl))

-- a record without fault: the order allows it, one more is allowed, and its own rules hold
pub record Taken (x : Context) (r : Record) : Type 0 where
  pub order : Allowed x r
  pub few : x.counts.records < most_records
  pub own : own_fault x r ≡ 0

pub fault_facts : (x : Context) (r : Record) → fault x r ≡ 0 → Taken x r
unfolding fault
fault_facts x r e =
    eq_elim e
    (λ h q. le_elim q (λ i q. absurd (omega arith)) (λ i q. record { order = h; few = i; own = q }))
    (λ h q. absurd (omega arith))

pub fault_free : (x : Context) (r : Record) → Taken x r → fault x r ≡ 0
unfolding fault
fault_free x r t = sym (eq_case _ 0 _ _ t.order (gt_case most_records x.counts.records _ _ t.few (sym t.own)))
