-- What a record does to a study: refused for its place, refused for a fault of its own, or taken. Assumes nothing.
use mathlib.Core.Path.{◌≡◌, refl, sym, ◌∙◌, ap}
use mathlib.Core.Bool.{Bool, true, false}
use mathlib.Core.Logic.{◌⊎◌, inl, inr, ⊎_elim}
use mathlib.Core.List.{List}
use Prim.Native.Nat.{ℕ}
use native.Mathlib.Omega.{arith}
use lib.Dec.{eqb, leb}
use Rattle.numeric.specs.Choice.{pick, if_eq, if_le}
use Rattle.numeric.proofs.ChoiceLaws.{eq_case, ne_case, eq_both, lt_both}
use Rattle.std.specs.Prelude.{Result, Ok, Err, IsErrAnd}
use Rattle.state.specs.declared.Core.{Core}
use Rattle.state.specs.declared.refusal.Refusal.{Refusal}
use Rattle.state.specs.Refusals.{number_of, refusal_in}
use Rattle.model.specs.Bounds.{most_records}
use Rattle.model.specs.Format.{Record}
use Rattle.model.specs.Faults.{role, order_fault, own_fault, fault}
use Rattle.model.specs.Machine.{State, context_in, fault_in, refused_with, with_reading, accepted, record_read}
use Rattle.model.proofs.Follows.{trees_length}
use Rattle.faults.proofs.Laws.{number_nonzero}
use Rattle.study.specs.Placing.{place_fault}

-- a record's place in the order has no other number
module _ (records left trees scenarios k : ℕ) where
  two_or_none : (order_fault records left trees scenarios k ≡ 0) ⊎ (order_fault records left trees scenarios k ≡ 2)
  unfolding order_fault
  two_or_none =
      let P : ℕ → Type 0 = λ n. (n ≡ 0) ⊎ (n ≡ 2) in
      let one = λ (m n : ℕ). eq_both P m n 0 2 (inl refl) (inr refl) in
      eq_both P _ _ _ _ (one _ _) (lt_both P _ _ _ _ (one _ _) (lt_both P _ _ _ _ (eq_both P _ _ _ _ (inl refl) (one _ _)) (eq_both P _ _ _ _ (one _ _) (eq_both P _ _ _ _ (inl refl) (one _ _)))))

  pub order_fault_two : (order_fault records left trees scenarios k ≡ 0 → ⊥) → order_fault records left trees scenarios k ≡ 2
  order_fault_two h = ⊎_elim (λ e. absurd (h e)) (λ e. e) two_or_none

-- the fault of a record of own fault n, by whether the order allows it and whether there are too many: one by its place comes first
abbrev placing : Bool → Bool → ℕ → ℕ
placing a b n = pick a (pick b 5 n) 2

misplaced : (a b : Bool) (n : ℕ) → (placing a b 0 ≡ 0 → ⊥) → placing a b n ≡ placing a b 0
misplaced true true n h = refl
misplaced true false n h = absurd (h refl)
misplaced false b n h = refl

placed : (a b : Bool) (n : ℕ) → placing a b 0 ≡ 0 → placing a b n ≡ n
placed true true n h = omega arith
placed true false n h = refl
placed false b n h = omega arith

module _ (c : Core) (k : List ℕ) (r : Record) where
  abbrev order : ℕ
  order = order_fault c.counts.records c.branch.left c.branch.height c.counts.scenarios (role r)

  fault_placed : fault_in c k r ≡ placing (eqb order 0) (leb most_records c.counts.records) (own_fault (context_in c k) r)
  unfolding fault_in fault if_eq if_le
  fault_placed = rw (trees_length k c.branch.height) refl

  fault_of_place : (place_fault c (role r) ≡ 0 → ⊥) → fault_in c k r ≡ place_fault c (role r)
  unfolding place_fault if_eq if_le
  fault_of_place h = fault_placed ∙ misplaced (eqb order 0) (leb most_records c.counts.records) (own_fault (context_in c k) r) h

  fault_of_own : place_fault c (role r) ≡ 0 → fault_in c k r ≡ own_fault (context_in c k) r
  unfolding place_fault if_eq if_le
  fault_of_own h = fault_placed ∙ placed (eqb order 0) (leb most_records c.counts.records) (own_fault (context_in c k) r) h

-- a record misplaced, one with a fault of its own, and one without
module _ (s : State) (r : Record) {x : State} where
  with_fault : (n : ℕ) → fault_in s.core s.stack r ≡ n → (n ≡ 0 → ⊥) → x ≡ with_reading s (refused_with s.core.reading n) → x ≡ record_read s r
  unfolding record_read
  with_fault n e h q = ne_case _ _ _ _ (λ z. h (sym e ∙ z)) (rw e q)

  pub place_refused : (n : ℕ) → n ≡ place_fault s.core (role r) → (n ≡ 0 → ⊥) → x ≡ with_reading s (refused_with s.core.reading n) → x ≡ record_read s r
  place_refused n e h = with_fault n (fault_of_place s.core s.stack r (λ z. h (e ∙ z)) ∙ sym e) h

  pub own_refused : (m n : ℕ) → m ≡ place_fault s.core (role r) → m ≡ 0 → n ≡ own_fault (context_in s.core s.stack) r → (n ≡ 0 → ⊥)
      → x ≡ with_reading s (refused_with s.core.reading n) → x ≡ record_read s r
  own_refused m n p z e h = with_fault n (fault_of_own s.core s.stack r (sym p ∙ z) ∙ sym e) h

  pub without_fault : (m n : ℕ) → m ≡ place_fault s.core (role r) → m ≡ 0 → n ≡ own_fault (context_in s.core s.stack) r → n ≡ 0 → x ≡ accepted s r → x ≡ record_read s r
  unfolding record_read
  without_fault m n p z e y q = eq_case _ _ _ _ (fault_of_own s.core s.stack r (sym p ∙ z) ∙ sym e ∙ y) q

-- what `?` hands on has the reason's number
pub err_number : (y : Result Unit Refusal) (w : Refusal) → IsErrAnd y (λ e. e ≡ w) → refusal_in y ≡ number_of w
err_number (Ok d) w h = absurd h
err_number (Err v) w h = ap number_of h

-- A record's first fault: by its place, or of its own.
module _ (c : Core) (k : List ℕ) (r : Record) where
  pub first_by_place : (w : Refusal) → number_of w ≡ place_fault c (role r) → number_of w ≡ fault_in c k r
  first_by_place w e = e ∙ sym (fault_of_place c k r (λ z. number_nonzero w (e ∙ z)))

  pub fault_by_own : (n : ℕ) → 0 ≡ place_fault c (role r) → n ≡ own_fault (context_in c k) r → n ≡ fault_in c k r
  fault_by_own n p e = e ∙ sym (fault_of_own c k r (sym p))

-- A record is refused with its fault, or taken without one.
module _ (s : State) (r : Record) {x : State} where
  pub refused_for : (w : Refusal) → number_of w ≡ fault_in s.core s.stack r → x ≡ with_reading s (refused_with s.core.reading (number_of w)) → x ≡ record_read s r
  refused_for w e q = with_fault s r (number_of w) (sym e) (number_nonzero w) q

  pub refused_as : (fault_in s.core s.stack r ≡ 0 → ⊥) → x ≡ with_reading s (refused_with s.core.reading (fault_in s.core s.stack r)) → x ≡ record_read s r
  refused_as h q = with_fault s r _ refl h q

  pub taken_for : 0 ≡ fault_in s.core s.stack r → x ≡ accepted s r → x ≡ record_read s r
  unfolding record_read
  taken_for e q = eq_case _ _ _ _ (sym e) q
