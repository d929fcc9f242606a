-- Laws of one target's figures: sums that stop at a greatest number, facts packed in one number, and the mark upon them. Assumes nothing.
use mathlib.Core.Path.{◌≡◌, refl, sym, ◌∙◌, ap}
use mathlib.Core.Bool.{Bool, true, false}
use mathlib.Core.List.{List}
use Prim.Native.Nat.{ℕ, ◌+◌, ◌*◌, ◌/◌, ◌%◌, ◌<◌, ◌≤◌, min}
use native.Mathlib.Decide.{ℕ_discrete}
use native.Mathlib.Omega.{arith}
use lib.ListN.{length, get_or}
use Rattle.numeric.specs.Choice.{pick, if_eq}
use Rattle.numeric.proofs.ChoiceLaws.{eq_case, ne_case, pick_both, eq_both}
use Rattle.terms.specs.Terms.{people}
use Rattle.terms.specs.declared.Target.{Target as Facts}
use Rattle.vulnerability.specs.Domino.{listed_by}
use Rattle.model.specs.Bounds.{most_class, most_setting, most_volume}
use Rattle.model.specs.Machine.{up_to, store, packed_facts, unpacked_facts, mark_of, marked_facts}
use Rattle.model.proofs.StackLaws.{stored_here, stored_other}

-- a sum of totals, in a memory that stops at a greatest number
module _ (most n : ℕ) (l : List ℕ) (i v : ℕ) (size : length l ≡ n) (inside : i < n) where
  pub grown_at : (j total : ℕ) → get_or l j 0 ≡ min total most
      → get_or (store n l i (up_to most (get_or l i 0) v)) j 0 ≡ min (total + if_eq i j v 0) most
  grown_at j total e = go (ℕ_discrete i j)
    where
      go : Dec (i ≡ j) → get_or (store n l i (up_to most (get_or l i 0) v)) j 0 ≡ min (total + if_eq i j v 0) most
      go (yes q) =
          let a : v ≡ if_eq i j v 0 = eq_case i j v 0 q refl in
          let b : get_or (store n l i (up_to most (get_or l i 0) v)) i 0 ≡ up_to most (get_or l i 0) v = stored_here n l i _ size inside in
          let s : get_or (store n l i (up_to most (get_or l i 0) v)) j 0 ≡ get_or (store n l i (up_to most (get_or l i 0) v)) i 0 = rw q in
          let r : get_or l i 0 ≡ get_or l j 0 = rw q in
          omega arith
      go (no q) =
          let a : 0 ≡ if_eq i j v 0 = ne_case i j v 0 q refl in
          let b = stored_other n l i j (up_to most (get_or l i 0) v) (λ z. q (sym z)) in
          omega arith

-- the facts of a valid target come out as they went in, without a mark
class_packed : (c s v : ℕ) → c ≤ most_class → s ≤ most_setting → (v * 64 + c % 8 * 8 + s % 4 * 2) / 8 % 8 ≡ c
class_packed c s v h k =
    let a : c % 8 ≡ c = omega arith in
    let b : s % 4 ≡ s = omega arith in
    let d : (v * 64 + c % 8 * 8 + s % 4 * 2) / 8 ≡ v * 8 + c = omega arith in
    rw d (omega arith)

setting_packed : (c s v : ℕ) → c ≤ most_class → s ≤ most_setting → (v * 64 + c % 8 * 8 + s % 4 * 2) / 2 % 4 ≡ s
setting_packed c s v h k =
    let a : c % 8 ≡ c = omega arith in
    let b : s % 4 ≡ s = omega arith in
    let d : (v * 64 + c % 8 * 8 + s % 4 * 2) / 2 ≡ (v * 8 + c) * 4 + s = omega arith in
    rw d (omega arith)

volume_packed : (c s v : ℕ) → c ≤ most_class → s ≤ most_setting → v ≤ most_volume → (v * 64 + c % 8 * 8 + s % 4 * 2) / 64 % 4294967296 ≡ v
volume_packed c s v h k m =
    let a : c % 8 ≡ c = omega arith in
    let b : s % 4 ≡ s = omega arith in
    let d : (v * 64 + c % 8 * 8 + s % 4 * 2) / 64 ≡ v = omega arith in
    rw d (omega arith)

pub facts_packed : (f : Facts) → f.class ≤ most_class → f.setting ≤ most_setting → f.volume ≤ most_volume → unpacked_facts (packed_facts f) ≡ f
unfolding packed_facts unpacked_facts
facts_packed f h k m = λ i. record {
  class = class_packed f.class f.setting f.volume h k i;
  setting = setting_packed f.class f.setting f.volume h k i;
  volume = volume_packed f.class f.setting f.volume h k m i;
}

pub mark_packed : (f : Facts) → mark_of (packed_facts f) ≡ false
unfolding packed_facts
mark_packed f = sym (ne_case _ 1 true false (λ e. omega arith) refl)

-- a mark leaves the facts as they are
marked_same : (x : ℕ) → unpacked_facts (x / 2 * 2 + 1) ≡ unpacked_facts x
unfolding unpacked_facts
marked_same x =
    let y : ℕ = x / 2 * 2 + 1 in
    let a : y / 2 ≡ x / 2 = omega arith in
    let b : y / 8 ≡ x / 8 = omega arith in
    let c : y / 64 ≡ x / 64 = omega arith in
    λ i. record { class = b i % 8; setting = a i % 4; volume = c i % 4294967296 }

pub marked_facts_lem : (x c leak : ℕ) → unpacked_facts (marked_facts x c leak) ≡ unpacked_facts x
unfolding marked_facts
marked_facts_lem x c leak =
    eq_both (λ (y : ℕ). unpacked_facts y ≡ unpacked_facts x) (x / 8 % 8) people x _ refl
    (pick_both (λ (y : ℕ). unpacked_facts y ≡ unpacked_facts x) (listed_by c leak) (x / 2 * 2 + 1) x (marked_same x) refl)

-- a place of people is never marked; equipment is where it was marked before or the effect lists it
pub mark_of_people : (x c leak : ℕ) → (unpacked_facts x).class ≡ people → marked_facts x c leak ≡ x
unfolding marked_facts unpacked_facts
mark_of_people x c leak e = sym (eq_case (x / 8 % 8) people x _ e refl)

pub mark_of_equipment : (x c leak : ℕ) → ((unpacked_facts x).class ≡ people → ⊥) → mark_of (marked_facts x c leak) ≡ pick (mark_of x) true (listed_by c leak)
unfolding marked_facts unpacked_facts
mark_of_equipment x c leak n = ap mark_of (sym (ne_case (x / 8 % 8) people x _ n refl)) ∙ go (listed_by c leak) (mark_of x) refl
  where
    go : (b m : Bool) → mark_of x ≡ m → mark_of (pick b (x / 2 * 2 + 1) x) ≡ pick m true b
    go true true e = sym (eq_case _ 1 true false (omega arith) refl)
    go true false e = sym (eq_case _ 1 true false (omega arith) refl)
    go false true e = e
    go false false e = e
