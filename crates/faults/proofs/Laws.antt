-- A result and the number it says no with: 0 where it is `Ok`, and no reason has the number 0. Assumes nothing.
use mathlib.Core.Path.{◌≡◌, refl, sym, subst, ◌∙◌}
use mathlib.Core.Bool.{true, false}
use Prim.Native.Nat.{ℕ}
use native.Mathlib.Omega.{arith}
use lib.Dec.{T}
use Rattle.std.specs.Prelude.{Result, Ok, Err, is_ok, IsErr}
use Rattle.state.specs.declared.refusal.Refusal.{Refusal}
use Rattle.state.specs.declared.refusal.Refusal.TheVariants.{UnknownKind, Order, Field, Numbering, TooMany, ClosingDiffers, AfterClosing, NotClosed, NoSuchTarget, ListTooShort}
use Rattle.state.specs.Refusals.{number_of, refusal_in}

pub number_nonzero : (r : Refusal) → number_of r ≡ 0 → ⊥
number_nonzero UnknownKind e = omega arith
number_nonzero Order e = omega arith
number_nonzero Field e = omega arith
number_nonzero Numbering e = omega arith
number_nonzero TooMany e = omega arith
number_nonzero ClosingDiffers e = omega arith
number_nonzero AfterClosing e = omega arith
number_nonzero NotClosed e = omega arith
number_nonzero NoSuchTarget e = omega arith
number_nonzero ListTooShort e = omega arith

pub taken : {A : Type 0} (r : Result A Refusal) (n : ℕ) → is_ok r ≡ true → refusal_in r ≡ n → n ≡ 0
taken (Ok x) n h e = sym e
taken (Err x) n h e = absurd (subst T (sym h) tt)

pub refused : {A : Type 0} (r : Result A Refusal) (n : ℕ) → is_ok r ≡ false → refusal_in r ≡ n → n ≡ 0 → ⊥
refused (Ok x) n h e z = absurd (subst T h tt)
refused (Err x) n h e z = number_nonzero x (e ∙ z)

pub some_refusal : {A : Type 0} (r : Result A Refusal) (n : ℕ) → refusal_in r ≡ n → (n ≡ 0 → ⊥) → IsErr r
some_refusal (Ok x) n e h = absurd (h (sym e))
some_refusal (Err x) n e h = refl
