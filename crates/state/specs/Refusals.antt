-- For the proofs. The numbers of the reasons for which a call says no (document 01, "Numbers the desk says no with"). Assumes nothing.
use Rattle.std.specs.Prelude.{ℕ, Result, Ok, Err}
use Rattle.state.specs.declared.refusal.Refusal.{Refusal}
use Rattle.state.specs.declared.refusal.Refusal.TheVariants.{UnknownKind, Order, Field, Numbering, TooMany, ClosingDiffers, AfterClosing, NotClosed, NoSuchTarget, ListTooShort}

abbrev pub number_of : Refusal → ℕ
number_of UnknownKind = 1
number_of Order = 2
number_of Field = 3
number_of Numbering = 4
number_of TooMany = 5
number_of ClosingDiffers = 6
number_of AfterClosing = 7
number_of NotClosed = 8
number_of NoSuchTarget = 9
number_of ListTooShort = 10

-- the number that a result says no with, and 0 where it says yes
abbrev pub refusal_in : {A : Type 0} → Result A Refusal → ℕ
refusal_in (Ok _) = 0
refusal_in (Err r) = number_of r
