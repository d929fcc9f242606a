-- For the proofs. What bytes name, and what an argument may be. No statement can say which arguments a program is given. Assumes nothing.
use Rattle.std.specs.Prelude.{◌≡◌, ◌⊎◌, List, ℕ, Option, None, Some, Result, Ok, Err, pos, IsUtf8}
use Rattle.std.specs.Borrow.{Bor}
use Rattle.std.specs.IoError.{raw_os_error}
use Rattle.std.specs.declared.io.Error.{Error}

-- a name is the bytes, if they are text; else the system's number for bytes that are none
abbrev pub NamedBy : List ℕ → Option (Result (Bor (List ℕ)) Error) → Type 0
NamedBy bytes (Some (Ok name)) = name.now ≡ bytes
NamedBy bytes (Some (Err why)) = (IsUtf8 bytes → ⊥) × (raw_os_error why ≡ Some (pos 84))
NamedBy bytes None = ⊥

-- an argument is a name, or fails by the system's number for a name that is too long or for bytes that are no text, or there is none
abbrev pub IsArgument : Option (Result (Bor (List ℕ)) Error) → Type 0
IsArgument (Some (Ok name)) = IsUtf8 name.now
IsArgument (Some (Err why)) = (raw_os_error why ≡ Some (pos 36)) ⊎ (raw_os_error why ≡ Some (pos 84))
IsArgument None = Unit {0}
