-- Records that are taken one after the other, and the widths of their fields. Assumes nothing.
use mathlib.Core.Path.{◌≡◌}
use mathlib.Core.List.{List, [], ◌∷◌}
use Prim.Native.Nat.{ℕ, ◌^◌, ◌<◌}
use lib.ListN.{length}
use Rattle.model.specs.Content.{given, on_curve, described, in_seconds, timed}
use Rattle.model.specs.Format.{Record, opening_rec, target_rec, leak_rec, branching_rec, outcome_rec, effect_rec, closing_rec}
use Rattle.model.specs.Faults.{Context, role, fault, context_after}
use Rattle.model.specs.Verdict.{body_length}

-- each record is without fault where it stands, and none is the closing one
unfoldable pub Accepts : Context → List Record → Type 0
Accepts x [] = Unit {0}
Accepts x (r ∷ rs) = (fault x r ≡ 0) × (role r ≡ 7 → ⊥) × Accepts (context_after x r) rs

-- the fields of a record fit their bytes
unfoldable pub Fits : Record → Type 0
Fits (opening_rec n) = n < 2 ^ 32
Fits (target_rec n (described f)) = (n < 2 ^ 16) × (f.class < 2 ^ 8) × (f.setting < 2 ^ 8) × (f.volume < 2 ^ 32)
Fits (leak_rec n f) = (n < 2 ^ 32) × (f < 2 ^ 64)
Fits (branching_rec (given p)) = p < 2 ^ 32
Fits (branching_rec (on_curve c r)) = (c < 2 ^ 8) × (r < 2 ^ 32)
Fits (outcome_rec k n) = (k < 2 ^ 8) × (n < 2 ^ 16)
Fits (effect_rec (in_seconds t i d)) = (t < 2 ^ 16) × (i < 2 ^ 32) × (d < 2 ^ 16)
Fits (effect_rec (timed t i d u)) = (t < 2 ^ 16) × (i < 2 ^ 32) × (d < 2 ^ 16) × (u < 2 ^ 8)
Fits (closing_rec n s) = (n < 2 ^ 32) × (s < 2 ^ 64)

-- the bytes of one whole record: a known kind byte and a body of its length
pub record Whole (k : ℕ) (b : List ℕ) : Type 0 where
  pub known : body_length k ≡ 0 → ⊥
  pub full : length b ≡ body_length k

pub record WholeBytes (l : List ℕ) : Type 0 where
  pub kind : ℕ
  pub body : List ℕ
  pub same : l ≡ kind ∷ body
  pub whole : Whole kind body
