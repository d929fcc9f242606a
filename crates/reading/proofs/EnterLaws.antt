-- Laws of a byte more: as many pending bytes as before, and a step of the machine by its parts. Assumes nothing.
use mathlib.Core.Path.{◌≡◌, refl}
use mathlib.Core.Bool.{Bool, true, false}
use mathlib.Core.List.{List}
use Prim.Native.Nat.{ℕ, ◌-◌}
use lib.Dec.{eqb, leb}
use lib.ListN.{length, get_or, set, length-set}
use borrow.Author.Tests.{eqb-true}
use Rattle.numeric.specs.Choice.{pick, if_eq, if_le}
use Rattle.numeric.proofs.ChoiceLaws.{lt_both, eq_both}
use Rattle.state.specs.declared.Reading.{Reading}
use Rattle.model.specs.Verdict.{body_length}
use Rattle.model.specs.Machine.{State, state, store, grown, body, ended, step}
use Rattle.reading.specs.Entering.{reading_with, pending_with, whole_in, whole_with, entered_with, read_if, StepByParts}

pub store_wide : (l : List ℕ) (i v : ℕ) → length (store 16 l i v) ≡ length l
unfolding store
store_wide l i v = lt_both (λ (x : List ℕ). length x ≡ length l) i 16 (set l i v) l (length-set l i v) refl

-- as many pending bytes as before
pub pending_wide : (h : Reading) (p : List ℕ) (b : ℕ) → length (pending_with h p b) ≡ length p
unfolding pending_with
pending_wide h p b = eq_both (λ (x : List ℕ). length x ≡ length p) h.phase 0 (store 16 p h.have b) p (store_wide p h.have b) refl

-- a choice by a test's outcome is the choice by the test
pick_test : (t : Bool) (x y : State) → pick t x y ≡ pick (pick t true false) x y
pick_test true x y = refl
pick_test false x y = refl

pub step_by_parts : StepByParts
unfolding if_eq if_le step body ended reading_with pending_with whole_in whole_with
step_by_parts c p k s m f b = go (eqb c.reading.phase 0) refl (eqb c.reading.have 0) refl
  where
    go : (x : Bool) → eqb c.reading.phase 0 ≡ x → (y : Bool) → eqb c.reading.have 0 ≡ y → step (state c p k s m f) b ≡ read_if (whole_with c.reading p b) (state (entered_with c p b).core (pending_with c.reading p b) k s m f)
    go false e y d = rw e refl
    go true e true d = let z : c.reading.have ≡ 0 = eqb-true _ _ d in rw (e, d, z) refl
    go true e false d = rw (e, d) (pick_test (leb (body_length (get_or (store 16 p c.reading.have b) 0 0)) ((grown c.reading).have - 1)) _ _)
