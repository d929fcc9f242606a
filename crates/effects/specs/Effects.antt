-- For the proofs. Effects of one outcome, taken one after the other: the machine's steps on what they change. Assumes nothing.
use Rattle.std.specs.Prelude.{Bool, true, false, List, ℕ, zero, suc, ◌+◌, get_or, drop}
use Rattle.numeric.specs.Choice.{pick, if_eq, if_lt}
use Rattle.state.specs.declared.Branch.{Branch}
use Rattle.model.specs.Bounds.{most_targets}
use Rattle.model.specs.Faults.{effect_fault}
use Rattle.model.specs.Machine.{up_to, most32, store, row_of, row_after}
use Rattle.model.specs.Verdict.{field}
use Rattle.effects.specs.Judging.{Judge, judged_in}

-- the least target that the next effect may name, the effects so far that no rule judged, and the figures of the targets
pub record Figures : Type 0 where
  pub next : ℕ
  pub unjudged : ℕ
  pub sums : List ℕ
  pub margins : List ℕ
  pub facts : List ℕ

abbrev pub figures : ℕ → ℕ → List ℕ → List ℕ → List ℕ → Figures
figures x u s m f = record { next = x; unjudged = u; sums = s; margins = m; facts = f }

-- after the effect that some bytes begin with
unfoldable pub after_effect : Judge → Branch → Figures → List ℕ → Figures
after_effect judge b g p =
    figures (field p 1 2 + 1) (up_to most32 g.unjudged (pick (judged_in judge g.facts b.kind p).judged 0 1))
    (store most_targets g.sums (field p 1 2) (row_after (row_of g.sums g.margins g.facts (field p 1 2)) b (judged_in judge g.facts b.kind p).chance).sum)
    (store most_targets g.margins (field p 1 2) (row_after (row_of g.sums g.margins g.facts (field p 1 2)) b (judged_in judge g.facts b.kind p).chance).margin)
    (store most_targets g.facts (field p 1 2) (row_after (row_of g.sums g.margins g.facts (field p 1 2)) b (judged_in judge g.facts b.kind p).chance).facts)

-- where the effect of a number begins, counted from 0, among effects of w bytes
unfoldable pub offset : ℕ → ℕ → ℕ
offset w zero = 0
offset w (suc n) = offset w n + w

-- after the first n effects of some bytes, of w bytes each
unfoldable pub after_effects : Judge → Branch → Figures → ℕ → List ℕ → ℕ → Figures
after_effects judge b g w l zero = g
after_effects judge b g w l (suc n) = after_effect judge b (after_effects judge b g w l n) (drop (offset w n) l)

-- whether some bytes begin with an effect of a kind that has no fault but for its unit
unfoldable pub sound : ℕ → ℕ → ℕ → ℕ → List ℕ → Bool
sound k targets kind next p =
    if_eq (get_or p 0 0) k
    (if_eq (effect_fault targets kind next (field p 1 2) (field p 3 4) (field p 7 2)) 0 true false)
    false

-- how many of the first n pass a test: those before the first that does not
unfoldable pub leading : (ℕ → Bool) → ℕ → ℕ
leading test zero = 0
leading test (suc n) = if_lt (leading test n) n (leading test n) (pick (test n) (n + 1) n)

-- how many of the first n effects of some bytes are taken, of kind k and w bytes each
abbrev pub taken_of : Judge → ℕ → ℕ → ℕ → Branch → Figures → List ℕ → ℕ → ℕ
taken_of judge k w targets b g l n = leading (λ i. sound k targets b.kind (after_effects judge b g w l i).next (drop (offset w i) l)) n
