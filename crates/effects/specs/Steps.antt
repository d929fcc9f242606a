-- For the proofs. What one effect leaves of the figures of the targets. Assumes nothing.
use Rattle.std.specs.Prelude.{◌≡◌, List, ℕ}
use Rattle.numeric.specs.Choice.{pick}
use Rattle.state.specs.declared.Branch.{Branch}
use Rattle.model.specs.Bounds.{most_targets}
use Rattle.model.specs.Machine.{store, row_of, row_after}
use Rattle.effects.specs.Judging.{Judge, effect_at}

-- an effect on target i: the figures before it, 1 where no rule judged it, and the figures after it
pub record Added (judge : Judge) (b : Branch) (i q d : ℕ) (s m f : List ℕ) (missed : ℕ) (s' m' f' : List ℕ) : Type 0 where
  pub judging : missed ≡ pick (effect_at judge f b.kind i q d).judged 0 1
  pub sums : s' ≡ store most_targets s i (row_after (row_of s m f i) b (effect_at judge f b.kind i q d).chance).sum
  pub margins : m' ≡ store most_targets m i (row_after (row_of s m f i) b (effect_at judge f b.kind i q d).chance).margin
  pub facts : f' ≡ store most_targets f i (row_after (row_of s m f i) b (effect_at judge f b.kind i q d).chance).facts
