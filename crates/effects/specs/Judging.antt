-- For the proofs. The judged chance of an effect, by any function that judges. Assumes nothing.
use Rattle.std.specs.Prelude.{◌≡◌, List, ℕ}
use Rattle.terms.specs.declared.Clock.{Clock}
use Rattle.vulnerability.specs.Effect.{effect_on}
use Rattle.terms.specs.declared.Judged.{Judged}
use Rattle.terms.specs.declared.Target.{Target}
use Rattle.model.specs.Bounds.{most_targets}
use Rattle.model.specs.Machine.{fetch, unpacked_facts}
use Rattle.model.specs.Verdict.{field}

-- by the target, the outcome's kind, the intensity and the duration
abbrev pub Judge : Type 0
Judge = Target → ℕ → ℕ → ℕ → Judged

-- on target i, in an outcome of kind k
abbrev pub effect_at : Judge → List ℕ → ℕ → ℕ → ℕ → ℕ → Judged
effect_at judge facts k i q d = judge (unpacked_facts (fetch most_targets facts i)) k q d

-- by its record, on the target that it names
abbrev pub judged_in : Judge → List ℕ → ℕ → List ℕ → Judged
judged_in judge facts k p = effect_at judge facts k (field p 1 2) (field p 3 4) (field p 7 2)

-- outcomes of two kinds whose effects are judged alike
abbrev pub JudgedAlike : ℕ → ℕ → Type 0
JudgedAlike k l = (clock : Clock) (u : Target) (q d : ℕ) → effect_on clock u k q d ≡ effect_on clock u l q d
