-- For the proofs. The six totals of the outcome kinds apart from the others: in a list, and put back. Assumes nothing.
use Rattle.std.specs.Prelude.{List, [], ◌∷◌, ℕ, get_or}
use Rattle.state.specs.declared.Tally.{Tally}
use Rattle.state.specs.declared.Core.{Core}
use Rattle.model.specs.Machine.{core}

abbrev pub kinds_of : Tally → List ℕ
kinds_of y = y.kind0 ∷ y.kind1 ∷ y.kind2 ∷ y.kind3 ∷ y.kind4 ∷ y.kind5 ∷ []

-- the totals with those of the kinds from a list
abbrev pub tally_with : List ℕ → Tally → Tally
tally_with l y =
    record {
      study = y.study;
      kind0 = get_or l 0 0;
      kind1 = get_or l 1 0;
      kind2 = get_or l 2 0;
      kind3 = get_or l 3 0;
      kind4 = get_or l 4 0;
      kind5 = get_or l 5 0;
      unjudged = y.unjudged;
    }

abbrev pub with_kinds : Core → List ℕ → Core
with_kinds c l = core c.reading c.counts c.branch (tally_with l c.tally)
