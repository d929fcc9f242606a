-- For the proofs. Effects that follow one another, read at once. Assumes nothing.
use Rattle.std.specs.Prelude.{ℕ, ◌+◌, ◌-◌}
use Rattle.state.specs.declared.Core.{Core}
use Rattle.state.specs.declared.Reading.{Reading}
use Rattle.model.specs.Machine.{up_to, most32, open_phase, core, reading}

-- the reading after effects of so many bytes, from the one with the first of them entered
abbrev pub reading_after : Reading → ℕ → Reading
reading_after h a = reading open_phase 0 (h.start + a) (h.start + a) 0 0

-- the parts that go by value after n effects of so many bytes, with the least target that the next one may name and the effects so far that no rule judged
abbrev pub core_after : Core → ℕ → ℕ → ℕ → ℕ → Core
core_after c n a x u =
    core (reading_after c.reading a)
    (record { records = up_to most32 c.counts.records n; targets = c.counts.targets; scenarios = c.counts.scenarios; last = c.counts.last; leaks = c.counts.leaks })
    (record { height = c.branch.height; left = c.branch.left - n; next = x; leak = c.branch.leak; kind = c.branch.kind; frequency = c.branch.frequency; above = c.branch.above })
    (record { study = c.tally.study; kind0 = c.tally.kind0; kind1 = c.tally.kind1; kind2 = c.tally.kind2; kind3 = c.tally.kind3; kind4 = c.tally.kind4; kind5 = c.tally.kind5; unjudged = u })
