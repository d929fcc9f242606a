-- `study::whole::read_some` meets its contract: records of scenarios in a row, or one record. Assumes nothing.
use mathlib.Core.Path.{sym, ◌∙◌, ap}
use Rattle.study.specs.Spans.{of_scenario}
use Rattle.study.proofs.SpanLaws.{read_alone, records_alone}
use Rattle.study.proofs.whole.read_some.Goals as goal

pub read_scenarios-requires : goal.read_scenarios-requires
read_scenarios-requires c = (c.requires, ap of_scenario (sym c.kind.ensures) ∙ sym c.of_scenario.ensures ∙ c.if-of_scenario.true)

pub returns-then-of_scenario : goal.returns-then-of_scenario
returns-then-of_scenario c = record {
  records = c.read_scenarios.ensures.records;
  by_index = λ q. c.read_scenarios.ensures.by_index q;
}

pub read_other-requires : goal.read_other-requires
read_other-requires c = ap of_scenario (sym c.kind.ensures) ∙ sym c.of_scenario.ensures ∙ c.if-of_scenario.false

pub returns : goal.returns
returns c =
    let l = c.args.bytes.now in
    let n = c.read_other.ensures.at_value in
    record {
      records = records_alone l _ n c.requires;
      by_index = λ q. read_alone _ _ q _ _ _ _ l _ n (c.read_other.ensures.facts_after c.args.kinds.now q _ _ _);
    }
