-- `ignition::column_of` meets its contract: it counts the rates that are below the given one. Assumes nothing.
use Rattle.std.proofs.Common.{rules, arith, ltb}
use Rattle.std.proofs.lemmas.List.Sorted.{IsPartitionPoint-from_clause}
use Rattle.ignition.proofs.Laws.{all_but_last, rates_parted, column_by_count}
use Rattle.ignition.proofs.column_of.Goals as goal

pub returns : goal.returns
returns c =
    let p = c.partition_point in
    let e = column_by_count c.args.rate p.result p.ensures.bound
    (IsPartitionPoint-from_clause (λ y. ltb y c.args.rate) all_but_last p.result p.ensures.partitioned (rates_parted c.args.rate) (λ a r q k. search rules)) in
    (e, omega (arith, p.ensures.bound))
