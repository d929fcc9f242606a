-- `volumes::steps` meets its contract: it counts the least volumes that are at most the given one. Assumes nothing.
use Rattle.std.proofs.Common.{◌∙◌, rules, arith, leb}
use Rattle.std.proofs.lemmas.List.Sorted.{IsPartitionPoint-from_clause}
use Rattle.volumes.specs.Tables.{least_volumes}
use Rattle.volumes.proofs.Carried.{volumes_parted, halved_by_count}
use Rattle.volumes.proofs.steps.Goals as goal

pub returns : goal.returns
returns c =
    let p = c.partition_point in (
      search rules ∙ halved_by_count c.args.volume p.result p.ensures.bound
          (IsPartitionPoint-from_clause (λ y. leb y c.args.volume) least_volumes p.result p.ensures.partitioned (volumes_parted c.args.volume) (λ a r q k. search rules)),
      omega (arith, p.ensures.bound),
    )
