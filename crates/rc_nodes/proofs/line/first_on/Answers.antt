use Rattle.std.proofs.Common.{rules}
use Rattle.std.proofs.lemmas.List.Sorted.{IsPartitionPoint-from_clause}
use Rattle.rc_nodes.specs.Lines.{starts_before}
use Rattle.rc_nodes.proofs.Found.{parted_by_start}
use Rattle.rc_nodes.proofs.line.first_on.Goals as goal

pub returns-clause-parted : goal.returns-clause-parted
returns-clause-parted c =
    let parted = parted_by_start c.args.item.now c.args.taps.now c.requires in
    IsPartitionPoint-from_clause (starts_before c.args.item.now) _ _ c.partition_point.ensures.partitioned parted (λ a r q k. search rules)
