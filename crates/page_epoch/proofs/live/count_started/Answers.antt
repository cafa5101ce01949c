use Rattle.std.proofs.Common.{nat_le, rules}
use Rattle.std.proofs.lemmas.List.Sorted.{IsPartitionPoint-from_clause, IsPartitionedBy-leb}
use Rattle.page_epoch.specs.declared.live.CueStart.{CueStart}
use Rattle.page_epoch.proofs.live.count_started.Goals as goal

pub returns-clause-point : goal.returns-clause-point
returns-clause-point c = λ rise.
    let parted = IsPartitionedBy-leb (λ (start : CueStart). start.tick) c.args.starts.now c.args.tick rise in
    IsPartitionPoint-from_clause (λ (start : CueStart). nat_le start.tick c.args.tick) c.args.starts.now
    c.partition_point.result c.partition_point.ensures.partitioned parted (λ a r q k. search rules)
