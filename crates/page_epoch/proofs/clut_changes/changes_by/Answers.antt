use Rattle.std.proofs.Common.{nat_le, rules}
use Rattle.std.proofs.lemmas.List.Sorted.{IsPartitionPoint-from_clause, IsPartitionedBy-leb}
use Rattle.page_epoch.specs.declared.clut_changes.Change.{Change}
use Rattle.page_epoch.proofs.clut_changes.changes_by.Goals as goal

pub returns-clause-point : goal.returns-clause-point
returns-clause-point c = λ rise.
    let parted = IsPartitionedBy-leb (λ (change : Change). change.tick) c.args.changes.now c.args.tick rise in
    IsPartitionPoint-from_clause (λ (change : Change). nat_le change.tick c.args.tick) c.args.changes.now
    c.partition_point.result c.partition_point.ensures.partitioned parted (λ a r q k. search rules)
