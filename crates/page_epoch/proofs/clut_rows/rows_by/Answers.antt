use Rattle.std.proofs.Common.{ℕ, nat_le, rules}
use Rattle.std.proofs.lemmas.List.Sorted.{IsPartitionPoint-from_clause, IsPartitionedBy-leb}
use Rattle.page_epoch.specs.SentCluts.{row_at}
use Rattle.page_epoch.proofs.clut_rows.rows_by.Goals as goal

pub returns-clause-point : goal.returns-clause-point
returns-clause-point c = λ rise.
    let tick = λ (place : ℕ). (row_at c.args.colours.now place).tick in
    let parted = IsPartitionedBy-leb tick c.args.rows.now c.args.tick rise in
    IsPartitionPoint-from_clause (λ (place : ℕ). nat_le (tick place) c.args.tick) c.args.rows.now
    c.partition_point.result c.partition_point.ensures.partitioned parted (λ a r q k. search rules)
