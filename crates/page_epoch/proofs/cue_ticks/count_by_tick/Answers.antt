use Rattle.std.proofs.Common.{ℕ, nat_le, sym, rules}
use Rattle.std.proofs.lemmas.List.Sorted.{IsPartitionPoint-from_clause, IsPartitionedBy-leb}
use Rattle.page_epoch.proofs.ShowLaws.{counted}
use Rattle.page_epoch.proofs.cue_ticks.count_by_tick.Goals as goal

pub returns : goal.returns
returns c = λ rise.
    let p = λ (other : ℕ). nat_le other c.args.tick in
    let parted = IsPartitionedBy-leb (λ (x : ℕ). x) c.args.ticks.now c.args.tick rise in
    let point =
    IsPartitionPoint-from_clause p c.args.ticks.now c.partition_point.result c.partition_point.ensures.partitioned
    parted (λ a r q k. search rules) in
    sym (counted p c.args.ticks.now c.partition_point.result c.partition_point.ensures.bound point)
