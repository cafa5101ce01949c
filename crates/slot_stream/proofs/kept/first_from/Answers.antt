use Rattle.std.proofs.Common.{ℕ, nat_lt, rules}
use Rattle.std.proofs.lemmas.List.Sorted.{IsPartitionPoint-from_clause, IsPartitionedBy-ltb}
use Rattle.slot_stream.proofs.KeptLaws.{first_next, never_falls}
use Rattle.slot_stream.proofs.kept.first_from.Goals as goal

pub returns : goal.returns
returns c =
    let slots = c.args.slots.now in
    let parted = IsPartitionedBy-ltb (λ (slot : ℕ). slot) slots c.args.from (never_falls slots c.requires.rising) in
    let next = first_next slots c.partition_point.result c.args.from c.partition_point.ensures.bound
    (IsPartitionPoint-from_clause (λ (slot : ℕ). nat_lt slot c.args.from) slots c.partition_point.result
    c.partition_point.ensures.partitioned parted (λ a r q k. search rules)) in
    record { next = next }
