use Rattle.std.proofs.Common.{refl, arith}
use Rattle.display_sets.proofs.FillingLaws.{ends_too_long, ends_whole, stays_open}
use Rattle.display_sets.proofs.filling.add.Goals as goal

pub returns-then-size-from-clause-adds : goal.returns-then-size-from-clause-adds
returns-then-size-from-clause-adds c =
    λ front. λ so_far. rw c.refused.ensures
    (ends_too_long c.args.coded front c.args.bytes.now.items c.args.segment.now so_far c.args.bytes.now.items _
    (omega arith) (omega arith))

pub returns-then-segment-clause-adds : goal.returns-then-segment-clause-adds
returns-then-segment-clause-adds c =
    λ front. λ so_far. rw c.append.ensures.items
    (ends_whole c.args.coded front c.args.bytes.now.items c.args.segment.now so_far _ refl c.if-segment.true
    (omega arith) c.requires.framed)

pub returns-else-segment-clause-adds : goal.returns-else-segment-clause-adds
returns-else-segment-clause-adds c =
    λ front. λ so_far. rw c.append.ensures.items
    (stays_open c.args.coded front c.args.bytes.now.items c.args.segment.now so_far c.if-segment.false (omega arith)
    c.requires.framed)
