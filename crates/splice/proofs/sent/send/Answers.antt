use Rattle.splice.specs.SplicedSets.{splice_pace}
use Rattle.splice.proofs.SentPackets.{all_sent, kept_cut, sent_in_part}
use Rattle.splice.proofs.sent.send.Goals as goal

pub write_sets-requires-clause-cut : goal.write_sets-requires-clause-cut
write_sets-requires-clause-cut g c =
    let kept = c.requires.kept in (
      kept.1.units,
      kept_cut kept.0 c.args.joined.now (splice_pace c.args.splicing) c.in-Ok.schedule kept.1
          c.in-Ok.ensures.in_time.on_time,
    )

pub returns-in-Ok-write_sets : goal.returns-in-Ok-write_sets
returns-in-Ok-write_sets g c streams can is =
    all_sent c.args.splicing streams c.args.joined.now c.in-Ok.schedule can is c.in-Ok.ensures.in_time _ _
    c.in-Ok-write_sets.ensures.all

pub returns : goal.returns
returns g c streams can is =
    sent_in_part c.args.splicing streams c.args.joined.now c.in-Ok.schedule can is c.in-Ok.ensures.in_time _ _
    (c.in-Err-Write.ensures.front c.in-Err-Write.field-0-is)
    (c.in-Err-Write.ensures.cause c.in-Err-Write.field-0-is)
