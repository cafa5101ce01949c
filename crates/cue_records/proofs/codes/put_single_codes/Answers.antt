use Rattle.std.proofs.Common.{arith}
use Rattle.cue_records.proofs.CodesLaws.{single_more}
use Rattle.cue_records.proofs.codes.put_single_codes.Goals as goal

pub loop-place-preserved : goal.loop-place-preserved
loop-place-preserved c =
    let l = c.loop-place in
    single_more c.args.limit c.args.text.now l.codes l.place c.digit_value-value.result l.valid c.requires.small
    (omega (arith, c.loop-place-test.true, c.requires.room, l.invariant.count)) c.digit_value-value.ensures
    l.invariant
