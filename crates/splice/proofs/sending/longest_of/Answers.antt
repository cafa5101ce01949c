-- One length more.
use Rattle.std.proofs.Common.{◌∙◌, ap, max}
use Rattle.splice.proofs.SendingLaws.{greatest_step}
use Rattle.splice.proofs.sending.longest_of.Goals as goal

pub loop-length-preserved : goal.loop-length-preserved
loop-length-preserved c =
    greatest_step c.args.lengths.now c.loop-length.length-index c.loop-length.longest c.max-longest.result
    c.loop-length-test.true (c.max-longest.ensures ∙ ap (max c.loop-length.longest) c.from.ensures)
    c.loop-length.invariant
