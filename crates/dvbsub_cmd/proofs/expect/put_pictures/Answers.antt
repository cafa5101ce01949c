use Rattle.std.proofs.Common.{refl}
use Rattle.dvbsub_cmd.proofs.TickLaws.{texts_more, PutsOut-text}
use Rattle.dvbsub_cmd.proofs.expect.put_pictures.Goals as goal

pub loop-tick-preserved : goal.loop-tick-preserved
loop-tick-preserved g c =
    PutsOut-text _ _ _ c.args.buffer.now c.loop-tick.buffer c.put_authored.new.buffer _ _ _ c.loop-tick.invariant
    c.put_authored.ensures
    (texts_more c.args.script.now c.args.ticks.now c.loop-tick.tick-index _ c.loop-tick-test.true refl)
