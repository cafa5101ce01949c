use Rattle.std.proofs.Common.{take}
use Rattle.dvbsub_cmd.specs.ExpectOutcome.{expect_text}
use Rattle.command_text.specs.Putting.{PutsOut}
use Rattle.dvbsub_cmd.proofs.expect.put_pictures.Given as goal

abbrev pub invariant-loop-tick : goal.invariant-loop-tick
invariant-loop-tick g l =
    PutsOut
    (g.K.Sink.received l.fn.out)
    (g.K.Sink.received l.out)
    l.fn.buffer l.buffer (expect_text l.script (take l.tick-index l.ticks))
