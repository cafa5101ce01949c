use Rattle.std.proofs.Common.{length}
use Rattle.command_text.specs.PictureText.{PutsRow}
use Rattle.command_text.proofs.picture_text.put_row.Given as goal

abbrev pub invariant-loop-rest : goal.invariant-loop-rest
invariant-loop-rest g l =
    record {
      puts : PutsRow
          (g.K.Sink.received l.fn.sink)
          (g.K.Sink.received l.sink)
          l.fn.buffer l.buffer l.row l.rest;
    }

abbrev pub decreases-loop-rest : goal.decreases-loop-rest
decreases-loop-rest g l = length l.rest
