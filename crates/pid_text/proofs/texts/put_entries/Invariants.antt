use Rattle.std.proofs.Common.{take}
use Rattle.std.specs.List.{flat_map}
use Rattle.command_text.specs.Putting.{PutsOut}
use Rattle.pid_text.specs.Private.Telling.{entry_text}
use Rattle.pid_text.proofs.texts.put_entries.Given as goal

abbrev pub invariant-loop-entry : goal.invariant-loop-entry
invariant-loop-entry g l =
    PutsOut (g.K.Sink.received l.fn.out) (g.K.Sink.received l.out) l.fn.buffer l.buffer
    (flat_map entry_text (take l.entry-index l.entries))
