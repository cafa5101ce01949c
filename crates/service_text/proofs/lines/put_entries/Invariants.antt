use Rattle.std.proofs.Common.{take}
use Rattle.std.specs.List.{flat_map}
use Rattle.command_text.specs.Putting.{PutsOut}
use Rattle.service_text.specs.ServiceText.{service_line}
use Rattle.service_text.proofs.lines.put_entries.Given as goal

abbrev pub invariant-loop-entry : goal.invariant-loop-entry
invariant-loop-entry g l =
    PutsOut (g.K.Sink.received l.fn.out) (g.K.Sink.received l.out) l.fn.buffer l.buffer
    (flat_map service_line (take l.entry-index l.entries))
