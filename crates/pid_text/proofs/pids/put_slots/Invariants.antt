use Rattle.std.proofs.Common.{slice_index_or}
use Rattle.command_text.specs.Putting.{PutsOut}
use Rattle.pid_text.specs.PidText.{texts_below}
use Rattle.pid_text.specs.Private.Telling.{no_slot, slot_text}
use Rattle.pid_text.proofs.pids.put_slots.Given as goal

abbrev pub invariant-loop-pid : goal.invariant-loop-pid
invariant-loop-pid g l =
    PutsOut (g.K.Sink.received l.fn.out) (g.K.Sink.received l.out) l.fn.buffer l.buffer
    (texts_below (λ pid. slot_text pid (slice_index_or l.slots pid no_slot)) l.pid)
