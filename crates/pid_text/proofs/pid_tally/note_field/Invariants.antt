use Rattle.stream_syntax.specs.DataField.{frames_of}
use Rattle.segments.specs.Framing.{frames_left}
use Rattle.pid_text.specs.Private.Tallying.{HasNoted}
use Rattle.pid_text.proofs.pid_tally.note_field.Given as goal

abbrev pub invariant-loop-head : goal.invariant-loop-head
invariant-loop-head l = HasNoted (frames_of l.field) (frames_left l.head-iterator) l.fn.pages l.pages
