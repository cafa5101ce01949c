use Rattle.std.proofs.Common.{◌≤◌, ◌+◌, length}
use Rattle.stream_syntax.specs.DataField.{frames_of}
use Rattle.stream_syntax.proofs.FrameLaws.{bytes_held}
use Rattle.segments.specs.Framing.{frames_left}
use Rattle.list_text.proofs.ListLaws.{AreLinesSoFar}
use Rattle.list_text.proofs.units.list_segments.Given as goal

abbrev pub invariant-loop-head : goal.invariant-loop-head
invariant-loop-head g l =
    record {
      place : l.place + bytes_held (frames_left l.head-iterator) ≤ 2 + length l.segments;
      told : AreLinesSoFar
          (g.K.Sink.received l.fn.sink)
          (g.K.Sink.received l.sink)
          l.fn.buffer l.buffer l.place (frames_left l.head-iterator) (frames_of l.segments);
    }
