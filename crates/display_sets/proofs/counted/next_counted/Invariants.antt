use Rattle.segments.specs.Framing.{frames_left}
use Rattle.display_sets.proofs.CountedLaws.{IsLeft}
use Rattle.display_sets.proofs.counted.next_counted.Given as goal

abbrev pub invariant-loop-head : goal.invariant-loop-head
invariant-loop-head l = IsLeft l.pages l.field l.rest (frames_left l.head-iterator)
