-- The packets so far.
use Rattle.std.proofs.Common.{◌≡◌, ◌+◌, [], take}
use Rattle.display_sets.specs.Gathered.{ready_sets}
use Rattle.splice.specs.Private.Surveyed.{GoesThrough}
use Rattle.splice.specs.declared.found.Survey.TheVariants.{Whole}
use Rattle.splice.proofs.survey.gone_through.Given as goal

abbrev pub invariant-loop-packet : goal.invariant-loop-packet
invariant-loop-packet l = record {
  place : l.place ≡ l.first + l.packet-index;
  none : ready_sets l.receiver.collecting.sets ≡ [];
  through : GoesThrough l.part l.first (take l.packet-index l.packets) l.fn.receiver l.receiver (Whole l.fn.so_far)
      (Whole l.found) l.fn.joined l.joined;
}
