use Rattle.std.proofs.Common.{arith}
use Rattle.splice.proofs.SurveyLaws.{stopped_through, through_none, through_one}
use Rattle.splice.proofs.survey.gone_through.Goals as goal

pub loop-packet-init : goal.loop-packet-init
loop-packet-init c = record {
  place = omega arith;
  none = c.requires.none;
  through =
      through_none c.args.part c.args.first c.args.packets.now c.args.receiver.now c.args.so_far c.args.joined.now;
}

pub loop-packet-preserved : goal.loop-packet-preserved
loop-packet-preserved c = record {
  place = omega (arith, c.loop-packet.invariant.place);
  none = c.in_default.ensures.none;
  through =
      through_one c.args.part c.args.first c.loop-packet.packet-index c.loop-packet.place c.args.packets.now
      c.args.receiver.now c.loop-packet.receiver c.take_packet.new.receiver c.args.so_far c.loop-packet.found
      c.take_packet.new.found c.args.joined.now c.loop-packet.joined c.take_packet.new.joined
      c.loop-packet.invariant.place c.loop-packet-test.true c.loop-packet.invariant.through
      c.in_default.ensures.packet c.in_default.ensures.taken c.in_default.ensures.none c.in_default.ensures.same;
}

pub returns-in-Err : goal.returns-in-Err
returns-in-Err c =
    stopped_through c.args.part c.args.first c.loop-packet.packet-index c.loop-packet.place c.args.packets.now
    c.args.receiver.now c.loop-packet.receiver c.take_packet.new.receiver c.args.so_far c.loop-packet.found
    c.args.joined.now c.loop-packet.joined c.take_packet.new.joined c.in-Err.stop c.stopped.result
    c.loop-packet.invariant.place c.loop-packet-test.true c.loop-packet.invariant.through c.in-Err.ensures.stop
    c.stopped.ensures
