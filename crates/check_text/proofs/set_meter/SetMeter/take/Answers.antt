-- What is told with one more packet.
use Rattle.std.proofs.Common.{subst}
use Rattle.packet_walk.specs.Told.{TellsOne}
use Rattle.check_text.specs.Checking.{Checking, HasMetered}
use Rattle.check_text.proofs.MeteredLaws.{bytes_of, packet_metered}
use Rattle.check_text.proofs.set_meter.SetMeter.take.Goals as goal

pub returns-clause-told : goal.returns-clause-told
returns-clause-told g c = λ slot_of place slot_is.
    subst
    (λ (checking : Checking). TellsOne (HasMetered slot_of) (g.K.Sink.received c.args.out.now)
    (g.K.Sink.received c.take_calls.new.out) checking
    (record { receiving = c.take_calls.new.receiver; meter = c.take_calls.new.levels }) c.args.buffer.now
    c.take_calls.new.buffer place c.args.packet.now) c.self.view_is
    (packet_metered c.self.inside.receiver c.feed.new.self c.take_calls.new.receiver c.self.inside.levels
    c.take_calls.new.levels c.args.packet.now c.in_ok-event.event _ c.args.slot _ _ c.args.buffer.now
    c.take_calls.new.buffer (bytes_of c.args.packet.now c.fits-packet) c.feed.ensures.same
    c.in_ok-event.ensures.fault (λ fed given stands. c.in_ok-event.ensures.stands fed given stands)
    (λ fed given stands. c.in_ok-event.ensures.event fed given stands)
    (λ fed given stands. c.in_ok-event.ensures.arrival fed given stands) c.arrival-arrival.ensures.arrival
    c.take_calls.ensures.calls c.take_calls.ensures.all slot_of place slot_is)
