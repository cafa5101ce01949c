-- What the reader of a receiver stands for with one more packet.
use Rattle.std.proofs.Common.{◌≡◌, ◌∙◌, ℕ, false, sym, ap, subst}
use Rattle.stream_syntax.specs.Units.{event_at}
use Rattle.decoder_model.specs.PacketArrivals.{packet_arrival}
use Rattle.set_receiver.specs.Receiving.{SetReceiving, HasBeenFed, reception}
use Rattle.set_receiver.proofs.receiver.SetReceiver.feed_reader.Goals as goal

pub returns-clause-stands : goal.returns-clause-stands
returns-clause-stands c fed given stands =
    let before = subst (HasBeenFed false fed given) (sym c.self.view_is) stands in
    record {
      coded = c.in_ok-read.ensures.same.coded ∙ before.coded;
      reads = c.in_ok-read.ensures.stands fed given before.reads;
      holds = before.holds;
    }

pub returns-clause-event : goal.returns-clause-event
returns-clause-event c fed given stands =
    let before = subst (HasBeenFed false fed given) (sym c.self.view_is) stands in
    subst
    (λ (old : SetReceiving). c.in_ok-read.read.event
    ≡ event_at (reception old).pid (reception old).profile.coded fed c.args.packet.now) c.self.view_is
    (c.in_ok-read.ensures.event fed given before.reads
    ∙ ap (λ (n : ℕ). event_at c.self.inside.reader.demux.pid n fed c.args.packet.now) before.coded)

pub returns-clause-arrival : goal.returns-clause-arrival
returns-clause-arrival c fed given stands =
    let before = subst (HasBeenFed false fed given) (sym c.self.view_is) stands in
    subst
    (λ (old : SetReceiving). c.feed.new.self.arrival
    ≡ packet_arrival (reception old).profile.coded (reception old).pid (reception old).pages fed c.args.packet.now)
    c.self.view_is
    (c.in_ok-read.ensures.arrival fed given before.reads
    ∙ ap (λ (n : ℕ). packet_arrival n c.self.inside.reader.demux.pid c.self.inside.reader.sets.pages fed
    c.args.packet.now) before.coded)
