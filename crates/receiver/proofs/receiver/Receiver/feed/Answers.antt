-- What a receiver stands for with one more packet, which changes no picture.
use Rattle.std.proofs.Common.{◌≡◌, false, refl, sym, subst}
use Rattle.stream_syntax.specs.Units.{event_at}
use Rattle.decoder_model.specs.PacketArrivals.{packet_arrival}
use Rattle.decoder_model.specs.Received.{Reception}
use Rattle.decoder_model.specs.Sets.{lost}
use Rattle.display_sets.proofs.ReadySets.{at_most_two}
use Rattle.set_receiver.proofs.TakenSets.{all_lost}
use Rattle.receiver.specs.Receiving.{Receiving, Stands, reception}
use Rattle.receiver.specs.Showing.{ArePictures}
use Rattle.receiver.proofs.Turns.{pictures_on}
use Rattle.receiver.proofs.receiver.Receiver.feed.Goals as goal

pub returns-clause-stands : goal.returns-clause-stands
returns-clause-stands c fed given stands =
    let before = subst (Stands false fed given) (sym c.self.view_is) stands in
    let pending = c.self.inside.screen.pending in
    let current = c.self.inside.screen.current in
    let made = c.self.inside.sets.core in
    let held = c.in_ok-event.ensures.stands fed given before.sets in (
      held.0,
      held.1,
      record {
        sets = held.2;
        shows = λ past read.
            subst (λ (one : Reception). ArePictures one.profile one.anchor past pending current)
            (sym c.in_ok-event.ensures.same)
            (all_lost (λ past. ArePictures made.profile made.anchor past pending current) held.0 given held.1
            (λ past are. pictures_on made.profile made.anchor past lost pending current are refl) before.shows past
            read);
      },
    )

pub returns-clause-event : goal.returns-clause-event
returns-clause-event c fed given stands =
    let before = subst (Stands false fed given) (sym c.self.view_is) stands in
    subst
    (λ (old : Receiving). c.in_ok-event.event
    ≡ event_at (reception old).pid (reception old).profile.coded fed c.args.packet.now) c.self.view_is
    (c.in_ok-event.ensures.event fed given before.sets)

pub returns-clause-arrival : goal.returns-clause-arrival
returns-clause-arrival c fed given stands =
    let before = subst (Stands false fed given) (sym c.self.view_is) stands in
    subst
    (λ (old : Receiving). c.feed.new.self.collecting.arrival
    ≡ packet_arrival (reception old).profile.coded (reception old).pid (reception old).pages fed c.args.packet.now)
    c.self.view_is (c.in_ok-event.ensures.arrival fed given before.sets)
