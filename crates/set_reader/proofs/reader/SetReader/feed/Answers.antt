-- What a reader stands for with one more packet.
use Rattle.std.proofs.Common.{◌≡◌, ◌∙◌, ◌||◌, false, sym, subst}
use Rattle.decoder_model.specs.PacketArrivals.{packet_arrival}
use Rattle.set_reader.specs.Collecting.{Collecting, IsReaderOf}
use Rattle.set_reader.specs.Arrived.{arrival_value}
use Rattle.set_reader.specs.Private.Ends.{end_drops, end_parts}
use Rattle.set_reader.proofs.Feeds.{fed_arrival, fed_stands}
use Rattle.set_reader.proofs.reader.SetReader.feed.Goals as goal

pub returns-clause-stands : goal.returns-clause-stands
returns-clause-stands c fed given stands =
    let before = subst (IsReaderOf false fed given) (sym c.self.view_is) stands in
    fed_stands _ _ fed c.args.packet.now given _ c.self.invariant before c.in_ok-outcome.ensures.fault
    c.in_ok-outcome.ensures.goes_on
    (record {
      pid = c.in_ok-outcome.ensures.goes_on.pid;
      pages = c.in_ok-outcome.ensures.pages;
      coded = c.in_ok-outcome.ensures.coded;
    }) (c.in_ok-outcome.ensures.gathers fed _ given before.demux before.sets)

pub returns-clause-arrival : goal.returns-clause-arrival
returns-clause-arrival c fed given stands =
    let before = subst (IsReaderOf false fed given) (sym c.self.view_is) stands in
    subst
    (λ (old : Collecting). arrival_value c.of-self-inside.result
    ≡ packet_arrival old.sets.coded old.demux.pid old.sets.pages fed c.args.packet.now) c.self.view_is
    (fed_arrival _ fed c.args.packet.now _ _ _ _ c.self.invariant c.in_ok-outcome.ensures.goes_on.size
    (c.in_ok-outcome.ensures.event fed before.demux)
    (c.in_ok-outcome.ensures.end fed _ given before.demux before.sets)
    (c.of-self-inside.ensures.arrival
    ∙ (λ i. record {
      bytes = c.brought-brought.ensures.bytes i;
      before = end_parts c.in_ok-outcome.outcome.end;
      dropped = c.brought-brought.ensures.too_long i || end_drops c.in_ok-outcome.outcome.end;
    })))
