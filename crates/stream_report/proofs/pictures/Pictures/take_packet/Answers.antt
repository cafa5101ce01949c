use Rattle.std.proofs.Common.{ℕ, ◌<◌, subst}
use Rattle.std.proofs.lemmas.List.Elements.{All-from_get_or}
use Rattle.packet_walk.specs.Told.{TellsOne}
use Rattle.stream_report.specs.Private.Picturing.{HasPictured, Picturing}
use Rattle.stream_report.proofs.PictureLaws.{packet_told}
use Rattle.stream_report.proofs.pictures.Pictures.take_packet.Goals as goal

pub returns-clause-told : goal.returns-clause-told
returns-clause-told g c place =
    subst
    (λ (old : Picturing). TellsOne HasPictured
    (g.K.Sink.received c.args.out.now)
    (g.K.Sink.received c.take_ready-self-inside.new.out)
    old
    (record {
      receiving = c.take_ready-self-inside.new.receiver;
      bands = c.self.inside.bands;
      until = c.take_ready-self-inside.result;
    })
    c.args.buffer.now c.take_ready-self-inside.new.buffer place c.args.packet.now)
    c.self.view_is
    (packet_told _ _ _ c.feed.new.self c.take_ready-self-inside.new.receiver c.take_ready-self-inside.result
    c.args.buffer.now c.take_ready-self-inside.new.buffer place c.args.packet.now
    (All-from_get_or (λ (b : ℕ). b < 256) c.args.packet.now 0 (λ i within. c.fits-packet i))
    c.in_ok-feed.ensures.same c.in_ok-feed.ensures.stands c.take_ready-self-inside.ensures.same
    c.take_ready-self-inside.ensures.all c.take_ready-self-inside.ensures.pictures)
