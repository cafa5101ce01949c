-- One packet more.
use Rattle.std.proofs.Common.{◌∙◌, ◌++◌, ◌∷◌, [], ℕ, Option, ap, sym, subst}
use Rattle.std.specs.Option.{option_or}
use Rattle.decoder_model.specs.Received.{Reception}
use Rattle.packet_walk.specs.Told.{TellsOne}
use Rattle.service_tables.specs.Clock.{clock_pid}
use Rattle.service_tables.specs.Reading.{HasRead, ProgrammesRead}
use Rattle.level_text.specs.Clocking.{Clocking, TakesSampled}
use Rattle.level_text.specs.Following.{Following, HasFollowed}
use Rattle.level_text.specs.ProgrammeClock.{sample_by}
use Rattle.level_text.proofs.FollowLaws.{clock_same, on_ok_of, one_followed, one_passed}
use Rattle.level_text.proofs.programme_levels.ProgrammeLevels.take.Goals as goal

pub returns-then-is_wanting-clause-told : goal.returns-then-is_wanting-clause-told
returns-then-is_wanting-clause-told g c =
    on_ok_of c.check_packet.result
    (one_passed (g.K.Sink.received c.args.out.now) c.args.self.now c.args.buffer.now c.args.place c.args.packet.now
    (ap (λ (followed : Following). followed.programmes.is_wanting) (sym c.self.view_is) ∙ sym c.is_wanting.ensures
    ∙ c.if-is_wanting.true))

pub returns-then-feed-clause-told : goal.returns-then-feed-clause-told
returns-then-feed-clause-told g c =
    let own : Following = record {
      levels = c.self.inside.levels;
      programmes = c.self.inside.programmes;
      clock = c.self.inside.clock;
    } in
    let new = c.look_for_clock.new.self in
    subst (λ (old : Following). TellsOne HasFollowed (g.K.Sink.received c.args.out.now)
    (g.K.Sink.received c.take.new.out) old new c.args.buffer.now c.take.new.buffer c.args.place c.args.packet.now)
    c.self.view_is
    (one_followed (g.K.Sink.received c.args.out.now) (g.K.Sink.received c.take.new.out) own new c.args.buffer.now
    c.take.new.buffer c.args.place c.args.packet.now (sym c.is_wanting.ensures ∙ c.if-is_wanting.false)
    (subst (λ (levels : Clocking). TakesSampled (g.K.Sink.received c.args.out.now) (g.K.Sink.received c.take.new.out)
    c.self.inside.levels levels c.args.buffer.now c.take.new.buffer (sample_by c.self.inside.clock c.args.packet.now)
    c.args.packet.now) (sym c.look_for_clock.ensures.levels)
    (subst (λ (sample : Option ℕ). TakesSampled (g.K.Sink.received c.args.out.now) (g.K.Sink.received c.take.new.out)
    c.self.inside.levels c.take.new.self c.args.buffer.now c.take.new.buffer sample c.args.packet.now)
    c.sample_by-sample.ensures.sample c.in_ok-take.ensures.told))
    (ap (λ (levels : Clocking). levels.meter.asked) c.look_for_clock.ensures.levels ∙ c.take.ensures.asked)
    (λ packets read. subst (λ (programmes : ProgrammesRead). HasRead programmes (packets ++ c.args.packet.now ∷ []))
    (sym c.look_for_clock.ensures.programmes) (c.feed.ensures.read packets read))
    (λ packets still read known. c.look_for_clock.ensures.clock (packets ++ c.args.packet.now ∷ [])
    (ap (λ (programmes : ProgrammesRead). programmes.is_wanting) (sym c.look_for_clock.ensures.programmes) ∙ still)
    (c.feed.ensures.read packets read)
    ∙ ap (λ (made : Reception). option_or c.self.inside.clock
    (clock_pid (packets ++ c.args.packet.now ∷ []) made.pid)) c.take.ensures.asked))

pub returns-else-feed-clause-told : goal.returns-else-feed-clause-told
returns-else-feed-clause-told g c =
    let own : Following = record {
      levels = c.self.inside.levels;
      programmes = c.self.inside.programmes;
      clock = c.self.inside.clock;
    } in
    let new : Following =
    record { levels = c.take.new.self; programmes = c.feed.new.self; clock = c.self.inside.clock } in
    subst (λ (old : Following). TellsOne HasFollowed (g.K.Sink.received c.args.out.now)
    (g.K.Sink.received c.take.new.out) old new c.args.buffer.now c.take.new.buffer c.args.place c.args.packet.now)
    c.self.view_is
    (one_followed (g.K.Sink.received c.args.out.now) (g.K.Sink.received c.take.new.out) own new c.args.buffer.now
    c.take.new.buffer c.args.place c.args.packet.now (sym c.is_wanting.ensures ∙ c.if-is_wanting.false)
    (subst (λ (sample : Option ℕ). TakesSampled (g.K.Sink.received c.args.out.now) (g.K.Sink.received c.take.new.out)
    c.self.inside.levels c.take.new.self c.args.buffer.now c.take.new.buffer sample c.args.packet.now)
    c.sample_by-sample.ensures.sample c.in_ok-take.ensures.told)
    c.take.ensures.asked c.feed.ensures.read
    (λ packets still read known. clock_same c.self.inside.clock c.self.inside.levels.meter.asked.pid packets
    c.args.packet.now known (c.feed.ensures.same c.if-feed.false still packets read)))
