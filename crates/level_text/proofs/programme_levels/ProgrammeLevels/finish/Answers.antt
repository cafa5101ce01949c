-- The end of the packets.
use Rattle.std.proofs.Common.{◌≡◌, false, sym, subst}
use Rattle.level_text.specs.Following.{FinishesFollowing, Following}
use Rattle.level_text.proofs.FollowLaws.{all_followed}
use Rattle.level_text.proofs.programme_levels.ProgrammeLevels.finish.Goals as goal

pub returns : goal.returns
returns g c =
    let own : Following = record {
      levels = c.self.inside.levels;
      programmes = c.self.inside.programmes;
      clock = c.self.inside.clock;
    } in
    subst (λ (followed : Following). FinishesFollowing c.args.ended (g.K.Sink.received c.args.out.now)
    (g.K.Sink.received c.finish.new.out) followed c.finish.result c.args.buffer.now c.finish.new.buffer)
    c.self.view_is
    (all_followed c.args.ended (g.K.Sink.received c.args.out.now) (g.K.Sink.received c.finish.new.out) own
    c.finish.result c.args.buffer.now c.finish.new.buffer
    (subst (λ (followed : Following). followed.programmes.is_wanting ≡ false) (sym c.self.view_is) c.requires)
    c.finish.ensures)
