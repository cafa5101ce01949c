-- A packet without a sample.
use Rattle.level_text.proofs.ClockLaws.{waits_sampled}
use Rattle.level_text.proofs.clock_levels.ClockLevels.take_unsampled.Goals as goal

pub returns-then-self-lt-MOST_BETWEEN-clause-told : goal.returns-then-self-lt-MOST_BETWEEN-clause-told
returns-then-self-lt-MOST_BETWEEN-clause-told g c =
    waits_sampled (g.K.Sink.received c.args.out.now) c.args.self.now c.hold.new.self c.args.buffer.now c.args.packet.now
    c.hold.ensures.told
