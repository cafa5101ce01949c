-- The end of a walk by the clock of a programme.
use Rattle.std.proofs.Common.{◌∙◌, Bool, ap, sym, subst}
use Rattle.level_text.specs.Following.{FinishesFollowing}
use Rattle.packet_walk.specs.Closing.{is_whole_end}
use Rattle.packet_walk.specs.declared.walk.WalkEnd.{WalkEnd}
use Rattle.packet_walk.specs.declared.walk.WalkEnd.TheVariants as end
use Rattle.stream_report.specs.Private.ClockEnds.{FinishesByClock}
use Rattle.stream_report.proofs.ClockEndLaws.{finished_by, finished_unwritten, finished_wanting, or_false}
use Rattle.stream_report.proofs.level_tool.finish_by_clock.Goals as goal

pub returns-then-is_wanting : goal.returns-then-is_wanting
returns-then-is_wanting g c =
    finished_wanting c.args.levels (g.K.Sink.received c.args.out.now) c.args.buffer.now c.args.end
    (sym c.is_wanting.ensures ∙ c.if-is_wanting.true)

pub returns-in-Stream : goal.returns-in-Stream
returns-in-Stream g c =
    subst (λ (ended : WalkEnd). FinishesByClock c.args.levels (g.K.Sink.received c.args.out.now)
    (g.K.Sink.received c.finish.new.out) c.args.buffer.now c.finish.new.buffer ended c.finish.result)
    (sym c.in-Stream.is)
    (finished_by c.args.levels (g.K.Sink.received c.args.out.now) (g.K.Sink.received c.finish.new.out)
    c.args.buffer.now c.finish.new.buffer (end.Stream c.in-Stream.field-0) c.finish.result tt
    (subst (λ (ended : Bool). FinishesFollowing ended (g.K.Sink.received c.args.out.now)
    (g.K.Sink.received c.finish.new.out) c.args.levels c.finish.result c.args.buffer.now c.finish.new.buffer)
    (c.is_whole.ensures ∙ ap is_whole_end c.in-Stream.is) c.finish.ensures))

pub returns-in-Refused : goal.returns-in-Refused
returns-in-Refused g c =
    subst (λ (ended : WalkEnd). FinishesByClock c.args.levels (g.K.Sink.received c.args.out.now)
    (g.K.Sink.received c.finish-in-Refused.new.out) c.args.buffer.now c.finish-in-Refused.new.buffer ended
    c.finish-in-Refused.result) (sym c.in-Refused.is)
    (finished_by c.args.levels (g.K.Sink.received c.args.out.now) (g.K.Sink.received c.finish-in-Refused.new.out)
    c.args.buffer.now c.finish-in-Refused.new.buffer (end.Refused c.in-Refused.field-0) c.finish-in-Refused.result tt
    c.finish-in-Refused.ensures)

pub returns-in-Unwritten : goal.returns-in-Unwritten
returns-in-Unwritten g c =
    subst (λ (ended : WalkEnd). FinishesByClock c.args.levels (g.K.Sink.received c.args.out.now)
    (g.K.Sink.received c.args.out.now) c.args.buffer.now c.args.buffer.now ended _) (sym c.in-Unwritten.is)
    (finished_unwritten c.args.levels (g.K.Sink.received c.args.out.now) c.args.buffer.now
    (or_false _ _ (sym c.is_wanting.ensures ∙ c.if-is_wanting.false)).1)
