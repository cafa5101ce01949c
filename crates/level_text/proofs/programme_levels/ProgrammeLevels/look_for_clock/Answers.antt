-- The clock is asked for, where none is known.
use Rattle.std.proofs.Common.{◌≡◌, ◌∙◌, false, not, ap, sym, subst}
use Rattle.std.specs.Option.{option_or}
use Rattle.service_tables.specs.Clock.{clock_pid}
use Rattle.service_tables.specs.Reading.{HasRead}
use Rattle.level_text.specs.Following.{Following}
use Rattle.level_text.proofs.FollowLaws.{clock_asked, clock_kept}
use Rattle.level_text.proofs.programme_levels.ProgrammeLevels.look_for_clock.Goals as goal

pub returns-then-is_none-clause-clock : goal.returns-then-is_none-clause-clock
returns-then-is_none-clause-clock c = λ packets found read.
    subst (λ (old : Following). c.clock_pid_of-self-inside.result
    ≡ option_or old.clock (clock_pid packets old.levels.meter.asked.pid)) c.self.view_is
    (clock_asked c.self.inside.clock c.clock_pid_of-self-inside.result
    (clock_pid packets c.self.inside.levels.meter.asked.pid) (c.is_none.ensures ∙ ap not c.if-is_none.true)
    (c.clock_pid_of-self-inside.ensures packets
    (subst (λ (old : Following). old.programmes.is_wanting ≡ false) (sym c.self.view_is) found)
    (subst (λ (old : Following). HasRead old.programmes packets) (sym c.self.view_is) read)
    ∙ ap (clock_pid packets) c.pid.ensures))

pub returns-else-is_none-clause-clock : goal.returns-else-is_none-clause-clock
returns-else-is_none-clause-clock c = λ packets found read.
    subst (λ (old : Following). old.clock ≡ option_or old.clock (clock_pid packets old.levels.meter.asked.pid))
    c.self.view_is
    (clock_kept c.self.inside.clock (clock_pid packets c.self.inside.levels.meter.asked.pid)
    (c.is_none.ensures ∙ ap not c.if-is_none.false))
