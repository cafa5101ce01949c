-- What is told once the stream has ended.
use Rattle.std.proofs.Common.{ℕ, List, ◌++◌, true, subst}
use Rattle.command_text.specs.Putting.{PutsOut}
use Rattle.level_text.specs.Levelling.{HasLevelled, Levelling, levels_tell}
use Rattle.level_text.specs.RateClock.{arrival_tick}
use Rattle.level_text.proofs.LevelLaws.{course_text}
use Rattle.level_text.proofs.rate_levels.RateLevels.finish.Goals as goal

pub returns : goal.returns
returns g c =
    subst
    (λ (levelling : Levelling). (packets : List (List ℕ)) (text : List ℕ) → HasLevelled levelling packets text
    → (more : List ℕ) × levels_tell levelling true packets (text ++ more)
    × PutsOut (g.K.Sink.received c.args.out.now) (g.K.Sink.received c.finish.new.out) c.args.buffer.now
    c.finish.new.buffer more) c.self.view_is
    (λ packets text has.
    let own : Levelling = record { sets = c.self.inside.sets; rate = c.self.inside.clock.rate } in
    let told = c.finish.ensures.told (arrival_tick c.self.inside.clock.rate) packets text has.metered in
    (told.0, course_text own true packets (text ++ told.0) has.pace told.1, told.2))
