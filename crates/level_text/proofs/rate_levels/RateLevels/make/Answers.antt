-- Levels of a stream of which nothing was read.
use Rattle.std.proofs.Common.{◌∙◌, ap, sym}
use Rattle.buffer_model.specs.Meters.{Meter}
use Rattle.buffer_model.specs.Ticks.{by_ticks}
use Rattle.decoder_model.specs.Received.{Reception}
use Rattle.level_text.proofs.LevelLaws.{nothing_levelled}
use Rattle.level_text.proofs.rate_levels.RateLevels.make.Goals as goal

pub returns-clause-nothing : goal.returns-clause-nothing
returns-clause-nothing c =
    nothing_levelled (record { sets = c.in_ok-make.field-0; rate = c.args.rate }) c.in_ok-make.ensures.nothing
    (ap (λ (meter : Meter). meter.pace) c.in_ok-make.ensures.meter ∙ c.in_ok-levels.ensures.pace
    ∙ ap (λ (made : Reception). by_ticks made.profile) (sym c.in_ok-make.ensures.made))
    (ap (λ (meter : Meter). meter.last) c.in_ok-make.ensures.meter ∙ c.in_ok-levels.ensures.last)
