use Rattle.std.proofs.Common.{◌∙◌, None, Some, ap, sym}
use Rattle.std.specs.Option.{option_copied}
use Rattle.pid_text.proofs.WatchLaws.{fed_on}
use Rattle.pid_text.proofs.watch.Watch.feed.Goals as goal

pub returns-in-Some : goal.returns-in-Some
returns-in-Some c =
    fed_on c.args.self.now _ c.args.packet.now (Some c.in-Some.unit.now) c.in-Ok.ensures.fault
    (rw c.in-Ok.is at c.feed.follows.holds-at-none)
    (λ packets stands. sym (ap option_copied c.in-Some.is) ∙ c.in-Ok.ensures.unit packets stands)
    c.take_unit.ensures

pub returns-in_default : goal.returns-in_default
returns-in_default c =
    fed_on c.args.self.now _ c.args.packet.now None c.in-Ok.ensures.fault
    (rw c.in-Ok.is at c.feed.follows.holds-at-none)
    (λ packets stands. sym (ap option_copied c.in_default.is) ∙ c.in-Ok.ensures.unit packets stands)
    (λ units tallied. tallied)
