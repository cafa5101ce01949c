use Rattle.std.proofs.Common.{◌∙◌, sym}
use Rattle.dvbsub_cmd.proofs.ShownTexts.{shown_as_authored}
use Rattle.dvbsub_cmd.proofs.compare.shows_authored.Goals as goal

pub returns : goal.returns
returns g c =
    c.is_same.ensures.same
    (c.written.ensures
    ∙ shown_as_authored c.args.profile c.args.script.now c.args.packets.now c.args.ticks.now
    c.in_ok-shown.shown.written c.requires.ticks c.requires.shown c.in_ok-shown.ensures
    ∙ sym (c.written-2.ensures ∙ c.in_ok-authored.ensures))
