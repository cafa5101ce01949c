use Rattle.std.proofs.Common.{◌∙◌, Option, Some, subst, sym}
use Rattle.sub_base.specs.Seen.{seen}
use Rattle.sub_base.specs.ToolOutcome.{IsToolWhole}
use Rattle.live_plan.proofs.TellLaws.{live_whole}
use Rattle.live_plan.specs.LiveOutcome.{live_causes}
use Rattle.live_plan.specs.declared.live_words.LiveCommand.{LiveCommand}
use Rattle.live_plan.proofs.top.live_top.Goals as goal

pub returns-in-Some-clause-complete : goal.returns-in-Some-clause-complete
returns-in-Some-clause-complete g c =
    let before =
    seen (g.A.Source.supplied c.args.first.now) (g.B.Source.supplied c.args.second.now)
    (g.K.Sink.received c.args.out.now) in
    let now =
    seen (g.A.Source.supplied c.insert.new.first) (g.B.Source.supplied c.insert.new.second)
    (g.K.Sink.received c.insert.new.out) in
    let notes = g.N.Sink.received c.args.notes.now in
    let notes_now = g.N.Sink.received c.insert.new.notes in
    subst (λ (command : Option LiveCommand). IsToolWhole live_causes command before now notes notes_now
    c.insert.result) (sym c.in-Some.is ∙ c.live_command_in.ensures.words)
    (live_whole (Some c.in-Some.command) before now notes notes_now c.insert.result c.insert.ensures.cause)
