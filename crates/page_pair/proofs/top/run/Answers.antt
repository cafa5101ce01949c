use Rattle.std.proofs.Common.{◌∙◌, Option, Some, ap, subst, sym}
use Rattle.command_words.specs.Ticks.{asked_ticks}
use Rattle.sub_base.specs.Seen.{seen}
use Rattle.sub_base.specs.ToolOutcome.{IsToolRun}
use Rattle.page_pair.specs.PairTop.{HasToldWhole, tool_causes}
use Rattle.page_pair.specs.declared.pair_command.PairCommand.{PairCommand}
use Rattle.page_pair.proofs.top.run.Goals as goal

pub returns-in-Some-Dump-clause-cause : goal.returns-in-Some-Dump-clause-cause
returns-in-Some-Dump-clause-cause g c =
    let words = c.args.words.now in
    let second = g.B.Source.supplied c.args.second.now in
    let before = seen (g.A.Source.supplied c.args.first.now) second (g.K.Sink.received c.args.out.now) in
    let now = seen (g.A.Source.supplied c.pair_dump.new.stream) second (g.K.Sink.received c.pair_dump.new.out) in
    subst (λ (asked : Option PairCommand). IsToolRun (tool_causes words) asked before now c.pair_dump.result)
    (ap Some (sym c.in-Some-Dump.field-0-is) ∙ c.in-Some-Dump.ensures.command)
    (c.pair_dump.ensures.cause second)

pub returns-in-Some-Dump-clause-told : goal.returns-in-Some-Dump-clause-told
returns-in-Some-Dump-clause-told g c =
    let words = c.args.words.now in
    let second = g.B.Source.supplied c.args.second.now in
    let before = seen (g.A.Source.supplied c.args.first.now) second (g.K.Sink.received c.args.out.now) in
    let now = seen (g.A.Source.supplied c.pair_dump.new.stream) second (g.K.Sink.received c.pair_dump.new.out) in
    subst (λ (asked : Option PairCommand). HasToldWhole (asked_ticks 8 words) asked before now c.pair_dump.result)
    (ap Some (sym c.in-Some-Dump.field-0-is) ∙ c.in-Some-Dump.ensures.command)
    (c.pair_dump.ensures.told second)
