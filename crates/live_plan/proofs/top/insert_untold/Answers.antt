use Rattle.std.proofs.Common.{Result, Ok, subst, sym}
use Rattle.sub_base.specs.Seen.{seen}
use Rattle.sub_base.specs.declared.faults.WriteFailed.{WriteFailed}
use Rattle.sub_base.specs.declared.status.ToolStatus.{ToolStatus}
use Rattle.live_plan.proofs.TellLaws.{font_ended, run_ended}
use Rattle.live_plan.specs.Private.RunningEnds.{IsLiveRun}
use Rattle.live_plan.specs.declared.faults.LiveFault.{LiveFault}
use Rattle.live_plan.proofs.top.insert_untold.Goals as goal

pub returns-in-Err-clause-run : goal.returns-in-Err-clause-run
returns-in-Err-clause-run g c =
    let first = g.A.Source.supplied c.args.first.now in
    let second = g.B.Source.supplied c.args.second.now in
    let now_second = g.B.Source.supplied c.read_font.new.source in
    let out = g.K.Sink.received c.args.out.now in
    let notes = g.N.Sink.received c.args.notes.now in
    subst (λ (status : ToolStatus LiveFault). IsLiveRun c.args.command (seen first second out)
    (seen first now_second out) notes notes (Ok status)) (sym c.font_status.ensures)
    (font_ended c.args.command first second now_second out notes c.in-Err.end c.in-Err.ensures.cause)

pub returns-clause-run : goal.returns-clause-run
returns-clause-run g c =
    let second = g.B.Source.supplied c.args.second.now in
    let now_second = g.B.Source.supplied c.read_font.new.source in
    let before = seen (g.A.Source.supplied c.args.first.now) second (g.K.Sink.received c.args.out.now) in
    let now =
    seen (g.A.Source.supplied c.insert_in.new.script) now_second (g.K.Sink.received c.insert_in.new.out) in
    let notes = g.N.Sink.received c.args.notes.now in
    let notes_now = g.N.Sink.received c.insert_in.new.notes in
    subst (λ (answer : Result (ToolStatus LiveFault) WriteFailed). IsLiveRun c.args.command before now notes notes_now
    answer) (sym c.run_status.ensures)
    (run_ended c.args.command c.in-Ok.font before now notes notes_now c.insert_in.result c.in-Ok.ensures.font
    (c.insert_in.ensures second now_second))
