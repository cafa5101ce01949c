use Rattle.std.proofs.Common.{ap, refl, subst, sym}
use Rattle.sub_base.specs.Endpoints.{Supplied}
use Rattle.sub_base.specs.Seen.{Seen, seen}
use Rattle.sub_base.specs.ToolOutcome.{IsToolCause}
use Rattle.sub_base.specs.declared.status.ToolStatus.{ToolStatus}
use Rattle.page_pair.proofs.EndLaws.{second_caused, send_caused}
use Rattle.page_pair.specs.PairOutcome.{AreScriptsRead, ReadsPlainScript, pair_causes}
use Rattle.page_pair.specs.Private.Reading.{IsReadStop}
use Rattle.page_pair.specs.declared.pair_fault.PairFault.{PairFault}
use Rattle.page_pair.proofs.top.pair.Goals as goal

pub returns-in-Err-read_plain-clause-cause : goal.returns-in-Err-read_plain-clause-cause
returns-in-Err-read_plain-clause-cause g c =
    let first = g.A.Source.supplied c.args.first.now in
    let second = g.B.Source.supplied c.args.second.now in
    let out = g.K.Sink.received c.args.out.now in
    let before : Seen = seen first second out in
    let now : Seen =
    seen (g.A.Source.supplied c.read_plain-2.new.other) (g.B.Source.supplied c.read_plain-2.new.source) out in
    subst (λ (status : ToolStatus PairFault). IsToolCause (pair_causes c.args.pairing before now) before now status)
    (sym c.second_status.ensures)
    (second_caused c.args.pairing before now c.in-Ok.script c.in-Err-read_plain.stop refl
    (subst (λ (one : Supplied). ReadsPlainScript first one c.in-Ok.script)
    (ap g.A.Source.supplied (sym c.read_plain-2.ensures.other)) c.in-Ok.ensures.reads)
    (subst (λ (two : Supplied). IsReadStop two now.second c.in-Err-read_plain.stop)
    (ap g.B.Source.supplied c.read_plain.ensures.other) c.in-Err-read_plain.ensures.stop))

pub returns-clause-cause : goal.returns-clause-cause
returns-clause-cause g c =
    let first = g.A.Source.supplied c.args.first.now in
    let second = g.B.Source.supplied c.args.second.now in
    let before : Seen = seen first second (g.K.Sink.received c.args.out.now) in
    let now : Seen =
    seen (g.A.Source.supplied c.read_plain-2.new.other) (g.B.Source.supplied c.read_plain-2.new.source)
    (g.K.Sink.received c.send.new.out) in
    let read : AreScriptsRead before now c.in-Ok.script c.in-Ok-read_plain.script =
    record {
      read_first = subst (λ (one : Supplied). ReadsPlainScript first one c.in-Ok.script)
          (ap g.A.Source.supplied (sym c.read_plain-2.ensures.other)) c.in-Ok.ensures.reads;
      read_second = subst (λ (two : Supplied). ReadsPlainScript two now.second c.in-Ok-read_plain.script)
          (ap g.B.Source.supplied c.read_plain.ensures.other) c.in-Ok-read_plain.ensures.reads;
    } in
    send_caused c.args.pairing before now c.in-Ok.script c.in-Ok-read_plain.script c.send.result read c.send.ensures
