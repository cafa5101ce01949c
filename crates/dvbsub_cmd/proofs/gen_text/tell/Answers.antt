use Rattle.std.proofs.Common.{◌∙◌, Result, Ok, Err, ap}
use Rattle.std.specs.Prelude.{IfOk}
use Rattle.packet_source.specs.InHand.{whole_packets}
use Rattle.shown_stream.proofs.Sent.PlannedTimes.{pts_of}
use Rattle.dvbsub_cmd.proofs.GenLaws.{are_of, gen_text_of}
use Rattle.dvbsub_cmd.proofs.gen_text.tell.Goals as goal

-- what follows from what holds where an answer is given
if_ok : {T E : Type 0} (P Q : T → Type 0) (result : Result T E) → ((value : T) → P value → Q value)
    → IfOk result P → IfOk result Q
if_ok P Q (Ok value) step holds = step value holds
if_ok P Q (Err fault) step holds = holds

pub tell_packets-requires-clause-of : goal.tell_packets-requires-clause-of
tell_packets-requires-clause-of g c = λ _ _.
    are_of c.args.profile c.in_ok-generated.generated c.args.number c.requires.profile c.in_ok-generated.ensures
    c.packets_of-packets.result.now c.as_slice.result.now
    (c.packets_of-packets.ensures ∙ ap whole_packets c.written.ensures)
    (c.as_slice.ensures.value ∙ c.in_ok-times.ensures ∙ ap pts_of c.sets.ensures)

pub returns : goal.returns
returns g c =
    if_ok _ _ c.tell_packets.result
    (gen_text_of c.args.profile c.in_ok-generated.generated c.args.number c.requires.profile c.in_ok-generated.ensures
    c.packets_of-packets.result.now (c.packets_of-packets.ensures ∙ ap whole_packets c.written.ensures))
    c.tell_packets.ensures
