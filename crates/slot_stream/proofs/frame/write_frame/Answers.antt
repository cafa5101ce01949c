use Rattle.std.proofs.Common.{◌∙◌, ℕ, List, length, ap, subst}
use Rattle.std.proofs.lemmas.List.FromFn.{length-map-range_with_len}
use Rattle.sub_base.specs.Endpoints.{Wrote, WrotePrefix}
use Rattle.sub_base.proofs.TransferSteps.{OnErr-of}
use Rattle.slot_stream.specs.SlotStream.{slot_packet}
use Rattle.slot_stream.proofs.FilledFrames.{null_elsewhere}
use Rattle.slot_stream.proofs.FrameLaws.{frame_bytes}
use Rattle.slot_stream.proofs.frame.write_frame.Goals as goal

pub returns-in_err-write_whole-clause-front : goal.returns-in_err-write_whole-clause-front
returns-in_err-write_whole-clause-front g c =
    let Holds : List ℕ → Type 0 =
    λ bytes. WrotePrefix (g.K.Sink.received c.args.sink.now) (g.K.Sink.received c.write_whole.new.sink) bytes in
    let bytes = c.as_flattened.ensures.value
    ∙ frame_bytes c.args.packetiser.now.pid c.args.pieces.now c.args.slots.now c.args.from (length c.args.frame.now)
    c.fill.new.frame c.fill.ensures.packets in
    OnErr-of c.from_residual.result _ (subst Holds bytes c.in_err-write_whole.ensures.prefix)

pub returns-clause-all : goal.returns-clause-all
returns-clause-all g c =
    let Holds : List ℕ → Type 0 =
    λ bytes. Wrote (g.K.Sink.received c.args.sink.now) (g.K.Sink.received c.write_whole.new.sink) bytes in
    let bytes = c.as_flattened.ensures.value
    ∙ frame_bytes c.args.packetiser.now.pid c.args.pieces.now c.args.slots.now c.args.from (length c.args.frame.now)
    c.fill.new.frame c.fill.ensures.packets in
    subst Holds bytes c.in_ok-write_whole.ensures.all

pub clear-requires-clause-elsewhere : goal.clear-requires-clause-elsewhere
clear-requires-clause-elsewhere g c =
    let long = ap (λ (packets : List (List ℕ)). length packets) c.fill.ensures.packets
    ∙ length-map-range_with_len (slot_packet c.args.packetiser.now.pid c.args.pieces.now c.args.slots.now) c.args.from
    (length c.args.frame.now) in
    null_elsewhere c.args.packetiser.now.pid c.args.pieces.now c.args.slots.now c.args.from
    (length c.args.frame.now) c.fill.new.frame long c.fill.ensures.packets
