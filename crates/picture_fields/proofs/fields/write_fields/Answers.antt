use Rattle.std.proofs.Common.{arith}
use Rattle.std.proofs.lemmas.Result.{IfOk-weaker, on_ok_weaker}
use Rattle.picture_fields.proofs.FieldLaws.{both_sizes, one_sizes, room_fields}
use Rattle.picture_fields.proofs.Drawing.{both_drawn}
use Rattle.picture_fields.proofs.fields.write_fields.Goals as goal

pub returns-else-is_err-clause-sizes : goal.returns-else-is_err-clause-sizes
returns-else-is_err-clause-sizes c =
    IfOk-weaker c.append_fields-written.result _ _
    (λ lengths b. both_sizes c.args.picture.now c.args.region c.args.out.now.items
    c.append_fields-written.new.out.items lengths.top lengths.bottom b) c.append_fields-written.ensures.blocks

pub returns-else-is_err-clause-drawn : goal.returns-else-is_err-clause-drawn
returns-else-is_err-clause-drawn c =
    IfOk-weaker c.append_fields-written.result _ _
    (λ lengths b. both_drawn c.args.picture.now c.args.region c.args.out.now.items
    c.append_fields-written.new.out.items lengths.top lengths.bottom c.requires b)
    c.append_fields-written.ensures.blocks

pub returns-else-is_err-clause-short : goal.returns-else-is_err-clause-short
returns-else-is_err-clause-short c =
    let room = room_fields c.args.picture.now c.append_fields-written.ensures.picture in
    on_ok_weaker c.append_fields-written.result (λ h. omega (arith, room, h)) c.append_fields-written.ensures.short

pub returns-else-is_err-clause-only_sizes : goal.returns-else-is_err-clause-only_sizes
returns-else-is_err-clause-only_sizes c =
    IfOk-weaker c.append_fields-written.result _ _
    (λ lengths b top bottom h. one_sizes c.args.picture.now c.args.region lengths.top lengths.bottom top bottom
    (both_sizes c.args.picture.now c.args.region c.args.out.now.items c.append_fields-written.new.out.items
    lengths.top lengths.bottom b) h)
    c.append_fields-written.ensures.blocks
