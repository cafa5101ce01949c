use Rattle.std.proofs.Common.{◌∙◌, ap, map, arith}
use Rattle.set_coder.specs.SetSegments.{clut_entry_of}
use Rattle.set_coder.proofs.WritableLaws.{clut_writable}
use Rattle.set_coder.proofs.set_segments.append_clut.Goals as goal

pub write_segment-requires : goal.write_segment-requires
write_segment-requires c =
    (clut_writable c.args.epoch.now c.args.page c.args.sent.now c.as_slice-2.result.now (omega arith) c.requires.usable
    c.requires.sent
    (c.as_slice-2.ensures.value ∙ c.in_ok-entries.ensures
    ∙ ap (map (clut_entry_of c.args.epoch.now)) c.as_slice.ensures)).0
