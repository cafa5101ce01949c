use Rattle.std.proofs.Common.{◌∙◌, ap, map, arith}
use Rattle.set_coder.specs.SetSegments.{page_entry_of}
use Rattle.set_coder.proofs.WritableLaws.{page_writable}
use Rattle.set_coder.proofs.set_segments.append_page.Goals as goal

pub write_segment-requires : goal.write_segment-requires
write_segment-requires c =
    (page_writable c.args.epoch.now c.args.page c.time_out.result c.args.set.now.page_version c.args.set.now.state
    c.args.set.now.shown c.as_slice-2.result.now (omega arith) c.requires.usable
    (omega (arith, c.time_out.ensures.short)) c.requires.version c.requires.few c.requires.shown
    (c.as_slice-2.ensures.value ∙ c.in_ok-entries.ensures
    ∙ ap (map (page_entry_of c.args.epoch.now)) c.as_slice.ensures)).0
