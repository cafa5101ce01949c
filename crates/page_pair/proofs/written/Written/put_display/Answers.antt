use Rattle.std.proofs.Common.{◌∷◌, ◌++◌, ap, arith, map}
use Rattle.stream_syntax.specs.Segments.{IsWritable}
use Rattle.set_coder.specs.SetSegments.{clut_segment_of, display_segments, page_segment, region_segment_of}
use Rattle.set_coder.proofs.WritableLaws.{leading_writable}
use Rattle.set_coder.proofs.WrittenSizes.{All_front}
use Rattle.page_pair.proofs.WritingLaws.{display_more}
use Rattle.page_pair.proofs.written.Written.put_display.Goals as goal

pub returns : goal.returns
returns c =
    let s = c.args.script.now in
    let epoch = c.args._epoch.now in
    let set = c.args.set.now in
    display_more s set.state c.args.page c.args.self.now c.note.new.self c.append_display.new.field.items
    c.len-begin.result
    (All_front (IsWritable c.args.page) (display_segments s set.state)
    (page_segment s epoch set ∷ (map (region_segment_of epoch) set.regions ++ map (clut_segment_of epoch) set.cluts))
    (leading_writable s epoch c.args.page set (omega arith) s.sound c.requires.usable c.requires.carried))
    c.in_ok-append_display.ensures.bytes (omega (arith, c.len-begin.ensures, c.args.self.now.bytes.ok))
    (ap (λ v. v.items) c.note.ensures.bytes)
    c.note.ensures.longest
