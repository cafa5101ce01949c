use Rattle.std.proofs.Common.{ap, arith, map, refl}
use Rattle.set_coder.specs.SetSegments.{clut_entry_of, clut_segment_of}
use Rattle.set_coder.proofs.WritableLaws.{clut_writable}
use Rattle.page_pair.proofs.WritingLaws.{one_more}
use Rattle.page_pair.proofs.written.Written.put_clut.Goals as goal

pub returns : goal.returns
returns c =
    one_more c.args.page (clut_segment_of c.args.epoch.now c.args.sent.now) c.args.self.now c.note.new.self
    c.append_clut.new.field.items c.len-begin.result
    (clut_writable c.args.epoch.now c.args.page c.args.sent.now
    (map (clut_entry_of c.args.epoch.now) c.args.sent.now.rows) (omega arith) c.requires.usable c.requires.sent refl).0
    c.in_ok-append_clut.ensures.bytes (omega (arith, c.len-begin.ensures, c.args.self.now.bytes.ok))
    (ap (λ v. v.items) c.note.ensures.bytes)
    c.note.ensures.longest
