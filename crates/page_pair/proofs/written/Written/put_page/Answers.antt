use Rattle.std.proofs.Common.{ap, arith, map, refl}
use Rattle.set_coder.specs.SetSegments.{page_entry_of, page_segment, time_out_of}
use Rattle.set_coder.proofs.WritableLaws.{page_writable, script_numbers}
use Rattle.page_pair.proofs.WritingLaws.{one_more}
use Rattle.page_pair.proofs.written.Written.put_page.Goals as goal

pub returns : goal.returns
returns c =
    let s = c.args.script.now in
    let epoch = c.args.epoch.now in
    let set = c.args.set.now in
    let numbers = script_numbers s.origin s.width s.height s.refresh s.epochs s.pictures s.sound in
    one_more c.args.page (page_segment s epoch set) c.args.self.now c.note.new.self c.append_page.new.field.items
    c.len-begin.result
    (page_writable epoch c.args.page (time_out_of s) set.page_version set.state set.shown
    (map (page_entry_of epoch) set.shown) (omega arith) c.requires.usable (omega (arith, numbers.4)) c.requires.version
    c.requires.few c.requires.shown refl).0
    c.in_ok-append_page.ensures.bytes (omega (arith, c.len-begin.ensures, c.args.self.now.bytes.ok))
    (ap (λ v. v.items) c.note.ensures.bytes)
    c.note.ensures.longest
