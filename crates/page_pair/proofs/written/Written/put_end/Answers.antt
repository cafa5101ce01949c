use Rattle.std.proofs.Common.{ap, arith}
use Rattle.stream_syntax.specs.Segments.{end_of_set}
use Rattle.set_coder.proofs.WritableLaws.{end_writable}
use Rattle.page_pair.proofs.WritingLaws.{one_more}
use Rattle.page_pair.proofs.written.Written.put_end.Goals as goal

pub returns : goal.returns
returns c =
    one_more c.args.page end_of_set c.args.self.now c.note.new.self c.append_end.new.field.items c.len-begin.result
    (end_writable c.args.page (omega arith)) c.in_ok-append_end.ensures.bytes
    (omega (arith, c.len-begin.ensures, c.args.self.now.bytes.ok))
    (ap (λ v. v.items) c.note.ensures.bytes) c.note.ensures.longest
