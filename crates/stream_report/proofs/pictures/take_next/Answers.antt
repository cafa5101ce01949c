use Rattle.std.proofs.Common.{subst}
use Rattle.page_core.specs.Memory.{Memory}
use Rattle.stream_report.specs.Private.Picturing.{IsUntilWith}
use Rattle.stream_report.proofs.PictureLaws.{one_told}
use Rattle.stream_report.proofs.pictures.take_next.Goals as goal

pub returns-clause-pictures : goal.returns-clause-pictures
returns-clause-pictures g c =
    one_told c.args.receiver.now c.take-end.new.self c.ready_at-time.result c.take-end.result c.requires.next
    (λ packets ended given rest next past one is are read. c.ready_at-time.ensures.next packets ended given rest next
    past one is are read)
    (λ ended packets given rest delivery is. c.take-end.ensures.stands ended packets given rest delivery is)
    (λ ended packets given rest delivery past one is are read. c.take-end.ensures.answer ended packets given rest
    delivery past one is are read)
    c.take-end.ensures.same _ _ _ c.args.buffer.now c.put_end.new.buffer c.put_alone.new.buffer c.args.until
    c.until_with.result c.put_end.ensures c.put_alone.ensures
    (subst (λ (memory : Memory). IsUntilWith memory c.args.until c.ready_at-time.result c.take-end.result
    c.until_with.result) c.core.ensures c.until_with.ensures)
