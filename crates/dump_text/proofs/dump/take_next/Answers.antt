use Rattle.std.proofs.Common.{◌∙◌, refl}
use Rattle.receiver.proofs.Asks.{next_kept, same_kept}
use Rattle.dump_text.proofs.DumpLaws.{dumps_by}
use Rattle.dump_text.proofs.dump.take_next.Goals as goal

pub returns-clause-dumps : goal.returns-clause-dumps
returns-clause-dumps g c =
    let keeps = c.put_settled-told.ensures.keeps in
    dumps_by c.args.receiver.now c.take.new.self c.args.ticks.now c.args.told c.ready_at-time.result c.requires.next
    (λ packets ended given rest next past one is are read. c.ready_at-time.ensures.next packets ended given rest next
    past one is are read)
    (λ ended packets given rest delivery is. c.take.ensures.stands ended packets given rest delivery
    (next_kept c.args.receiver.now c.put_settled-told.new.receiver keeps ended packets given delivery rest is))
    (c.take.ensures.same ∙ same_kept c.args.receiver.now c.put_settled-told.new.receiver keeps) c.requires.within _ _
    c.args.buffer.now c.put_settled-told.new.buffer c.put_settled-told.result c.ready_at-time.result refl
    c.put_settled-told.ensures.settles
