use Rattle.std.proofs.Common.{ℕ, List, subst}
use Rattle.page_core.specs.Memory.{Memory}
use Rattle.fault_text.specs.Faulting.{PutsSet}
use Rattle.fault_text.proofs.SetLaws.{set_taken}
use Rattle.fault_text.proofs.taking.take_next.Goals as goal

pub returns-clause-sets : goal.returns-clause-sets
returns-clause-sets g c =
    set_taken c.args.receiver.now c.take-end.new.self c.args.tally.now c.count.new.self c.args.known.now
    c.put_set.new.known _ _ c.args.buffer.now
    c.put_set.new.buffer c.take-end.result c.load-load.result c.sets.result c.args.kept.now.room _ c.keep.new.self.bytes
    c.requires.next
    (λ fed ended given stands. c.ready_set.ensures.delivery fed ended given stands)
    c.keep.ensures.kept c.requires.room
    (λ ended packets given rest delivery is. c.take-end.ensures.stands ended packets given rest delivery is)
    (λ ended packets given rest delivery past one is are read. c.take-end.ensures.answer ended packets given rest
    delivery past one is are read)
    (λ ended packets given rest delivery past one is are read. c.take-end.ensures.load ended packets given rest
    delivery past one is are read)
    c.load-load.ensures.load c.take-end.ensures.same c.count.ensures.counted c.count.ensures.more c.sets.ensures
    (subst
    (λ (memory : Memory). PutsSet memory c.keep.new.self.bytes c.sets.result c.load-load.result.pts c.take-end.result
    (g.K.Sink.received c.args.out.now) (g.K.Sink.received c.put_set.new.out) c.args.known.now c.put_set.new.known
    c.args.buffer.now c.put_set.new.buffer)
    c.core.ensures
    (subst
    (λ (bytes : List ℕ). PutsSet c.core.result.now bytes c.sets.result c.load-load.result.pts c.take-end.result
    (g.K.Sink.received c.args.out.now) (g.K.Sink.received c.put_set.new.out) c.args.known.now c.put_set.new.known
    c.args.buffer.now c.put_set.new.buffer) c.as_bytes.ensures c.put_set.ensures))
