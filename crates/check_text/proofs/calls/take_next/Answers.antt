use Rattle.std.proofs.Common.{◌∙◌, ℕ, List, subst}
use Rattle.command_text.specs.Putting.{PutsOut}
use Rattle.check_text.proofs.SetLaws.{set_taken}
use Rattle.check_text.proofs.calls.take_next.Goals as goal

pub returns-clause-sets : goal.returns-clause-sets
returns-clause-sets g c =
    set_taken c.args.receiver.now c.take-end.new.self c.args.levels.now c.count_set-done.new.levels _ _
    c.args.buffer.now c.put.new.buffer c.take-end.result c.load-load.result c.count_set-done.result c.requires.next
    (λ ended packets given rest delivery is. c.take-end.ensures.stands ended packets given rest delivery is)
    (λ ended packets given rest delivery past one is are read. c.take-end.ensures.answer ended packets given rest
    delivery past one is are read)
    (λ ended packets given rest delivery past one is are read. c.take-end.ensures.load ended packets given rest
    delivery past one is are read)
    c.load-load.ensures.load c.take-end.ensures.same c.requires.ready c.take-end.ensures.left
    (λ past stands. c.count_set-done.ensures.stands past stands)
    (λ past stands. c.count_set-done.ensures.done past stands) c.count_set-done.ensures.pace
    (subst (λ (text : List ℕ). PutsOut (g.K.Sink.received c.args.out.now) (g.K.Sink.received c.put.new.sink)
    c.args.buffer.now c.put.new.buffer text) (c.as_bytes.ensures ∙ c.set_line.ensures.line) c.put.ensures)
