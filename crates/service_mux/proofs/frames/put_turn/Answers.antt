use Rattle.std.proofs.Common.{◌∙◌, ℕ, List, subst}
use Rattle.command_text.specs.Putting.{PutsOut}
use Rattle.service_mux.proofs.TableLaws.{one_turn, pat_turn, turned_bytes, two_turn}
use Rattle.service_mux.proofs.frames.put_turn.Goals as goal

pub returns-then-turn-eq0-clause-puts : goal.returns-then-turn-eq0-clause-puts
returns-then-turn-eq0-clause-puts g c =
    let mux = c.args.mux.now in
    subst (λ (t : List ℕ). PutsOut (g.K.Sink.received c.args.out.now) (g.K.Sink.received c.put_table.new.out)
    c.args.buffer.now c.put_table.new.buffer t)
    (turned_bytes mux.pat _ _ _ c.requires.pat ∙ pat_turn mux.pair c.args.frame c.if-turn-eq0.true)
    c.put_table.ensures.puts

pub returns-then-turn-eq1-clause-puts : goal.returns-then-turn-eq1-clause-puts
returns-then-turn-eq1-clause-puts g c =
    let mux = c.args.mux.now in
    subst (λ (t : List ℕ). PutsOut (g.K.Sink.received c.args.out.now)
    (g.K.Sink.received c.put_table-then-turn-eq1.new.out) c.args.buffer.now c.put_table-then-turn-eq1.new.buffer t)
    (turned_bytes mux.one.table _ _ _ c.requires.one ∙ one_turn mux.pair c.args.frame c.if-turn-eq1.true)
    c.put_table-then-turn-eq1.ensures.puts

pub returns-then-turn-eq2-clause-puts : goal.returns-then-turn-eq2-clause-puts
returns-then-turn-eq2-clause-puts g c =
    let mux = c.args.mux.now in
    subst (λ (t : List ℕ). PutsOut (g.K.Sink.received c.args.out.now)
    (g.K.Sink.received c.put_table-then-turn-eq2.new.out) c.args.buffer.now c.put_table-then-turn-eq2.new.buffer t)
    (turned_bytes mux.two.table _ _ _ c.requires.two ∙ two_turn mux.pair c.args.frame c.if-turn-eq2.true)
    c.put_table-then-turn-eq2.ensures.puts
