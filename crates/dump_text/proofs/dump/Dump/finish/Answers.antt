use Rattle.std.proofs.Common.{◌++◌, ℕ, List, true, subst}
use Rattle.command_text.specs.Putting.{PutsOut}
use Rattle.receiver.specs.Asking.{reception}
use Rattle.dump_text.specs.DumpText.{IsDumpText}
use Rattle.dump_text.specs.Dumping.{Dumping, HasDumped}
use Rattle.dump_text.proofs.DumpLaws.{dumped_whole}
use Rattle.dump_text.proofs.dump.Dump.finish.Goals as goal

pub returns : goal.returns
returns g c =
    subst
    (λ (old : Dumping). (packets : List (List ℕ)) (text : List ℕ) → HasDumped old packets text
    → (more : List ℕ)
    × IsDumpText (reception old.receiving) old.ticks true packets (text ++ more)
    × PutsOut (g.K.Sink.received c.args.out.now) (g.K.Sink.received c.put_rest.new.out) c.args.buffer.now
    c.put_rest.new.buffer more)
    c.self.view_is
    (dumped_whole _ _ _ _ c.finish.new.self c.take_ready-self-inside.new.receiver c.take_ready-self-inside.result
    c.args.buffer.now c.take_ready-self-inside.new.buffer c.put_rest.new.buffer
    c.finish.ensures.stands c.finish.ensures.same c.take_ready-self-inside.ensures.dumps
    c.take_ready-self-inside.ensures.same c.take_ready-self-inside.ensures.all
    c.take_ready-self-inside.ensures.within c.put_rest.ensures.puts)
