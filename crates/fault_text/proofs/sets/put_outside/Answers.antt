use Rattle.std.proofs.Common.{◌∙◌, ℕ, List, subst}
use Rattle.command_text.specs.Putting.{PutsOut}
use Rattle.command_text.proofs.PutLaws.{PutsOut-both}
use Rattle.fault_text.specs.FaultText.{outside_line}
use Rattle.fault_text.proofs.sets.put_outside.Goals as goal

pub returns : goal.returns
returns g c =
    PutsOut-both _ _ _ c.args.buffer.now c.put_first.new.buffer c.put.new.buffer _ (outside_line c.args.entry)
    c.put_first.ensures
    (subst
    (λ (text : List ℕ). PutsOut (g.K.Sink.received c.put_first.new.out) (g.K.Sink.received c.put.new.sink)
    c.put_first.new.buffer c.put.new.buffer text) (c.as_bytes.ensures ∙ c.outside_line.ensures.line)
    c.put.ensures)
