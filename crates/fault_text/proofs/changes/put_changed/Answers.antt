use Rattle.std.proofs.Common.{◌∙◌, ℕ, List, subst}
use Rattle.command_text.specs.Putting.{PutsOut}
use Rattle.command_text.proofs.PutLaws.{PutsOut-both}
use Rattle.set_definitions.specs.Definitions.{same_version_line}
use Rattle.fault_text.proofs.changes.put_changed.Goals as goal

pub returns : goal.returns
returns g c =
    PutsOut-both _ _ _ c.args.buffer.now c.put_first.new.buffer c.put.new.buffer _ (same_version_line c.args.one)
    c.put_first.ensures
    (subst
    (λ (text : List ℕ). PutsOut (g.K.Sink.received c.put_first.new.out) (g.K.Sink.received c.put.new.sink)
    c.put_first.new.buffer c.put.new.buffer text) (c.as_bytes.ensures ∙ c.same_version_line.ensures.line)
    c.put.ensures)
