use Rattle.std.proofs.Common.{◌≡◌, ◌∙◌, ℕ, List, subst}
use Rattle.command_text.proofs.PutLaws.{PutsOut-both}
use Rattle.command_text.specs.Putting.{Buffered, PutsOut}
use Rattle.sub_base.specs.Endpoints.{Received}
use Rattle.dvbsub_cmd.proofs.gen_text.put_told.Goals as goal

-- what was put out is this text
put_as : (before now : Received) (old new : Buffered) (text other : List ℕ) → text ≡ other
    → PutsOut before now old new text
    → PutsOut before now old new other
put_as before now old new text other same put = subst (PutsOut before now old new) same put

pub returns : goal.returns
returns g c =
    let sets = put_as _ _ _ _ _ _ (c.as_bytes.ensures ∙ c.number_line.ensures.line) c.put.ensures in
    let packets = put_as _ _ _ _ _ _ (c.as_bytes-2.ensures ∙ c.number_line-2.ensures.line) c.put-2.ensures in
    let peak = put_as _ _ _ _ _ _ (c.as_bytes-3.ensures ∙ c.number_line-3.ensures.line) c.put-3.ensures in
    let first = PutsOut-both _ _ _ _ _ _ _ _ sets packets in
    let numbers = PutsOut-both _ _ _ _ _ _ _ _ first peak in
    let whole = PutsOut-both _ _ _ _ _ _ _ _ numbers c.put_entry.ensures in
    let third = PutsOut-both _ _ _ _ _ _ _ _ whole c.put_entry-2.ensures in
    PutsOut-both _ _ _ _ _ _ _ _ third c.put_entry-3.ensures
