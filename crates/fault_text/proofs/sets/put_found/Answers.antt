use Rattle.std.proofs.Common.{◌∷◌, ◌++◌, List, false, subst}
use Rattle.stream_syntax.specs.declared.page.PageEntry.{PageEntry}
use Rattle.fault_text.specs.Faulting.{PutsFront, outside_lines, rest_text}
use Rattle.fault_text.proofs.LineLaws.{front_both}
use Rattle.fault_text.proofs.sets.put_found.Goals as goal

pub loop-entry-preserved : goal.loop-entry-preserved
loop-entry-preserved g c = λ more.
    let scene = c.args.scene.now in
    let whole =
    rest_text false c.args.number c.args.pts (outside_lines scene scene.composition.entries ++ more) in
    front_both _ _ _ c.args.buffer.now c.loop-entry.buffer c.put_entry-stands.new.buffer whole
    (rest_text c.loop-entry.stands c.args.number c.args.pts
    (outside_lines scene (c.in-Some.entry ∷ c.next_entry.new.self) ++ more))
    (rest_text c.put_entry-stands.result c.args.number c.args.pts
    (outside_lines scene c.next_entry.new.self ++ more))
    (subst
    (λ (entries : List PageEntry). PutsFront (g.K.Sink.received c.args.out.now) (g.K.Sink.received c.loop-entry.out)
    c.args.buffer.now c.loop-entry.buffer whole
    (rest_text c.loop-entry.stands c.args.number c.args.pts (outside_lines scene entries ++ more))) c.in-Some.ensures
    (c.loop-entry.invariant more))
    (c.put_entry-stands.ensures c.next_entry.new.self more)
