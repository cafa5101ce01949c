use Rattle.std.proofs.Common.{◌++◌, ℕ, List, false, subst}
use Rattle.page_core.specs.Memory.{Memory}
use Rattle.fault_text.specs.Faulting.{PutsFront, outside_lines, rest_text}
use Rattle.fault_text.proofs.LineLaws.{found_shown}
use Rattle.fault_text.proofs.sets.put_shown.Goals as goal

pub returns : goal.returns
returns g c =
    found_shown c.args.number c.args.pts c.args.core.now c.args.bytes.now c.put_found-stands.result _ _ _
    c.args.buffer.now c.put_found-stands.new.buffer c.put_changes.new.buffer c.args.known.now c.begin_epoch.new.known
    c.put_changes.new.known (λ past stands. c.scene.ensures.shown past stands)
    (subst
    (λ (memory : Memory). (more : List (List ℕ)) → PutsFront (g.K.Sink.received c.args.out.now)
    (g.K.Sink.received c.put_found-stands.new.out) c.args.buffer.now c.put_found-stands.new.buffer
    (rest_text false c.args.number c.args.pts (outside_lines memory memory.composition.entries ++ more))
    (rest_text c.put_found-stands.result c.args.number c.args.pts more))
    c.scene.ensures.same (λ more. c.put_found-stands.ensures more))
    (λ segments are earlier knows. c.begin_epoch.ensures segments are earlier knows) c.put_changes.ensures
