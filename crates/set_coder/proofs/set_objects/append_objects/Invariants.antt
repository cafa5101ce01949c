use Rattle.set_coder.proofs.ObjectLaws.{Objects}
use Rattle.set_coder.proofs.set_objects.append_objects.Given as goal

abbrev pub invariant-loop-place : goal.invariant-loop-place
invariant-loop-place l =
    Objects l.script.pictures l.epoch l.page l.cues l.initial.field.items l.field.items l.place-index
