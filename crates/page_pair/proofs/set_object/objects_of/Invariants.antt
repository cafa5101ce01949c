use Rattle.std.proofs.Common.{take}
use Rattle.page_pair.specs.Private.Objects.{AreAt}
use Rattle.page_pair.proofs.set_object.objects_of.Given as goal

abbrev pub invariant-loop-place : goal.invariant-loop-place
invariant-loop-place l = AreAt l.script.pictures l.epoch (take l.place-index l.cues) l.objects.items
