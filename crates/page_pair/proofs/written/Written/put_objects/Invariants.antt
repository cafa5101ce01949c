use Rattle.std.proofs.Common.{take}
use Rattle.page_pair.specs.Private.Writing.{WritesMore}
use Rattle.page_pair.proofs.written.Written.put_objects.Given as goal

abbrev pub invariant-loop-object : goal.invariant-loop-object
invariant-loop-object l = WritesMore (take l.object-index l.objects) l.initial.self l.self
