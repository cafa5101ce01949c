-- What is shown is what stands.
use Rattle.std.proofs.Common.{subst}
use Rattle.page_core.specs.Memory.{Memory, IsDisplayOf, IsWholeMemory}
use Rattle.page_core.proofs.Handed.ShownScenes.{shown_scene}
use Rattle.page_core.proofs.memory.Core.scene.Goals as goal

pub returns-clause-shown : goal.returns-clause-shown
returns-clause-shown c past stands =
    shown_scene past c.args.self.now stands (subst IsWholeMemory c.self.view_is c.self.invariant.whole) c.requires

pub returns-clause-display : goal.returns-clause-display
returns-clause-display c =
    subst (λ (memory : Memory). IsDisplayOf memory.profile memory.display) c.self.view_is c.self.invariant.display
