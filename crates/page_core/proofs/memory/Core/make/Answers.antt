-- A core that was handed nothing.
use Rattle.std.proofs.Common.{refl}
use Rattle.page_core.proofs.Handed.Pasts.{nothing_handed}
use Rattle.page_core.proofs.memory.Core.make.Goals as goal

pub returns-clause-stands : goal.returns-clause-stands
returns-clause-stands c =
    nothing_handed _ refl (record {
      known = refl;
      display = c.usual_display.ensures;
      composition = c.in_ok-make.ensures;
      inks = c.in_ok-make-2.ensures.defaults;
      store = c.in_ok-make-4.ensures.empty;
    })
