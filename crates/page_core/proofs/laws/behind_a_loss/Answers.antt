-- Behind a loss no epoch is known.
use Rattle.std.proofs.Common.{◌∙◌, ap}
use Rattle.std.specs.Option.{is_some}
use Rattle.decoder_model.proofs.AfterLoss.{unknown_behind_loss, free_where_unknown, waits_behind_loss}
use Rattle.page_core.proofs.laws.behind_a_loss.Goals as goal

pub returns-clause-free : goal.returns-clause-free
returns-clause-free c past memory behind stands =
    let unknown = unknown_behind_loss memory.profile memory.anchor past behind in
    let free = free_where_unknown memory.profile memory.anchor past unknown in
    record {
      known = stands.known ∙ ap is_some unknown;
      nodes = stands.free_nodes
          ∙ free.1;
      pixels = stands.free_pixels ∙ free.0;
    }

pub returns-clause-waits : goal.returns-clause-waits
returns-clause-waits c past memory pts size time readings behind kept normal =
    waits_behind_loss memory.profile memory.anchor time past pts size readings behind kept normal
