use Rattle.used_memory_laws.proofs.UsedWithin.{epoch_within, pixels_are_all, nodes_are_all}
use Rattle.used_memory_laws.proofs.laws.known_epochs_fit.Goals as goal

pub returns-clause-pixels : goal.returns-clause-pixels
returns-clause-pixels c profile anchor past sets known = (epoch_within profile anchor past sets known).pixels

pub returns-clause-nodes : goal.returns-clause-nodes
returns-clause-nodes c profile anchor past sets known =
    let within = epoch_within profile anchor past sets known in
    (within.set, within.before, within.page, within.placed, within.has_page, within.nodes)

pub returns-clause-all_pixels : goal.returns-clause-all_pixels
returns-clause-all_pixels c = pixels_are_all

pub returns-clause-all_nodes : goal.returns-clause-all_nodes
returns-clause-all_nodes c = nodes_are_all
