-- No node is there.
use Rattle.std.proofs.Common.{None}
use Rattle.std.proofs.lemmas.List.{get_or-replicate}
use Rattle.page_core.proofs.counting.no_versions.Goals as goal

pub returns : goal.returns
returns c id low = get_or-replicate 256 id None None low
