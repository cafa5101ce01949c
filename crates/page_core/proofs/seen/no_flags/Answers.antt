-- No flag is up.
use Rattle.std.proofs.Common.{false}
use Rattle.std.proofs.lemmas.List.{get_or-replicate}
use Rattle.page_core.proofs.seen.no_flags.Goals as goal

pub returns : goal.returns
returns c id low = get_or-replicate 256 id false false low
