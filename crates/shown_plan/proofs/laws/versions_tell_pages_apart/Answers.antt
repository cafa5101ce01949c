use Rattle.shown_plan.proofs.Segments.NeighbourPages.{page_after, same_page}
use Rattle.shown_plan.proofs.laws.versions_tell_pages_apart.Goals as goal

pub returns-clause-after : goal.returns-clause-after
returns-clause-after c = page_after

pub returns-clause-apart : goal.returns-clause-apart
returns-clause-apart c = same_page
