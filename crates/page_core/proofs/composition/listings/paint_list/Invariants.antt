use Rattle.std.proofs.Common.{length}
use Rattle.segments.specs.Contents.{object_value}
use Rattle.comp_pool.specs.Places.{rest_from}
use Rattle.comp_pool.specs.Pool.{list_of}
use Rattle.page_core.proofs.Objects.Repainting.{IsRepainting}
use Rattle.page_core.proofs.composition.listings.paint_list.Given as goal

abbrev pub invariant-loop-place : goal.invariant-loop-place
invariant-loop-place l =
    IsRepainting l.list l.painter (object_value l.object) l.region.head.depth l.region.slot l.initial.pool
    l.initial.store l.place l.pool l.store l.fault

abbrev pub decreases-loop-place : goal.decreases-loop-place
decreases-loop-place l = length (rest_from l.place (list_of l.pool l.list))
