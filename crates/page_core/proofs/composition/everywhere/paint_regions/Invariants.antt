use Rattle.std.proofs.Common.{length, option_map}
use Rattle.stream_syntax.specs.Segments.{of_object}
use Rattle.comp_pool.specs.Places.{rest_from}
use Rattle.comp_pool.specs.Pool.{list_of}
use Rattle.decoder_model.specs.Readings.{Content, AreObjectFields}
use Rattle.segments.specs.Contents.{object_value}
use Rattle.page_core.specs.Private.Everywhere.{AreApart, HaveRegions, KeepsRoom}
use Rattle.page_core.specs.Private.ObjectFaults.{told}
use Rattle.page_core.proofs.Objects.EverywhereLaws.{IsLeastSoFar}
use Rattle.page_core.proofs.Objects.EverywhereWalks.{IsPaintingAll}
use Rattle.page_core.proofs.Objects.EverywhereWrites.{IsWritingAll}
use Rattle.page_core.proofs.composition.everywhere.paint_regions.Given as goal

abbrev pub invariant-loop-place : goal.invariant-loop-place
invariant-loop-place l = record {
  nodes : IsPaintingAll l.painter l.initial.pool l.place l.pool;
  regions : HaveRegions l.initial.pool l.store;
  room : KeepsRoom l.initial.store l.store;
  fault : (content : Content) → AreObjectFields (of_object (object_value l.object)) content.top content.bottom
      → AreApart l.initial.pool
      → IsLeastSoFar l.painter content (object_value l.object) l.initial.pool l.place (option_map told l.least);
  written : (content : Content) → AreObjectFields (of_object (object_value l.object)) content.top content.bottom
      → IsWritingAll l.painter content (object_value l.object) l.initial.pool l.initial.store l.place l.store;
}

abbrev pub decreases-loop-place : goal.decreases-loop-place
decreases-loop-place l = length (rest_from l.place (list_of l.initial.pool 1))
