use Rattle.std.proofs.Common.{◌∙◌, List, All, map, length, ap, subst, arith}
use Rattle.std.proofs.lemmas.List.Sorted.{length_permutation, sum_by-IsPermutation}
use Rattle.cue_records.specs.declared.region.Region.{Region}
use Rattle.cue_list.specs.declared.epoch.Cue.{Cue}
use Rattle.cue_records.specs.declared.row_values.ColourRow.{ColourRow}
use Rattle.page_epoch.specs.SentRegions.{AreOrdered}
use Rattle.page_epoch.specs.SentCluts.{named_cluts}
use Rattle.page_epoch.specs.Private.Changes.{AreChanges}
use Rattle.page_epoch.specs.EpochStates.{AreOwn}
use Rattle.page_epoch.specs.Private.Layouts.{ArePageRegions}
use Rattle.page_epoch.specs.Needs.{region_need, pixel_need}
use Rattle.page_epoch.proofs.layout.Layout.of.Goals as goal

pub from_top-requires : goal.from_top-requires
from_top-requires c =
    omega (
      arith,
      c.deref-2.ensures.len,
      ap length c.deref-2.ensures.value,
      length_permutation c.as_slice.result.now
          c.in_ok-regions.regions.items c.in_ok-regions.ensures.same,
      ap length c.as_slice.ensures,
      c.requires.regions,
    )

pub pixel_need-pixels-requires : goal.pixel_need-pixels-requires
pixel_need-pixels-requires c =
    omega (
      arith,
      c.deref-3.ensures.len,
      ap length c.deref-3.ensures.value,
      length_permutation c.as_slice.result.now
          c.in_ok-regions.regions.items c.in_ok-regions.ensures.same,
      ap length c.as_slice.ensures,
      c.requires.regions,
    )

pub returns : goal.returns
returns c = record {
  ids = c.in_ok-regions.regions.items;
  ordered_ids =
      subst (λ (regions : List Region). AreOrdered (λ (region : Region). region.id) regions
      c.in_ok-regions.regions.items) c.as_slice.ensures c.in_ok-regions.ensures;
  by_id = c.in_ok-by_id.ensures.ids ∙ ap (map (λ (region : Region). region.id)) c.deref.ensures.value;
  own = subst (λ (cues : List Cue). AreOwn cues c.in_ok-by_id.by_id) c.as_slice-2.ensures c.in_ok-by_id.ensures.own;
  by_y =
      subst (λ (regions : List Region). ArePageRegions regions c.in_ok-by_y.by_y) c.deref-2.ensures.value
      c.in_ok-by_y.ensures;
  cluts = c.in_ok-cluts.ensures.named ∙ ap named_cluts c.as_slice-3.ensures;
  changes =
      subst (λ (colours : List ColourRow). All (AreChanges colours) c.in_ok-cluts.cluts) c.as_slice-3.ensures
      c.in_ok-cluts.ensures.changes;
  pixels =
      c.pixel_need-pixels.ensures ∙ ap pixel_need c.deref-3.ensures.value
      ∙ sum_by-IsPermutation region_need c.args.epoch.now.regions c.in_ok-regions.regions.items
      (subst (λ (regions : List Region). AreOrdered (λ (region : Region). region.id) regions
      c.in_ok-regions.regions.items) c.as_slice.ensures c.in_ok-regions.ensures).same;
}
