use Rattle.std.proofs.Common.{◌∙◌, ◌∷◌, ◌<◌, ℕ, List, All, map, length, refl, sym, ap, subst, true, arith}
use Rattle.std.specs.List.Sorted.{IsPermutation}
use Rattle.std.proofs.lemmas.List.Sorted.{IsPermutation-refl}
use Rattle.cue_list.specs.declared.epoch.Cue.{Cue}
use Rattle.cue_records.specs.declared.row_values.ColourRow.{ColourRow}
use Rattle.page_epoch.specs.declared.layout.PageRegion.{PageRegion}
use Rattle.page_epoch.specs.declared.region_state.RegionCues.{RegionCues}
use Rattle.page_epoch.specs.declared.planned_set.SentClut.{SentClut}
use Rattle.page_epoch.specs.declared.planned_set.SentRegion.{SentRegion}
use Rattle.page_epoch.specs.declared.clut_changes.ClutChanges.{ClutChanges}
use Rattle.page_epoch.specs.Private.Changes.{AreChanges}
use Rattle.page_epoch.specs.EpochStates.{AreOwn}
use Rattle.page_epoch.specs.SentRegions.{listed_cues}
use Rattle.page_epoch.specs.Needs.{clut_nodes}
use Rattle.page_epoch.proofs.EpochWalkLaws.{few_cluts, few_regions, regions_on, sent_on, page_regions_within, shown_on, versions_on, cluts_on, drawn_count_on}
use Rattle.page_epoch.proofs.epoch_state.EpochState.advance.Goals as goal
use Rattle.stream_syntax.specs.Segments.{is_entry_state}

pub step_regions-requires-clause-own : goal.step_regions-requires-clause-own
step_regions-requires-clause-own c =
    subst (λ (cues : List Cue). AreOwn cues c.as_slice.result.now) (sym c.as_slice-cues.ensures)
    (subst (λ (regions : List RegionCues). AreOwn c.args.epoch.now.cues regions) (sym c.as_slice.ensures)
    c.requires.layout.own)

pub step_cluts-requires-clause-changes : goal.step_cluts-requires-clause-changes
step_cluts-requires-clause-changes c =
    subst (λ (colours : List ColourRow). All (AreChanges colours) c.as_slice-4.result.now) (sym c.as_slice-3.ensures)
    (subst (λ (cluts : List ClutChanges). All (AreChanges c.args.epoch.now.colours) cluts) (sym c.as_slice-4.ensures)
    c.requires.layout.changes)

pub step_cluts-requires-clause-few : goal.step_cluts-requires-clause-few
step_cluts-requires-clause-few c =
    few_cluts c.args.epoch.now.colours c.as_slice-4.result.now
    (ap (λ (cluts : List ClutChanges). map (λ (clut : ClutChanges). clut.clut) cluts) c.as_slice-4.ensures
    ∙ c.requires.layout.cluts)

pub shown_ids-requires : goal.shown_ids-requires
shown_ids-requires c =
    let lay = c.requires.layout in
    let long =
    ap length c.as_slice-7.ensures ∙ c.in_ok-regions.ensures.long ∙ ap length c.as_slice.ensures
    ∙ few_regions lay.ids lay.ids c.args.layout.now.by_id (IsPermutation-refl lay.ids) lay.by_id in
    let Within : List PageRegion
    → Type 0 = λ page_regions. All
    (λ (page_region : PageRegion). page_region.place < length c.as_slice-7.result.now) page_regions in
    subst Within (sym c.as_slice-6.ensures)
    (subst (λ (n : ℕ). All (λ (page_region : PageRegion). page_region.place < n) c.args.layout.now.by_y) (sym long)
    (page_regions_within lay.ids c.args.layout.now.by_y lay.by_y))

pub drawn_count-requires-clause-few : goal.drawn_count-requires-clause-few
drawn_count-requires-clause-few c =
    let lay = c.requires.layout in
    let few = few_regions c.args.epoch.now.regions lay.ids c.args.layout.now.by_id lay.ordered_ids.same lay.by_id in
    omega (
      arith,
      ap length c.as_slice-9.ensures,
      c.in_ok-regions.ensures.long,
      ap length
          c.as_slice.ensures,
      few,
      c.requires.few.regions,
    )

pub returns-clause-advanced : goal.returns-clause-advanced
returns-clause-advanced c = λ seen is timely.
    let epoch = c.args.epoch.now in
    let layout = c.args.layout.now in
    let lay = c.requires.layout in
    let tick = c.args.head.instant.tick in
    let regions =
    regions_on epoch.cues c.as_slice-cues.result.now layout.by_id c.as_slice.result.now c.args.self.now.regions
    c.as_slice-2.result.now c.in_ok-regions.regions.states seen tick c.as_slice-cues.ensures c.as_slice.ensures
    c.as_slice-2.ensures is.regions
    (λ same. c.in_ok-regions.ensures.states seen is.first same timely.after) in
    record {
      current = record {
        regions = regions;
        versions =
            versions_on epoch.colours c.as_slice-3.result.now layout.cluts c.as_slice-4.result.now
            c.args.self.now.versions c.as_slice-5.result.now c.in_ok-cluts.cluts.versions seen tick c.as_slice-3.ensures
            c.as_slice-4.ensures c.as_slice-5.ensures is.versions
            (c.in_ok-cluts.ensures.versions seen);
        first = refl;
      };
      carried = record {
        shown =
            shown_on epoch layout c.as_slice-6.result.now c.as_slice-7.result.now seen tick c.in_ok-shown.shown lay
            c.as_slice-6.ensures (c.as_slice-7.ensures ∙ regions) c.in_ok-shown.ensures;
        regions =
            sent_on epoch layout c.as_slice-cues.result.now c.as_slice.result.now c.args.self.now.regions
            c.as_slice-2.result.now seen tick (is_entry_state c.args.head.state) c.is_entry_state-whole.result
            c.in_ok-regions.regions.sent lay c.as_slice-cues.ensures c.as_slice.ensures
            c.as_slice-2.ensures c.is_entry_state-whole.ensures is.regions
            (λ same. c.in_ok-regions.ensures.sent seen is.first same timely.after);
        cluts =
            cluts_on (λ (xs : List SentClut). xs) epoch.colours c.as_slice-3.result.now layout.cluts
            c.as_slice-4.result.now c.args.self.now.versions c.as_slice-5.result.now seen tick
            (is_entry_state c.args.head.state) c.is_entry_state-whole.result c.in_ok-cluts.cluts.sent lay.cluts
            c.as_slice-3.ensures c.as_slice-4.ensures c.as_slice-5.ensures c.is_entry_state-whole.ensures is.versions
            (c.in_ok-cluts.ensures.sent seen);
        cues =
            subst (λ (xs : List SentRegion). IsPermutation (listed_cues xs) c.in_ok-listed.listed) c.as_slice-8.ensures
            c.in_ok-listed.ensures.same;
        in_order = c.in_ok-listed.ensures.order;
      };
      nodes =
          let drawn_count =
          c.drawn_count.ensures.value
          ∙ drawn_count_on epoch layout (tick ∷ seen) c.as_slice-9.result.now lay
          (c.as_slice-9.ensures ∙ regions) in
          let cluts =
          cluts_on clut_nodes epoch.colours c.as_slice-3.result.now layout.cluts c.as_slice-4.result.now
          c.args.self.now.versions c.as_slice-5.result.now seen tick true true c.in_ok-cluts.cluts.nodes lay.cluts
          c.as_slice-3.ensures c.as_slice-4.ensures c.as_slice-5.ensures refl is.versions
          (c.in_ok-cluts.ensures.nodes seen) in
          omega (arith, drawn_count, cluts, c.len.ensures, c.len-2.ensures);
    }
