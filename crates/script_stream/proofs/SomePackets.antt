-- Each set that can be sent has PES packets.
use Rattle.std.proofs.Common.{refl, sym, subst, ℕ, ◌%◌, ◌<◌, ◌≤◌, ◌^◌, List, [], ◌∷◌, ◌++◌, length, map, All, arith}
use Rattle.std.specs.List.{concat, flat_map}
use Rattle.std.proofs.Math.Logic.{∥∥₁_elim}
use Rattle.std.proofs.Math.Seq.{drop-append_seam, take-append_seam}
use Rattle.std.proofs.Props.{props}
use Rattle.std.proofs.lemmas.List.Elements.{All-append, All-cons, All-head, All-nil, All-tail}
use Rattle.sub_base.specs.Picture.{IsPicture, Picture, bottom_field, top_field}
use Rattle.sub_base.specs.declared.depth.Depth.{Depth}
use Rattle.sub_base.specs.declared.load.TheConstants.{UNIT_ROOM}
use Rattle.sub_base.specs.declared.load.WriteLoad.{WriteLoad}
use Rattle.stream_syntax.specs.FieldBlocks.{AreFieldBlocks, DrawsPicture, IsDrawnAs}
use Rattle.stream_syntax.specs.PixelBlocks.{IsNoDeeper}
use Rattle.stream_syntax.specs.Segments.{IsWritable, SegmentValue, end_of_set, spelled}
use Rattle.stream_syntax.specs.declared.wire.TheConstants.{TIME_ROUND}
use Rattle.cue_list.specs.Sound.{IsSoundScript}
use Rattle.cue_list.specs.declared.epoch.Cue.{Cue}
use Rattle.cue_list.specs.declared.epoch.Epoch.{Epoch}
use Rattle.cue_records.specs.declared.limits.TheConstants.{MOST_CUES}
use Rattle.cue_list.specs.declared.script.Script.{Script}
use Rattle.page_epoch.specs.Live.{cue_at}
use Rattle.page_epoch.specs.Sendable.{HasCue, IsOfItsEpoch}
use Rattle.page_epoch.specs.declared.planned_set.PlannedSet.{PlannedSet}
use Rattle.set_coder.specs.Private.BothBlocks.{AreBothBlocks}
use Rattle.set_coder.specs.Private.UnitParts.{part_packet}
use Rattle.set_coder.specs.SetSegments.{AreObjectsOf, AreSetPackets, AreSetSegments, IsObjectOf, depth_of_cue, leading_segments, object_segment, picture_of_cue}
use Rattle.set_coder.specs.SetSizes.{AreObjectSizes, AreUnitSizes, FitsPackets, IsObjectSize}
use Rattle.set_coder.specs.Usable.{AreDrawable, IsDrawable}
use Rattle.set_coder.proofs.BlockLaws.{are_blocks}
use Rattle.picture_fields.proofs.Drawing.{field_drawn}
use Rattle.picture_fields.proofs.FieldLaws.{same_fields}
use Rattle.set_coder.proofs.ObjectLaws.{object_is, object_sized, object_writable}
use Rattle.set_coder.proofs.SetPacketLaws.{objects_fit, set_packets, units_of}
use Rattle.set_coder.proofs.UsableLaws.{usable}
use Rattle.set_coder.proofs.WritableLaws.{end_writable, leading_writable}
use Rattle.shown_stream.specs.Compiled.{AreLoads, AreUnitsOfSets}
use Rattle.script_stream.specs.Private.SetUnits.{AreSized}
use Rattle.script_stream.proofs.SomeBlocks.{some_blocks}

-- ---- objects

-- blocks of a picture's fields draw it
blocks_draw : (picture : Picture) (region : Depth) (top bottom : List ℕ) → IsNoDeeper picture.depth region
    → AreFieldBlocks picture region top bottom → DrawsPicture picture region top bottom
blocks_draw picture region top bottom shallow blocks =
    let rows : IsDrawnAs region top (top_field picture) =
    field_drawn picture.depth region (top_field picture) top shallow blocks.top_block in
    record {
      top_rows = rows;
      shared = λ equal. subst (IsDrawnAs region top) (same_fields picture equal) rows;
      own =
          λ apart. field_drawn picture.depth region (bottom_field picture) bottom shallow (blocks.own apart);
    }

both_are : (picture : Picture) (region : Depth) (top bottom : List ℕ) → AreFieldBlocks picture region top bottom
    → DrawsPicture picture region top bottom → AreBothBlocks picture region (top ++ bottom) (length top)
both_are picture region top bottom blocks drawn = record {
  written = (top, bottom, refl, refl, blocks);
  drawn = (top, bottom, refl, refl, drawn);
}

some_object : (pictures : List Picture) (epoch : Epoch) (page place size : ℕ) → page < 2 ^ 16
    → All IsPicture pictures → AreDrawable pictures epoch → length epoch.cues ≤ MOST_CUES → HasCue epoch place
    → IsObjectSize pictures epoch place size → size ≤ UNIT_ROOM
    → (object : SegmentValue) × IsObjectOf pictures epoch place object × IsWritable page object
some_object pictures epoch page place size fits_page drawn drawable few has sized fits =
    let cue : Cue = cue_at epoch.cues place in
    let here : IsDrawable pictures epoch cue = drawable place _ has in
    let picture = picture_of_cue pictures epoch place in
    let depth = depth_of_cue epoch place in
    let blocks = some_blocks picture depth (drawn cue.picture _ here.picture) in
    let top = blocks.0 in
    let bottom = blocks.1 in
    let draws = blocks_draw picture depth top bottom here.shallow blocks.2 in
    let both = both_are picture depth top bottom blocks.2 draws in
    let own =
    are_blocks picture depth (top ++ bottom) top bottom (length top) both (sym (take-append_seam top bottom))
    (sym (drop-append_seam top bottom)) in
    let long = object_sized pictures epoch place size picture depth top bottom refl refl blocks.2 sized in (
      object_segment place cue.see_through top bottom,
      object_is pictures epoch place cue picture depth top bottom refl refl refl blocks.2 draws,
      (object_writable page place cue.see_through top bottom fits_page (omega (arith, has, few)) own blocks.3 blocks.4
          (omega (arith, long, fits)) (omega (arith, long, fits))).0,
    )

some_objects : (pictures : List Picture) (epoch : Epoch) (page : ℕ) (places sizes : List ℕ) → page < 2 ^ 16
    → All IsPicture pictures → AreDrawable pictures epoch → length epoch.cues ≤ MOST_CUES
    → All (HasCue epoch) places → AreObjectSizes pictures epoch places sizes → All (λ size. size ≤ UNIT_ROOM) sizes
    → (objects : List SegmentValue) × AreObjectsOf pictures epoch places objects × All (IsWritable page) objects
some_objects pictures epoch page [] [] fits_page drawn drawable few has sized fits =
    ([], tt, All-nil (IsWritable page))
some_objects pictures epoch page [] (size ∷ sizes) fits_page drawn drawable few has sized fits = absurd sized
some_objects pictures epoch page (place ∷ places) [] fits_page drawn drawable few has sized fits = absurd sized
some_objects pictures epoch page (place ∷ places) (size ∷ sizes) fits_page drawn drawable few has sized fits =
    let IsFit : ℕ → Type 0 = λ size. size ≤ UNIT_ROOM in
    let first =
    some_object pictures epoch page place size fits_page drawn drawable few (All-head (HasCue epoch) place places has)
    sized.0 (All-head IsFit size sizes fits) in
    let others =
    some_objects pictures epoch page places sizes fits_page drawn drawable few
    (All-tail (HasCue epoch) place places has) sized.1 (All-tail IsFit size sizes fits) in (
      first.0 ∷ others.0,
      (first.1, others.1),
      All-cons (IsWritable page) first.0 others.0 first.2 others.2,
    )

-- ---- segments

-- the pictures of a script are pictures
pictures_drawn : (origin width height refresh : ℕ) (epochs : List Epoch) (pictures : List Picture)
    → ∥ IsSoundScript origin width height refresh epochs pictures ∥₁ → All IsPicture pictures
pictures_drawn origin width height refresh epochs pictures sound =
    ∥∥₁_elim sound (hlevel props) (λ s. s.drawn)

some_segments : (script : Script) (page : ℕ) (set : PlannedSet) → page < 2 ^ 16 → IsOfItsEpoch script set
    → FitsPackets script set → (segments : List SegmentValue) × AreSetSegments script page set segments
some_segments script page set fits_page sendable fits =
    let epoch = sendable.epoch in
    let good =
    usable script.origin script.width script.height script.refresh set.epoch script.epochs script.pictures epoch
    script.sound sendable.found in
    let sizes = objects_fit script set epoch set.cues fits sendable.found refl in
    let objects =
    some_objects script.pictures epoch page set.cues sizes.0 fits_page
    (pictures_drawn script.origin script.width script.height script.refresh script.epochs script.pictures
    script.sound) good.1 good.0.few_cues sendable.carried.cues sizes.1 sizes.2 in
    let leading = leading_segments script epoch set in
    let AreFit = IsWritable page in (
      leading ++ (objects.0 ++ end_of_set ∷ []),
      record {
        epoch = epoch;
        found = sendable.found;
        objects = objects.0;
        drawn = objects.1;
        fit =
            All-append AreFit leading (objects.0 ++ end_of_set ∷ [])
            (leading_writable script epoch page set fits_page script.sound good.0 sendable.carried)
            (All-append AreFit objects.0 (end_of_set ∷ []) objects.2
            (All-cons AreFit end_of_set [] (end_writable page fits_page) (All-nil AreFit)));
        whole = refl;
      },
    )

-- ---- packets

some_packets : (script : Script) (page : ℕ) (set : PlannedSet) (lengths : List ℕ) → page < 2 ^ 16
    → IsOfItsEpoch script set → FitsPackets script set → AreUnitSizes script set lengths
    → (packets : List (List ℕ)) × AreSetPackets script page set packets
    × AreUnitSizes script set (map length packets)
some_packets script page set lengths fits_page sendable fits sized =
    let segments = some_segments script page set fits_page sendable fits in
    let units = units_of script page set segments.0 lengths segments.1 sized fits in
    let parts = map (flat_map (spelled page)) units.units in
    let packets =
    set_packets script page set segments.0 lengths [] (concat (map (part_packet (set.pts % TIME_ROUND)) parts))
    segments.1 sized units refl in
    (packets.0, packets.2, packets.3)

-- sets that can be sent, and whose loads are known, have packets
pub some_units : (script : Script) (page : ℕ) (sets : List PlannedSet) (loads : List WriteLoad) → page < 2 ^ 16
    → All (IsOfItsEpoch script) sets → All (FitsPackets script) sets → AreLoads script sets loads
    → (units : List (List (List ℕ))) × AreUnitsOfSets script page sets units × AreSized script sets units
some_units script page [] [] fits_page sendable fits asked = ([], tt, tt)
some_units script page [] (load ∷ loads) fits_page sendable fits asked = absurd asked
some_units script page (set ∷ sets) [] fits_page sendable fits asked = absurd asked
some_units script page (set ∷ sets) (load ∷ loads) fits_page sendable fits asked =
    let first =
    some_packets script page set load.units fits_page (All-head (IsOfItsEpoch script) set sets sendable)
    (All-head (FitsPackets script) set sets fits) asked.0.units in
    let others =
    some_units script page sets loads fits_page (All-tail (IsOfItsEpoch script) set sets sendable)
    (All-tail (FitsPackets script) set sets fits) asked.1 in
    (first.0 ∷ others.0, (first.1, others.1), (first.2, others.2))
