-- Sets of scripts that go on above a horizon: the packets and loads of those up to it stay.
use Rattle.std.proofs.Common.{◌≡◌, ◌∙◌, refl, sym, ap, subst, ℕ, ◌+◌, ◌*◌, ◌/◌, List, [], ◌∷◌, ◌++◌, map, get_or, All, None, sum_by, ◌==◌}
use Rattle.std.specs.Prelude.{find, slice_get}
use Rattle.std.proofs.lemmas.List.{get_or_append_left}
use Rattle.std.proofs.lemmas.List.Elements.{All-head, All-tail}
use Rattle.sub_base.specs.Pace.{painting_ticks}
use Rattle.sub_base.specs.Picture.{Picture, picture_of}
use Rattle.sub_base.specs.declared.depth.Depth.{Depth}
use Rattle.sub_base.specs.declared.depth.Depth.TheVariants.{Two, Four, Eight}
use Rattle.sub_base.specs.declared.load.WriteLoad.{WriteLoad}
use Rattle.sub_base.specs.declared.pace.TheConstants.{SECOND}
use Rattle.sub_base.specs.Depth.{is_same_depth}
use Rattle.stream_syntax.specs.FieldBlocks.{AreFieldBlocks, AreFieldSizes, DrawsPicture}
use Rattle.stream_syntax.specs.Segments.{SegmentValue, end_of_set, of_clut, of_display, of_page, of_region}
use Rattle.stream_syntax.specs.declared.clut.ClutEntry.{ClutEntry}
use Rattle.stream_syntax.specs.declared.page.State.{State}
use Rattle.stream_syntax.specs.declared.page.State.TheVariants.{Acquisition, ModeChange, Normal}
use Rattle.cue_list.specs.Authored.{picture_at_place}
use Rattle.cue_records.specs.declared.row_values.ColourRow.{ColourRow}
use Rattle.cue_list.specs.declared.epoch.Cue.{Cue}
use Rattle.cue_list.specs.declared.epoch.Epoch.{Epoch}
use Rattle.cue_records.specs.declared.region.Region.{Region}
use Rattle.cue_list.specs.declared.script.Script.{Script}
use Rattle.grown_script_laws.specs.Growth.{Grows}
use Rattle.page_epoch.specs.Live.{cue_at, no_cue}
use Rattle.page_epoch.specs.Sendable.{HasColour, HasCue, IsSendableClut, IsSendableRegion}
use Rattle.page_epoch.specs.SentCluts.{no_row, row_at}
use Rattle.page_epoch.specs.declared.planned_set.PlannedSet.{PlannedSet}
use Rattle.page_epoch.specs.declared.planned_set.SentClut.{SentClut}
use Rattle.page_epoch.specs.declared.planned_set.SentRegion.{SentRegion}
use Rattle.page_epoch.proofs.AnswerLaws.{some_same}
use Rattle.grown_script_laws.proofs.GrownPlans.{HasGrown}
use Rattle.set_coder.specs.SetSegments.{AreObjectsOf, AreSetPackets, IsObjectOf, clut_entry_of, clut_segment_of, depth_of_cue, display_segments, epoch_region, leading_segments, listing_of, object_segment, page_entry_of, page_segment, picture_of_cue, region_or_none, region_segment_of}
use Rattle.set_coder.specs.SetSizes.{AreObjectSizes, AreSegmentSizes, IsObjectSize, IsPaintedIn, IsSetLoad, sent_painting}
use Rattle.set_coder.proofs.UsableLaws.{usable}

-- functions that are the same on each item of a list
map_agree : {X Y : Type 0} (f g : X → Y) (xs : List X) → All (λ x. f x ≡ g x) xs → map f xs ≡ map g xs
map_agree f g [] same = refl
map_agree f g (x ∷ xs) same =
    let first = All-head (λ x. f x ≡ g x) x xs same in
    let rest = map_agree f g xs (All-tail (λ x. f x ≡ g x) x xs same) in
    λ i. first i ∷ rest i

-- ---- an epoch that goes on

-- the same regions, and at the places that were there the same cues, colours and pictures
pub record IsGrownEpoch (pictures more : List Picture) (old new : Epoch) : Type 0 where
  pub regions : new.regions ≡ old.regions
  pub cue : (place : ℕ) → HasCue old place → cue_at new.cues place ≡ cue_at old.cues place
  pub colour : (place : ℕ) → HasColour old place → row_at new.colours place ≡ row_at old.colours place
  pub picture : (place : ℕ) → HasCue old place
      → picture_at_place more (cue_at old.cues place).picture
      ≡ picture_at_place pictures (cue_at old.cues place).picture

grown_epoch : (horizon : ℕ) (old new : Script) (set : PlannedSet) → Grows horizon old new
    → (has : HasGrown horizon old new set) → IsGrownEpoch old.pictures new.pictures has.epoch has.grown
grown_epoch horizon old new set grows has =
    let epoch = has.epoch in
    let none = picture_of 0 0 Two [] in
    let drawn =
    (usable old.origin old.width old.height old.refresh set.epoch old.epochs old.pictures epoch old.sound has.found).1
    in
    record {
      regions = has.regions;
      cue = λ place there.
          ap (λ (cues : List Cue). cue_at cues place) has.grows.cues
          ∙ get_or_append_left epoch.cues has.grows.more_cues no_cue place there;
      colour = λ place there.
          ap (λ (rows : List ColourRow). row_at rows place) has.grows.colours
          ∙ get_or_append_left epoch.colours has.grows.more_colours no_row place there;
      picture = λ place there.
          ap (λ (pictures : List Picture). picture_at_place pictures (cue_at epoch.cues place).picture) grows.pictures
          ∙ get_or_append_left old.pictures grows.more_pictures none (cue_at epoch.cues place).picture
          (drawn place no_cue there).picture;
    }

-- the region of a number stays
same_region : (pictures more : List Picture) (old new : Epoch) (id : ℕ) → IsGrownEpoch pictures more old new
    → epoch_region new id ≡ epoch_region old id
same_region pictures more old new id grown =
    ap (λ (regions : List Region). region_or_none (find (λ (region : Region). region.id == id) regions)) grown.regions

-- ---- the segments before the objects

display_stays : (old new : Script) (state : State) → new.width ≡ old.width → new.height ≡ old.height
    → display_segments new state ≡ display_segments old state
display_stays old new Normal width height = refl
display_stays old new Acquisition width height =
    λ i. of_display (record { version = 0; width = width i; height = height i; window = None }) ∷ []
display_stays old new ModeChange width height =
    λ i. of_display (record { version = 0; width = width i; height = height i; window = None }) ∷ []

page_stays : (pictures more : List Picture) (old new : Script) (epoch grown : Epoch) (set : PlannedSet)
    → new.refresh ≡ old.refresh → IsGrownEpoch pictures more epoch grown
    → page_segment new grown set ≡ page_segment old epoch set
page_stays pictures more old new epoch grown set refresh stays =
    let entries : map (page_entry_of grown) set.shown ≡ map (page_entry_of epoch) set.shown =
    ap (λ (region_of : ℕ → Region). map
    (λ (id : ℕ). record { region = id; x = (region_of id).x; y = (region_of id).y }) set.shown)
    (λ i id. same_region pictures more epoch grown id stays i) in
    λ i. of_page (record {
      time_out = 2 * (refresh i / SECOND) + 2;
      version = set.page_version;
      state = set.state;
      entries = entries i;
    })

listing_stays : (pictures more : List Picture) (old new : Epoch) (place : ℕ) → IsGrownEpoch pictures more old new
    → HasCue old place → listing_of new place ≡ listing_of old place
listing_stays pictures more old new place stays there =
    ap (λ (cue : Cue). record { object = place; x = cue.x; y = cue.y }) (stays.cue place there)

region_segment_stays : (pictures more : List Picture) (old new : Epoch) (sent : SentRegion)
    → IsGrownEpoch pictures more old new → IsSendableRegion old sent
    → region_segment_of new sent ≡ region_segment_of old sent
region_segment_stays pictures more old new sent stays sendable =
    let region = same_region pictures more old new sent.id stays in
    let listings = map_agree (listing_of new) (listing_of old) sent.cues
    (λ k d within. listing_stays pictures more old new (get_or sent.cues k d) stays (sendable.cues k d within)) in
    λ i. of_region (record {
      head = record {
        region = sent.id;
        version = sent.version;
        fill = sent.fill;
        width = (region i).width;
        height = (region i).height;
        depth = (region i).depth;
        clut = (region i).clut;
        code8 = 0;
        code4 = 0;
        code2 = 0;
      };
      listings = listings i;
    })

entry_stays : (pictures more : List Picture) (old new : Epoch) (place : ℕ) → IsGrownEpoch pictures more old new
    → HasColour old place → clut_entry_of new place ≡ clut_entry_of old place
entry_stays pictures more old new place stays there =
    ap (λ (row : ColourRow). record {
      entry = row.entry;
      two = is_same_depth row.depth Two;
      four = is_same_depth row.depth Four;
      eight = is_same_depth row.depth Eight;
      colour = row.colour;
    }) (stays.colour place there)

clut_segment_stays : (pictures more : List Picture) (old new : Epoch) (sent : SentClut)
    → IsGrownEpoch pictures more old new → IsSendableClut old sent
    → clut_segment_of new sent ≡ clut_segment_of old sent
clut_segment_stays pictures more old new sent stays sendable =
    ap (λ (entries : List ClutEntry). of_clut
    (record { clut = sent.clut; version = sent.version; entries = entries }))
    (map_agree (clut_entry_of new) (clut_entry_of old) sent.rows
    (λ k d within. entry_stays pictures more old new (get_or sent.rows k d) stays (sendable.rows k d within)))

-- the segments before the objects stay
leading_stays : (horizon : ℕ) (old new : Script) (set : PlannedSet) → Grows horizon old new
    → (has : HasGrown horizon old new set)
    → leading_segments new has.grown set ≡ leading_segments old has.epoch set
leading_stays horizon old new set grows has =
    let epoch = has.epoch in
    let grown = has.grown in
    let stays = grown_epoch horizon old new set grows has in
    let display = display_stays old new set.state grows.width grows.height in
    let page = page_stays old.pictures new.pictures old new epoch grown set grows.refresh stays in
    let regions = map_agree (region_segment_of grown) (region_segment_of epoch) set.regions
    (λ k d within. region_segment_stays old.pictures new.pictures epoch grown (get_or set.regions k d) stays
    (has.carried.regions k d within)) in
    let cluts = map_agree (clut_segment_of grown) (clut_segment_of epoch) set.cluts
    (λ k d within. clut_segment_stays old.pictures new.pictures epoch grown (get_or set.cluts k d) stays
    (has.carried.cluts k d within)) in
    λ i. display i ++ (page i ∷ (regions i ++ cluts i))

-- ---- the objects

-- the picture of a cue stays
same_picture : (pictures more : List Picture) (old new : Epoch) (place : ℕ) → IsGrownEpoch pictures more old new
    → HasCue old place → picture_of_cue more new place ≡ picture_of_cue pictures old place
same_picture pictures more old new place stays there =
    ap (λ (cue : Cue). picture_at_place more cue.picture) (stays.cue place there) ∙ stays.picture place there

-- and so does the depth of its region
same_depth : (pictures more : List Picture) (old new : Epoch) (place : ℕ) → IsGrownEpoch pictures more old new
    → HasCue old place → depth_of_cue new place ≡ depth_of_cue old place
same_depth pictures more old new place stays there =
    ap (λ (cue : Cue). (epoch_region new cue.region).depth) (stays.cue place there)
    ∙ ap (λ (region : Region). region.depth)
    (same_region pictures more old new (cue_at old.cues place).region stays)

-- what holds of a cue's picture and the depth of its region
drawn_stays : (P : Picture → Depth → Type 0) (pictures more : List Picture) (old new : Epoch) (place : ℕ)
    → IsGrownEpoch pictures more old new → HasCue old place
    → P (picture_of_cue pictures old place) (depth_of_cue old place)
    → P (picture_of_cue more new place) (depth_of_cue new place)
drawn_stays P pictures more old new place stays there holds =
    let picture = sym (same_picture pictures more old new place stays there) in
    let depth = sym (same_depth pictures more old new place stays there) in
    subst (λ (one : Depth). P (picture_of_cue more new place) one) depth
    (subst (λ (one : Picture). P one (depth_of_cue old place)) picture holds)

object_stays : (pictures more : List Picture) (old new : Epoch) (place : ℕ) (segment : SegmentValue)
    → IsGrownEpoch pictures more old new → HasCue old place → IsObjectOf pictures old place segment
    → IsObjectOf more new place segment
object_stays pictures more old new place segment stays there object = record {
  top = object.top;
  bottom = object.bottom;
  blocks = drawn_stays (λ picture depth. AreFieldBlocks picture depth object.top object.bottom) pictures more old new
      place stays there object.blocks;
  drawn = drawn_stays (λ picture depth. DrawsPicture picture depth object.top object.bottom) pictures more old new
      place stays there object.drawn;
  value = object.value
      ∙ ap (λ (cue : Cue). object_segment place cue.see_through object.top object.bottom)
      (sym (stays.cue place there));
}

objects_stay : (pictures more : List Picture) (old new : Epoch) (places : List ℕ) (segments : List SegmentValue)
    → IsGrownEpoch pictures more old new → All (HasCue old) places → AreObjectsOf pictures old places segments
    → AreObjectsOf more new places segments
objects_stay pictures more old new [] [] stays there are = are
objects_stay pictures more old new [] (segment ∷ segments) stays there are = absurd are
objects_stay pictures more old new (place ∷ places) [] stays there are = absurd are
objects_stay pictures more old new (place ∷ places) (segment ∷ segments) stays there are = (
  object_stays pictures more old new place segment stays (All-head (HasCue old) place places there) are.0,
  objects_stay pictures more old new places segments stays (All-tail (HasCue old) place places there) are.1,
)

-- ---- packets

-- the PES packets of a set up to the horizon stay
pub packets_stay : (horizon page : ℕ) (old new : Script) (set : PlannedSet) (packets : List (List ℕ))
    → Grows horizon old new → HasGrown horizon old new set → AreSetPackets old page set packets
    → AreSetPackets new page set packets
packets_stay horizon page old new set packets grows has are =
    let was = are.carried in
    let epoch : was.epoch ≡ has.epoch =
    some_same was.epoch has.epoch (slice_get old.epochs set.epoch) was.found has.found in
    let stays = grown_epoch horizon old new set grows has in
    let Drawn : Epoch → Type 0 = λ one. AreObjectsOf old.pictures one set.cues was.objects in
    record {
      segments = are.segments;
      carried = record {
        epoch = has.grown;
        found = has.there;
        objects = was.objects;
        drawn = objects_stay old.pictures new.pictures has.epoch has.grown set.cues was.objects stays
            has.carried.cues (subst Drawn epoch was.drawn);
        fit = was.fit;
        whole = was.whole
            ∙ ap (λ (leading : List SegmentValue). leading ++ (was.objects ++ end_of_set ∷ []))
            (ap (λ (one : Epoch). leading_segments old one set) epoch
            ∙ sym (leading_stays horizon old new set grows has));
      };
      units = are.units;
      shared = are.shared;
      are = are.are;
    }

-- ---- loads

size_stays : (pictures more : List Picture) (old new : Epoch) (place size : ℕ)
    → IsGrownEpoch pictures more old new → HasCue old place → IsObjectSize pictures old place size
    → IsObjectSize more new place size
size_stays pictures more old new place size stays there (top, bottom, sizes, is) = (
  top,
  bottom,
  drawn_stays (λ picture depth. AreFieldSizes picture depth top bottom) pictures more old new place stays there sizes,
  is,
)

sizes_stay : (pictures more : List Picture) (old new : Epoch) (places sizes : List ℕ)
    → IsGrownEpoch pictures more old new → All (HasCue old) places → AreObjectSizes pictures old places sizes
    → AreObjectSizes more new places sizes
sizes_stay pictures more old new [] [] stays there are = are
sizes_stay pictures more old new [] (size ∷ sizes) stays there are = absurd are
sizes_stay pictures more old new (place ∷ places) [] stays there are = absurd are
sizes_stay pictures more old new (place ∷ places) (size ∷ sizes) stays there are = (
  size_stays pictures more old new place size stays (All-head (HasCue old) place places there) are.0,
  sizes_stay pictures more old new places sizes stays (All-tail (HasCue old) place places there) are.1,
)

segment_sizes_stay : (horizon : ℕ) (old new : Script) (set : PlannedSet) (sizes : List ℕ) → Grows horizon old new
    → HasGrown horizon old new set → AreSegmentSizes old set sizes → AreSegmentSizes new set sizes
segment_sizes_stay horizon old new set sizes grows has are =
    let epoch : are.epoch ≡ has.epoch =
    some_same are.epoch has.epoch (slice_get old.epochs set.epoch) are.found has.found in
    let Coded : Epoch → Type 0 = λ one. AreObjectSizes old.pictures one set.cues are.objects in
    record {
      epoch = has.grown;
      found = has.there;
      objects = are.objects;
      coded = sizes_stay old.pictures new.pictures has.epoch has.grown set.cues are.objects
          (grown_epoch horizon old new set grows has) has.carried.cues (subst Coded epoch are.coded);
      whole = are.whole;
    }

painted_stays : (horizon : ℕ) (old new : Script) (set : PlannedSet) (painted : ℕ) → Grows horizon old new
    → HasGrown horizon old new set → IsPaintedIn old set painted → IsPaintedIn new set painted
painted_stays horizon old new set painted grows has is =
    let epoch : is.epoch ≡ has.epoch =
    some_same is.epoch has.epoch (slice_get old.epochs set.epoch) is.found has.found in
    let stays = grown_epoch horizon old new set grows has in
    let painting : sum_by (sent_painting has.epoch) set.regions ≡ sum_by (sent_painting has.grown) set.regions =
    ap (λ (region_of : ℕ → Region). sum_by
    (λ (sent : SentRegion). painting_ticks (region_of sent.id).width (region_of sent.id).height) set.regions)
    (λ i id. sym (same_region old.pictures new.pictures has.epoch has.grown id stays) i) in
    record {
      epoch = has.grown;
      found = has.there;
      sum = is.sum ∙ ap (λ (one : Epoch). sum_by (sent_painting one) set.regions) epoch ∙ painting;
    }

-- what sending a set up to the horizon takes stays
pub load_stays : (horizon : ℕ) (old new : Script) (set : PlannedSet) (load : WriteLoad) → Grows horizon old new
    → HasGrown horizon old new set → IsSetLoad old set load → IsSetLoad new set load
load_stays horizon old new set load grows has is = record {
  time = is.time;
  units = record {
    sizes = is.units.sizes;
    segments = segment_sizes_stay horizon old new set is.units.sizes grows has is.units.segments;
    units = is.units.units;
    shared = is.units.shared;
    are = is.units.are;
  };
  size = is.size;
  painted = painted_stays horizon old new set load.load.painted grows has is.painted;
  longest = record {
    sizes = is.longest.sizes;
    segments = segment_sizes_stay horizon old new set is.longest.sizes grows has is.longest.segments;
    one = is.longest.one;
    greatest = is.longest.greatest;
  };
}
