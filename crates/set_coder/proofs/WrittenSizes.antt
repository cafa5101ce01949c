-- The segments of a set that are written have the sizes that are measured.
use Rattle.std.proofs.Common.{◌≡◌, ℕ, List, [], ◌∷◌, ◌++◌, length, map, None, refl, ap, subst, ◌∙◌}
use Rattle.std.specs.Prelude.{All}
use Rattle.std.proofs.lemmas.List.{length-map, map-append}
use Rattle.std.proofs.lemmas.List.Elements.{All-head, All-tail, All-cons, All-nil}
use Rattle.sub_base.specs.Picture.{Picture}
use Rattle.stream_syntax.specs.Segments.{SegmentValue, end_of_set, of_display, IsWritable}
use Rattle.stream_syntax.specs.declared.page.State.{State}
use Rattle.stream_syntax.specs.declared.page.State.TheVariants.{Normal, Acquisition, ModeChange}
use Rattle.segments.specs.Sizes as sizes
use Rattle.segments.specs.declared.size.TheConstants.{DISPLAY_SIZE, END_SIZE}
use Rattle.segments.proofs.Sizes.{written_size}
use Rattle.cue_list.specs.declared.epoch.Epoch.{Epoch}
use Rattle.cue_list.specs.declared.script.Script.{Script}
use Rattle.page_epoch.specs.Live.{cue_at}
use Rattle.page_epoch.specs.declared.planned_set.PlannedSet.{PlannedSet}
use Rattle.page_epoch.specs.declared.planned_set.SentClut.{SentClut}
use Rattle.page_epoch.specs.declared.planned_set.SentRegion.{SentRegion}
use Rattle.set_coder.specs.SetSegments.{picture_of_cue, depth_of_cue, display_segments, page_entry_of, page_segment, listing_of, region_segment_of, clut_entry_of, clut_segment_of, leading_segments, object_segment, IsObjectOf, AreObjectsOf, segment_bytes, AreSetSegments}
use Rattle.set_coder.specs.SetSizes.{display_sizes, page_size, region_size, clut_size, leading_sizes, IsObjectSize, AreObjectSizes, AreSegmentSizes}
use Rattle.set_coder.proofs.ObjectLaws.{object_length, block_sizes}

-- ---- facts of parts of a list

pub All_front : {X : Type 0} (P : X → Type 0) (xs ys : List X) → All P (xs ++ ys) → All P xs
All_front P [] ys all = All-nil P
All_front P (x ∷ xs) ys all =
    All-cons P x xs (All-head P x (xs ++ ys) all) (All_front P xs ys (All-tail P x (xs ++ ys) all))

pub All_back : {X : Type 0} (P : X → Type 0) (xs ys : List X) → All P (xs ++ ys) → All P ys
All_back P [] ys all = all
All_back P (x ∷ xs) ys all = All_back P xs ys (All-tail P x (xs ++ ys) all)

pub All_of_map : {X Y : Type 0} (P : Y → Type 0) (f : X → Y) (xs : List X) → All P (map f xs)
    → All (λ x. P (f x)) xs
All_of_map P f [] all = All-nil (λ x. P (f x))
All_of_map P f (x ∷ xs) all =
    All-cons (λ x. P (f x)) x xs (All-head P (f x) (map f xs) all)
    (All_of_map P f xs (All-tail P (f x) (map f xs) all))

-- ---- segments by kind

one_display : (script : Script) (page : ℕ)
    → All (IsWritable page)
    (of_display (record { version = 0; width = script.width; height = script.height; window = None }) ∷ [])
    → map (segment_bytes page)
    (of_display (record { version = 0; width = script.width; height = script.height; window = None }) ∷ [])
    ≡ DISPLAY_SIZE ∷ []
one_display script page all =
    let value = of_display (record { version = 0; width = script.width; height = script.height; window = None }) in
    ap (λ (n : ℕ). n ∷ []) (written_size page value (All-head (IsWritable page) value [] all))

displays_sized : (script : Script) (page : ℕ) (state : State)
    → All (IsWritable page) (display_segments script state)
    → map (segment_bytes page) (display_segments script state) ≡ display_sizes state
displays_sized script page Normal all = refl
displays_sized script page Acquisition all = one_display script page all
displays_sized script page ModeChange all = one_display script page all

page_sized : (script : Script) (epoch : Epoch) (page : ℕ) (set : PlannedSet)
    → IsWritable page (page_segment script epoch set)
    → segment_bytes page (page_segment script epoch set) ≡ page_size set
page_sized script epoch page set whole =
    written_size page (page_segment script epoch set) whole
    ∙ ap sizes.page_size (length-map set.shown (page_entry_of epoch))

region_sized : (epoch : Epoch) (page : ℕ) (sent : SentRegion) → IsWritable page (region_segment_of epoch sent)
    → segment_bytes page (region_segment_of epoch sent) ≡ region_size sent
region_sized epoch page sent whole =
    written_size page (region_segment_of epoch sent) whole
    ∙ ap sizes.region_size (length-map sent.cues (listing_of epoch))

regions_sized : (epoch : Epoch) (page : ℕ) (regions : List SentRegion)
    → All (IsWritable page) (map (region_segment_of epoch) regions)
    → map (segment_bytes page) (map (region_segment_of epoch) regions) ≡ map region_size regions
regions_sized epoch page [] all = refl
regions_sized epoch page (sent ∷ regions) all =
    ap (λ (n : ℕ). n ∷ map (segment_bytes page) (map (region_segment_of epoch) regions))
    (region_sized epoch page sent
    (All-head (IsWritable page) (region_segment_of epoch sent) (map (region_segment_of epoch) regions) all))
    ∙ ap (λ (ns : List ℕ). region_size sent ∷ ns)
    (regions_sized epoch page regions
    (All-tail (IsWritable page) (region_segment_of epoch sent) (map (region_segment_of epoch) regions) all))

clut_sized : (epoch : Epoch) (page : ℕ) (sent : SentClut) → IsWritable page (clut_segment_of epoch sent)
    → segment_bytes page (clut_segment_of epoch sent) ≡ clut_size sent
clut_sized epoch page sent whole =
    written_size page (clut_segment_of epoch sent) whole
    ∙ ap sizes.clut_size (length-map sent.rows (clut_entry_of epoch))

cluts_sized : (epoch : Epoch) (page : ℕ) (cluts : List SentClut)
    → All (IsWritable page) (map (clut_segment_of epoch) cluts)
    → map (segment_bytes page) (map (clut_segment_of epoch) cluts) ≡ map clut_size cluts
cluts_sized epoch page [] all = refl
cluts_sized epoch page (sent ∷ cluts) all =
    ap (λ (n : ℕ). n ∷ map (segment_bytes page) (map (clut_segment_of epoch) cluts))
    (clut_sized epoch page sent
    (All-head (IsWritable page) (clut_segment_of epoch sent) (map (clut_segment_of epoch) cluts) all))
    ∙ ap (λ (ns : List ℕ). clut_size sent ∷ ns)
    (cluts_sized epoch page cluts
    (All-tail (IsWritable page) (clut_segment_of epoch sent) (map (clut_segment_of epoch) cluts) all))

object_sized : (pictures : List Picture) (epoch : Epoch) (page place : ℕ) (segment : SegmentValue)
    → IsObjectOf pictures epoch place segment → IsWritable page segment
    → IsObjectSize pictures epoch place (segment_bytes page segment)
object_sized pictures epoch page place segment o whole =
    let value = object_segment place (cue_at epoch.cues place).see_through o.top o.bottom in (
      length o.top,
      length o.bottom,
      block_sizes (picture_of_cue pictures epoch place) (depth_of_cue epoch place) o.top o.bottom o.blocks,
      ap (segment_bytes page) o.value
          ∙ object_length page place (cue_at epoch.cues place).see_through o.top o.bottom
          (subst (IsWritable page) o.value whole),
    )

objects_sized : (pictures : List Picture) (epoch : Epoch) (page : ℕ) (cues : List ℕ) (objects : List SegmentValue)
    → AreObjectsOf pictures epoch cues objects → All (IsWritable page) objects
    → AreObjectSizes pictures epoch cues (map (segment_bytes page) objects)
objects_sized pictures epoch page [] [] are all = tt
objects_sized pictures epoch page [] (segment ∷ objects) are all = absurd are
objects_sized pictures epoch page (place ∷ places) [] are all = absurd are
objects_sized pictures epoch page (place ∷ places) (segment ∷ objects) are all = (
  object_sized pictures epoch page place segment are.0 (All-head (IsWritable page) segment objects all),
  objects_sized pictures epoch page places objects are.1 (All-tail (IsWritable page) segment objects all),
)

-- ---- all segments of a set

leading_sized : (script : Script) (epoch : Epoch) (page : ℕ) (set : PlannedSet)
    → All (IsWritable page) (leading_segments script epoch set)
    → map (segment_bytes page) (leading_segments script epoch set) ≡ leading_sizes set
leading_sized script epoch page set all =
    let shown = display_segments script set.state in
    let regions = map (region_segment_of epoch) set.regions in
    let cluts = map (clut_segment_of epoch) set.cluts in
    let first = page_segment script epoch set in
    let size = segment_bytes page in
    let behind : All (IsWritable page) (first ∷ (regions ++ cluts)) =
    All_back (IsWritable page) shown (first ∷ (regions ++ cluts)) all in
    let others : All (IsWritable page) (regions ++ cluts) =
    All-tail (IsWritable page) first (regions ++ cluts) behind in
    map-append size shown (first ∷ (regions ++ cluts))
    ∙ ap (λ (ns : List ℕ). ns ++ (size first ∷ map size (regions ++ cluts)))
    (displays_sized script page set.state (All_front (IsWritable page) shown (first ∷ (regions ++ cluts)) all))
    ∙ ap (λ (n : ℕ). display_sizes set.state ++ (n ∷ map size (regions ++ cluts)))
    (page_sized script epoch page set (All-head (IsWritable page) first (regions ++ cluts) behind))
    ∙ ap (λ (ns : List ℕ). display_sizes set.state ++ (page_size set ∷ ns)) (map-append size regions cluts
    ∙ ap (λ (ns : List ℕ). ns ++ map size cluts)
    (regions_sized epoch page set.regions (All_front (IsWritable page) regions cluts others))
    ∙ ap (λ (ns : List ℕ). map region_size set.regions ++ ns)
    (cluts_sized epoch page set.cluts (All_back (IsWritable page) regions cluts others)))

-- the segments of a set have the sizes of its segments
pub segments_sized : (script : Script) (page : ℕ) (set : PlannedSet) (segments : List SegmentValue)
    → AreSetSegments script page set segments → AreSegmentSizes script set (map (segment_bytes page) segments)
segments_sized script page set segments s =
    let size = segment_bytes page in
    let leading = leading_segments script s.epoch set in
    let behind = s.objects ++ end_of_set ∷ [] in
    let all : All (IsWritable page) (leading ++ behind) = subst (All (IsWritable page)) s.whole s.fit in
    let later : All (IsWritable page) behind = All_back (IsWritable page) leading behind all in
    let last : size end_of_set ≡ END_SIZE =
    written_size page end_of_set
    (All-head (IsWritable page) end_of_set [] (All_back (IsWritable page) s.objects (end_of_set ∷ []) later)) in
    record {
      epoch = s.epoch;
      found = s.found;
      objects = map size s.objects;
      coded =
          objects_sized script.pictures s.epoch page set.cues s.objects s.drawn
          (All_front (IsWritable page) s.objects (end_of_set ∷ []) later);
      whole =
          ap (map size) s.whole ∙ map-append size leading behind
          ∙ ap (λ (ns : List ℕ). ns ++ map size behind)
          (leading_sized script s.epoch page set (All_front (IsWritable page) leading behind all))
          ∙ ap (λ (ns : List ℕ). leading_sizes set ++ ns)
          (map-append size s.objects (end_of_set ∷ [])
          ∙ ap (λ (n : ℕ). map size s.objects ++ n ∷ []) last);
    }
