-- The segments of a set as they are handled: display, page, regions, CLUTs and objects.
use Rattle.std.proofs.Common.{◌≡◌, ◌∙◌, Bool, true, false, cond, List, [], ◌∷◌, ◌++◌, map, filter, get_or, refl, ap}
use Rattle.std.specs.Prelude.{All}
use Rattle.std.specs.List.{flat_map}
use Rattle.std.specs.Option.{is_some}
use Rattle.std.proofs.lemmas.List.{append-nil, map-append, append_assoc}
use Rattle.std.proofs.lemmas.List.Elements.{filter-append, All-head, All-tail, All-cons}
use Rattle.stream_syntax.specs.Segments.{SegmentValue, end_of_set}
use Rattle.stream_syntax.specs.declared.page.State.{State}
use Rattle.stream_syntax.specs.declared.page.State.TheVariants.{Normal, Acquisition, ModeChange}
use Rattle.cue_list.specs.declared.epoch.Epoch.{Epoch}
use Rattle.cue_list.specs.declared.script.Script.{Script}
use Rattle.page_epoch.proofs.ListLaws.{filter_none, All-none}
use Rattle.page_epoch.specs.declared.planned_set.PlannedSet.{PlannedSet}
use Rattle.page_epoch.specs.declared.planned_set.SentClut.{SentClut}
use Rattle.page_epoch.specs.declared.planned_set.SentRegion.{SentRegion}
use Rattle.set_coder.specs.SetSegments.{display_segments, page_segment, clut_segment_of}
use Rattle.decoder_model.specs.Contents.{page_of, region_of, clut_of, object_of, display_of, in_order}
use Rattle.decoder_model.specs.Readings.{Content}
use Rattle.shown_plan.specs.NamedSets.{Names, named_region, named_leading}
use Rattle.shown_plan.proofs.Segments.ReadSets.{plain, IsObject, IsReadSet, objects_of}

-- ---- kinds

-- of which kind a segment is
pub record IsKind (display page region clut object : Bool) (content : Content) : Type 0 where
  pub display_is : is_some (display_of content) ≡ display
  pub page_is : is_some (page_of content) ≡ page
  pub region_is : is_some (region_of content) ≡ region
  pub clut_is : is_some (clut_of content) ≡ clut
  pub object_is : is_some (object_of content) ≡ object

-- a filter keeps all or nothing of items that answer it alike
filter_alike : {X : Type 0} (p : X → Bool) (b : Bool) (xs : List X) → All (λ x. p x ≡ b) xs
    → filter p xs ≡ cond b xs []
filter_alike p true [] alike = refl
filter_alike p true (x ∷ xs) alike =
    ap (λ b. cond b (x ∷ filter p xs) (filter p xs)) (All-head (λ x. p x ≡ true) x xs alike)
    ∙ ap (λ rest. x ∷ rest) (filter_alike p true xs (All-tail (λ x. p x ≡ true) x xs alike))
filter_alike p false xs alike = filter_none p xs alike

-- the kinds in the order in which they are handled
data Kind : Type 0 where
  a_display : Kind
  a_page : Kind
  a_region : Kind
  a_clut : Kind
  an_object : Kind

abbrev is_of : Kind → Content → Bool
is_of a_display content = is_some (display_of content)
is_of a_page content = is_some (page_of content)
is_of a_region content = is_some (region_of content)
is_of a_clut content = is_some (clut_of content)
is_of an_object content = is_some (object_of content)

-- segments that answer alike of which kind they are
record Part : Type 0 where
  answers : Kind → Bool
  items : List Content
  alike : (kind : Kind) → All (λ content. is_of kind content ≡ answers kind) items

abbrev answers_by : Bool → Bool → Bool → Bool → Bool → Kind → Bool
answers_by display page region clut object a_display = display
answers_by display page region clut object a_page = page
answers_by display page region clut object a_region = region
answers_by display page region clut object a_clut = clut
answers_by display page region clut object an_object = object

alike_by : {display page region clut object : Bool} (items : List Content)
    → All (IsKind display page region clut object) items → (kind : Kind)
    → All (λ content. is_of kind content ≡ answers_by display page region clut object kind) items
alike_by items are a_display = λ k d within. (are k d within).display_is
alike_by items are a_page = λ k d within. (are k d within).page_is
alike_by items are a_region = λ k d within. (are k d within).region_is
alike_by items are a_clut = λ k d within. (are k d within).clut_is
alike_by items are an_object = λ k d within. (are k d within).object_is

abbrev part : {display page region clut object : Bool} (items : List Content)
    → All (IsKind display page region clut object) items → Part
part {display = display} {page = page} {region = region} {clut = clut} {object = object} items are =
    record { answers = answers_by display page region clut object; items = items; alike = alike_by items are }

-- those of a kind among all parts are the parts of that kind
parts_kept : (kind : Kind) (parts : List Part)
    → filter (is_of kind) (flat_map (λ (part : Part). part.items) parts)
    ≡ flat_map (λ (part : Part). cond (part.answers kind) part.items []) parts
parts_kept kind [] = refl
parts_kept kind (part ∷ parts) =
    filter-append (is_of kind) part.items (flat_map (λ (part : Part). part.items) parts)
    ∙ (λ i. filter_alike (is_of kind) (part.answers kind) part.items (part.alike kind) i ++ parts_kept kind parts i)

-- segments that stand by kinds, and a last one of no kind, which ends the set
record ByKinds : Type 0 where
  displays : List Content
  pages : List Content
  regions : List Content
  cluts : List Content
  objects : List Content
  last : Content
  are_displays : All (IsKind true false false false false) displays
  are_pages : All (IsKind false true false false false) pages
  are_regions : All (IsKind false false true false false) regions
  are_cluts : All (IsKind false false false true false) cluts
  are_objects : All (IsKind false false false false true) objects
  no_kind : IsKind false false false false false last

-- they are handled as they stand
kinds_in_order : (all : ByKinds)
    → in_order (all.displays ++ (all.pages ++ (all.regions ++ (all.cluts ++ (all.objects ++ all.last ∷ [])))))
    ≡ all.displays ++ (all.pages ++ (all.regions ++ (all.cluts ++ all.objects)))
kinds_in_order all =
    λ i. (parts_kept a_display parts ∙ append-nil all.displays) i
    ++ ((parts_kept a_page parts ∙ append-nil all.pages) i
    ++ ((parts_kept a_region parts ∙ append-nil all.regions) i
    ++ ((parts_kept a_clut parts ∙ append-nil all.cluts) i
    ++ (parts_kept an_object parts ∙ append-nil all.objects) i)))
  where
    parts : List Part
    parts =
        part all.displays all.are_displays
        ∷ part all.pages all.are_pages
        ∷ part all.regions all.are_regions
        ∷ part all.cluts all.are_cluts
        ∷ part all.objects all.are_objects
        ∷ part (all.last ∷ [])
        (All-cons (IsKind false false false false false) all.last [] all.no_kind (All-none _))
        ∷ []

-- ---- the set

-- the display, the page, the regions and the CLUTs of a set
abbrev pub displays_in : Script → PlannedSet → List Content
displays_in script set = map plain (display_segments script set.state)

abbrev pub page_content : Script → Epoch → PlannedSet → Content
page_content script epoch set = plain (page_segment script epoch set)

abbrev pub region_content : Names → Epoch → SentRegion → Content
region_content names epoch sent = plain (named_region names epoch sent)

abbrev pub clut_content : Epoch → SentClut → Content
clut_content epoch sent = plain (clut_segment_of epoch sent)

displays_are : (script : Script) (state : State)
    → All (IsKind true false false false false) (map plain (display_segments script state))
displays_are script Normal = All-none _
displays_are script Acquisition =
    All-cons (IsKind true false false false false) _ []
    (record { display_is = refl; page_is = refl; region_is = refl; clut_is = refl; object_is = refl }) (All-none _)
displays_are script ModeChange =
    All-cons (IsKind true false false false false) _ []
    (record { display_is = refl; page_is = refl; region_is = refl; clut_is = refl; object_is = refl }) (All-none _)

regions_are : (names : Names) (epoch : Epoch) (sent : List SentRegion)
    → All (IsKind false false true false false) (map (region_content names epoch) sent)
regions_are names epoch [] = All-none _
regions_are names epoch (one ∷ sent) =
    All-cons (IsKind false false true false false) (region_content names epoch one)
    (map (region_content names epoch) sent)
    (record { display_is = refl; page_is = refl; region_is = refl; clut_is = refl; object_is = refl })
    (regions_are names epoch sent)

cluts_are : (epoch : Epoch) (sent : List SentClut)
    → All (IsKind false false false true false) (map (clut_content epoch) sent)
cluts_are epoch [] = All-none _
cluts_are epoch (one ∷ sent) =
    All-cons (IsKind false false false true false) (clut_content epoch one) (map (clut_content epoch) sent)
    (record { display_is = refl; page_is = refl; region_is = refl; clut_is = refl; object_is = refl })
    (cluts_are epoch sent)

object_is_one : (content : Content) → IsObject content → IsKind false false false false true content
object_is_one content object =
    record {
      display_is = rw object.is refl;
      page_is = rw object.is refl;
      region_is = rw object.is refl;
      clut_is = rw object.is refl;
      object_is = rw object.is refl;
    }

pub objects_are : (objects : List Content) → All IsObject objects
    → All (IsKind false false false false true) objects
objects_are objects all = λ k d within. object_is_one (get_or objects k d) (all k d within)

map_twice : {X : Type 0} (f : X → SegmentValue) (xs : List X) → map plain (map f xs) ≡ map (λ x. plain (f x)) xs
map_twice f [] = refl
map_twice f (x ∷ xs) = ap (λ rest. plain (f x) ∷ rest) (map_twice f xs)

leading_are : (names : Names) (script : Script) (epoch : Epoch) (set : PlannedSet) (cluts : List SentClut)
    → map plain (named_leading names script epoch set cluts) ≡ displays_in script set
    ++ (page_content script epoch set
    ∷ (map (region_content names epoch) set.regions ++ map (clut_content epoch) cluts))
leading_are names script epoch set cluts =
    map-append plain (display_segments script set.state)
    (page_segment script epoch set
    ∷ (map (named_region names epoch) set.regions ++ map (clut_segment_of epoch) cluts))
    ∙ ap (λ rest. displays_in script set ++ (page_content script epoch set ∷ rest))
    (map-append plain (map (named_region names epoch) set.regions) (map (clut_segment_of epoch) cluts)
    ∙ (λ i. map_twice (named_region names epoch) set.regions i ++ map_twice (clut_segment_of epoch) cluts i))

-- the regions of a set that is read so, with the set's names, and its CLUTs
abbrev pub regions_in : {script : Script} {epoch : Epoch} {set : PlannedSet} {contents : List Content}
    → IsReadSet script epoch set contents → List Content
regions_in {epoch = epoch} {set = set} is = map (region_content is.names epoch) set.regions

abbrev pub cluts_in : {script : Script} {epoch : Epoch} {set : PlannedSet} {contents : List Content}
    → IsReadSet script epoch set contents → List Content
cluts_in {epoch = epoch} is = map (clut_content epoch) is.cluts

-- its segments, as they stand
pub contents_are : {script : Script} {epoch : Epoch} {set : PlannedSet} {contents : List Content}
    (is : IsReadSet script epoch set contents)
    → contents ≡ displays_in script set
    ++ (page_content script epoch set
    ∷ (regions_in is ++ (cluts_in is ++ (is.objects ++ plain end_of_set ∷ []))))
contents_are {script} {epoch} {set} {contents} is =
    is.are
    ∙ ap (λ front. front ++ (is.objects ++ plain end_of_set ∷ [])) (leading_are is.names script epoch set is.cluts)
    ∙ append_assoc (displays_in script set) (page_content script epoch set ∷ (regions_in is ++ cluts_in is))
    (is.objects ++ plain end_of_set ∷ [])
    ∙ ap (λ rest. displays_in script set ++ (page_content script epoch set ∷ rest))
    (append_assoc (regions_in is) (cluts_in is) (is.objects ++ plain end_of_set ∷ []))

-- its segments, as they are handled
pub contents_in_order : {script : Script} {epoch : Epoch} {set : PlannedSet} {contents : List Content}
    (is : IsReadSet script epoch set contents)
    → in_order contents ≡ displays_in script set
    ++ (page_content script epoch set ∷ (regions_in is ++ (cluts_in is ++ is.objects)))
contents_in_order {script} {epoch} {set} {contents} is =
    ap in_order (contents_are is)
    ∙ kinds_in_order (record {
      displays = displays_in script set;
      pages = page_content script epoch set ∷ [];
      regions = regions_in is;
      cluts = cluts_in is;
      objects = is.objects;
      last = plain end_of_set;
      are_displays = displays_are script set.state;
      are_pages = All-cons (IsKind false true false false false) (page_content script epoch set) []
          (record { display_is = refl; page_is = refl; region_is = refl; clut_is = refl; object_is = refl })
          (All-none _);
      are_regions = regions_are is.names epoch set.regions;
      are_cluts = cluts_are epoch is.cluts;
      are_objects = objects_are is.objects (objects_of is);
      no_kind = record { display_is = refl; page_is = refl; region_is = refl; clut_is = refl; object_is = refl };
    })
