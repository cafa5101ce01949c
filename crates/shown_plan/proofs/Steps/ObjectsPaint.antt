-- Behind a region's segment that lists cues, the objects of a set paint these cues in their order, each once.
use Rattle.std.proofs.Common.{◌≡◌, ◌≢◌, ◌∙◌, ℕ, zero, suc, ◌==◌, ◌<◌, Bool, true, false, cond, eqb, List, [], ◌∷◌, ◌++◌, length, map, filter, reverse, get_or, Option, Some, None, refl, sym, ap, subst, arith}
use Rattle.std.specs.Prelude.{All}
use Rattle.std.specs.List.{AllPairs, AllZip, Contains}
use Rattle.std.specs.Option.{option_or}
use Rattle.std.proofs.lemmas.Bool.Decides.{nat_tests}
use Rattle.std.proofs.lemmas.List.{append_assoc, reverse-append}
use Rattle.std.proofs.lemmas.List.Elements.{All-head, All-tail, All-cons, All-contains_itself}
use Rattle.std.proofs.lemmas.List.Kept.{AllPairs-cons}
use Rattle.sub_base.specs.Lists.{first_given, last_given}
use Rattle.sub_base.specs.Picture.{Picture, IsPicture}
use Rattle.stream_syntax.specs.Segments.{of_object, Region, Object}
use Rattle.stream_syntax.specs.declared.region.Listing.{Listing}
use Rattle.cue_list.specs.declared.epoch.Epoch.{Epoch}
use Rattle.page_epoch.proofs.ListLaws.{All-none}
use Rattle.page_epoch.specs.Live.{cue_at}
use Rattle.set_coder.specs.SetSegments.{epoch_region, picture_of_cue}
use Rattle.decoder_model.specs.Contents.{region_named, object_named}
use Rattle.decoder_model.specs.Pixels.{version_of_object, since_region, is_painting, listings_naming, listings_by, painted_listings, code_by_listing, code_by_listings, depth_of, code_by_segment, last_code}
use Rattle.decoder_model.specs.Readings.{Content}
use Rattle.decoder_model.specs.Taken.{has_new_version, last_region}
use Rattle.decoder_model.proofs.Searches.{option_or-assoc}
use Rattle.decoder_model.proofs.TakenSets.{since_behind, last_behind}
use Rattle.shown_plan.specs.NamedSets.{Names, AreNames, named_listing}
use Rattle.shown_plan.proofs.Pictures.Painted.{code_by_cue, cue_paints}
use Rattle.shown_plan.proofs.Segments.Lists.{kept_contains, kept_pass, of_all, filter_inside}
use Rattle.shown_plan.proofs.Segments.ReadSets.{IsDrawnObject, drawn_value}
use Rattle.shown_plan.proofs.Steps.Keeps.{AreRising}

-- the cue at a place is one of a region
abbrev pub is_own : Epoch → ℕ → ℕ → Bool
is_own epoch id place = (cue_at epoch.cues place).region == id

-- ---- listings by their numbers

-- what a region's listings have of a cue of the set: its listing alone where the cue is the region's, and else none of
-- its number
pub record IsListed (names : Names) (epoch : Epoch) (id : ℕ) (listings : List Listing) (place : ℕ) : Type 0 where
  pub once : is_own epoch id place ≡ true
      → listings_naming (names place) listings ≡ named_listing names epoch place ∷ []
  pub none : is_own epoch id place ≡ false → listings_naming (names place) listings ≡ []

named_none : (names : Names) (epoch : Epoch) (places : List ℕ) (number : ℕ)
    → All (λ place. names place ≢ number) places
    → listings_naming number (map (named_listing names epoch) places) ≡ []
named_none names epoch [] number others = refl
named_none names epoch (first ∷ places) number others =
    let here : eqb (names first) number ≡ false =
    (let h = All-head (λ place. names place ≢ number) first places others in grind (arith, nat_tests)) in
    ap (λ b. cond b
    (named_listing names epoch first ∷ listings_naming number (map (named_listing names epoch) places))
    (listings_naming number (map (named_listing names epoch) places))) here
    ∙ named_none names epoch places number (All-tail (λ place. names place ≢ number) first places others)

-- the first of a rising list is below the others
pub rise_head : (first : ℕ) (places : List ℕ) → AreRising (first ∷ places)
    → All (λ other. first < other) places
rise_head first places rise = λ k d within. rise 0 (suc k) d (omega arith) (omega arith)

rise_tail : (first : ℕ) (places : List ℕ) → AreRising (first ∷ places) → AreRising places
rise_tail first places rise = λ i j d before within. rise (suc i) (suc j) d (omega arith) (omega arith)

-- a number that all items with it share is that of one listing
named_once : (names : Names) (epoch : Epoch) (places : List ℕ) (place : ℕ) → AreRising places
    → All (λ other. names other ≡ names place → other ≡ place) places → Contains places place
    → listings_naming (names place) (map (named_listing names epoch) places) ≡ named_listing names epoch place
    ∷ []
named_once names epoch [] place rise apart there = absurd (omega (arith, there.1))
named_once names epoch (first ∷ places) place rise apart (zero, within, is) =
    let here : eqb (names first) (names place) ≡ true =
    (let h : names first ≡ names place = ap names is in grind (arith, nat_tests)) in
    let later : All (λ other. names other ≢ names place) places =
    λ k d inside e. (let low = rise_head first places rise k d inside in
    let same = All-tail (λ other. names other ≡ names place → other ≡ place) first places apart k d inside e in
    let h : first ≡ place = is in omega (arith, low, same, h)) in
    ap (λ b. cond b
    (named_listing names epoch first ∷ listings_naming (names place) (map (named_listing names epoch) places))
    (listings_naming (names place) (map (named_listing names epoch) places))) here
    ∙ ap (λ rest. named_listing names epoch first ∷ rest) (named_none names epoch places (names place) later)
    ∙ ap (λ (at : ℕ). named_listing names epoch at ∷ []) is
named_once names epoch (first ∷ places) place rise apart (suc k, within, is) =
    let low = rise_head first places rise k place (omega (arith, within)) in
    let here : eqb (names first) (names place) ≡ false =
    (let differ : names first ≢ names place =
    (λ e. (let same : first ≡ place =
    All-head (λ other. names other ≡ names place → other ≡ place) first places apart e in
    let h : get_or places k place ≡ place = is in omega (arith, low, same, h))) in
    grind (arith, nat_tests)) in
    ap (λ b. cond b
    (named_listing names epoch first ∷ listings_naming (names place) (map (named_listing names epoch) places))
    (listings_naming (names place) (map (named_listing names epoch) places))) here
    ∙ named_once names epoch places place (rise_tail first places rise)
    (All-tail (λ other. names other ≡ names place → other ≡ place) first places apart)
    (k, omega (arith, within), is)

-- ---- the objects of a set that a region lists

-- the set has the objects of these cues, and of the cues those of a region are the places that it lists
pub record DrawsListed (names : Names) (pictures : List Picture) (epoch : Epoch) (id : ℕ) (places : List ℕ)
    (objects : List Content) : Type 0 where
  pub cues : List ℕ
  pub apart : AreNames names cues
  pub drawn : AllZip (IsDrawnObject names pictures epoch) cues objects
  pub are : All (λ place. IsPicture (picture_of_cue pictures epoch place)) cues
  pub own : filter (is_own epoch id) cues ≡ places
  pub rise : AreRising places

-- what a region lists are cues of the set
pub listed_inside : {names : Names} {pictures : List Picture} {epoch : Epoch} {id : ℕ} {places : List ℕ}
    {objects : List Content} (draws : DrawsListed names pictures epoch id places objects)
    → All (Contains draws.cues) places
listed_inside {epoch = epoch} {id = id} {places = places} draws =
    λ k d within. filter_inside (is_own epoch id) draws.cues places draws.own k d within

-- the listings that the region has of each cue of the set
are_listed : {names : Names} {pictures : List Picture} {epoch : Epoch} {id : ℕ} {places : List ℕ} {objects : List
    Content}
    (draws : DrawsListed names pictures epoch id places objects)
    → All (IsListed names epoch id (map (named_listing names epoch) places)) draws.cues
are_listed {names = names} {epoch = epoch} {id = id} {places = places} draws k d within =
    record {
      once = λ mine. named_once names epoch places place draws.rise
          (λ n e inside same. draws.apart (get_or places n e) place (listed_inside draws n e inside) there same)
          (subst (λ (all : List ℕ). Contains all place) draws.own
          (kept_contains (is_own epoch id) draws.cues k d within mine));
      none = λ other. named_none names epoch places (names place)
          (λ n e inside
          same. (let equal = draws.apart (get_or places n e) place (listed_inside draws n e inside) there same in
          let yes : is_own epoch id place ≡ true = ap (is_own epoch id) (sym equal) ∙ own_places n e inside in
          let no : true ≡ false = sym yes ∙ other in absurd (cc)));
    }
  where
    place : ℕ
    place = get_or draws.cues k d

    there : Contains draws.cues place
    there = All-contains_itself draws.cues k d within

    own_places : All (λ other. is_own epoch id other ≡ true) places
    own_places =
        subst (All (λ other. is_own epoch id other ≡ true)) draws.own (kept_pass (is_own epoch id) draws.cues)

-- ---- one object

-- an object is found by its own number
pub object_itself : (content : Content) (object : Object) → content.value ≡ of_object object
    → object_named object.object content ≡ Some object
object_itself content object is =
    rw is (ap (λ b. cond b (Some object) None)
    (let same : eqb object.object object.object ≡ true = grind (arith, nat_tests) in same))

object_other : (content : Content) (object : Object) (number : ℕ) → content.value ≡ of_object object
    → object.object ≢ number → object_named number content ≡ None
object_other content object number is other =
    rw is (ap (λ b. cond b (Some object) None)
    (let differs : eqb object.object number ≡ false = grind (arith, nat_tests) in differs))

-- the listings that an object of a version paints, where none of its number came since the region's segment
pub fresh_listings : (taken : List Content) (id : ℕ) (object : Object) (last : Region)
    → last_region id taken ≡ Some last
    → first_given (object_named object.object) (since_region id (record { segments = taken })) ≡ None
    → painted_listings (record { segments = taken }) id object ≡ listings_naming object.object last.listings
unfolding painted_listings
fresh_listings taken id object last known fresh =
    ap
    (λ found. listings_by (has_new_version object.version (version_of_object found)) object (last_region id taken))
    fresh
    ∙ ap (λ region. listings_by true object region) known

pub unlisted_none : (taken : List Content) (id : ℕ) (object : Object) (last : Region)
    → last_region id taken ≡ Some last → listings_naming object.object last.listings ≡ []
    → painted_listings (record { segments = taken }) id object ≡ []
unfolding painted_listings
unlisted_none taken id object last known none = by (is_painting (record { segments = taken }) id object)
  where
    by : (b : Bool) → listings_by b object (last_region id taken) ≡ []
    by false = refl
    by true = ap (λ region. listings_by true object region) known ∙ none

-- ---- all objects

-- a cue of the region has another number than all cues of the set before it
abbrev AreOnce : Names → Epoch → ℕ → List ℕ → Type 0
AreOnce names epoch id cues =
    AllPairs (λ (first second : ℕ). is_own epoch id second ≡ true → names first ≢ names second) cues

once_from : (names : Names) (epoch : Epoch) (id : ℕ) (all cues : List ℕ) → AreNames names all
    → All (Contains all) cues
    → AreRising (filter (is_own epoch id) cues) → AreOnce names epoch id cues
once_from names epoch id all [] apart inside rise = λ i j d before within. absurd (omega arith)
once_from names epoch id all (place ∷ cues) apart inside rise =
    by (is_own epoch id place) refl rise
    (once_from names epoch id all cues apart (All-tail (Contains all) place cues inside))
  where
    same : (k d : ℕ) → k < length cues → names place ≡ names (get_or cues k d) → place ≡ get_or cues k d
    same k d within e =
        apart place (get_or cues k d) (All-head (Contains all) place cues inside)
        (All-tail (Contains all) place cues inside k d within) e

    by : (b : Bool) → is_own epoch id place ≡ b
        → AreRising (cond b (place ∷ filter (is_own epoch id) cues) (filter (is_own epoch id) cues))
        → (AreRising (filter (is_own epoch id) cues) → AreOnce names epoch id cues)
        → AreOnce names epoch id (place ∷ cues)
    by true e rise again =
        AllPairs-cons (λ (first second : ℕ). is_own epoch id second ≡ true → names first ≢ names second) place
        cues
        (λ k d within own_too one. (let low : place < get_or cues k d =
        of_all (λ other. place < other) (is_own epoch id) cues
        (rise_head place (filter (is_own epoch id) cues) rise) k d within own_too in
        let equal = same k d within one in omega (arith, low, equal)))
        (again (rise_tail place (filter (is_own epoch id) cues) rise))
    by false e rise again =
        AllPairs-cons (λ (first second : ℕ). is_own epoch id second ≡ true → names first ≢ names second) place
        cues
        (λ k d within own_too one. (let equal = same k d within one in
        let no : false ≡ true = sym e ∙ ap (is_own epoch id) equal ∙ own_too in absurd (cc)))
        (again rise)

-- since the region's segment no object of the cue's number came
abbrev IsFresh : Names → Epoch → ℕ → List Content → ℕ → Type 0
IsFresh names epoch id taken place = is_own epoch id place ≡ true
    → first_given (object_named (names place)) (since_region id (record { segments = taken })) ≡ None

-- objects of cues come behind taken segments, of which the last of a region lists the cues that are its own
record ArePainting (names : Names) (pictures : List Picture) (epoch : Epoch) (id : ℕ) (last : Region)
    (cues : List ℕ)
    (objects taken : List Content) : Type 0 where
  known : last_region id taken ≡ Some last
  depth : last.head.depth ≡ (epoch_region epoch id).depth
  listed : All (IsListed names epoch id last.listings) cues
  once : AreOnce names epoch id cues
  fresh : All (IsFresh names epoch id taken) cues
  are : All (λ place. IsPicture (picture_of_cue pictures epoch place)) cues
  drawn : AllZip (IsDrawnObject names pictures epoch) cues objects

-- an object is no region
no_region : {names : Names} {pictures : List Picture} {epoch : Epoch} {place : ℕ} {o : Content} (id : ℕ)
    → IsDrawnObject names pictures epoch place o → All (λ c. region_named id c ≡ None) (o ∷ [])
no_region {o = o} id drawn = All-cons (λ c. region_named id c ≡ None) o [] (rw drawn.value_is refl) (All-none _)

-- the others come behind the first one
painting_behind : {names : Names} {pictures : List Picture} {epoch : Epoch} {id : ℕ} {last : Region} (place : ℕ)
    (cues : List ℕ) (o : Content) (objects taken : List Content)
    → ArePainting names pictures epoch id last (place ∷ cues) (o ∷ objects) taken
    → ArePainting names pictures epoch id last cues objects (o ∷ taken)
painting_behind {names = names} {pictures = pictures} {epoch = epoch} {id = id} {last = last} place cues o objects taken
    is =
    record {
      known = last_behind id (o ∷ []) taken (no_region id is.drawn.0) ∙ is.known;
      depth = is.depth;
      listed = All-tail (IsListed names epoch id last.listings) place cues is.listed;
      once = λ i j d before within. is.once (suc i) (suc j) d (omega arith) (omega arith);
      fresh = λ k d within mine.
          ap (first_given (object_named (names (get_or cues k d))))
          (since_behind id (o ∷ []) taken (no_region id is.drawn.0))
          ∙ ap (λ found. option_or found
          (first_given (object_named (names (get_or cues k d))) (since_region id (record { segments = taken }))))
          (object_other o (drawn_value is.drawn.0) (names (get_or cues k d)) is.drawn.0.value_is
          (is.once 0 (suc k) d (omega arith) (omega arith) mine))
          ∙ All-tail (IsFresh names epoch id taken) place cues is.fresh k d within mine;
      are = All-tail (λ place. IsPicture (picture_of_cue pictures epoch place)) place cues is.are;
      drawn = is.drawn.1;
    }

-- the first object paints its cue where that is the region's, and else nothing
first_paints : {names : Names} {pictures : List Picture} {epoch : Epoch} {id : ℕ} {last : Region} (place : ℕ)
    (cues : List ℕ) (o : Content) (objects taken : List Content)
    → ArePainting names pictures epoch id last (place ∷ cues) (o ∷ objects) taken → (x y : ℕ)
    → last_code (o ∷ taken) id x y
    ≡ option_or (cond (is_own epoch id place) (code_by_cue pictures epoch x y place) None) (last_code taken id x y)
first_paints {names} {pictures} {epoch} {id} {last} place cues o objects taken is x y =
    ap (λ v. option_or (code_by_segment (record { segments = taken }) v o.top o.bottom id x y)
    (last_code taken id x y))
    is.drawn.0.value_is
    ∙ ap (λ code. option_or code (last_code taken id x y)) (by (is_own epoch id place) refl)
  where
    value : Object
    value = drawn_value is.drawn.0

    listed : IsListed names epoch id last.listings place
    listed = All-head (IsListed names epoch id last.listings) place cues is.listed

    by : (b : Bool) → is_own epoch id place ≡ b
        → code_by_listings (depth_of (last_region id taken)) value.see_through o.top o.bottom x y
        (painted_listings (record { segments = taken }) id value)
        ≡ cond b (code_by_cue pictures epoch x y place) None
    by false e =
        ap (code_by_listings (depth_of (last_region id taken)) value.see_through o.top o.bottom x y)
        (unlisted_none taken id value last is.known (listed.none e))
    by true e =
        let mine : (cue_at epoch.cues place).region ≡ id = grind (arith, nat_tests) in
        ap (code_by_listings (depth_of (last_region id taken)) value.see_through o.top o.bottom x y)
        (fresh_listings taken id value last is.known (All-head (IsFresh names epoch id taken) place cues is.fresh e)
        ∙ listed.once e)
        ∙ ap (λ of_depth. code_by_listing of_depth value.see_through o.top o.bottom x y
        (named_listing names epoch place))
        (ap depth_of is.known ∙ is.depth ∙ ap (λ (of_id : ℕ). (epoch_region epoch of_id).depth) (sym mine))
        ∙ cue_paints place x y o
        (All-head (λ place. IsPicture (picture_of_cue pictures epoch place)) place cues is.are) is.drawn.0

paint_in_order : {names : Names} {pictures : List Picture} {epoch : Epoch} {id : ℕ} {last : Region} (cues : List ℕ)
    (objects taken : List Content) → ArePainting names pictures epoch id last cues objects taken → (x y : ℕ)
    → last_code (reverse objects ++ taken) id x y
    ≡ option_or (last_given (code_by_cue pictures epoch x y) (filter (is_own epoch id) cues)) (last_code taken id x y)
paint_in_order [] [] taken is x y = refl
paint_in_order [] (o ∷ objects) taken is x y = absurd is.drawn
paint_in_order (place ∷ cues) [] taken is x y = absurd is.drawn
paint_in_order {names} {pictures} {epoch} {id} {last} (place ∷ cues) (o ∷ objects) taken is x y =
    ap (λ all. last_code all id x y)
    (ap (λ all. all ++ taken) (reverse-append (o ∷ []) objects) ∙ append_assoc (reverse objects) (o ∷ []) taken)
    ∙ paint_in_order cues objects (o ∷ taken) (painting_behind place cues o objects taken is) x y
    ∙ ap (option_or others) (first_paints place cues o objects taken is x y)
    ∙ by (is_own epoch id place)
  where
    others : Option ℕ
    others = last_given (code_by_cue pictures epoch x y) (filter (is_own epoch id) cues)

    by : (b : Bool) → option_or others
        (option_or (cond b (code_by_cue pictures epoch x y place) None) (last_code taken id x y))
        ≡ option_or (last_given (code_by_cue pictures epoch x y)
        (cond b (place ∷ filter (is_own epoch id) cues) (filter (is_own epoch id) cues))) (last_code taken id x y)
    by false = refl
    by true = sym (option_or-assoc others (code_by_cue pictures epoch x y place) (last_code taken id x y))

-- the last segment of a region lists these places, and no object came since
pub record IsLastListed (names : Names) (epoch : Epoch) (id : ℕ) (places : List ℕ) (taken : List Content)
    (last : Region) : Type 0 where
  pub known : last_region id taken ≡ Some last
  pub depth : last.head.depth ≡ (epoch_region epoch id).depth
  pub listings : last.listings ≡ map (named_listing names epoch) places
  pub fresh : (number : ℕ)
      → first_given (object_named number) (since_region id (record { segments = taken })) ≡ None

-- behind it the objects of the set give each pixel the code of the last of the cues that shows one there
pub objects_paint : {names : Names} {pictures : List Picture} {epoch : Epoch} {id : ℕ} {places : List ℕ}
    {objects : List Content} {last : Region} (draws : DrawsListed names pictures epoch id places objects)
    (taken : List Content) → IsLastListed names epoch id places taken last → (x y : ℕ)
    → last_code (reverse objects ++ taken) id x y
    ≡ option_or (last_given (code_by_cue pictures epoch x y) places) (last_code taken id x y)
objects_paint {names} {pictures} {epoch} {id} {places} {objects} {last} draws taken is x y =
    paint_in_order draws.cues objects taken
    (record {
      known = is.known;
      depth = is.depth;
      listed = subst (λ (listings : List Listing). All (IsListed names epoch id listings) draws.cues) (sym is.listings)
          (are_listed draws);
      once = once_from names epoch id draws.cues draws.cues draws.apart (All-contains_itself draws.cues)
          (subst AreRising (sym draws.own) draws.rise);
      fresh = λ k d within mine. is.fresh (names (get_or draws.cues k d));
      are = draws.are;
      drawn = draws.drawn;
    }) x y
    ∙ ap (λ all. option_or (last_given (code_by_cue pictures epoch x y) all) (last_code taken id x y)) draws.own
