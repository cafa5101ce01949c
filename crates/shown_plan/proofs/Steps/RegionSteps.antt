-- One region behind one set of the plan more: drawn anew, drawn on, or left as it was.
use Rattle.std.proofs.Common.{◌≡◌, ◌∙◌, ℕ, zero, suc, ◌==◌, true, false, cond, eqb, List, [], ◌∷◌, ◌++◌, map, reverse, get_or, Option, Some, None, refl, sym, ap, subst, arith}
use Rattle.std.specs.Prelude.{All, IsSome, take_while}
use Rattle.std.specs.List.{AllZip, Contains}
use Rattle.std.specs.Option.{option_or, is_some, is_none}
use Rattle.std.proofs.lemmas.Bool.Decides.{nat_tests}
use Rattle.std.proofs.lemmas.List.{reverse-append, append-nil}
use Rattle.std.proofs.lemmas.List.Elements.{All-map}
use Rattle.std.proofs.lemmas.List.Sums.{take_while-cons}
use Rattle.sub_base.specs.Lists.{first_given, last_given}
use Rattle.sub_base.specs.Picture.{Picture}
use Rattle.stream_syntax.specs.Segments.{Region, Object}
use Rattle.stream_syntax.specs.declared.region.Listing.{Listing}
use Rattle.cue_list.specs.declared.epoch.Epoch.{Epoch}
use Rattle.page_epoch.specs.declared.planned_set.SentRegion.{SentRegion}
use Rattle.set_coder.specs.SetSegments.{epoch_region}
use Rattle.decoder_model.specs.Contents.{where_passes, region_named, object_named}
use Rattle.decoder_model.specs.Pixels.{since_region, last_code, code_by_fill}
use Rattle.decoder_model.specs.Readings.{Content}
use Rattle.decoder_model.specs.Taken.{last_region}
use Rattle.decoder_model.proofs.IdleSegments.{IsIdle, idle_code, aside_is_idle}
use Rattle.decoder_model.proofs.Searches.{first_given-append, first_given-all_none}
use Rattle.decoder_model.proofs.TakenSets.{since_behind, last_behind}
use Rattle.shown_plan.specs.NamedSets.{Names, named_listing}
use Rattle.shown_plan.proofs.Pictures.Painted.{code_by_cue}
use Rattle.shown_plan.proofs.Segments.Ordered.{region_content}
use Rattle.shown_plan.proofs.Segments.ReadSets.{IsDrawnObject, drawn_value, IsObject, are_objects}
use Rattle.shown_plan.proofs.Segments.RegionViews.{IsAside, IsRegionView}
use Rattle.shown_plan.proofs.Segments.SetView.{reversed_all, kept_of}
use Rattle.shown_plan.proofs.Steps.Keeps.{HasObject}
use Rattle.shown_plan.proofs.Steps.ObjectsPaint.{DrawsListed, listed_inside, IsLastListed, objects_paint, object_itself}

-- ---- the objects of a set

pub some_or_first : {X : Type 0} (a b : Option X) → IsSome a → IsSome (option_or a b)
some_or_first (Some x) b some = refl
some_or_first None b some = absurd (let no : false ≡ true = some in cc)

pub some_or_second : {X : Type 0} (a b : Option X) → IsSome b → IsSome (option_or a b)
some_or_second (Some x) b some = refl
some_or_second None b some = some

-- an object of each cue of the set is there
object_there : (names : Names) (pictures : List Picture) (epoch : Epoch) (cues : List ℕ) (objects : List Content)
    (place : ℕ) → AllZip (IsDrawnObject names pictures epoch) cues objects → Contains cues place
    → IsSome (first_given (object_named (names place)) (reverse objects))
object_there names pictures epoch [] objects place drawn there = absurd (omega (arith, there.1))
object_there names pictures epoch (first ∷ cues) [] place drawn there = absurd drawn
object_there names pictures epoch (first ∷ cues) (o ∷ objects) place drawn (zero, within, is) =
    let named : object_named (names first) o ≡ Some (drawn_value drawn.0) =
    object_itself o (drawn_value drawn.0) drawn.0.value_is in
    let last : IsSome (object_named (names place) o) =
    subst (λ (at : ℕ). IsSome (object_named (names at) o)) is (ap is_some named) in
    subst IsSome
    (sym (ap (first_given (object_named (names place))) (reverse-append (o ∷ []) objects)
    ∙ first_given-append (object_named (names place)) (reverse objects) (o ∷ [])))
    (some_or_second (first_given (object_named (names place)) (reverse objects))
    (first_given (object_named (names place)) (o ∷ [])) (some_or_first (object_named (names place) o) None last))
object_there names pictures epoch (first ∷ cues) (o ∷ objects) place drawn (suc k, within, is) =
    subst IsSome
    (sym (ap (first_given (object_named (names place))) (reverse-append (o ∷ []) objects)
    ∙ first_given-append (object_named (names place)) (reverse objects) (o ∷ [])))
    (some_or_first (first_given (object_named (names place)) (reverse objects))
    (first_given (object_named (names place)) (o ∷ []))
    (object_there names pictures epoch cues objects place drawn.1 (k, omega (arith, within), is)))

-- ---- the region's own segment

-- a region segment among segments that are aside: it is the last one of its region, and only those above came since
own_last : (id : ℕ) (segment : Content) (value : Region) (above below : List Content)
    → region_named id segment ≡ Some value → All (λ c. region_named id c ≡ None) above
    → last_region id (above ++ (segment ∷ below)) ≡ Some value
own_last id segment value above below named aside =
    last_behind id above (segment ∷ below) aside ∙ ap (λ found. option_or found (last_region id below)) named

own_since : (id : ℕ) (segment : Content) (value : Region) (above below : List Content)
    → region_named id segment ≡ Some value → All (λ c. region_named id c ≡ None) above
    → since_region id (record { segments = above ++ (segment ∷ below) }) ≡ above
own_since id segment value above below named aside =
    since_behind id above (segment ∷ below) aside
    ∙ ap (λ rest. above ++ rest)
    (take_while-cons (λ segment. is_none (region_named id segment)) segment below
    ∙ ap (λ found. cond (is_none found)
    (segment ∷ take_while (λ segment. is_none (region_named id segment)) below) []) named)
    ∙ append-nil above

-- what the segment of a region that is sent stands for
abbrev pub sent_value : Names → Epoch → SentRegion → Region
sent_value names epoch sent =
    record {
      head = record {
        region = sent.id;
        version = sent.version;
        fill = sent.fill;
        width = (epoch_region epoch sent.id).width;
        height = (epoch_region epoch sent.id).height;
        depth = (epoch_region epoch sent.id).depth;
        clut = (epoch_region epoch sent.id).clut;
        code8 = 0;
        code4 = 0;
        code2 = 0;
      };
      listings = map (named_listing names epoch) sent.cues;
    }

segment_named : (names : Names) (epoch : Epoch) (sent : SentRegion)
    → region_named sent.id (region_content names epoch sent) ≡ Some (sent_value names epoch sent)
segment_named names epoch sent =
    ap (λ b. cond b (Some (sent_value names epoch sent)) None)
    (let mine : eqb sent.id sent.id ≡ true = grind (arith, nat_tests) in mine)

-- ---- a region that is taken

-- aside segments are none of the region, and idle
no_regions : (id : ℕ) (xs : List Content) → All (IsAside id) xs → All (λ c. region_named id c ≡ None) xs
no_regions id xs aside = λ k d within. (aside k d within).0

pub all_idle : (id : ℕ) (taken xs : List Content) → All (IsAside id) xs → All (IsIdle id taken) xs
all_idle id taken xs aside =
    λ k d within. aside_is_idle id taken (get_or xs k d) (aside k d within).0 (aside k d within).1

no_objects : (id object : ℕ) (xs : List Content) → All (IsAside id) xs
    → first_given (object_named object) xs ≡ None
no_objects id object xs aside =
    first_given-all_none (object_named object) xs
    (λ k d within. ap (where_passes (λ (o : Object). o.object == object)) (aside k d within).1)

pub objects_no_regions : (id : ℕ) (objects : List Content) → All IsObject objects
    → All (λ c. region_named id c ≡ None) objects
objects_no_regions id objects all = λ k d within. (let object = all k d within in rw object.is refl)

-- a region whose segment is taken: it is the last one, its listings have had their objects, and its codes are those of
-- the cues that it lists upon what was there before the objects
pub record IsTakenRegion (names : Names) (pictures : List Picture) (epoch : Epoch) (sent : SentRegion)
    (taken now : List Content) : Type 0 where
  pub known : last_region sent.id now ≡ Some (sent_value names epoch sent)
  pub painted : All (λ (listing : Listing). HasObject sent.id now listing.object)
      (map (named_listing names epoch) sent.cues)
  pub codes : (x y : ℕ) → last_code now sent.id x y
      ≡ option_or (last_given (code_by_cue pictures epoch x y) sent.cues)
      (option_or (code_by_fill sent.id (sent_value names epoch sent).head) (last_code taken sent.id x y))

pub region_taken : {names : Names} {pictures : List Picture} {epoch : Epoch} {own : List SentRegion}
    {objects taken now : List Content} (sent : SentRegion)
    → DrawsListed names pictures epoch sent.id sent.cues objects
    → IsRegionView names epoch sent.id own objects taken now
    → kept_of (region_content names epoch) taken own ≡ region_content names epoch sent ∷ []
    → IsTakenRegion names pictures epoch sent taken now
region_taken {names} {pictures} {epoch} {own} {objects} {taken} {now} sent draws view one =
    record {
      known =
          ap (last_region sent.id) whole ∙ last_behind sent.id (reverse objects) inner no_region_objects
          ∙ inner_listed.known;
      painted =
          All-map (λ (listing : Listing). HasObject sent.id now listing.object) (named_listing names epoch) sent.cues
          (λ k d within. listed_there (get_or sent.cues k d) (listed_inside draws k d within));
      codes = λ x y.
          ap (λ all. last_code all sent.id x y) whole
          ∙ objects_paint draws inner inner_listed x y
          ∙ ap (option_or (last_given (code_by_cue pictures epoch x y) sent.cues))
          (idle_code sent.id x y view.above own_behind (all_idle sent.id own_behind view.above view.aside_above)
          ∙ ap (option_or (code_by_fill sent.id (sent_value names epoch sent).head))
          (idle_code sent.id x y view.below taken (all_idle sent.id taken view.below view.aside_below)));
    }
  where
    own_behind : List Content
    own_behind = region_content names epoch sent ∷ (view.below ++ taken)

    inner : List Content
    inner = view.above ++ own_behind

    whole : now ≡ reverse objects ++ inner
    whole = view.whole ∙ ap (λ mine. reverse objects ++ (view.above ++ (mine ++ (view.below ++ taken)))) one

    no_region_objects : All (λ c. region_named sent.id c ≡ None) (reverse objects)
    no_region_objects =
        reversed_all (λ c. region_named sent.id c ≡ None) objects
        (objects_no_regions sent.id objects (are_objects names pictures epoch draws.cues objects draws.drawn))

    since_inner : since_region sent.id (record { segments = inner }) ≡ view.above
    since_inner =
        own_since sent.id (region_content names epoch sent) (sent_value names epoch sent) view.above
        (view.below ++ taken) (segment_named names epoch sent) (no_regions sent.id view.above view.aside_above)

    inner_listed : IsLastListed names epoch sent.id sent.cues inner (sent_value names epoch sent)
    inner_listed =
        record {
          known = own_last sent.id (region_content names epoch sent) (sent_value names epoch sent) view.above
              (view.below ++ taken) (segment_named names epoch sent)
              (no_regions sent.id view.above view.aside_above);
          depth = refl;
          listings = refl;
          fresh = λ number. ap (first_given (object_named number)) since_inner
              ∙ no_objects sent.id number view.above view.aside_above;
        }

    since : since_region sent.id (record { segments = now }) ≡ reverse objects ++ view.above
    since =
        ap (λ all. since_region sent.id (record { segments = all })) whole
        ∙ since_behind sent.id (reverse objects) inner no_region_objects
        ∙ ap (λ rest. reverse objects ++ rest) since_inner

    listed_there : (place : ℕ) → Contains draws.cues place → HasObject sent.id now (names place)
    listed_there place there =
        subst (λ (all : List Content). IsSome (first_given (object_named (names place)) all)) (sym since)
        (subst IsSome (sym (first_given-append (object_named (names place)) (reverse objects) view.above))
        (some_or_first (first_given (object_named (names place)) (reverse objects))
        (first_given (object_named (names place)) view.above)
        (object_there names pictures epoch draws.cues objects place draws.drawn there)))
