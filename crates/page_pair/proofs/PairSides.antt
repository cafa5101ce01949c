-- Of a set of two languages what counts for a receiver of one is the set of that language: all that its own compiler
-- sends of it, with numbers of its own for the objects.
use Rattle.std.proofs.Common.{◌≡◌, ◌≢◌, ◌∙◌, ℕ, ◌<◌, ◌^◌, Bool, true, false, not, cond, List, [], ◌∷◌, ◌++◌, map, filter, zero, suc, refl, sym, ap, subst, arith, append_assoc}
use Rattle.std.specs.List.{AllByRecursion, AllZip, Contains}
use Rattle.std.proofs.lemmas.List.{map-append}
use Rattle.std.proofs.lemmas.List.Elements.{filter-append}
use Rattle.std.proofs.lemmas.List.Sorted.{IsPermutation-filter_both}
use Rattle.sub_base.specs.Picture.{Picture}
use Rattle.stream_syntax.specs.Segments.{SegmentValue, of_page, of_region, of_clut, of_object, of_display, end_of_set, passed_over, Object, spelled, IsWritable}
use Rattle.cue_list.specs.declared.epoch.Epoch.{Epoch}
use Rattle.page_epoch.specs.declared.planned_set.PlannedSet.{PlannedSet}
use Rattle.page_epoch.specs.declared.planned_set.SentClut.{SentClut}
use Rattle.decoder_model.specs.declared.pages.Pages.{Pages}
use Rattle.set_coder.specs.SetSegments.{display_segments, page_segment, clut_segment_of, AreObjectsOf, object_segment}
use Rattle.shown_plan.specs.NamedSets.{Names, AreNames, named_region, IsNamedObject, AreNamedSegments}
use Rattle.decoder_model.proofs.Lists.{all-append}
use Rattle.sent_sets.proofs.RawUnits.{parts_of_all, both_zip}
use Rattle.shown_stream.proofs.Sent.WrittenSets.{IsInner}
use Rattle.page_pair.proofs.CarriedEnds.{display_inner, regions_inner}
use Rattle.shown_stream.specs.SentPlan.{IsWrittenAs, CarriesSet}
use Rattle.page_pair.specs.PairOutcome.{first_pages, second_pages, ArePagesApart}
use Rattle.page_pair.specs.PairSets.{Paged, on, paged_bytes, CueObject, names_of, Side, IsSide, cluts_of, head_of, object_of, in_order, pairs_of, first_names, second_names, has_clut, own_cluts, shared_cluts, pair_segments, pair_raw}
use Rattle.page_pair.specs.declared.pages.TwoPages.{TwoPages}
use Rattle.page_pair.proofs.CountedSegments.{counts, IsFit, counted_bytes, IsOfSet, IsShareable, counts_mine, counts_shared, counts_not, all_kept, none_kept, kept_of_all, Written, written_bytes, written_on}
use Rattle.page_pair.proofs.SharedCluts.{IsClut, AreRising, AreEqual, both_equal, same_on}
use Rattle.page_pair.proofs.SharedNames.{same_names, names_apart}
use Rattle.page_pair.proofs.SharedObjects.{HasNo, AreApart, AreNamed, ArePairs, shared_pairs, first_objects, second_objects}

-- ---- what is known of a set of a plan

-- each cue stands once
abbrev pub AreOwn : List ℕ → Type 0
AreOwn [] = Unit {0}
AreOwn (cue ∷ cues) = AllByRecursion (λ (other : ℕ). other ≢ cue) cues × AreOwn cues

-- the cues of a set with its epoch stand once each, and are below 32,768; its CLUTs are written as CLUTs, in rising
-- order of their numbers
pub record IsKnownIn (epoch : Epoch) (set : PlannedSet) : Type 0 where
  pub own : AreOwn set.cues
  pub small : AllByRecursion (λ (cue : ℕ). cue < 32768) set.cues
  pub cluts : AllByRecursion IsClut (map (clut_segment_of epoch) set.cluts)
  pub rising : AreRising (map (clut_segment_of epoch) set.cluts)

apart_from : (objects : List CueObject) (cues : List ℕ) → map (λ (object : CueObject). object.cue) objects ≡ cues
    → AreOwn cues → AreApart objects
apart_from [] cues e own = tt
apart_from (object ∷ objects) [] e own = absurd (cc)
apart_from (object ∷ objects) (cue ∷ cues) e own =
    let here : object.cue ≡ cue = cc in
    let rest : map (λ (object : CueObject). object.cue) objects ≡ cues = cc in
    (subst (λ (n : ℕ). HasNo n objects) (sym here) (others objects cues rest own.0), apart_from objects cues rest own.1)
  where
    others : (objects : List CueObject) (cues : List ℕ) → map (λ (object : CueObject). object.cue) objects ≡ cues
        → AllByRecursion (λ (other : ℕ). other ≢ cue) cues → HasNo cue objects
    others [] cues e all = tt
    others (next ∷ objects) [] e all = absurd (cc)
    others (next ∷ objects) (one ∷ cues) e all =
        let here : next.cue ≡ one = cc in
        let rest : map (λ (object : CueObject). object.cue) objects ≡ cues = cc in
        ((λ same. all.0 (sym here ∙ same)), others objects cues rest all.1)

at_place : (P : ℕ → Type 0) (cues : List ℕ) (cue : ℕ) → AllByRecursion P cues → Contains cues cue → P cue
at_place P [] cue all there = absurd (omega (arith, there.1))
at_place P (first ∷ cues) cue all (zero, within, is) = subst P is all.0
at_place P (first ∷ cues) cue all (suc k, within, is) =
    at_place P cues cue all.1 (k, omega (arith, within), is)

are_names : (shared cues : List ℕ) → AllByRecursion (λ (cue : ℕ). cue < 32768) cues → AreNames (names_of shared) cues
are_names shared cues small first second one two same =
    names_apart shared first second (at_place (λ (cue : ℕ). cue < 32768) cues first small one)
    (at_place (λ (cue : ℕ). cue < 32768) cues second small two) same

-- ---- objects

abbrev object_in : SegmentValue → Object
object_in (of_object value) = value
object_in value = record { object = 0; version = 0; see_through = false; top = []; bottom = [] }

-- the objects of the cues draw their pictures, whatever numbers they have
named_objects : (names : Names) (pictures : List Picture) (epoch : Epoch) (objects : List CueObject) (cues : List ℕ)
    → map (λ (object : CueObject). object.cue) objects ≡ cues
    → AreObjectsOf pictures epoch cues (map (λ (object : CueObject).
    object_segment object.cue object.see_through object.top object.bottom) objects)
    → AllZip (IsNamedObject names pictures epoch) cues (map (object_of names) objects)
named_objects names pictures epoch [] [] e coded = tt
named_objects names pictures epoch [] (cue ∷ cues) e coded = absurd coded
named_objects names pictures epoch (object ∷ objects) [] e coded = absurd coded
named_objects names pictures epoch (object ∷ objects) (cue ∷ cues) e coded =
    let is = coded.0 in
    let here : object.cue ≡ cue = cc in
    let rest : map (λ (object : CueObject). object.cue) objects ≡ cues = cc in
    let same = ap object_in is.value in (
      record {
        top = is.top;
        bottom = is.bottom;
        blocks = is.blocks;
        drawn = is.drawn;
        value = λ i. of_object (record {
          object = names (here i);
          version = 0;
          see_through = (same i).see_through;
          top = (same i).top;
          bottom = (same i).bottom;
        });
      },
      named_objects names pictures epoch objects cues rest coded.1,
    )

-- ---- CLUTs

not_not : (b : Bool) → b ≡ not (not b)
not_not true = refl
not_not false = refl

kept_mapped : {X Y : Type 0} (f : X → Y) (p : Y → Bool) (xs : List X)
    → map f (filter (λ x. p (f x)) xs) ≡ filter p (map f xs)
kept_mapped f p [] = refl
kept_mapped {X} {Y} f p (x ∷ xs) = by (p (f x)) ∙ ap (λ rest. cond (p (f x)) (f x ∷ rest) rest) (kept_mapped f p xs)
  where
    by : (b : Bool)
        → map f (cond b (x ∷ filter (λ x. p (f x)) xs) (filter (λ x. p (f x)) xs))
        ≡ cond b (f x ∷ map f (filter (λ x. p (f x)) xs)) (map f (filter (λ x. p (f x)) xs))
    by true = refl
    by false = refl

-- the CLUTs of a side, those first that the other has not
abbrev cluts_in_order : Side → Side → List SentClut
cluts_in_order one two =
    filter (λ sent. not (has_clut (cluts_of two) (clut_segment_of one.epoch sent))) one.set.cluts
    ++ filter (λ sent. has_clut (cluts_of two) (clut_segment_of one.epoch sent)) one.set.cluts

ordered_cluts : (one two : Side)
    → map (clut_segment_of one.epoch) (cluts_in_order one two) ≡ own_cluts one two ++ shared_cluts one two
ordered_cluts one two =
    map-append (clut_segment_of one.epoch)
    (filter (λ sent. not (has_clut (cluts_of two) (clut_segment_of one.epoch sent))) one.set.cluts)
    (filter (λ sent. has_clut (cluts_of two) (clut_segment_of one.epoch sent)) one.set.cluts)
    ∙ (λ i. kept_mapped (clut_segment_of one.epoch) (λ clut. not (has_clut (cluts_of two) clut)) one.set.cluts i
    ++ kept_mapped (clut_segment_of one.epoch) (has_clut (cluts_of two)) one.set.cluts i)

-- ---- the segments of a side

-- the segments of a side, in the order in which a receiver of its page gets them
abbrev side_segments : Names → Side → Side → List SegmentValue
side_segments names one two =
    head_of names one
    ++ (own_cluts one two ++ (shared_cluts one two ++ (map (object_of names) one.objects ++ end_of_set ∷ [])))

-- they are those of its set
side_is_named : (shared : List ℕ) (one two : Side) → IsSide one → IsKnownIn one.epoch one.set
    → AreNamedSegments one.script one.set (side_segments (names_of shared) one two)
side_is_named shared one two is known =
    record {
      epoch = one.epoch;
      found = is.found;
      names = names;
      apart = are_names shared one.set.cues known.small;
      cluts = cluts_in_order one two;
      permuted =
          IsPermutation-filter_both
          (λ sent. not (has_clut (cluts_of two) (clut_segment_of one.epoch sent)))
          (λ sent. has_clut (cluts_of two) (clut_segment_of one.epoch sent))
          (λ sent. not_not (has_clut (cluts_of two) (clut_segment_of one.epoch sent))) one.set.cluts;
      objects = map (object_of names) one.objects;
      drawn = named_objects names one.script.pictures one.epoch one.objects one.set.cues is.cues is.coded;
      whole = joined (display_segments one.script one.set.state) (page_segment one.script one.epoch one.set)
          (map (named_region names one.epoch) one.set.regions) (own_cluts one two) (shared_cluts one two)
          (map (clut_segment_of one.epoch) (cluts_in_order one two))
          (map (object_of names) one.objects ++ end_of_set ∷ [])
          (ordered_cluts one two);
    }
  where
    names : Names
    names = names_of shared

    joined : (display : List SegmentValue) (page : SegmentValue) (regions own both cluts rest : List SegmentValue)
        → cluts ≡ own ++ both
        → (display ++ (page ∷ regions)) ++ (own ++ (both ++ rest))
        ≡ (display ++ (page ∷ (regions ++ cluts))) ++ rest
    joined display page regions own both cluts rest e =
        append_assoc display (page ∷ regions) (own ++ (both ++ rest))
        ∙ ap (λ more. display ++ (page ∷ more))
        (ap (λ more. regions ++ more) (sym (append_assoc own both rest) ∙ ap (λ all. all ++ rest) (sym e))
        ∙ sym (append_assoc regions cluts rest))
        ∙ sym (append_assoc display (page ∷ (regions ++ cluts)) rest)

-- ---- what counts

-- the types of the segments of a side
cluts_of_set : (epoch : Epoch) (sent : List SentClut) → AllByRecursion IsShareable (map (clut_segment_of epoch) sent)
cluts_of_set epoch [] = tt
cluts_of_set epoch (one ∷ sent) = (tt, cluts_of_set epoch sent)

head_of_set : (names : Names) (side : Side) → AllByRecursion IsInner (head_of names side)
head_of_set names side =
    all-append IsInner (display_segments side.script side.set.state)
    (page_segment side.script side.epoch side.set ∷ map (named_region names side.epoch) side.set.regions)
    (display_inner side.script side.set.state) (tt, regions_inner names side.epoch side.set.regions)

inner_is_of_set : (value : SegmentValue) → IsInner value → IsOfSet value
inner_is_of_set (of_page value) h = tt
inner_is_of_set (of_region value) h = tt
inner_is_of_set (of_clut value) h = tt
inner_is_of_set (of_object value) h = tt
inner_is_of_set (of_display value) h = tt
inner_is_of_set end_of_set h = absurd h
inner_is_of_set passed_over h = absurd h

shareable_is_inner : (value : SegmentValue) → IsShareable value → IsInner value
shareable_is_inner (of_page value) h = absurd h
shareable_is_inner (of_region value) h = absurd h
shareable_is_inner (of_clut value) h = tt
shareable_is_inner (of_object value) h = tt
shareable_is_inner (of_display value) h = absurd h
shareable_is_inner end_of_set h = absurd h
shareable_is_inner passed_over h = absurd h

all_weaker : (P Q : SegmentValue → Type 0) → ((value : SegmentValue) → P value → Q value)
    → (values : List SegmentValue) → AllByRecursion P values → AllByRecursion Q values
all_weaker P Q weaker [] all = tt
all_weaker P Q weaker (value ∷ values) all = (weaker value all.0, all_weaker P Q weaker values all.1)

mine_count : (pages : Pages) (values : List SegmentValue) → AllByRecursion IsInner values
    → filter (counts pages) (map (on pages.composition) values) ≡ map (on pages.composition) values
mine_count pages values all =
    all_kept (counts pages) pages.composition values
    (all_weaker IsInner (λ value. counts pages (on pages.composition value) ≡ true)
    (λ value inner. counts_mine pages value (inner_is_of_set value inner)) values all)

inner_cluts : (side : Side) → AllByRecursion IsInner (cluts_of side)
inner_cluts side =
    all_weaker IsShareable IsInner shareable_is_inner (cluts_of side) (cluts_of_set side.epoch side.set.cluts)

shared_count : (pages : Pages) (values : List SegmentValue) → AllByRecursion IsShareable values
    → filter (counts pages) (map (on pages.ancillary) values) ≡ map (on pages.ancillary) values
shared_count pages values all =
    all_kept (counts pages) pages.ancillary values
    (all_weaker IsShareable (λ value. counts pages (on pages.ancillary value) ≡ true)
    (λ value shareable. counts_shared pages value shareable) values all)

-- the segments of a set by parts, as those that pass a test are taken
kept_parts : (kept : Paged → Bool) (a b c d e f g : List Paged)
    → filter kept (a ++ (b ++ (c ++ (d ++ (e ++ (f ++ g))))))
    ≡ filter kept a
    ++ (filter kept b ++ (filter kept c ++ (filter kept d ++ (filter kept e ++ (filter kept f ++ filter kept g)))))
kept_parts kept a b c d e f g =
    filter-append kept a (b ++ (c ++ (d ++ (e ++ (f ++ g)))))
    ∙ ap (λ more. filter kept a ++ more)
    (filter-append kept b (c ++ (d ++ (e ++ (f ++ g))))
    ∙ ap (λ more. filter kept b ++ more)
    (filter-append kept c (d ++ (e ++ (f ++ g)))
    ∙ ap (λ more. filter kept c ++ more)
    (filter-append kept d (e ++ (f ++ g))
    ∙ ap (λ more. filter kept d ++ more)
    (filter-append kept e (f ++ g) ∙ ap (λ more. filter kept e ++ more) (filter-append kept f g)))))

-- the objects of both, in their order
abbrev objects_of : TwoPages → Side → Side → List Paged
objects_of pages one two =
    in_order pages (first_names one two) (second_names one two) (pairs_of one two) one.objects two.objects

-- what counts for a receiver of the first language
first_kept : (pages : TwoPages) (one two : Side) → ArePagesApart pages
    → filter (counts (first_pages pages)) (pair_segments pages one two)
    ≡ map (on pages.first) (head_of (first_names one two) one)
    ++ (map (on pages.first) (own_cluts one two)
    ++ (map (on pages.shared) (shared_cluts one two)
    ++ (filter (counts (first_pages pages)) (objects_of pages one two) ++ on pages.first end_of_set ∷ [])))
unfolding pair_segments
first_kept pages one two apart =
    kept_parts kept (map (on pages.first) (head_of (first_names one two) one))
    (map (on pages.second) (head_of (second_names one two) two)) (map (on pages.first) (own_cluts one two))
    (map (on pages.second) (own_cluts two one)) (map (on pages.shared) (shared_cluts one two))
    (objects_of pages one two) (on pages.first end_of_set ∷ on pages.second end_of_set ∷ [])
    ∙ (λ i. mine_count (first_pages pages) (head_of (first_names one two) one) (head_of_set (first_names one two) one) i
    ++ (none_kept kept pages.second (head_of (second_names one two) two) other i
    ++ (mine_count (first_pages pages) (own_cluts one two)
    (kept_of_all IsInner (λ clut. not (has_clut (cluts_of two) clut)) (cluts_of one) (inner_cluts one)) i
    ++ (none_kept kept pages.second (own_cluts two one) other i
    ++ (shared_count (first_pages pages) (shared_cluts one two)
    (kept_of_all IsShareable (has_clut (cluts_of two)) (cluts_of one) (cluts_of_set one.epoch one.set.cluts)) i
    ++ (filter kept (objects_of pages one two)
    ++ cond (counts_mine (first_pages pages) end_of_set tt i)
    (on pages.first end_of_set ∷ cond (other end_of_set i) (on pages.second end_of_set ∷ []) [])
    (cond (other end_of_set i) (on pages.second end_of_set ∷ []) [])))))))
  where
    kept : Paged → Bool
    kept = counts (first_pages pages)

    other : (value : SegmentValue) → kept (on pages.second value) ≡ false
    other value =
        counts_not (first_pages pages) pages.second value (λ e. apart.composition (sym e)) apart.second_shared

-- and what for one of the second
second_kept : (pages : TwoPages) (one two : Side) → ArePagesApart pages
    → filter (counts (second_pages pages)) (pair_segments pages one two)
    ≡ map (on pages.second) (head_of (second_names one two) two)
    ++ (map (on pages.second) (own_cluts two one)
    ++ (map (on pages.shared) (shared_cluts one two)
    ++ (filter (counts (second_pages pages)) (objects_of pages one two) ++ on pages.second end_of_set ∷ [])))
unfolding pair_segments
second_kept pages one two apart =
    kept_parts kept (map (on pages.first) (head_of (first_names one two) one))
    (map (on pages.second) (head_of (second_names one two) two)) (map (on pages.first) (own_cluts one two))
    (map (on pages.second) (own_cluts two one)) (map (on pages.shared) (shared_cluts one two))
    (objects_of pages one two) (on pages.first end_of_set ∷ on pages.second end_of_set ∷ [])
    ∙ (λ i. none_kept kept pages.first (head_of (first_names one two) one) other i
    ++ (mine_count (second_pages pages) (head_of (second_names one two) two)
    (head_of_set (second_names one two) two) i
    ++ (none_kept kept pages.first (own_cluts one two) other i
    ++ (mine_count (second_pages pages) (own_cluts two one)
    (kept_of_all IsInner (λ clut. not (has_clut (cluts_of one) clut)) (cluts_of two) (inner_cluts two)) i
    ++ (shared_count (second_pages pages) (shared_cluts one two)
    (kept_of_all IsShareable (has_clut (cluts_of two)) (cluts_of one) (cluts_of_set one.epoch one.set.cluts)) i
    ++ (filter kept (objects_of pages one two)
    ++ cond (other end_of_set i)
    (on pages.first end_of_set ∷ cond (counts_mine (second_pages pages) end_of_set tt i)
    (on pages.second end_of_set ∷ []) [])
    (cond (counts_mine (second_pages pages) end_of_set tt i) (on pages.second end_of_set ∷ []) [])))))))
  where
    kept : Paged → Bool
    kept = counts (second_pages pages)

    other : (value : SegmentValue) → kept (on pages.first value) ≡ false
    other value = counts_not (second_pages pages) pages.first value apart.composition apart.first_shared

-- ---- what is written

-- the parts of a set, each of which can be written
record AreFit (pages : TwoPages) (one two : Side) : Type 0 where
  first_head : AllByRecursion IsFit (map (on pages.first) (head_of (first_names one two) one))
  second_head : AllByRecursion IsFit (map (on pages.second) (head_of (second_names one two) two))
  first_cluts : AllByRecursion IsFit (map (on pages.first) (own_cluts one two))
  second_cluts : AllByRecursion IsFit (map (on pages.second) (own_cluts two one))
  both_cluts : AllByRecursion IsFit (map (on pages.shared) (shared_cluts one two))
  objects : AllByRecursion IsFit (objects_of pages one two)
  ends : AllByRecursion IsFit (on pages.first end_of_set ∷ on pages.second end_of_set ∷ [])

parts_fit : (pages : TwoPages) (one two : Side) → AllByRecursion IsFit (pair_segments pages one two)
    → AreFit pages one two
unfolding pair_segments
parts_fit pages one two all =
    let a = parts_of_all IsFit (map (on pages.first) (head_of (first_names one two) one)) _ all in
    let b = parts_of_all IsFit (map (on pages.second) (head_of (second_names one two) two)) _ a.1 in
    let c = parts_of_all IsFit (map (on pages.first) (own_cluts one two)) _ b.1 in
    let d = parts_of_all IsFit (map (on pages.second) (own_cluts two one)) _ c.1 in
    let e = parts_of_all IsFit (map (on pages.shared) (shared_cluts one two)) _ d.1 in
    let f = parts_of_all IsFit (objects_of pages one two) _ e.1 in
    record {
      first_head = a.0;
      second_head = b.0;
      first_cluts = c.0;
      second_cluts = d.0;
      both_cluts = e.0;
      objects = f.0;
      ends = f.1;
    }

written_objects : (names : Names) (objects : List CueObject) (sent : List Paged) → AreNamed names objects sent
    → AllByRecursion IsFit sent → Written (map (object_of names) objects) sent
written_objects names [] [] named fit = tt
written_objects names [] (one ∷ sent) named fit = absurd named
written_objects names (object ∷ objects) [] named fit = absurd named
written_objects names (object ∷ objects) (one ∷ sent) named fit = (
  (one.page, subst (IsWritable one.page) named.0 fit.0, ap (spelled one.page) named.0),
  written_objects names objects sent named.1 fit.1,
)

written_equal : (page : ℕ) (two one : List SegmentValue) → AreEqual two one → AllByRecursion IsClut two
    → AllByRecursion IsClut one → AllByRecursion IsFit (map (on page) one) → Written two (map (on page) one)
written_equal page [] [] equal known others fit = tt
written_equal page [] (a ∷ one) equal known others fit = absurd equal
written_equal page (b ∷ two) [] equal known others fit = absurd equal
written_equal page (b ∷ two) (a ∷ one) equal known others fit =
    let small : page < 2 ^ 16 = fit.0.fits.1.1.0 in (
      (page, known.0.writable page small, sym (same_on page b a small known.0 others.0 equal.0)),
      written_equal page two one equal.1 known.1 others.1 fit.1,
    )

-- five parts, one behind the other
written_parts : (a b c d e : List SegmentValue) (p q r s t : List Paged) → Written a p → Written b q → Written c r
    → Written d s → Written e t → Written (a ++ (b ++ (c ++ (d ++ e)))) (p ++ (q ++ (r ++ (s ++ t))))
written_parts a b c d e p q r s t ap_ bq cr ds et =
    both_zip R a (b ++ (c ++ (d ++ e))) p (q ++ (r ++ (s ++ t))) ap_
    (both_zip R b (c ++ (d ++ e)) q (r ++ (s ++ t)) bq
    (both_zip R c (d ++ e) r (s ++ t) cr (both_zip R d e s t ds et)))
  where
    R : SegmentValue → Paged → Type 0
    R value one = IsWrittenAs value (paged_bytes one)

-- ---- what is shared

-- the objects that both sides share, and the names that the pair gives
pairs_are : (one two : Side) → IsSide one → IsSide two → IsKnownIn one.epoch one.set → IsKnownIn two.epoch two.set
    → ArePairs (pairs_of one two) one.objects two.objects
pairs_are one two is other known others =
    shared_pairs one.objects two.objects [] (apart_from one.objects one.set.cues is.cues known.own)
    (apart_from two.objects two.set.cues other.cues others.own)

-- ---- carried

-- the set that is sent carries that of the first script for its receivers
pub first_carried : (pages : TwoPages) (one two : Side) (pts : ℕ) → ArePagesApart pages → IsSide one → IsSide two
    → IsKnownIn one.epoch one.set → IsKnownIn two.epoch two.set
    → AllByRecursion IsFit (pair_segments pages one two) → pts ≡ one.set.pts
    → CarriesSet one.script (first_pages pages) one.set (pair_raw pts (pair_segments pages one two))
first_carried pages one two pts apart is other known others fit time =
    record {
      time = time;
      values = side_segments names one two;
      planned = side_is_named (map (λ (pair : ℕ × ℕ). pair.0) (pairs_of one two)) one two is known;
      written =
          subst (AllZip IsWrittenAs (side_segments names one two))
          (sym (counted_bytes (first_pages pages) (pair_segments pages one two) fit))
          (written_bytes (side_segments names one two) (filter kept (pair_segments pages one two))
          (subst (Written (side_segments names one two)) (sym (first_kept pages one two apart))
          (written_parts (head_of names one) (own_cluts one two) (shared_cluts one two)
          (map (object_of names) one.objects) (end_of_set ∷ []) (map (on pages.first) (head_of names one))
          (map (on pages.first) (own_cluts one two)) (map (on pages.shared) (shared_cluts one two))
          (filter kept (objects_of pages one two)) (on pages.first end_of_set ∷ [])
          (written_on pages.first (head_of names one) parts.first_head)
          (written_on pages.first (own_cluts one two) parts.first_cluts)
          (written_on pages.shared (shared_cluts one two) parts.both_cluts)
          (written_objects names one.objects (filter kept (objects_of pages one two)) objects
          (kept_of_all IsFit kept (objects_of pages one two) parts.objects))
          (written_on pages.first (end_of_set ∷ []) (parts.ends.0, tt)))));
    }
  where
    names : Names
    names = first_names one two

    kept : Paged → Bool
    kept = counts (first_pages pages)

    parts : AreFit pages one two
    parts = parts_fit pages one two fit

    objects : AreNamed names one.objects (filter kept (objects_of pages one two))
    objects =
        first_objects kept pages names (second_names one two) (pairs_of one two) one.objects two.objects
        (λ object. counts_mine (first_pages pages) (of_object object) tt)
        (λ object. counts_not (first_pages pages) pages.second (of_object object) (λ e. apart.composition (sym e))
        apart.second_shared)
        (λ object. counts_shared (first_pages pages) (of_object object) tt) (pairs_are one two is other known others)

-- and that of the second
pub second_carried : (pages : TwoPages) (one two : Side) (pts : ℕ) → ArePagesApart pages → IsSide one → IsSide two
    → IsKnownIn one.epoch one.set → IsKnownIn two.epoch two.set
    → AllByRecursion IsFit (pair_segments pages one two) → pts ≡ two.set.pts
    → CarriesSet two.script (second_pages pages) two.set (pair_raw pts (pair_segments pages one two))
second_carried pages one two pts apart is other known others fit time =
    record {
      time = time;
      values = side_segments names two one;
      planned = side_is_named (map (λ (pair : ℕ × ℕ). pair.1) (pairs_of one two)) two one other others;
      written =
          subst (AllZip IsWrittenAs (side_segments names two one))
          (sym (counted_bytes (second_pages pages) (pair_segments pages one two) fit))
          (written_bytes (side_segments names two one) (filter kept (pair_segments pages one two))
          (subst (Written (side_segments names two one)) (sym (second_kept pages one two apart))
          (written_parts (head_of names two) (own_cluts two one) (shared_cluts two one)
          (map (object_of names) two.objects) (end_of_set ∷ []) (map (on pages.second) (head_of names two))
          (map (on pages.second) (own_cluts two one)) (map (on pages.shared) (shared_cluts one two))
          (filter kept (objects_of pages one two)) (on pages.second end_of_set ∷ [])
          (written_on pages.second (head_of names two) parts.second_head)
          (written_on pages.second (own_cluts two one) parts.second_cluts)
          (written_equal pages.shared (shared_cluts two one) (shared_cluts one two)
          (both_equal (cluts_of one) (cluts_of two) known.cluts others.cluts known.rising others.rising)
          (kept_of_all IsClut (has_clut (cluts_of one)) (cluts_of two) others.cluts)
          (kept_of_all IsClut (has_clut (cluts_of two)) (cluts_of one) known.cluts) parts.both_cluts)
          (written_objects names two.objects (filter kept (objects_of pages one two)) objects
          (kept_of_all IsFit kept (objects_of pages one two) parts.objects))
          (written_on pages.second (end_of_set ∷ []) (parts.ends.1.0, tt)))));
    }
  where
    names : Names
    names = second_names one two

    kept : Paged → Bool
    kept = counts (second_pages pages)

    parts : AreFit pages one two
    parts = parts_fit pages one two fit

    pairs : ArePairs (pairs_of one two) one.objects two.objects
    pairs = pairs_are one two is other known others

    objects : AreNamed names two.objects (filter kept (objects_of pages one two))
    objects =
        second_objects kept pages (first_names one two) names (pairs_of one two) one.objects two.objects
        (λ object. counts_not (second_pages pages) pages.first (of_object object) apart.composition apart.first_shared)
        (λ object. counts_mine (second_pages pages) (of_object object) tt)
        (λ object. counts_shared (second_pages pages) (of_object object) tt) pairs
        (same_names (pairs_of one two) one.objects two.objects pairs)
