-- A set none of whose segments has a fault.
use Rattle.std.proofs.Common.{◌≡◌, ◌∙◌, ℕ, ◌||◌, Bool, true, false, cond, List, [], ◌∷◌, filter, map, Option, Some, None, refl, sym, ap, subst}
use Rattle.std.specs.Prelude.{filter_map}
use Rattle.std.specs.List.{list_any, cons_option}
use Rattle.std.specs.Option.{option_or, is_some}
use Rattle.sub_base.specs.Lists.{first_given}
use Rattle.stream_syntax.specs.Segments.{SegmentValue, of_page, of_region, of_clut, of_object, of_display, end_of_set, passed_over, Page, Display, Region}
use Rattle.decoder_model.specs.Contents.{page_in, page_of, display_in, display_of, region_in, region_named}
use Rattle.decoder_model.specs.Faults.{contents_in, fault_of_segment, segment_fault, twice_among}
use Rattle.decoder_model.specs.Readings.{Content, Reading, read, faulty}
use Rattle.decoder_model.specs.Received.{AreRead}
use Rattle.decoder_model.specs.declared.set_fault.SetFault.{SetFault}
use Rattle.decoder_model.specs.declared.set_fault.SetFault.TheVariants.{TwiceInSet, Segment}
use Rattle.page_core.specs.Private.RegionTests.{IsApart, AreApart}
use Rattle.page_core.specs.Private.Seen.{defines, fault_behind}
use Rattle.page_core.specs.Private.Sound.{IsSound}
use Rattle.page_core.specs.Private.Walks.{is_region}
use Rattle.page_core.proofs.Sets.Defining.{any_of_all, unnamed, no_region}

neither : {X : Type 0} (a b : Option X) → option_or a b ≡ None → (a ≡ None) × (b ≡ None)
neither None b is = (refl, is)
neither (Some x) b is = absurd (cc)

no_fault : (fault : SetFault) → Some fault ≡ None → ⊥
no_fault fault is = cc

-- ---- what was read

read_behind : (before left : List Reading) → fault_behind before left ≡ None
    → left ≡ map read (contents_in left)
read_behind before [] none = refl
read_behind before (read content ∷ left) none =
    ap (λ (rest : List Reading). read content ∷ rest)
    (read_behind (read content ∷ before) left
    (neither (fault_of_segment before (read content)) (fault_behind (read content ∷ before) left) none).1)
read_behind before (faulty fault ∷ left) none =
    absurd (no_fault (Segment fault)
    (neither (fault_of_segment before (faulty fault)) (fault_behind (faulty fault ∷ before) left) none).0)

-- ---- regions

value_is : (value : SegmentValue) (region : Region) → region_in value ≡ Some region → value ≡ of_region region
value_is (of_page v) region is = absurd (cc)
value_is (of_region v) region is = ap of_region (let same : v ≡ region = cc in same)
value_is (of_clut v) region is = absurd (cc)
value_is (of_object v) region is = absurd (cc)
value_is (of_display v) region is = absurd (cc)
value_is end_of_set region is = absurd (cc)
value_is passed_over region is = absurd (cc)

none_twice : (hit : Bool) (fault : SetFault) → cond hit (Some fault) None ≡ None → hit ≡ false
none_twice false fault is = refl
none_twice true fault is = absurd (cc)

apart_here : (before : List Content) (content : Content) → twice_among before content.value ≡ None
    → IsApart (filter is_region before) content
apart_here before content none region is =
    let id = region.head.region in
    any_of_all (λ one. is_some (region_named id one)) is_region before
    (λ one other. unnamed id one (no_region one other))
    ∙ none_twice (defines id before) (TwiceInSet 0x11 id)
    (ap (twice_among before) (sym (value_is content.value region is)) ∙ none)

apart_behind : (before left : List Reading) → fault_behind before left ≡ None
    → AreApart (filter is_region (contents_in before)) (filter is_region (contents_in left))
apart_behind before [] none = tt
apart_behind before (read content ∷ left) none =
    let parts = neither (fault_of_segment before (read content)) (fault_behind (read content ∷ before) left) none in
    by (is_region content) refl (apart_here (contents_in before) content parts.0)
    (apart_behind (read content ∷ before) left parts.1)
  where
    by : (hit : Bool) → is_region content ≡ hit → IsApart (filter is_region (contents_in before)) content
        → AreApart
        (cond (is_region content) (content ∷ filter is_region (contents_in before))
        (filter is_region (contents_in before))) (filter is_region (contents_in left))
        → AreApart (filter is_region (contents_in before))
        (cond (is_region content) (content ∷ filter is_region (contents_in left))
        (filter is_region (contents_in left)))
    by true is here rest =
        let mid = filter is_region (contents_in before) in
        let after = filter is_region (contents_in left) in
        subst (λ b. AreApart mid (cond b (content ∷ after) after)) (sym is)
        (here, subst (λ b. AreApart (cond b (content ∷ mid) mid) after) is rest)
    by false is here rest =
        let mid = filter is_region (contents_in before) in
        let after = filter is_region (contents_in left) in
        subst (λ b. AreApart mid (cond b (content ∷ after) after)) (sym is)
        (subst (λ b. AreApart (cond b (content ∷ mid) mid) after) is rest)
apart_behind before (faulty fault ∷ left) none =
    absurd (no_fault (Segment fault)
    (neither (fault_of_segment before (faulty fault)) (fault_behind (faulty fault ∷ before) left) none).0)

-- ---- kinds of which a set has one

module _ {X : Type 0} (of_kind : Content → Option X)
    (once : (before : List Content) (content : Content) (x : X) → of_kind content ≡ Some x
    → twice_among before content.value ≡ None
    → list_any (λ content. is_some (of_kind content)) before ≡ false) where
  has_one : List Content → Bool
  has_one before = list_any (λ content. is_some (of_kind content)) before

  -- behind one there is none
  no_second : (before left : List Reading) → has_one (contents_in before) ≡ true
      → fault_behind before left ≡ None → filter_map of_kind (contents_in left) ≡ []
  unfolding has_one
  no_second before [] has none = refl
  no_second before (read content ∷ left) has none =
      let parts = neither (fault_of_segment before (read content)) (fault_behind (read content ∷ before) left) none in
      by (of_kind content) refl
      (no_second (read content ∷ before) left
      (either (is_some (of_kind content)) (has_one (contents_in before)) has) parts.1) parts.0
    where
      either : (a b : Bool) → b ≡ true → (a || b) ≡ true
      either true b is = refl
      either false b is = is

      by : (found : Option X) → of_kind content ≡ found → filter_map of_kind (contents_in left) ≡ []
          → twice_among (contents_in before) content.value ≡ None
          → cons_option (of_kind content) (filter_map of_kind (contents_in left)) ≡ []
      by None is rest free = ap (λ (o : Option X). cons_option o (filter_map of_kind (contents_in left))) is ∙ rest
      by (Some x) is rest free =
          absurd (let twice = once (contents_in before) content x is free in let e : true ≡ false = sym has
          ∙ twice in cc)
  no_second before (faulty fault ∷ left) has none =
      absurd (no_fault (Segment fault)
      (neither (fault_of_segment before (faulty fault)) (fault_behind (faulty fault ∷ before) left) none).0)

  one_behind : (before left : List Reading) (x : X) → fault_behind before left ≡ None
      → first_given of_kind (contents_in left) ≡ Some x → filter_map of_kind (contents_in left) ≡ x ∷ []
  unfolding has_one
  one_behind before [] x none first = absurd (cc)
  one_behind before (read content ∷ left) x none first =
      let parts = neither (fault_of_segment before (read content)) (fault_behind (read content ∷ before) left) none in
      by (of_kind content) refl
      (λ has. no_second (read content ∷ before) left (ap (λ b. b || has_one (contents_in before)) has) parts.1)
      (λ later. one_behind (read content ∷ before) left x parts.1 later) first
    where
      by : (found : Option X) → of_kind content ≡ found
          → (is_some (of_kind content) ≡ true → filter_map of_kind (contents_in left) ≡ [])
          → (first_given of_kind (contents_in left) ≡ Some x
          → filter_map of_kind (contents_in left) ≡ x ∷ [])
          → option_or (of_kind content) (first_given of_kind (contents_in left)) ≡ Some x
          → cons_option (of_kind content) (filter_map of_kind (contents_in left)) ≡ x ∷ []
      by None is none_left more all =
          ap (λ (o : Option X). cons_option o (filter_map of_kind (contents_in left))) is
          ∙ more (sym (ap (λ (o : Option X). option_or o (first_given of_kind (contents_in left))) is) ∙ all)
      by (Some here) is none_left more all =
          let same : Some here ≡ Some x =
          sym (ap (λ (o : Option X). option_or o (first_given of_kind (contents_in left))) is) ∙ all in
          ap (λ (o : Option X). cons_option o (filter_map of_kind (contents_in left))) (is ∙ same)
          ∙ ap (λ (rest : List X). x ∷ rest) (none_left (ap is_some is))
  one_behind before (faulty fault ∷ left) x none first =
      absurd (no_fault (Segment fault)
      (neither (fault_of_segment before (faulty fault)) (fault_behind (faulty fault ∷ before) left) none).0)

-- ---- pages and displays

page_is : (value : SegmentValue) (page : Page) → page_in value ≡ Some page → value ≡ of_page page
page_is (of_page v) page is = ap of_page (let same : v ≡ page = cc in same)
page_is (of_region v) page is = absurd (cc)
page_is (of_clut v) page is = absurd (cc)
page_is (of_object v) page is = absurd (cc)
page_is (of_display v) page is = absurd (cc)
page_is end_of_set page is = absurd (cc)
page_is passed_over page is = absurd (cc)

display_is : (value : SegmentValue) (display : Display) → display_in value ≡ Some display
    → value ≡ of_display display
display_is (of_page v) display is = absurd (cc)
display_is (of_region v) display is = absurd (cc)
display_is (of_clut v) display is = absurd (cc)
display_is (of_object v) display is = absurd (cc)
display_is (of_display v) display is = ap of_display (let same : v ≡ display = cc in same)
display_is end_of_set display is = absurd (cc)
display_is passed_over display is = absurd (cc)

page_once : (before : List Content) (content : Content) (page : Page) → page_of content ≡ Some page
    → twice_among before content.value ≡ None → list_any (λ content. is_some (page_of content)) before ≡ false
page_once before content page is free =
    none_twice (list_any (λ content. is_some (page_of content)) before) (TwiceInSet 0x10 0)
    (ap (twice_among before) (sym (page_is content.value page is)) ∙ free)

display_once : (before : List Content) (content : Content) (display : Display) → display_of content ≡ Some display
    → twice_among before content.value ≡ None
    → list_any (λ content. is_some (display_of content)) before ≡ false
display_once before content display is free =
    none_twice (list_any (λ content. is_some (display_of content)) before) (TwiceInSet 0x14 0)
    (ap (twice_among before) (sym (display_is content.value display is)) ∙ free)

-- ---- all of it

pub sound : (readings : List Reading) (bytes : List ℕ) → segment_fault readings ≡ None
    → AreRead readings bytes → IsSound (contents_in readings) bytes
sound readings bytes none are = record {
  contents = subst (λ (all : List Reading). AreRead all bytes) (read_behind [] readings none) are;
  apart = apart_behind [] readings none;
  one_page = λ page is. one_behind page_of page_once [] readings page none is;
  one_display = λ display is. one_behind display_of display_once [] readings display none is;
}
