-- What a set defines, and what its epoch has with it.
use Rattle.std.proofs.Common.{◌≡◌, ◌∙◌, ℕ, zero, suc, ◌+◌, ◌≤◌, ◌==◌, ◌||◌, Bool, true, false, cond, not, List, [], ◌∷◌, ◌++◌, drop, filter, length, reverse, Option, Some, None, refl, sym, ap, arith}
use Rattle.std.specs.List.{list_any, slice_get}
use Rattle.stream_syntax.specs.declared.page.PageEntry.{PageEntry}
use Rattle.decoder_model.specs.Faults.{unknown_region}
use Rattle.decoder_model.specs.declared.set_fault.SetFault.TheVariants.{NoSuchRegion}
use Rattle.std.specs.Option.{option_or, is_some, is_none}
use Rattle.std.proofs.lemmas.List.{reverse-append}
use Rattle.std.proofs.lemmas.List.Folds.{list_any-append}
use Rattle.sub_base.specs.Lists.{first_given}
use Rattle.stream_syntax.specs.Segments.{SegmentValue, of_page, of_region, of_clut, of_object, of_display, end_of_set, passed_over}
use Rattle.decoder_model.specs.Contents.{page_in, region_in, clut_in, object_in, display_in, region_named, where_passes, page_of, region_of, clut_of, object_of, display_of, in_order}
use Rattle.decoder_model.specs.Readings.{Content}
use Rattle.decoder_model.specs.Taken.{last_region}
use Rattle.page_core.specs.Composition.{Composition}
use Rattle.page_core.specs.Composition.{region_in as kept_region}
use Rattle.page_core.specs.Private.Judging.{KnowsRegions}
use Rattle.page_core.specs.Private.Known.{IsRegionIn}
use Rattle.page_core.specs.Private.Seen.{defines}
use Rattle.page_core.specs.declared.node.RegionNode.{RegionNode}

-- ---- a value is of one kind

pub no_region_in_page : (value : SegmentValue) → is_some (page_in value) ≡ true → region_in value ≡ None
no_region_in_page (of_page value) is = refl
no_region_in_page (of_region value) is = absurd (cc)
no_region_in_page (of_clut value) is = absurd (cc)
no_region_in_page (of_object value) is = absurd (cc)
no_region_in_page (of_display value) is = absurd (cc)
no_region_in_page end_of_set is = absurd (cc)
no_region_in_page passed_over is = absurd (cc)

pub no_region_in_clut : (value : SegmentValue) → is_some (clut_in value) ≡ true → region_in value ≡ None
no_region_in_clut (of_page value) is = absurd (cc)
no_region_in_clut (of_region value) is = absurd (cc)
no_region_in_clut (of_clut value) is = refl
no_region_in_clut (of_object value) is = absurd (cc)
no_region_in_clut (of_display value) is = absurd (cc)
no_region_in_clut end_of_set is = absurd (cc)
no_region_in_clut passed_over is = absurd (cc)

pub no_region_in_object : (value : SegmentValue) → is_some (object_in value) ≡ true → region_in value ≡ None
no_region_in_object (of_page value) is = absurd (cc)
no_region_in_object (of_region value) is = absurd (cc)
no_region_in_object (of_clut value) is = absurd (cc)
no_region_in_object (of_object value) is = refl
no_region_in_object (of_display value) is = absurd (cc)
no_region_in_object end_of_set is = absurd (cc)
no_region_in_object passed_over is = absurd (cc)

pub no_region_in_display : (value : SegmentValue) → is_some (display_in value) ≡ true → region_in value ≡ None
no_region_in_display (of_page value) is = absurd (cc)
no_region_in_display (of_region value) is = absurd (cc)
no_region_in_display (of_clut value) is = absurd (cc)
no_region_in_display (of_object value) is = absurd (cc)
no_region_in_display (of_display value) is = refl
no_region_in_display end_of_set is = absurd (cc)
no_region_in_display passed_over is = absurd (cc)

-- ---- searches

module _ {X : Type 0} (p : X → Bool) where
  pub any_reversed : (xs : List X) → list_any p (reverse xs) ≡ list_any p xs
  any_reversed [] = refl
  any_reversed (x ∷ xs) =
      ap (list_any p) (reverse-append (x ∷ []) xs) ∙ list_any-append p (reverse xs) (x ∷ [])
      ∙ ap (λ b. b || (p x || false)) (any_reversed xs) ∙ turned (list_any p xs) (p x)
    where
      turned : (a b : Bool) → (a || (b || false)) ≡ (b || a)
      turned true true = refl
      turned true false = refl
      turned false true = refl
      turned false false = refl

  -- among items none of which passes
  pub any_of_none : (q : X → Bool) (xs : List X) → ((x : X) → q x ≡ true → p x ≡ false)
      → list_any p (filter q xs) ≡ false
  any_of_none q [] none = refl
  any_of_none q (x ∷ xs) none = by (any_of_none q xs none) (q x) refl
    where
      by : list_any p (filter q xs) ≡ false → (hit : Bool) → q x ≡ hit
          → list_any p (cond hit (x ∷ filter q xs) (filter q xs)) ≡ false
      by rest true is = ap (λ b. b || list_any p (filter q xs)) (none x is) ∙ rest
      by rest false is = rest

  -- among all that can pass
  pub any_of_all : (q : X → Bool) (xs : List X) → ((x : X) → q x ≡ false → p x ≡ false)
      → list_any p (filter q xs) ≡ list_any p xs
  any_of_all q [] none = refl
  any_of_all q (x ∷ xs) none = by (any_of_all q xs none) (q x) refl
    where
      by : list_any p (filter q xs) ≡ list_any p xs → (hit : Bool) → q x ≡ hit
          → list_any p (cond hit (x ∷ filter q xs) (filter q xs)) ≡ (p x || list_any p xs)
      by rest true is = ap (λ b. p x || b) rest
      by rest false is = rest ∙ sym (ap (λ b. b || list_any p xs) (none x is))

some_or : {Y : Type 0} (a b : Option Y) → is_some (option_or a b) ≡ (is_some a || is_some b)
some_or (Some y) b = refl
some_or None b = refl

pub some_given : {X Y : Type 0} (f : X → Option Y) (xs : List X)
    → is_some (first_given f xs) ≡ list_any (λ x. is_some (f x)) xs
some_given f [] = refl
some_given f (x ∷ xs) = some_or (f x) (first_given f xs) ∙ ap (λ b. is_some (f x) || b) (some_given f xs)

-- ---- the regions of a set

pub unnamed : (id : ℕ) (content : Content) → region_in content.value ≡ None
    → is_some (region_named id content) ≡ false
unnamed id content none = ap (λ found. is_some (where_passes (λ region. region.head.region == id) found)) none

pub no_region : (content : Content) → is_some (region_of content) ≡ false → region_in content.value ≡ None
no_region content none = by (region_in content.value) none
  where
    by : {X : Type 0} (found : Option X) → is_some found ≡ false → found ≡ None
    by None is = refl
    by (Some x) is = absurd (cc)

-- in the order in which a set is handled it defines the same regions
pub defines_in_order : (id : ℕ) (set : List Content)
    → list_any (λ content. is_some (region_named id content)) (in_order set) ≡ defines id set
defines_in_order id set =
    let p : Content → Bool = λ content. is_some (region_named id content) in
    let displays = filter (λ content. is_some (display_of content)) set in
    let pages = filter (λ content. is_some (page_of content)) set in
    let regions = filter (λ content. is_some (region_of content)) set in
    let cluts = filter (λ content. is_some (clut_of content)) set in
    let objects = filter (λ content. is_some (object_of content)) set in
    list_any-append p displays (pages ++ (regions ++ (cluts ++ objects)))
    ∙ ap (λ b. b || list_any p (pages ++ (regions ++ (cluts ++ objects))))
    (any_of_none p (λ content. is_some (display_of content)) set
    (λ content is. unnamed id content (no_region_in_display content.value is)))
    ∙ list_any-append p pages (regions ++ (cluts ++ objects))
    ∙ ap (λ b. b || list_any p (regions ++ (cluts ++ objects)))
    (any_of_none p (λ content. is_some (page_of content)) set
    (λ content is. unnamed id content (no_region_in_page content.value is)))
    ∙ list_any-append p regions (cluts ++ objects)
    ∙ ap (λ b. b || list_any p (cluts ++ objects))
    (any_of_all p (λ content. is_some (region_of content)) set
    (λ content is. unnamed id content (no_region content is)))
    ∙ ap (λ b. defines id set || b) (list_any-append p cluts objects
    ∙ ap (λ b. b || list_any p objects)
    (any_of_none p (λ content. is_some (clut_of content)) set
    (λ content is. unnamed id content (no_region_in_clut content.value is)))
    ∙ any_of_none p (λ content. is_some (object_of content)) set
    (λ content is. unnamed id content (no_region_in_object content.value is)))
    ∙ or_false (defines id set)
  where
    or_false : (b : Bool) → (b || false) ≡ b
    or_false true = refl
    or_false false = refl

-- the epoch has a region with a set, where the set defines it or the epoch had it
pub region_with_set : (id : ℕ) (set older : List Content)
    → is_some (last_region id (reverse (in_order set) ++ older))
    ≡ (defines id set || is_some (last_region id older))
region_with_set id set older =
    let p : Content → Bool = λ content. is_some (region_named id content) in
    some_given (region_named id) (reverse (in_order set) ++ older)
    ∙ list_any-append p (reverse (in_order set)) older
    ∙ ap (λ b. b || list_any p older) (any_reversed p (in_order set) ∙ defines_in_order id set)
    ∙ ap (λ b. defines id set || b) (sym (some_given (region_named id) older))

-- ---- the tests of a page

none_of : {X : Type 0} (o : Option X) (b : Bool) → is_some o ≡ b → is_none o ≡ not b
none_of None b is = ap not is
none_of (Some x) b is = ap not is

-- where the set does not define a region, it is unknown exactly where the composition has none
pub unknown_by_composition : (id : ℕ) (set older : List Content) (composition : Composition)
    (found : Option RegionNode) (none : Bool) → KnowsRegions older composition → defines id set ≡ false
    → IsRegionIn composition id found → is_some found ≡ not none
    → none ≡ is_none (last_region id (reverse (in_order set) ++ older))
unknown_by_composition id set older composition found none knows apart region is =
    let had : is_some (last_region id older) ≡ is_some found = sym (knows id) ∙ sym (same found region) in
    turned none (is_some found) is
    ∙ sym (none_of (last_region id (reverse (in_order set) ++ older)) (is_some found)
    (region_with_set id set older ∙ ap (λ b. b || is_some (last_region id older)) apart ∙ had))
  where
    same : (found : Option RegionNode) → IsRegionIn composition id found
        → is_some found ≡ is_some (kept_region composition id)
    same None none = sym (ap is_some none)
    same (Some region) (kept, there, node) = sym (ap is_some there)

    turned : (a b : Bool) → b ≡ not a → a ≡ not b
    turned true b e = sym (ap not e)
    turned false b e = sym (ap not e)

pub known_by_set : (id : ℕ) (set older : List Content) → defines id set ≡ true
    → false ≡ is_none (last_region id (reverse (in_order set) ++ older))
known_by_set id set older has =
    sym (none_of (last_region id (reverse (in_order set) ++ older)) true
    (region_with_set id set older ∙ ap (λ b. b || is_some (last_region id older)) has))

-- the entries from one on are this one and those behind it
pub drop_one : {X : Type 0} (xs : List X) (i : ℕ) (x : X) → slice_get xs i ≡ Some x
    → drop i xs ≡ x ∷ drop (i + 1) xs
drop_one [] i x is = absurd (cc)
drop_one (y ∷ ys) zero x is = ap (λ z. z ∷ ys) (let same : y ≡ x = cc in same)
drop_one (y ∷ ys) (suc i) x is =
    drop_one ys i x is
    ∙ ap (λ n. x ∷ drop n (y ∷ ys)) (let same : suc (i + 1) ≡ suc i + 1 = omega arith in same)

-- the first of the entries from one on that is unknown
pub entry_unknown : (segments : List Content) (entries : List PageEntry) (i : ℕ) (entry : PageEntry)
    (unknown : Bool) → slice_get entries i ≡ Some entry → unknown ≡ is_none (last_region entry.region segments)
    → first_given (unknown_region segments) (drop i entries)
    ≡ option_or (cond unknown (Some (NoSuchRegion entry.region)) None)
    (first_given (unknown_region segments) (drop (i + 1) entries))
entry_unknown segments entries i entry unknown is tested =
    ap (first_given (unknown_region segments)) (drop_one entries i entry is)
    ∙ ap (λ b. option_or (cond b (Some (NoSuchRegion entry.region)) None)
    (first_given (unknown_region segments) (drop (i + 1) entries))) (sym tested)

drop_nothing : {X : Type 0} (i : ℕ) → drop {A = X} i [] ≡ []
drop_nothing zero = refl
drop_nothing (suc i) = refl

pub drop_all : {X : Type 0} (xs : List X) (i : ℕ) → length xs ≤ i → drop i xs ≡ []
drop_all [] i over = drop_nothing i
drop_all (x ∷ xs) zero over = absurd (omega arith)
drop_all (x ∷ xs) (suc i) over = drop_all xs i (omega arith)
