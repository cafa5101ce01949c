-- The nodes that an epoch needs with one more set.
use Rattle.std.proofs.Common.{◌≡◌, ◌∙◌, ℕ, ◌+◌, ◌==◌, ◌≤◌, ◌<◌, ◌||◌, ◌&&◌, Bool, true, false, cond, List, [], ◌∷◌, ◌++◌, append_assoc, filter, length, map, reverse, Option, Some, None, option_map, refl, sym, ap, subst, arith}
use Rattle.std.specs.Prelude.{filter_map, flat_map, nat_lt}
use Rattle.std.specs.List.{list_any, cons_option}
use Rattle.std.specs.Option.{is_some, option_or}
use Rattle.std.proofs.lemmas.Bool.Decides.{nat_tests}
use Rattle.std.proofs.lemmas.List.{map-append, reverse-append}
use Rattle.std.proofs.lemmas.List.Elements.{filter_map-append}
use Rattle.std.proofs.lemmas.List.Folds.{list_any-append}
use Rattle.sub_base.specs.Depth.{code_count}
use Rattle.sub_base.specs.Lists.{different}
use Rattle.sub_base.specs.declared.colour.Colour.{Colour}
use Rattle.sub_base.specs.declared.depth.Depth.{Depth}
use Rattle.sub_base.specs.declared.depth.Depth.TheVariants.{Two, Four, Eight}
use Rattle.stream_syntax.specs.Segments.{SegmentValue, of_page, of_region, of_clut, of_object, of_display, end_of_set, passed_over, Clut, Page}
use Rattle.stream_syntax.specs.declared.clut.ClutEntry.{ClutEntry}
use Rattle.decoder_model.specs.Contents.{clut_in as value_clut, clut_of, display_in, display_of, in_order, object_in, page_in, page_in_set, page_of, region_in as value_region, where_passes}
use Rattle.decoder_model.specs.Ink.{is_in_table}
use Rattle.decoder_model.specs.Nodes.{TableEntry, clut_id, clut_ids, entries_of_clut, in_table, in_tables, is_same, is_same_entry, nodes_of, region_ids, listings_held, table_entries}
use Rattle.decoder_model.specs.Readings.{Content}
use Rattle.decoder_model.specs.Taken.{version_of_clut, is_taken, last_clut, segments_of, taken_among, taken_of}
use Rattle.page_core.specs.Private.ClutSteps.{HasColours, entry_of, placed_by, with_segment}
use Rattle.page_core.specs.Composition.{Composition, clut_in}
use Rattle.page_core.specs.Private.Counting.{AreCounted, HasVersions, clut_need, region_need}
use Rattle.page_core.specs.Private.Inks.{ink_count}
use Rattle.page_core.specs.Private.Marks.{AreMarked, mark_for}
use Rattle.page_core.specs.Private.RegionTests.{before_regions}
use Rattle.page_core.specs.Private.Walks.{is_clut, is_object, is_region}
use Rattle.page_core.specs.declared.marks.Mark.{Mark}
use Rattle.page_core.proofs.ColourTables.ClutLaws.{clut_version_of_taken, taken_more, taken_same}
use Rattle.page_core.proofs.ColourTables.ClutNodes.{version_of}
use Rattle.page_core.proofs.Sets.Defining.{any_of_none, any_reversed, no_region_in_clut, no_region_in_object}
use Rattle.page_core.proofs.Counts.MarkTables.{of_asked}
use Rattle.page_core.proofs.Counts.RegionCounts.{region_need_behind}
use Rattle.page_core.proofs.Counts.SetBounds.{AreBelow, AreInTables, AreSmall, IsSmall, different_of_both, few_numbers, few_table_entries}

-- ---- segments that are no CLUTs

no_some : {X : Type 0} (o : Option X) → is_some o ≡ false → o ≡ None
no_some None is = refl
no_some (Some x) is = absurd (cc)

neither : (a b : Bool) → (a || b) ≡ false → (a ≡ false) × (b ≡ false)
neither false b is = (refl, is)
neither true b is = absurd (cc)

-- what CLUTs a list of taken segments has
record HasSameCluts (one other : List Content) : Type 0 where
  cluts : filter_map clut_of one ≡ filter_map clut_of other
  placed : placed_by one ≡ placed_by other

same_cluts : (mid base : List Content) → list_any is_clut mid ≡ false
    → HasSameCluts (taken_among (mid ++ base)) (taken_among base)
same_cluts [] base none = record { cluts = refl; placed = refl }
same_cluts (content ∷ mid) base none =
    let parts = neither (is_clut content) (list_any is_clut mid) none in
    by (is_taken (mid ++ base) content.value) refl (no_some (clut_of content) parts.0) (same_cluts mid base parts.1)
  where
    by : (taken : Bool) → is_taken (mid ++ base) content.value ≡ taken → clut_of content ≡ None
        → HasSameCluts (taken_among (mid ++ base)) (taken_among base)
        → HasSameCluts (taken_among (content ∷ (mid ++ base))) (taken_among base)
    by true is other rest =
        subst (λ (segments : List Content). HasSameCluts segments (taken_among base))
        (sym (taken_more content (mid ++ base) is))
        (record {
          cluts =
              ap (λ (o : Option Clut). cons_option o (filter_map clut_of (taken_among (mid ++ base)))) other
              ∙ rest.cluts;
          placed =
              ap (λ (o : Option Clut). with_segment o (placed_by (taken_among (mid ++ base)))) other ∙ rest.placed;
        })
    by false is other rest =
        subst (λ (segments : List Content). HasSameCluts segments (taken_among base))
        (sym (taken_same content (mid ++ base) is)) rest

clut_need_same : (one other : List Content) → HasSameCluts one other → clut_need one ≡ clut_need other
unfolding clut_ids table_entries
clut_need_same one other same =
    ap (λ (cluts : List Clut). length (different is_same (map clut_id cluts))
    + length (different is_same_entry (flat_map entries_of_clut cluts))) same.cluts

last_clut_behind : (id : ℕ) (mid base : List Content) → list_any is_clut mid ≡ false
    → last_clut id (mid ++ base) ≡ last_clut id base
last_clut_behind id [] base none = refl
last_clut_behind id (content ∷ mid) base none =
    let parts = neither (is_clut content) (list_any is_clut mid) none in
    ap (λ (o : Option Clut). option_or (where_passes (λ clut. clut.clut == id) o) (last_clut id (mid ++ base)))
    (no_some (clut_of content) parts.0) ∙ last_clut_behind id mid base parts.1

-- behind them the versions and what was placed are as they were
pub versions_behind : (mid base : List Content) (composition : Composition) → list_any is_clut mid ≡ false
    → ((id : ℕ)
    → option_map version_of (clut_in composition id) ≡ version_of_clut (last_clut id (taken_of base).segments))
    → HasVersions (mid ++ base) composition []
versions_behind mid base composition none has id byte =
    has id ∙ clut_version_of_taken id base ∙ ap version_of_clut (sym (last_clut_behind id mid base none))
    ∙ sym (clut_version_of_taken id (mid ++ base))

pub counted_behind : (mid base : List Content) (composition : Composition) (inks : List Colour) (marks : List Mark)
    → list_any is_clut mid ≡ false → HasColours base composition inks
    → AreMarked composition.set_entries [] marks
    → AreCounted (placed_by (taken_among (mid ++ base))) composition.set_entries marks
counted_behind mid base composition inks marks none has marked =
    let same = same_cluts mid base none in
    let members : (entry : TableEntry)
    → list_any (is_same_entry entry) composition.set_entries
    ≡ list_any (is_same_entry entry) (map entry_of (placed_by (taken_among (mid ++ base)))) =
    λ entry. has.set.members entry
    ∙ ap (λ placed. list_any (is_same_entry entry) (map entry_of placed)) (sym same.placed) in
    record {
      marked = record {
        different = marked.different;
        count = marked.count;
        each = λ clut depth number byte low.
            let asked = of_asked clut depth number in
            marked.each clut depth number byte low
            ∙ by (list_any (is_same_entry asked) composition.set_entries)
            (list_any (is_same_entry asked) (map entry_of (placed_by (taken_among (mid ++ base))))) (members asked);
      };
      among = λ entry there. sym (members entry) ∙ there;
    }
  where
    by : (set named : Bool) → set ≡ named → mark_for set false ≡ mark_for set named
    by true named same = refl
    by false false same = refl
    by false true same = absurd (cc)

-- ---- how many more CLUTs and entries a set can have

-- the taken ones of some segments before the taken ones of others
record IsTakenBefore (mid base : List Content) : Type 0 where
  taken : List Content
  is : taken_among (mid ++ base) ≡ taken ++ taken_among base
  small : AreSmall taken

taken_before : (mid base : List Content) → AreSmall mid → IsTakenBefore mid base
taken_before [] base small = record { taken = []; is = refl; small = tt }
taken_before (content ∷ mid) base small =
    by (is_taken (mid ++ base) content.value) refl (taken_before mid base small.1)
  where
    by : (takes : Bool) → is_taken (mid ++ base) content.value ≡ takes → IsTakenBefore mid base
        → IsTakenBefore (content ∷ mid) base
    by true at rest =
        record {
          taken = content ∷ rest.taken;
          is = taken_more content (mid ++ base) at
              ∙ ap (λ segments. content ∷ segments) rest.is;
          small = (small.0, rest.small);
        }
    by false at rest =
        record { taken = rest.taken; is = taken_same content (mid ++ base) at ∙ rest.is; small = rest.small }

ids_below : (taken : List Content) → AreSmall taken → AreBelow 256 (map clut_id (filter_map clut_of taken))
ids_below [] small = tt
ids_below (content ∷ taken) small = by content.value small.0 (ids_below taken small.1)
  where
    by : (value : SegmentValue) → IsSmall value → AreBelow 256 (map clut_id (filter_map clut_of taken))
        → AreBelow 256 (map clut_id (cons_option (value_clut value) (filter_map clut_of taken)))
    by (of_clut clut) is rest = (is, rest)
    by (of_page value) is rest = rest
    by (of_region value) is rest = rest
    by (of_object value) is rest = rest
    by (of_display value) is rest = rest
    by end_of_set is rest = rest
    by passed_over is rest = rest

one_in_table : (clut : ℕ) (entry : ClutEntry) (depth : Depth) (others : List TableEntry) → clut < 256
    → AreInTables others → AreInTables (cons_option (in_table clut entry depth) others)
one_in_table clut entry depth others byte all =
    by (is_in_table depth entry) (nat_lt entry.entry (code_count depth)) refl
  where
    by : (flagged inside : Bool) → nat_lt entry.entry (code_count depth) ≡ inside
        → AreInTables (cons_option (cond (flagged && inside) (Some (of_asked clut depth entry.entry)) None) others)
    by true true is = ((byte, low entry.entry (code_count depth) is), all)
      where
        low : (a b : ℕ) → nat_lt a b ≡ true → a < b
        low a b is = grind (arith, nat_tests, is)
    by true false is = all
    by false inside is = all

both_in_tables : (xs ys : List TableEntry) → AreInTables xs → AreInTables ys → AreInTables (xs ++ ys)
both_in_tables [] ys one other = other
both_in_tables (x ∷ xs) ys one other = (one.0, both_in_tables xs ys one.1 other)

entries_in_tables : (clut : ℕ) (entries : List ClutEntry) → clut < 256
    → AreInTables (flat_map (in_tables clut) entries)
entries_in_tables clut [] byte = tt
entries_in_tables clut (entry ∷ entries) byte =
    both_in_tables (in_tables clut entry) (flat_map (in_tables clut) entries)
    (one_in_table clut entry Two (filter_map (in_table clut entry) (Four ∷ Eight ∷ [])) byte
    (one_in_table clut entry Four (filter_map (in_table clut entry) (Eight ∷ [])) byte
    (one_in_table clut entry Eight [] byte tt)))
    (entries_in_tables clut entries byte)

all_in_tables : (taken : List Content) → AreSmall taken
    → AreInTables (flat_map entries_of_clut (filter_map clut_of taken))
all_in_tables [] small = tt
all_in_tables (content ∷ taken) small = by content.value small.0 (all_in_tables taken small.1)
  where
    by : (value : SegmentValue) → IsSmall value
        → AreInTables (flat_map entries_of_clut (filter_map clut_of taken))
        → AreInTables (flat_map entries_of_clut (cons_option (value_clut value) (filter_map clut_of taken)))
    by (of_clut clut) is rest =
        both_in_tables (entries_of_clut clut) (flat_map entries_of_clut (filter_map clut_of taken))
        (entries_in_tables clut.clut clut.entries is) rest
    by (of_page value) is rest = rest
    by (of_region value) is rest = rest
    by (of_object value) is rest = rest
    by (of_display value) is rest = rest
    by end_of_set is rest = rest
    by passed_over is rest = rest

flat_map_both : {X Y : Type 0} (f : X → List Y) (xs ys : List X)
    → flat_map f (xs ++ ys) ≡ flat_map f xs ++ flat_map f ys
flat_map_both f [] ys = refl
flat_map_both f (x ∷ xs) ys =
    ap (λ zs. f x ++ zs) (flat_map_both f xs ys) ∙ sym (append_assoc (f x) (flat_map f xs) (flat_map f ys))

pub need_within : (mid base : List Content) → AreSmall mid
    → clut_need (taken_among (mid ++ base)) ≤ clut_need (taken_among base) + 256 + ink_count
unfolding clut_ids table_entries
need_within mid base small =
    let before = taken_before mid base small in
    let all : filter_map clut_of (taken_among (mid ++ base)) ≡ filter_map clut_of before.taken
    ++ filter_map clut_of (taken_among base) = ap (filter_map clut_of) before.is
    ∙ filter_map-append clut_of before.taken (taken_among base) in
    let ids : map clut_id (filter_map clut_of (taken_among (mid ++ base)))
    ≡ map clut_id (filter_map clut_of before.taken) ++ map clut_id (filter_map clut_of (taken_among base)) =
    ap (map clut_id) all
    ∙ map-append clut_id (filter_map clut_of before.taken) (filter_map clut_of (taken_among base)) in
    let entries : flat_map entries_of_clut (filter_map clut_of (taken_among (mid ++ base)))
    ≡ flat_map entries_of_clut (filter_map clut_of before.taken)
    ++ flat_map entries_of_clut (filter_map clut_of (taken_among base)) =
    ap (flat_map entries_of_clut) all
    ∙ flat_map_both entries_of_clut (filter_map clut_of before.taken) (filter_map clut_of (taken_among base)) in
    sums (length (different is_same (map clut_id (filter_map clut_of (taken_among (mid ++ base))))))
    (length (different is_same_entry (flat_map entries_of_clut (filter_map clut_of (taken_among (mid ++ base))))))
    (length (different is_same (map clut_id (filter_map clut_of before.taken))))
    (length (different is_same_entry (flat_map entries_of_clut (filter_map clut_of before.taken))))
    (length (different is_same (map clut_id (filter_map clut_of (taken_among base)))))
    (length (different is_same_entry (flat_map entries_of_clut (filter_map clut_of (taken_among base))))) ink_count
    (subst (λ (xs : List ℕ). length (different is_same xs)
    ≤ length (different is_same (map clut_id (filter_map clut_of before.taken)))
    + length (different is_same (map clut_id (filter_map clut_of (taken_among base))))) (sym ids)
    (different_of_both is_same (map clut_id (filter_map clut_of before.taken))
    (map clut_id (filter_map clut_of (taken_among base)))))
    (subst (λ (xs : List TableEntry). length (different is_same_entry xs)
    ≤ length (different is_same_entry (flat_map entries_of_clut (filter_map clut_of before.taken)))
    + length (different is_same_entry (flat_map entries_of_clut (filter_map clut_of (taken_among base)))))
    (sym entries)
    (different_of_both is_same_entry (flat_map entries_of_clut (filter_map clut_of before.taken))
    (flat_map entries_of_clut (filter_map clut_of (taken_among base)))))
    (few_numbers 256 (map clut_id (filter_map clut_of before.taken)) (ids_below before.taken before.small))
    (few_table_entries (flat_map entries_of_clut (filter_map clut_of before.taken))
    (all_in_tables before.taken before.small))
  where
    sums : (a b c d e f n : ℕ) → a ≤ c + e → b ≤ d + f → c ≤ 256 → d ≤ n → a + b ≤ e + f + 256 + n
    sums a b c d e f n one other ids entries = omega (arith, one, other, ids, entries)

-- ---- the page

pub few_in_page : (set : List Content) (page : Page) → AreSmall set → page_in_set set ≡ Some page
    → length page.entries < 65536
few_in_page [] page small is = absurd (cc)
few_in_page (content ∷ set) page small is = by content.value small.0 is (few_in_page set page small.1)
  where
    by : (value : SegmentValue) → IsSmall value → option_or (page_in value) (page_in_set set) ≡ Some page
        → (page_in_set set ≡ Some page → length page.entries < 65536) → length page.entries < 65536
    by (of_page value) own found rest =
        let same : value ≡ page = cc in subst (λ (p : Page). length p.entries < 65536) same own
    by (of_clut clut) own found rest = rest found
    by (of_region value) own found rest = rest found
    by (of_object value) own found rest = rest found
    by (of_display value) own found rest = rest found
    by end_of_set own found rest = rest found
    by passed_over own found rest = rest found

-- ---- a set in order

in_parts : (older set : List Content)
    → reverse (in_order set) ++ older ≡ reverse (filter is_object set)
    ++ (reverse (filter is_clut set) ++ (reverse (filter is_region set) ++ before_regions older set))
in_parts older set =
    let d = filter (λ content. is_some (display_of content)) set in
    let p = filter (λ content. is_some (page_of content)) set in
    let r = filter is_region set in
    let c = filter is_clut set in
    let o = filter is_object set in
    cut d (p ++ (r ++ (c ++ o))) older ∙ cut p (r ++ (c ++ o)) (reverse d ++ older)
    ∙ cut r (c ++ o) (reverse p ++ (reverse d ++ older))
    ∙ cut c o (reverse r ++ (reverse p ++ (reverse d ++ older)))
  where
    cut : (xs ys before : List Content) → reverse (xs ++ ys) ++ before ≡ reverse ys ++ (reverse xs ++ before)
    cut xs ys before = ap (λ zs. zs ++ before) (reverse-append xs ys) ∙ append_assoc (reverse ys) (reverse xs) before

segments_with : (set : List Content) (before : List (List Content))
    → segments_of (set ∷ before) ≡ reverse (in_order set) ++ segments_of before
unfolding segments_of
segments_with set before = refl

-- the nodes of an epoch with a set: those of its page, of its regions, and of its CLUTs
pub nodes_with : (set : List Content) (before : List (List Content)) (page : Page)
    → nodes_of (taken_of (segments_of (set ∷ before))) page
    ≡ length page.entries
    + region_need (taken_among (reverse (filter is_region set) ++ before_regions (segments_of before) set))
    + clut_need
    (taken_among
    (reverse (filter is_clut set) ++ (reverse (filter is_region set) ++ before_regions (segments_of before) set)))
nodes_with set before page =
    let older = segments_of before in
    let base = reverse (filter is_region set) ++ before_regions older set in
    let behind = reverse (filter is_clut set) ++ base in
    let all : segments_of (set ∷ before) ≡ reverse (filter is_object set) ++ behind =
    segments_with set before ∙ in_parts older set in
    let regions : region_need (taken_among (reverse (filter is_object set) ++ behind))
    ≡ region_need (taken_among base) =
    region_need_behind (reverse (filter is_object set)) behind
    (any_reversed is_region (filter is_object set)
    ∙ any_of_none is_region is_object set (λ content is. ap is_some (no_region_in_object content.value is)))
    ∙ region_need_behind (reverse (filter is_clut set)) base
    (any_reversed is_region (filter is_clut set)
    ∙ any_of_none is_region is_clut set (λ content is. ap is_some (no_region_in_clut content.value is))) in
    let cluts : clut_need (taken_among (reverse (filter is_object set) ++ behind)) ≡ clut_need (taken_among behind) =
    clut_need_same (taken_among (reverse (filter is_object set) ++ behind)) (taken_among behind)
    (same_cluts (reverse (filter is_object set)) behind
    (any_reversed is_clut (filter is_object set)
    ∙ any_of_none is_clut is_object set (λ content is. ap is_some (no_clut_in_object content.value is)))) in
    ap (λ (segments : List Content). nodes_of (taken_of segments) page) all
    ∙ sums (length page.entries) (length (region_ids (taken_of (reverse (filter is_object set) ++ behind))))
    (listings_held (taken_of (reverse (filter is_object set) ++ behind)))
    (length (clut_ids (taken_of (reverse (filter is_object set) ++ behind))))
    (length (table_entries (taken_of (reverse (filter is_object set) ++ behind)))) (region_need (taken_among base))
    (clut_need (taken_among behind)) regions cluts
  where
    no_clut_in_object : (value : SegmentValue) → is_some (object_in value) ≡ true → value_clut value ≡ None
    no_clut_in_object (of_object value) is = refl
    no_clut_in_object (of_page value) is = absurd (cc)
    no_clut_in_object (of_region value) is = absurd (cc)
    no_clut_in_object (of_clut value) is = absurd (cc)
    no_clut_in_object (of_display value) is = absurd (cc)
    no_clut_in_object end_of_set is = absurd (cc)
    no_clut_in_object passed_over is = absurd (cc)

    sums : (p a b c d r n : ℕ) → a + b ≡ r → c + d ≡ n → p + a + b + c + d ≡ p + r + n
    sums p a b c d r n one other = omega (arith, one, other)

-- ---- before the CLUTs of a set

no_clut_in_region : (value : SegmentValue) → is_some (value_region value) ≡ true → value_clut value ≡ None
no_clut_in_region (of_region value) is = refl
no_clut_in_region (of_page value) is = absurd (cc)
no_clut_in_region (of_clut value) is = absurd (cc)
no_clut_in_region (of_object value) is = absurd (cc)
no_clut_in_region (of_display value) is = absurd (cc)
no_clut_in_region end_of_set is = absurd (cc)
no_clut_in_region passed_over is = absurd (cc)

no_clut_in_page : (value : SegmentValue) → is_some (page_in value) ≡ true → value_clut value ≡ None
no_clut_in_page (of_page value) is = refl
no_clut_in_page (of_region value) is = absurd (cc)
no_clut_in_page (of_clut value) is = absurd (cc)
no_clut_in_page (of_object value) is = absurd (cc)
no_clut_in_page (of_display value) is = absurd (cc)
no_clut_in_page end_of_set is = absurd (cc)
no_clut_in_page passed_over is = absurd (cc)

no_clut_in_display : (value : SegmentValue) → is_some (display_in value) ≡ true → value_clut value ≡ None
no_clut_in_display (of_display value) is = refl
no_clut_in_display (of_page value) is = absurd (cc)
no_clut_in_display (of_region value) is = absurd (cc)
no_clut_in_display (of_clut value) is = absurd (cc)
no_clut_in_display (of_object value) is = absurd (cc)
no_clut_in_display end_of_set is = absurd (cc)
no_clut_in_display passed_over is = absurd (cc)

-- the segments before the CLUTs of a set, and behind those of the epoch before
abbrev pub before_cluts : List Content → List Content
before_cluts set =
    reverse (filter is_region set)
    ++ (reverse (filter (λ content. is_some (page_of content)) set)
    ++ reverse (filter (λ content. is_some (display_of content)) set))

pub before_cluts_is : (older set : List Content)
    → reverse (filter is_region set) ++ before_regions older set ≡ before_cluts set ++ older
before_cluts_is older set =
    let d = reverse (filter (λ content. is_some (display_of content)) set) in
    let p = reverse (filter (λ content. is_some (page_of content)) set) in
    let r = reverse (filter is_region set) in
    ap (λ xs. r ++ xs) (sym (append_assoc p d older)) ∙ sym (append_assoc r (p ++ d) older)

pub no_clut_before : (set : List Content) → list_any is_clut (before_cluts set) ≡ false
no_clut_before set =
    let d = filter (λ content. is_some (display_of content)) set in
    let p = filter (λ content. is_some (page_of content)) set in
    let r = filter is_region set in
    list_any-append is_clut (reverse r) (reverse p ++ reverse d)
    ∙ ap (λ b. b || list_any is_clut (reverse p ++ reverse d))
    (any_reversed is_clut r
    ∙ any_of_none is_clut is_region set (λ content is. ap is_some (no_clut_in_region content.value is)))
    ∙ list_any-append is_clut (reverse p) (reverse d)
    ∙ ap (λ b. b || list_any is_clut (reverse d))
    (any_reversed is_clut p
    ∙ any_of_none is_clut (λ content. is_some (page_of content)) set
    (λ content is. ap is_some (no_clut_in_page content.value is)))
    ∙ any_reversed is_clut d
    ∙ any_of_none is_clut (λ content. is_some (display_of content)) set
    (λ content is. ap is_some (no_clut_in_display content.value is))

pub need_before_cluts : (older set : List Content)
    → clut_need (taken_among (reverse (filter is_region set) ++ before_regions older set))
    ≡ clut_need (taken_among older)
need_before_cluts older set =
    ap (λ (segments : List Content). clut_need (taken_among segments)) (before_cluts_is older set)
    ∙ clut_need_same (taken_among (before_cluts set ++ older)) (taken_among older)
    (same_cluts (before_cluts set) older (no_clut_before set))
