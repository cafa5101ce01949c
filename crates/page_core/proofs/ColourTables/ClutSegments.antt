-- The CLUT segments of a set, one after another.
use Rattle.std.proofs.Common.{◌≡◌, ◌∙◌, ℕ, ◌+◌, ◌≤◌, ◌<◌, ◌==◌, Bool, true, false, cond, List, [], ◌∷◌, ◌++◌, append_assoc, filter, find, length, map, reverse, Option, Some, None, option_map, refl, sym, ap, subst, arith}
use Rattle.std.specs.Prelude.{filter_map, flat_map}
use Rattle.std.specs.List.{cons_option}
use Rattle.std.specs.Option.{is_some, option_or}
use Rattle.std.proofs.lemmas.List.{reverse-append}
use Rattle.sub_base.specs.Lists.{different}
use Rattle.sub_base.specs.declared.colour.Colour.{Colour}
use Rattle.stream_syntax.specs.PixelBlocks.{Part}
use Rattle.stream_syntax.specs.Segments.{SegmentValue, of_page, of_region, of_clut, of_object, of_display, end_of_set, passed_over, Clut, Region}
use Rattle.decoder_model.specs.Contents.{clut_in as value_clut, clut_of, display_in}
use Rattle.decoder_model.specs.Faults.{display_or_default}
use Rattle.decoder_model.specs.Nodes.{clut_id, clut_ids, entries_of_clut, is_same, is_same_entry, region_ids, table_entries}
use Rattle.decoder_model.specs.Pixels.{pixel_of}
use Rattle.decoder_model.specs.Readings.{Content}
use Rattle.decoder_model.specs.Taken.{is_taken, last_clut, last_display, last_region, taken_among}
use Rattle.pixel_store.specs.Regions.{Regions, code_of, region_at}
use Rattle.page_core.specs.Private.ClutSteps.{HasColours, HasRoomFor, HasRoomForCluts, IsKeptBeside}
use Rattle.page_core.specs.Composition.{Composition, KeptRegion, region_in}
use Rattle.page_core.specs.Handed.{AreContents}
use Rattle.page_core.specs.Memory.{Memory, HoldsSegments, code_in, head_of, kept_listing}
use Rattle.page_core.specs.Private.Walks.{IsNextOf, is_clut}
use Rattle.page_core.proofs.ColourTables.ClutLaws.{clut_ids_with, taken_more, taken_same}
use Rattle.page_core.proofs.Counts.DifferentItems.{more_behind}
use Rattle.page_core.proofs.Counts.MarkTables.{same_entry, same_itself}
use Rattle.page_core.proofs.ColourTables.PlacedLaws.{placed_count, placed_ink, placed_member}
use Rattle.page_core.proofs.Sets.QuietSteps.{listing_behind, listings_by}

-- ---- how many nodes CLUTs need

abbrev pub need_of : List Content → ℕ
need_of taken = length (clut_ids (record { segments = taken })) + length (table_entries (record { segments = taken }))

-- one more taken segment needs no fewer
ids_grow : (content : Content) (taken : List Content)
    → length (clut_ids (record { segments = taken })) ≤ length (clut_ids (record { segments = content ∷ taken }))
unfolding clut_ids
ids_grow content taken = by (clut_of content) refl
  where
    by : (found : Option Clut) → clut_of content ≡ found
        → length (clut_ids (record { segments = taken }))
        ≤ length (clut_ids (record { segments = content ∷ taken }))
    by None is =
        let same : clut_ids (record { segments = content ∷ taken })
        ≡ clut_ids (record { segments = taken }) = ap
        (λ (o : Option Clut). different is_same (map clut_id (cons_option o (filter_map clut_of taken)))) is in
        omega (arith, ap length same)
    by (Some clut) is = more (is_some (last_clut clut.clut taken)) (ap length (clut_ids_with content clut taken is))
      where
        more : (known : Bool)
            → length (clut_ids (record { segments = content ∷ taken }))
            ≡ length (cond known (clut_ids (record { segments = taken }))
            (clut.clut ∷ clut_ids (record { segments = taken })))
            → length (clut_ids (record { segments = taken }))
            ≤ length (clut_ids (record { segments = content ∷ taken }))
        more true same = omega (arith, same)
        more false same = omega (arith, same)

entries_grow : (content : Content) (taken : List Content)
    → length (table_entries (record { segments = taken }))
    ≤ length (table_entries (record { segments = content ∷ taken }))
unfolding table_entries
entries_grow content taken = by (clut_of content)
  where
    by : (found : Option Clut)
        → length (different is_same_entry (flat_map entries_of_clut (filter_map clut_of taken)))
        ≤ length (different is_same_entry (flat_map entries_of_clut (cons_option found (filter_map clut_of taken))))
    by None = omega arith
    by (Some clut) =
        more_behind is_same_entry same_itself same_entry (entries_of_clut clut)
        (flat_map entries_of_clut (filter_map clut_of taken))

pub need_grows : (mid base : List Content) → need_of (taken_among base) ≤ need_of (taken_among (mid ++ base))
need_grows [] base = omega arith
need_grows (content ∷ mid) base = by (is_taken (mid ++ base) content.value) refl (need_grows mid base)
  where
    by : (taken : Bool) → is_taken (mid ++ base) content.value ≡ taken
        → need_of (taken_among base) ≤ need_of (taken_among (mid ++ base))
        → need_of (taken_among base) ≤ need_of (taken_among (content ∷ (mid ++ base)))
    by true is rest =
        let same = ap need_of (taken_more content (mid ++ base) is) in
        omega (
          arith,
          same,
          rest,
          ids_grow content (taken_among (mid ++ base)),
          entries_grow content
              (taken_among (mid ++ base)),
        )
    by false is rest = let same = ap need_of (taken_same content (mid ++ base) is) in omega (arith, same, rest)

-- ---- a walk over the CLUT segments of a set

-- how far they are taken, with these bytes left
pub record IsTaking (older set : List Content) (composition : Composition) (inks : List Colour)
    (bytes : List ℕ) : Type 0 where
  pub mid : List Content
  pub left : List Content
  pub are : AreContents left bytes
  pub has : HasColours (mid ++ older) composition inks
  pub room : HasRoomFor (reverse (filter is_clut left) ++ (mid ++ older)) composition
  pub all : reverse (filter is_clut set) ++ older ≡ reverse (filter is_clut left) ++ (mid ++ older)

abbrev pub IsTakingAny : Composition → List Colour → List ℕ → Composition → List Colour → List ℕ
    → Type 0
IsTakingAny old old_inks bytes composition inks rest = (older set : List Content) → HasColours older old old_inks
    → AreContents set bytes → HasRoomFor (reverse (filter is_clut set) ++ older) old
    → IsTaking older set composition inks rest

pub taking_begins : (old : Composition) (inks : List Colour) (bytes : List ℕ)
    → IsTakingAny old inks bytes old inks bytes
taking_begins old inks bytes older set has are room =
    record { mid = []; left = set; are = are; has = has; room = room; all = refl }

passed_on : (content : Content) (xs base : List Content)
    → reverse (content ∷ xs) ++ base ≡ reverse xs ++ (content ∷ base)
passed_on content xs base =
    ap (λ ys. ys ++ base) (reverse-append (content ∷ []) xs) ∙ append_assoc (reverse xs) (content ∷ []) base

kept_room : (needed : ℕ) (old new : Composition) → IsKeptBeside old new
    → needed ≤ old.free + length old.cluts + length old.set_entries
    → needed ≤ new.free + length new.cluts + length new.set_entries
kept_room needed old new kept room = omega (arith, room, kept.total)

pub taking_goes_on : (old now new : Composition) (old_inks inks new_inks : List Colour) (bytes here rest : List ℕ)
    (clut : Clut)
    → ((other : List Content) → AreContents other here → IsNextOf is_clut other (of_clut clut) rest)
    → IsKeptBeside now new
    → ((earlier : List Content) (content : Content) → of_clut clut ≡ content.value
    → HasColours earlier now inks → HasRoomFor (content ∷ earlier) now
    → HasColours (content ∷ earlier) new new_inks)
    → IsTakingAny old old_inks bytes now inks here → IsTakingAny old old_inks bytes new new_inks rest
taking_goes_on old now new old_inks inks new_inks bytes here rest clut next kept takes on older set has are room =
    let t = on older set has are room in
    let n = next t.left t.are in
    let base = t.mid ++ older in
    let split : reverse (filter is_clut t.left) ++ base ≡ reverse (filter is_clut n.more) ++ (n.content ∷ base) =
    ap (λ xs. reverse xs ++ base) n.split ∙ passed_on n.content (filter is_clut n.more) base in
    let needed = subst (λ (segments : List Content). HasRoomFor segments now) split t.room in
    let grows = need_grows (reverse (filter is_clut n.more)) (n.content ∷ base) in
    record {
      mid = n.content ∷ t.mid;
      left = n.more;
      are = n.are;
      has = takes base n.content n.same t.has (omega (arith, needed, grows));
      room =
          kept_room (need_of (taken_among (reverse (filter is_clut n.more) ++ (n.content ∷ base)))) now new kept
          needed;
      all = t.all ∙ split;
    }

pub taking_ends : (old now : Composition) (old_inks inks : List Colour) (bytes here : List ℕ)
    (older set : List Content) → ((other : List Content) → AreContents other here → filter is_clut other ≡ [])
    → IsTakingAny old old_inks bytes now inks here
    → HasColours older old old_inks → AreContents set bytes
    → HasRoomFor (reverse (filter is_clut set) ++ older) old
    → HasColours (reverse (filter is_clut set) ++ older) now inks
taking_ends old now old_inks inks bytes here older set none on has are room =
    let t = on older set has are room in
    subst (λ (segments : List Content). HasColours segments now inks)
    (sym (t.all ∙ ap (λ xs. reverse xs ++ (t.mid ++ older)) (none t.left t.are))) t.has

pub kept_on : (old now new : Composition) → IsKeptBeside old now → IsKeptBeside now new → IsKeptBeside old new
kept_on old now new one other =
    record {
      size = other.size ∙ one.size;
      entries = other.entries ∙ one.entries;
      regions = other.regions
          ∙ one.regions;
      total = other.total ∙ one.total;
    }

-- ---- what they leave as it was

-- the regions of taken segments
record HasRegions (taken : List Content) (memory : Memory) : Type 0 where
  region_ids : map (λ (kept : KeptRegion). kept.head.region) memory.composition.regions
      ≡ reverse (region_ids (record { segments = taken }))
  heads : (id : ℕ)
      → option_map (λ (kept : KeptRegion). kept.head) (region_in memory.composition id)
      ≡ option_map head_of (last_region id taken)
  listings : (id : ℕ) → option_map (λ (kept : KeptRegion). kept.listings) (region_in memory.composition id)
      ≡ option_map (λ (region : Region). map (kept_listing (record { segments = taken }) id) region.listings)
      (last_region id taken)
  pixels : (id x y : ℕ) (kept : KeptRegion) → region_in memory.composition id ≡ Some kept
      → x < kept.head.width → y < kept.head.height
      → code_in memory kept x y ≡ pixel_of (record { segments = taken }) id x y

clut_passes : (clut : Clut) (top bottom : List Part) (taken : List Content) (memory : Memory)
    → HasRegions taken memory
    → HasRegions (record { value = of_clut clut; top = top; bottom = bottom } ∷ taken) memory
unfolding region_ids pixel_of
clut_passes clut top bottom taken memory has = record {
  region_ids = has.region_ids;
  heads = has.heads;
  listings = λ id. has.listings id
      ∙ listings_by (record { segments = taken })
      (record { segments = record { value = of_clut clut; top = top; bottom = bottom } ∷ taken }) id
      (last_region id taken)
      (λ listing. listing_behind (record { value = of_clut clut; top = top; bottom = bottom }) taken id listing refl
      refl);
  pixels = has.pixels;
}

one_passes : (value : SegmentValue) (top bottom : List Part) (taken : List Content) (memory : Memory)
    → is_some (value_clut value) ≡ true → HasRegions taken memory
    → HasRegions (record { value = value; top = top; bottom = bottom } ∷ taken) memory
one_passes (of_clut clut) top bottom taken memory is has = clut_passes clut top bottom taken memory has
one_passes (of_page value) top bottom taken memory is has = absurd (cc)
one_passes (of_region value) top bottom taken memory is has = absurd (cc)
one_passes (of_object value) top bottom taken memory is has = absurd (cc)
one_passes (of_display value) top bottom taken memory is has = absurd (cc)
one_passes end_of_set top bottom taken memory is has = absurd (cc)
one_passes passed_over top bottom taken memory is has = absurd (cc)

abbrev AreCluts : List Content → Type 0
AreCluts [] = Unit {0}
AreCluts (content ∷ contents) = (is_clut content ≡ true) × AreCluts contents

all_pass : (mid base : List Content) (memory : Memory) → AreCluts mid → HasRegions (taken_among base) memory
    → HasRegions (taken_among (mid ++ base)) memory
all_pass [] base memory cluts has = has
all_pass (content ∷ mid) base memory cluts has =
    by (is_taken (mid ++ base) content.value) refl (all_pass mid base memory cluts.1 has)
  where
    by : (taken : Bool) → is_taken (mid ++ base) content.value ≡ taken
        → HasRegions (taken_among (mid ++ base)) memory
        → HasRegions (taken_among (content ∷ (mid ++ base))) memory
    by true is rest =
        subst (λ (segments : List Content). HasRegions segments memory) (sym (taken_more content (mid ++ base) is))
        (one_passes content.value content.top content.bottom (taken_among (mid ++ base)) memory cluts.0 rest)
    by false is rest =
        subst (λ (segments : List Content). HasRegions segments memory) (sym (taken_same content (mid ++ base) is))
        rest

no_display : (value : SegmentValue) → is_some (value_clut value) ≡ true → display_in value ≡ None
no_display (of_clut clut) is = refl
no_display (of_page value) is = absurd (cc)
no_display (of_region value) is = absurd (cc)
no_display (of_object value) is = absurd (cc)
no_display (of_display value) is = absurd (cc)
no_display end_of_set is = absurd (cc)
no_display passed_over is = absurd (cc)

same_display : (mid base : List Content) → AreCluts mid → last_display (mid ++ base) ≡ last_display base
same_display [] base cluts = refl
same_display (content ∷ mid) base cluts =
    ap (λ (o : Option _). option_or o (last_display (mid ++ base))) (no_display content.value cluts.0)
    ∙ same_display mid base cluts.1

cluts_filtered : (set : List Content) → AreCluts (filter is_clut set)
cluts_filtered [] = tt
cluts_filtered (content ∷ set) = by (cluts_filtered set) (is_clut content) refl
  where
    by : AreCluts (filter is_clut set) → (hit : Bool) → is_clut content ≡ hit
        → AreCluts (cond hit (content ∷ filter is_clut set) (filter is_clut set))
    by rest true is = (is, rest)
    by rest false is = rest

cluts_reversed : (xs : List Content) → AreCluts xs → AreCluts (reverse xs)
cluts_reversed [] all = tt
cluts_reversed (x ∷ xs) all =
    subst AreCluts (sym (reverse-append (x ∷ []) xs)) (both (reverse xs) (cluts_reversed xs all.1))
  where
    both : (ys : List Content) → AreCluts ys → AreCluts (ys ++ x ∷ [])
    both [] ys = (all.0, tt)
    both (y ∷ rest) ys = (ys.0, both rest ys.1)

-- ---- by the memory

-- the CLUTs and colours of a memory
pub colours_of_holds : (segments : List Content) (memory : Memory) → HoldsSegments segments memory
    → HasColours segments memory.composition memory.inks
colours_of_holds segments memory holds = record {
  clut_ids = holds.clut_ids;
  versions = holds.versions;
  set = record {
    colours =
        λ id depth number byte low. holds.inks id depth number byte low
        ∙ sym (placed_ink (taken_among segments) id depth number low);
    members = λ entry. holds.set_entries entry ∙ sym (placed_member (taken_among segments) entry);
    count = holds.set_count ∙ sym (placed_count (taken_among segments));
  };
}

-- a memory whose CLUTs and colours alone were changed has those of the CLUT segments behind, and all else as it was
pub holds_behind_cluts : (older set : List Content) (old new : Memory) → new.display ≡ old.display
    → new.composition.regions ≡ old.composition.regions → new.store ≡ old.store → HoldsSegments older old
    → HasColours (reverse (filter is_clut set) ++ older) new.composition new.inks
    → HoldsSegments (reverse (filter is_clut set) ++ older) new
holds_behind_cluts older set old new display regions store holds has =
    let cluts = cluts_reversed (filter is_clut set) (cluts_filtered set) in
    let mid = reverse (filter is_clut set) in
    let before : HasRegions (taken_among older) old =
    record { region_ids = holds.region_ids; heads = holds.heads; listings = holds.listings; pixels = holds.pixels }
    in
    let behind = all_pass mid older old cluts before in
    let found : (id : ℕ) → region_in new.composition id ≡ region_in old.composition id =
    λ id. ap (λ kept. find (λ (one : KeptRegion). one.head.region == id) kept) regions in
    let taken = taken_among (mid ++ older) in
    record {
      display = display ∙ holds.display ∙ ap display_or_default (sym (same_display mid older cluts));
      region_ids = ap (map (λ (kept : KeptRegion). kept.head.region)) regions ∙ behind.region_ids;
      heads = λ id. ap (option_map (λ (kept : KeptRegion). kept.head)) (found id) ∙ behind.heads id;
      listings = λ id. ap (option_map (λ (kept : KeptRegion). kept.listings)) (found id) ∙ behind.listings id;
      pixels =
          λ id x y kept is wide high. ap (λ (s : Regions). code_of (region_at s kept.slot) x y) store
          ∙ behind.pixels id x y kept (sym (found id) ∙ is) wide high;
      clut_ids = has.clut_ids;
      versions = has.versions;
      inks =
          λ id depth number byte low. has.set.colours id depth number byte low
          ∙ placed_ink taken id depth number low;
      set_entries = λ entry. has.set.members entry ∙ placed_member taken entry;
      set_count = has.set.count ∙ placed_count taken;
    }

-- and so the memory of a core
pub core_holds : (older set : List Content) (bytes : List ℕ) (inside old new : Memory) → inside ≡ old
    → new.display ≡ inside.display → new.composition.regions ≡ inside.composition.regions
    → new.store ≡ inside.store
    → ((before all : List Content) → HasColours before inside.composition inside.inks → AreContents all bytes
    → HasRoomFor (reverse (filter is_clut all) ++ before) inside.composition
    → HasColours (reverse (filter is_clut all) ++ before) new.composition new.inks)
    → HoldsSegments older old → AreContents set bytes → HasRoomForCluts older set old
    → HoldsSegments (reverse (filter is_clut set) ++ older) new
core_holds older set bytes inside old new view display regions store takes holds are room =
    let held = subst (HoldsSegments older) (sym view) holds in
    let roomed = subst (HasRoomForCluts older set) (sym view) room in
    holds_behind_cluts older set inside new display regions store held
    (takes older set (colours_of_holds older inside held) are roomed)
