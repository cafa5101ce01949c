-- A memory behind the regions of a set.
use Rattle.std.proofs.Common.{◌≡◌, ◌∙◌, ℕ, ◌==◌, ◌<◌, ◌^◌, Bool, true, false, cond, List, [], ◌∷◌, ◌++◌, find, length, map, reverse, Option, option_map, refl, sym, ap, subst}
use Rattle.std.specs.Prelude.{IfSome}
use Rattle.std.specs.List.{list_any}
use Rattle.sub_base.specs.declared.colour.Colour.{Colour}
use Rattle.sub_base.specs.declared.depth.Depth.{Depth}
use Rattle.sub_base.specs.declared.profile.Profile.{Profile}
use Rattle.stream_syntax.specs.PixelBlocks.{Part}
use Rattle.stream_syntax.specs.Segments.{Region, SegmentValue, of_region}
use Rattle.decoder_model.specs.Faults.{display_in_force}
use Rattle.decoder_model.specs.Ink.{ink_of}
use Rattle.decoder_model.specs.Nodes.{TableEntry, clut_ids, is_same_entry, table_entries}
use Rattle.decoder_model.specs.Readings.{Content}
use Rattle.decoder_model.specs.Taken.{version_of_clut, is_taken, last_clut, taken_among, taken_of}
use Rattle.page_core.specs.Composition.{Composition, KeptClut}
use Rattle.page_core.specs.Cores.{IsCore}
use Rattle.page_core.specs.Private.Marks.{AreMarked}
use Rattle.page_core.specs.declared.marks.Mark.{Mark}
use Rattle.page_core.specs.Memory.{IsDisplayOf, AreInks, HoldsSegments, IsWholeMemory, Memory, ink_in}
use Rattle.page_core.specs.Private.RegionSteps.{AreStored, AwaitRegions, KeepsBesideRegions, KeepsButRegions}
use Rattle.page_core.proofs.Sets.Orders.{moved}
use Rattle.page_core.proofs.Counts.PixelRoom.{of_segments}
use Rattle.page_core.proofs.Counts.RegionNeeds.{AreRegions}

-- ---- what regions leave as it is

-- the display and the CLUTs are the same by two lists of segments
record IsSameBeside (one other : List Content) : Type 0 where
  pub display : display_in_force one ≡ display_in_force other
  pub clut_ids : clut_ids (taken_of one) ≡ clut_ids (taken_of other)
  pub cluts : (id : ℕ) → last_clut id (taken_of one).segments ≡ last_clut id (taken_of other).segments
  pub inks : (id : ℕ) (depth : Depth) (number : ℕ)
      → ink_of (taken_of one) id depth number ≡ ink_of (taken_of other) id depth number
  pub entries : table_entries (taken_of one) ≡ table_entries (taken_of other)

region_beside : (region : Region) (top bottom : List Part) (earlier : List Content)
    → IsSameBeside (record { value = of_region region; top = top; bottom = bottom } ∷ earlier) earlier
unfolding taken_among clut_ids table_entries ink_of
region_beside region top bottom earlier = record {
  display = refl;
  clut_ids = by_ids (is_taken earlier (of_region region));
  cluts = λ id. by_clut id (is_taken earlier (of_region region));
  inks = λ id depth number. by_ink id depth number (is_taken earlier (of_region region));
  entries = by_entries (is_taken earlier (of_region region));
}
  where
    by_ids : (taken : Bool)
        → clut_ids
        (of_segments
        (cond taken (record { value = of_region region; top = top; bottom = bottom } ∷ taken_among earlier)
        (taken_among earlier))) ≡ clut_ids (taken_of earlier)
    by_ids true = refl
    by_ids false = refl

    by_clut : (id : ℕ) (taken : Bool)
        → last_clut id
        (cond taken (record { value = of_region region; top = top; bottom = bottom } ∷ taken_among earlier)
        (taken_among earlier)) ≡ last_clut id (taken_among earlier)
    by_clut id true = refl
    by_clut id false = refl

    by_ink : (id : ℕ) (depth : Depth) (number : ℕ) (taken : Bool)
        → ink_of (of_segments
        (cond taken (record { value = of_region region; top = top; bottom = bottom } ∷ taken_among earlier)
        (taken_among earlier))) id depth number ≡ ink_of (taken_of earlier) id depth number
    by_ink id depth number true = refl
    by_ink id depth number false = refl

    by_entries : (taken : Bool)
        → table_entries
        (of_segments
        (cond taken (record { value = of_region region; top = top; bottom = bottom } ∷ taken_among earlier)
        (taken_among earlier))) ≡ table_entries (taken_of earlier)
    by_entries true = refl
    by_entries false = refl

one_beside : (content : Content) (region : Region) (earlier : List Content) → of_region region ≡ content.value
    → IsSameBeside (content ∷ earlier) earlier
one_beside content region earlier value =
    subst (λ (v : SegmentValue). IsSameBeside
    (record { value = v; top = content.top; bottom = content.bottom } ∷ earlier) earlier) value
    (region_beside region content.top content.bottom earlier)

same_twice : {a b c : List Content} → IsSameBeside a b → IsSameBeside b c → IsSameBeside a c
same_twice first second = record {
  display = first.display ∙ second.display;
  clut_ids = first.clut_ids ∙ second.clut_ids;
  cluts = λ id. first.cluts id ∙ second.cluts id;
  inks = λ id depth number. first.inks id depth number ∙ second.inks id depth number;
  entries = first.entries ∙ second.entries;
}

regions_beside : (regions older : List Content) → AreRegions regions → IsSameBeside (reverse regions ++ older) older
regions_beside [] older are =
    record { display = refl; clut_ids = refl; cluts = λ id. refl; inks = λ id depth number. refl; entries = refl }
regions_beside (content ∷ regions) older are =
    subst (λ (all : List Content). IsSameBeside all older) (sym (moved content regions older))
    (same_twice (regions_beside regions (content ∷ older) are.1) (one_beside content are.0.0 older are.0.1))

-- ---- the memory

pub held_behind : (older regions : List Content) (old new : Memory) → HoldsSegments older old → AreRegions regions
    → KeepsButRegions old new
    → AwaitRegions (taken_of (reverse regions ++ older)) [] new.composition new.store
    → HoldsSegments (reverse regions ++ older) new
held_behind older regions old new holds are keeps await =
    let same = regions_beside regions older are in
    record {
      display = keeps.display ∙ holds.display ∙ sym same.display;
      region_ids = await.region_ids;
      heads = await.heads;
      listings = await.listings;
      pixels = await.pixels;
      clut_ids =
          ap (map (λ (kept : KeptClut). kept.clut)) keeps.cluts ∙ holds.clut_ids ∙ ap reverse (sym same.clut_ids);
      versions =
          λ id. (λ i. option_map (λ (kept : KeptClut). kept.version)
          (find (λ (kept : KeptClut). kept.clut == id) (keeps.cluts i))) ∙ holds.versions id
          ∙ ap version_of_clut (sym (same.cluts id));
      inks =
          λ id depth number low few. ap (λ (inks : List Colour). ink_in inks id depth number) keeps.inks
          ∙ holds.inks id depth number low few ∙ sym (same.inks id depth number);
      set_entries =
          λ entry. ap (list_any (is_same_entry entry)) keeps.set_entries ∙ holds.set_entries entry
          ∙ ap (list_any (is_same_entry entry)) (sym same.entries);
      set_count = ap length keeps.set_entries ∙ holds.set_count ∙ ap length (sym same.entries);
    }

-- a core stays one
pub core_behind : (old new : Memory) (marks : List Mark) → IsCore old marks → KeepsButRegions old new
    → AreStored new.composition new.store → new.store.size ≡ old.store.size → IsCore new marks
core_behind old new marks core keeps stored size = record {
  whole = record {
    nodes = keeps.size ∙ core.whole.nodes ∙ ap (λ (p : Profile). p.nodes) (sym keeps.profile);
    counted = stored.counted;
    size = size ∙ core.whole.size ∙ ap (λ (p : Profile). p.pixels) (sym keeps.profile);
    slots = stored.slots;
    sides = stored.sides;
    cluts = stored.cluts;
    inks =
        subst (λ (inks : List Colour). AreInks new.composition.set_entries inks) (sym keeps.inks)
        (subst (λ (set : List TableEntry). AreInks set old.inks) (sym keeps.set_entries) core.whole.inks);
    ids = stored.ids;
    apart = stored.apart;
  };
  anchored = subst (λ n. n < 2 ^ 34) (sym keeps.anchor) core.anchored;
  timed = subst (λ (last : Option ℕ). IfSome last (λ time. time < 2 ^ 62)) (sym keeps.last) core.timed;
  marked = subst (λ (set : List TableEntry). AreMarked set [] marks) (sym keeps.set_entries) core.marked;
  few = subst (λ (p : Profile). p.nodes < 2 ^ 31) (sym keeps.profile) core.few;
  display =
      subst (λ (p : Profile). IsDisplayOf p new.display) (sym keeps.profile)
      (subst (IsDisplayOf old.profile) (sym keeps.display) core.display);
}

pub stored_whole : (memory : Memory) → IsWholeMemory memory → AreStored memory.composition memory.store
stored_whole memory whole =
    record {
      counted = whole.counted;
      slots = whole.slots;
      sides = whole.sides;
      cluts = whole.cluts;
      ids = whole.ids;
      apart = whole.apart;
    }

-- all but the regions and their pixels stays, where two steps keep the rest of the composition
pub keeps_regions : (old new : Memory) {between : Composition} → new.profile ≡ old.profile
    → new.page ≡ old.page → new.anchor ≡ old.anchor → new.last ≡ old.last → new.known ≡ old.known
    → new.time_out ≡ old.time_out
    → new.display ≡ old.display → KeepsBesideRegions old.composition between
    → KeepsBesideRegions between new.composition → new.inks ≡ old.inks → KeepsButRegions old new
keeps_regions old new profile page anchor last known time_out display first second inks = record {
  profile = profile;
  page = page;
  anchor = anchor;
  last = last;
  known = known;
  time_out = time_out;
  display = display;
  size = second.size ∙ first.size;
  entries = second.entries ∙ first.entries;
  cluts = second.cluts ∙ first.cluts;
  set_entries = second.set_entries ∙ first.set_entries;
  inks = inks;
}

pub keeps_from : (old now new : Memory) → old ≡ now → KeepsButRegions old new → KeepsButRegions now new
keeps_from old now new same keeps = subst (λ (memory : Memory). KeepsButRegions memory new) same keeps
