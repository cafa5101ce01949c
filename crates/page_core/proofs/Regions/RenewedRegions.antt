-- The listings of the regions that a set renews, cleared one region after another.
use Rattle.std.proofs.Common.{◌≡◌, ◌∙◌, ℕ, ◌+◌, ◌==◌, ◌<◌, ◌||◌, Bool, true, false, cond, List, [], ◌∷◌, find, filter, length, map, Option, Some, None, option_map, refl, sym, ap, subst, arith}
use Rattle.std.specs.List.{list_any}
use Rattle.std.specs.Option.{option_map_or}
use Rattle.std.proofs.lemmas.Bool.{eqb-true, eq-eqb}
use Rattle.stream_syntax.specs.Segments.{Region, SegmentValue, of_region}
use Rattle.stream_syntax.specs.declared.region.RegionHead.{RegionHead}
use Rattle.decoder_model.specs.Contents.{region_in, where_passes}
use Rattle.decoder_model.specs.Readings.{Content}
use Rattle.pixel_store.specs.Regions.{Regions, region_at}
use Rattle.page_core.specs.Composition.{AreIdsApart, Composition, KeptRegion}
use Rattle.page_core.specs.Composition.{region_in as kept_in}
use Rattle.page_core.specs.Handed.{AreContents}
use Rattle.page_core.specs.Memory.{HasSidesOf}
use Rattle.page_core.specs.Private.RegionSteps.{AreBare, AreStored, KeepsBesideRegions, bare, bare_by, bare_where, changed_at, cleared_where, count_kept, is_renewed, renews, takes_place}
use Rattle.page_core.specs.Private.RegionTests.{head_in, is_new}
use Rattle.page_core.specs.Private.Walks.{IsNextOf, is_region}
use Rattle.page_core.proofs.Regions.RegionLaws.{either_false}
use Rattle.page_core.proofs.Pictures.Finds.{found_all}
use Rattle.page_core.proofs.Regions.RegionIds.{apart_mapped, changed_here, changed_other, found_has, has_id, id_kept}
use Rattle.page_core.proofs.Regions.RegionsStored.{stored_with}

-- whether a region segment takes the place of a head
pub renews_is : (head : RegionHead) (content : Content) (region : Region) → of_region region ≡ content.value
    → renews head content ≡ cond (region.head.region == head.region) (is_new region.head (Some head)) false
renews_is head content region value =
    ap (λ (v : SegmentValue). option_map_or (λ (one : Region). is_new one.head (Some head))
    (where_passes (λ (one : Region). one.head.region == head.region) (region_in v)) false) (sym value)
    ∙ by (region.head.region == head.region)
  where
    by : (hit : Bool)
        → option_map_or (λ (one : Region). is_new one.head (Some head)) (cond hit (Some region) None) false
        ≡ cond hit (is_new region.head (Some head)) false
    by true = refl
    by false = refl

-- two ways to change regions are one, where they are one on the region of an id and on all others
map_others : (f g : KeptRegion → KeptRegion) (id : ℕ) (regions : List KeptRegion)
    → list_any (has_id id) regions ≡ false
    → ((kept : KeptRegion) → (kept.head.region == id) ≡ false → f kept ≡ g kept)
    → map f regions ≡ map g regions
map_others f g id [] none others = refl
map_others f g id (kept ∷ regions) none others =
    let parts =
    either_false (kept.head.region == id) (list_any (has_id id) regions) none in λ i. others kept parts.0 i
    ∷ map_others f g id regions parts.1 others i

pub map_by_id : (f g : KeptRegion → KeptRegion) (id : ℕ) (regions : List KeptRegion) → AreIdsApart regions
    → ((kept : KeptRegion) → (kept.head.region == id) ≡ false → f kept ≡ g kept)
    → ((kept : KeptRegion) → find (λ (kept : KeptRegion). kept.head.region == id) regions ≡ Some kept
    → f kept ≡ g kept) → map f regions ≡ map g regions
map_by_id f g id [] apart others here = refl
map_by_id f g id (kept ∷ regions) apart others here =
    by (kept.head.region == id) refl here (map_by_id f g id regions apart.1 others)
  where
    by : (hit : Bool) → (kept.head.region == id) ≡ hit
        → ((one : KeptRegion) → cond hit (Some kept) (find (has_id id) regions) ≡ Some one → f one ≡ g one)
        → (((one : KeptRegion) → find (has_id id) regions ≡ Some one → f one ≡ g one)
        → map f regions ≡ map g regions) → map f (kept ∷ regions) ≡ map g (kept ∷ regions)
    by true is here rest =
        let same_id = eqb-true kept.head.region id is in
        λ i. here kept refl i
        ∷ map_others f g id regions (ap (λ n. list_any (has_id n) regions) (sym same_id) ∙ apart.0) others i
    by false is here rest = λ i. others kept is i ∷ rest here i

-- ---- one segment

-- a region that a segment renews is known
known_by : (head : RegionHead) (found : Option KeptRegion)
    → takes_place head (option_map (λ (kept : KeptRegion). kept.head) found) ≡ true → (kept : KeptRegion)
    × (found ≡ Some kept)
known_by head None is = absurd (cc)
known_by head (Some kept) is = (kept, refl)

pub stored_cleared : (head : RegionHead) (old new : Composition) (store : Regions)
    → new ≡ cleared_where (takes_place head (head_in old head.region)) head.region old → AreStored old store
    → AreStored new store
stored_cleared head old new store is stored =
    subst (λ (c : Composition). AreStored c store) (sym is) (by (takes_place head (head_in old head.region)) refl)
  where
    by : (renewed : Bool) → takes_place head (head_in old head.region) ≡ renewed
        → AreStored (cleared_where renewed head.region old) store
    by false held = stored
    by true hit =
        let known = known_by head (kept_in old head.region) hit in
        let kept = known.0 in
        stored_with old store stored head.region kept known.1 bare (λ other same. same) (λ other. refl)
        (found_all (λ (kept : KeptRegion). HasSidesOf kept.head (region_at store kept.slot))
        (λ (kept : KeptRegion). kept.head.region == head.region) old.regions kept stored.sides known.1)
        (found_all (λ (kept : KeptRegion). kept.head.clut < 256)
        (λ (kept : KeptRegion). kept.head.region == head.region) old.regions kept stored.cluts known.1)
        (found_all (λ (kept : KeptRegion). kept.head.region < 256)
        (λ (kept : KeptRegion). kept.head.region == head.region) old.regions kept stored.ids known.1)
        (old.free + count_kept (kept_in old head.region))
        (let count : count_kept (kept_in old head.region)
        ≡ length kept.listings = ap count_kept known.1 in omega (arith, count))

pub apart_cleared : (head : RegionHead) (old new : Composition)
    → new ≡ cleared_where (takes_place head (head_in old head.region)) head.region old → AreIdsApart old.regions
    → AreIdsApart new.regions
apart_cleared head old new is apart =
    subst (λ (c : Composition). AreIdsApart c.regions) (sym is) (by (takes_place head (head_in old head.region)))
  where
    by : (renewed : Bool) → AreIdsApart (cleared_where renewed head.region old).regions
    by false = apart
    by true =
        apart_mapped (changed_at head.region bare) (id_kept head.region bare (λ kept same. same)) old.regions apart

pub beside_cleared : (head : RegionHead) (before old new : Composition)
    → new ≡ cleared_where (takes_place head (head_in old head.region)) head.region old
    → KeepsBesideRegions before old → KeepsBesideRegions before new
beside_cleared head before old new is beside =
    subst (KeepsBesideRegions before) (sym is) (by (takes_place head (head_in old head.region)))
  where
    by : (renewed : Bool) → KeepsBesideRegions before (cleared_where renewed head.region old)
    by false = beside
    by true =
        record { size = beside.size; entries = beside.entries; cluts = beside.cluts; set_entries = beside.set_entries }

-- what a set leaves of the regions is what the rest of it leaves behind its first segment
cleared_first : (content : Content) (region : Region) (set : List Content) (old : Composition)
    → of_region region ≡ content.value → AreIdsApart old.regions
    → map (bare_by (content ∷ set)) old.regions
    ≡ map (bare_by set)
    (cleared_where (takes_place region.head (head_in old region.head.region)) region.head.region old).regions
cleared_first content region set old value apart = by (takes_place region.head (head_in old region.head.region)) refl
  where
    other_id : (kept : KeptRegion) → (kept.head.region == region.head.region) ≡ false
        → renews kept.head content ≡ false
    other_id kept other =
        renews_is kept.head content region value
        ∙ ap (λ b. cond b (is_new region.head (Some kept.head)) false)
        (turned_other kept.head.region region.head.region other)
      where
        turned_other : (a b : ℕ) → (a == b) ≡ false → (b == a) ≡ false
        turned_other a b miss = by_case (b == a) refl
          where
            by_case : (hit : Bool) → (b == a) ≡ hit → hit ≡ false
            by_case false is = refl
            by_case true is = absurd (let same = eq-eqb a b (sym (eqb-true b a is)) in cc)

    not_renewed : (kept : KeptRegion) → renews kept.head content ≡ false
        → bare_by (content ∷ set) kept ≡ bare_by set kept
    not_renewed kept held = ap (λ b. bare_where (b || is_renewed set kept.head) kept) held

    here_is : (kept : KeptRegion)
        → find (λ (kept : KeptRegion). kept.head.region == region.head.region) old.regions ≡ Some kept
        → renews kept.head content ≡ takes_place region.head (head_in old region.head.region)
    here_is kept found =
        renews_is kept.head content region value
        ∙ ap (λ b. cond b (is_new region.head (Some kept.head)) false)
        (eq-eqb region.head.region kept.head.region (sym (found_has region.head.region old.regions kept found)))
        ∙ sym (ap (λ (o : Option KeptRegion). takes_place region.head (option_map (λ (k : KeptRegion). k.head) o))
        found)

    stays_bare : (kept : KeptRegion) (b : Bool) → bare kept ≡ bare_where b (bare kept)
    stays_bare kept true = refl
    stays_bare kept false = refl

    by : (renewed : Bool) → takes_place region.head (head_in old region.head.region) ≡ renewed
        → map (bare_by (content ∷ set)) old.regions
        ≡ map (bare_by set) (cleared_where renewed region.head.region old).regions
    by false held =
        map_by_id (bare_by (content ∷ set)) (bare_by set) region.head.region old.regions apart
        (λ kept other. not_renewed kept (other_id kept other))
        (λ kept found. not_renewed kept (here_is kept found ∙ held))
    by true hit =
        map_by_id (bare_by (content ∷ set))
        (λ (kept : KeptRegion). bare_by set (changed_at region.head.region bare kept)) region.head.region
        old.regions apart
        (λ kept other. not_renewed kept (other_id kept other)
        ∙ ap (bare_by set) (sym (changed_other region.head.region kept.head.region bare kept refl other)))
        (λ kept found.
        ap (λ b. bare_where (b || is_renewed set kept.head) kept) (here_is kept found ∙ hit)
        ∙ stays_bare kept (is_renewed set kept.head)
        ∙ ap (bare_by set)
        (sym (changed_here region.head.region bare kept (found_has region.head.region old.regions kept found))))
        ∙ map_twice old.regions
      where
        map_twice : (regions : List KeptRegion)
            → map (λ (kept : KeptRegion). bare_by set (changed_at region.head.region bare kept)) regions
            ≡ map (bare_by set) (map (changed_at region.head.region bare) regions)
        map_twice [] = refl
        map_twice (kept ∷ regions) =
            λ i. bare_by set (changed_at region.head.region bare kept) ∷ map_twice regions i

-- ---- the walk

-- how far the regions of a set are cleared
pub record IsClearing (set : List Content) (old now : Composition) (bytes : List ℕ) : Type 0 where
  pub left : List Content
  pub are : AreContents left bytes
  pub regions : map (bare_by (filter is_region set)) old.regions ≡ map (bare_by (filter is_region left)) now.regions

pub clearing_starts : (set : List Content) (old : Composition) (bytes : List ℕ) → AreContents set bytes
    → IsClearing set old old bytes
clearing_starts set old bytes are = record { left = set; are = are; regions = refl }

pub clearing_goes_on : (set : List Content) (old now new : Composition) (bytes rest : List ℕ) (region : Region)
    → AreIdsApart now.regions
    → ((other : List Content) → AreContents other bytes → IsNextOf is_region other (of_region region) rest)
    → new ≡ cleared_where (takes_place region.head (head_in now region.head.region)) region.head.region now
    → IsClearing set old now bytes → IsClearing set old new rest
clearing_goes_on set old now new bytes rest region apart next is c =
    let n = next c.left c.are in
    record {
      left = n.more;
      are = n.are;
      regions =
          c.regions ∙ ap (λ (contents : List Content). map (bare_by contents) now.regions) n.split
          ∙ cleared_first n.content region (filter is_region n.more) now n.same apart
          ∙ sym (ap (λ (c : Composition). map (bare_by (filter is_region n.more)) c.regions) is);
    }

nothing_left : (regions : List KeptRegion) → map (bare_by []) regions ≡ regions
nothing_left [] = refl
nothing_left (kept ∷ regions) = λ i. kept ∷ nothing_left regions i

pub clearing_ends : (set : List Content) (old now : Composition) (bytes : List ℕ)
    → ((other : List Content) → AreContents other bytes → filter is_region other ≡ [])
    → IsClearing set old now bytes
    → AreBare (filter is_region set) old now
clearing_ends set old now bytes none c =
    sym (c.regions ∙ ap (λ (contents : List Content). map (bare_by contents) now.regions) (none c.left c.are)
    ∙ nothing_left now.regions)
