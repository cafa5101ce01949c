-- The listings of a region segment put into a pool, one after another.
use Rattle.std.proofs.Common.{◌≡◌, ◌∙◌, ℕ, ◌+◌, ◌-◌, ◌<◌, ◌≤◌, true, List, [], ◌∷◌, ◌++◌, length, map, take, Some, None, Result, Ok, Err, refl, sym, ap, subst, append_assoc, arith}
use Rattle.std.specs.Prelude.{IfOk, IsErr, ◌↔◌}
use Rattle.std.specs.List.{slice_get}
use Rattle.std.specs.Option.{is_some}
use Rattle.std.proofs.lemmas.List.{get_or-set_same, get_or-set_other, length-set, map-append}
use Rattle.std.proofs.Math.Seq.{take-length}
use Rattle.std.proofs.lemmas.List.Elements.{All-nil, All-cons, All-append, filter_map-append}
use Rattle.stream_syntax.specs.declared.region.Listing.{Listing}
use Rattle.comp_pool.specs.Pool.{PoolOf, list_of, node_count}
use Rattle.comp_pool.specs.Changes.{pushed}
use Rattle.comp_pool.specs.declared.fault.Full.{Full}
use Rattle.comp_pool.specs.declared.node.NodeId.{NodeId}
use Rattle.page_core.specs.Private.Lists.{KeepsBeside}
use Rattle.page_core.specs.Private.Nodes.{AreKind, kept_in, listing_in}
use Rattle.page_core.specs.Private.PoolChanges.{HasListings}
use Rattle.page_core.specs.Private.RegionSteps.{fresh}
use Rattle.page_core.specs.declared.node.Node.{Node}
use Rattle.page_core.specs.declared.node.Node.TheVariants as node
use Rattle.page_core.proofs.Pictures.PagePushes.{take_one}

-- how far the listings are put in
pub record HasSome (l : ℕ) (listings : List Listing) (count : ℕ) (old new : PoolOf Node) : Type 0 where
  pub beside : KeepsBeside l old new
  pub list : l < length new.lists
  pub are : kept_in listing_in (list_of new l) ≡ kept_in listing_in (list_of old l) ++ map fresh (take count listings)
  pub kinds : AreKind listing_in (list_of old l) → AreKind listing_in (list_of new l)
  pub free : new.free + count ≡ old.free

nothing_behind : {X : Type 0} (xs : List X) → xs ++ [] ≡ xs
nothing_behind [] = refl
nothing_behind (x ∷ xs) = ap (λ ys. x ∷ ys) (nothing_behind xs)

pub none_yet : (l : ℕ) (listings : List Listing) (pool : PoolOf Node) → l < length pool.lists
    → HasSome l listings 0 pool pool
none_yet l listings pool list = record {
  beside = record { lists = refl; others = λ k other. refl; count = refl };
  list = list;
  are = sym (nothing_behind (kept_in listing_in (list_of pool l)));
  kinds = λ kinds. kinds;
  free = omega arith;
}

one_more : (l : ℕ) (listings : List Listing) (i : ℕ) (listing : Listing) (name : NodeId)
    (old now new : PoolOf Node) → slice_get listings i ≡ Some listing
    → new ≡ pushed l (name, node.Listing (record { listing = listing; painted = None })) now
    → node_count new ≡ node_count now → 0 < now.free → HasSome l listings i old now
    → HasSome l listings (i + 1) old new
one_more l listings i listing name old now new is put count room has =
    let pair : NodeId × Node = (name, node.Listing (record { listing = listing; painted = None })) in
    let list : list_of new l ≡ list_of now l ++ pair ∷ [] =
    ap (λ (pool : PoolOf Node). list_of pool l) put
    ∙ get_or-set_same now.lists l (list_of now l ++ pair ∷ []) [] has.list in
    let kind : NodeId × Node → Type 0 = λ p. is_some (listing_in p.1) ≡ true in
    let lists : length new.lists ≡ length now.lists =
    ap (λ (pool : PoolOf Node). length pool.lists) put ∙ length-set now.lists l (list_of now l ++ pair ∷ []) in
    let free : new.free ≡ now.free - 1 = ap (λ (pool : PoolOf Node). pool.free) put in
    record {
      beside = record {
        lists = lists ∙ has.beside.lists;
        others =
            λ k other. ap (λ (pool : PoolOf Node). list_of pool k) put
            ∙ get_or-set_other now.lists l k (list_of now l ++ pair ∷ []) [] other ∙ has.beside.others k other;
        count = count ∙ has.beside.count;
      };
      list = omega (arith, lists, has.list);
      are =
          ap (kept_in listing_in) list
          ∙ filter_map-append (λ (p : NodeId × Node). listing_in p.1) (list_of now l) (pair ∷ [])
          ∙ ap (λ found. found ++ fresh listing ∷ []) has.are
          ∙ append_assoc (kept_in listing_in (list_of old l)) (map fresh (take i listings)) (fresh listing ∷ [])
          ∙ ap (λ found. kept_in listing_in (list_of old l) ++ found)
          (sym (map-append fresh (take i listings) (listing ∷ []))
          ∙ ap (map fresh) (sym (take_one listings i listing is)));
      kinds =
          λ kinds. subst (AreKind listing_in) (sym list)
          (All-append kind (list_of now l) (pair ∷ []) (has.kinds kinds) (All-cons kind pair [] refl (All-nil kind)));
      free = omega (arith, free, room, has.free);
    }

-- one more listing is put in, as a node is free
pub pushed_listing : (l : ℕ) (listings : List Listing) (i : ℕ) (listing : Listing) (old now new : PoolOf Node)
    (answer : Result NodeId Full) → slice_get listings i ≡ Some listing → i < length listings
    → length listings ≤ old.free
    → IfOk answer
    (λ name. new ≡ pushed l (name, node.Listing (record { listing = listing; painted = None })) now)
    → IsErr answer ↔ (now.free ≡ 0)
    → node_count new ≡ node_count now → HasSome l listings i old now → HasSome l listings (i + 1) old new
pushed_listing l listings i listing old now new (Ok name) is low room put full count has =
    one_more l listings i listing name old now new is put count (omega (arith, has.free)) has
pushed_listing l listings i listing old now new (Err fault) is low room put full count has =
    absurd (let none : now.free ≡ 0 = full.0 refl in omega (arith, has.free))

-- all are put in
pub all_pushed : (l : ℕ) (listings : List Listing) (count : ℕ) (old new : PoolOf Node)
    → count ≡ length listings → HasSome l listings count old new → HasListings l listings old new
all_pushed l listings count old new all has = record {
  beside = has.beside;
  are =
      has.are ∙ ap (λ (found : List Listing). kept_in listing_in (list_of old l) ++ map fresh found)
      (ap (λ n. take n listings) all ∙ take-length listings);
  kinds = has.kinds;
  free = ap (λ n. new.free + n) (sym all) ∙ has.free;
}
