use Rattle.std.proofs.Common.{◌≡◌, ◌∙◌, ◌<◌, ◌≤◌, ◌+◌, ◌⊎◌, ℕ, length, get_or, refl, inl, inr, ap, subst, arith}
use Rattle.std.proofs.lemmas.List.{length-map}
use Rattle.pixel_store.specs.declared.extent.Extent.{Extent}
use Rattle.pixel_store.specs.Private.Extents.{size_of}
use Rattle.pixel_store.specs.Regions.{Regions, with_region}
use Rattle.pixel_store.specs.Private.Stores.{region_in, regions_in}
use Rattle.pixel_store.proofs.CallLaws.{place_after}
use Rattle.pixel_store.proofs.Placing.{placed_store, placed_view}
use Rattle.pixel_store.proofs.StoreCalls.{places_one}
use Rattle.pixel_store.proofs.store.Store.place.Goals as goal
use Rattle.sub_base.specs.Depth.{pixel_bytes}

pub invariant_of-self : goal.invariant_of-self
invariant_of-self c =
    let inside = c.self.inside in
    let xs = inside.bytes.items in
    let ys = c.clear.new.bytes.items in
    let extents = inside.extents.items in
    let p : Extent =
    record { offset = inside.used; width = c.args.width; height = c.args.height; depth = c.args.depth } in
    let need : c.size-need.result ≡ size_of p = c.size-need.ensures in
    let room : inside.used + size_of p ≤ length xs = omega (arith, need, c.self.invariant.0.within) in
    let zeros : (i : ℕ) → inside.used ≤ i → i < inside.used + size_of p → get_or ys i 0 ≡ 0 =
    λ i after before. c.clear.ensures.inside i after (omega (arith, need, before)) in
    let others : (i : ℕ) → (i < inside.used) ⊎ (inside.used + size_of p ≤ i)
    → get_or ys i 0 ≡ get_or xs i 0 = λ i where_it_is.
    c.clear.ensures.outside i (elim where_it_is [ inl l ↦ inl l | inr r ↦ inr (omega (arith, need, r)) ]) in
    rw (c.push_reserved.ensures.items, need) (
      placed_store xs ys inside.used extents p c.self.invariant.0 c.clear.ensures.length refl room zeros others,
      omega (arith, c.push_reserved.ensures.capacity, c.self.invariant.1),
    )

pub returns-clause-placed : goal.returns-clause-placed
returns-clause-placed c =
    let inside = c.self.inside in
    let xs = inside.bytes.items in
    let ys = c.clear.new.bytes.items in
    let extents = inside.extents.items in
    let p : Extent =
    record { offset = inside.used; width = c.args.width; height = c.args.height; depth = c.args.depth } in
    let need : c.size-need.result ≡ size_of p = c.size-need.ensures in
    let room : inside.used + size_of p ≤ length xs = omega (arith, need, c.self.invariant.0.within) in
    let zeros : (i : ℕ) → inside.used ≤ i → i < inside.used + size_of p → get_or ys i 0 ≡ 0 =
    λ i after before. c.clear.ensures.inside i after (omega (arith, need, before)) in
    let others : (i : ℕ) → (i < inside.used) ⊎ (inside.used + size_of p ≤ i)
    → get_or ys i 0 ≡ get_or xs i 0 = λ i where_it_is.
    c.clear.ensures.outside i (elim where_it_is [ inl l ↦ inl l | inr r ↦ inr (omega (arith, need, r)) ]) in
    let view =
    placed_view xs ys inside.used extents p c.self.invariant.0 c.clear.ensures.length refl room zeros others in
    rw (c.push_reserved.ensures.items, need)
    (view ∙ ap (with_region c.args.width c.args.height c.args.depth) c.self.view_is)

pub returns-clause-slot : goal.returns-clause-slot
returns-clause-slot c =
    let inside = c.self.inside in
    let xs = inside.bytes.items in
    let extents = inside.extents.items in
    let At : Regions → Type 0 = λ s. c.len-2.result ≡ length s.regions in
    let Room : Regions → Type 0 = λ s. pixel_bytes c.args.width c.args.height c.args.depth ≤ s.free in
    let at : At c.args.self.now =
    subst At c.self.view_is (omega (arith, c.len-2.ensures, length-map extents (region_in xs))) in
    let room : Room c.args.self.now = subst Room c.self.view_is (omega (arith, c.size-need.ensures, c.len.ensures)) in
    places_one c.args.width c.args.height c.args.depth c.len-2.result c.args.self.now
    (regions_in c.clear.new.bytes.items (inside.used + c.size-need.result) c.push_reserved.new.self.items) at room
    (returns-clause-placed c)

pub returns-clause-after : goal.returns-clause-after
returns-clause-after c =
    place_after c.args.width c.args.height c.args.depth c.len-2.result c.args.self.now
    (regions_in c.clear.new.bytes.items (c.self.inside.used + c.size-need.result) c.push_reserved.new.self.items)
    (returns-clause-slot c)
