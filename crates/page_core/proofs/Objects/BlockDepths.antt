-- The blocks of an object's two fields, in strings of up to eight bits, in regions of a depth.
use Rattle.std.proofs.Common.{◌≡◌, ◌∙◌, sym, ap, refl, ℕ, ◌+◌, ◌<◌, Bool, true, false, eqb, List, [], ◌∷◌, length, Option, Some, None, length-append, arith}
use Rattle.std.specs.Option.{option_map, option_or}
use Rattle.std.proofs.lemmas.Bool.Decides.{nat_tests}
use Rattle.sub_base.specs.Depth as depths
use Rattle.sub_base.specs.declared.depth.Depth.{Depth}
use Rattle.sub_base.specs.declared.depth.Depth.TheVariants.{Eight}
use Rattle.stream_syntax.specs.PixelBlocks.{Part, string, table, line_end, IsPart, AreParts, runs_after}
use Rattle.stream_syntax.specs.Segments.{Object}
use Rattle.stream_syntax.specs.declared.region.Listing.{Listing}
use Rattle.decoder_model.specs.Faults.{too_deep_at, too_deep_fault, depth_fault}
use Rattle.decoder_model.specs.Pixels.{bottom_parts, code_by_field}
use Rattle.decoder_model.specs.Readings.{Content}
use Rattle.pixel_store.specs.Regions.{Regions}
use Rattle.block_painting.specs.Writing.{IsWritten}
use Rattle.page_core.specs.Private.Painted.{bottom_bytes, code_by_fields, field_runs}
use Rattle.block_painting.proofs.Depths.{parts_here}
use Rattle.block_painting.proofs.Written.{written_twice}

-- ---- the blocks of two fields

size_of_part : (part : Part) (bytes : List ℕ) → IsPart Eight part bytes → 0 < length bytes
size_of_part (string depth codes) bytes h = omega (arith, ap length h.2)
size_of_part (table kind entries) bytes h = omega (arith, ap length h.1)
size_of_part line_end bytes h = omega (arith, ap length h)

-- the bottom field's block has the sub-blocks of the bottom field, where an empty one stands for the top field's
pub bottom_are : (object : Object) (top bottom : List Part) → AreParts Eight top object.top
    → AreParts Eight bottom object.bottom → AreParts Eight (bottom_parts top bottom) (bottom_bytes object)
bottom_are object top [] tops bottoms =
    let none : eqb (length object.bottom) 0 ≡ true = ap (λ (bytes : List ℕ). eqb (length bytes) 0) bottoms in
    rw none tops
bottom_are object top (part ∷ parts) tops bottoms =
    let long : 0 < length object.bottom =
    omega (arith, ap length bottoms.2, length-append bottoms.0 bottoms.1, size_of_part part bottoms.0 bottoms.3) in
    let some : eqb (length object.bottom) 0 ≡ false = grind (arith, nat_tests) in
    rw some bottoms

-- where the top field has no string that is too deep, those of the bottom field's block are its own
bottom_deep : (depth : Depth) (top bottom : List Part) → too_deep_at depth top ≡ None
    → too_deep_at depth (bottom_parts top bottom) ≡ too_deep_at depth bottom
bottom_deep depth top [] none = none
bottom_deep depth top (part ∷ parts) none = refl

-- ---- the fault of an object in a region of a depth

module _ (depth : Depth) (content : Content) (object : Object) where
  -- that of its top block
  pub top_fault : (place : ℕ) → Some place ≡ too_deep_at depth content.top
      → Some (too_deep_fault 13 place) ≡ depth_fault depth content object
  top_fault place is =
      ap (λ (found : Option ℕ). option_or (option_map (too_deep_fault 13) found)
      (option_map (too_deep_fault (13 + length object.top)) (too_deep_at depth content.bottom))) is

  -- or else that of its bottom block
  pub bottom_fault : (found : Option ℕ) → None ≡ too_deep_at depth content.top
      → found ≡ too_deep_at depth (bottom_parts content.top content.bottom)
      → option_map (too_deep_fault (13 + length object.top)) found ≡ depth_fault depth content object
  bottom_fault found none is =
      ap (option_map (too_deep_fault (13 + length object.top)))
      (is ∙ bottom_deep depth content.top content.bottom (sym none))
      ∙ ap (λ (first : Option ℕ). option_or (option_map (too_deep_fault 13) first)
      (option_map (too_deep_fault (13 + length object.top)) (too_deep_at depth content.bottom))) none

  -- where it has none, neither block has a string that is too deep
  pub no_deep_string : depth_fault depth content object ≡ None
      → (too_deep_at depth content.top ≡ None) × (too_deep_at depth content.bottom ≡ None)
  no_deep_string none = by (too_deep_at depth content.top) (too_deep_at depth content.bottom) none
    where
      by : (one other : Option ℕ)
          → option_or (option_map (too_deep_fault 13) one)
          (option_map (too_deep_fault (13 + length object.top)) other) ≡ None
          → (one ≡ None) × (other ≡ None)
      by None None e = (refl, refl)
      by None (Some place) e = absurd (cc)
      by (Some place) other e = absurd (cc)

  -- and both fields are written, the bottom one last
  pub both_written : (see_through : Bool) (listing : Listing) (slot : ℕ) (old now new : Regions)
      → AreParts Eight content.top object.top → AreParts Eight content.bottom object.bottom
      → depth_fault depth content object ≡ None
      → ((parts : List Part) → AreParts depth parts object.top
      → IsWritten slot (λ x y. code_by_field see_through listing 0 x y (runs_after depth [] parts)) old now)
      → ((parts : List Part) → AreParts depth parts (bottom_bytes object)
      → IsWritten slot (λ x y. code_by_field see_through listing 1 x y (runs_after depth [] parts)) now new)
      → IsWritten slot
      (λ x y. code_by_fields see_through (field_runs depth content.top content.bottom) x y listing) old new
  both_written see_through listing slot old now new tops bottoms none first second =
      let shallow = no_deep_string none in
      let parts = bottom_parts content.top content.bottom in
      written_twice slot
      (λ x y. code_by_field see_through listing 0 x y (runs_after depth [] content.top))
      (λ x y. code_by_field see_through listing 1 x y (runs_after depth [] parts)) old now new
      (first content.top (parts_here depth content.top object.top tops shallow.0))
      (second parts
      (parts_here depth parts (bottom_bytes object) (bottom_are object content.top content.bottom tops bottoms)
      (bottom_deep depth content.top content.bottom shallow.0 ∙ shallow.1)))
