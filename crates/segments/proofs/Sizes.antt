-- How many bytes segments and their bodies have, and what of their numbers fits.
use Rattle.std.proofs.Common.{◌≡◌, ℕ, ◌+◌, ◌*◌, ◌%◌, ◌<◌, eqb, Bool, true, false, List, [], ◌∷◌, ◌++◌, All, length, Option, Some, None, refl, sym, ap, ◌∙◌, length-append, arith}
use Rattle.std.proofs.lemmas.Bool.{eqb-true, eqb-false}
use Rattle.std.specs.List.{flat_map, AllByRecursion}
use Rattle.std.proofs.lemmas.List.Elements.{All-from_recursion}
use Rattle.stream_syntax.specs.declared.clut.ClutEntry.{ClutEntry}
use Rattle.stream_syntax.specs.declared.display.Window.{Window}
use Rattle.stream_syntax.specs.declared.page.PageEntry.{PageEntry}
use Rattle.stream_syntax.specs.declared.region.Listing.{Listing}
use Rattle.stream_syntax.specs.Fields.{FitsFields}
use Rattle.stream_syntax.specs.Segments.{SegmentValue, of_page, of_region, of_clut, of_object, of_display, end_of_set, passed_over, listing_fields, is_odd, spelled, IsWritable}
use Rattle.segments.specs.Sizes.{window_size, size_of}
use Rattle.segments.specs.Writing.{page_entry_bytes, listing_bytes, clut_entry_bytes, padding_bytes, window_bytes, body_bytes}
use Rattle.segments.proofs.Spellings.{spelled_as}

pub page_entries_size : (entries : List PageEntry) → length (flat_map page_entry_bytes entries) ≡ 6 * length entries
page_entries_size [] = refl
page_entries_size (entry ∷ entries) = omega (arith, page_entries_size entries)

pub listings_size : (listings : List Listing) → length (flat_map listing_bytes listings) ≡ 6 * length listings
listings_size [] = refl
listings_size (listing ∷ listings) = omega (arith, listings_size listings)

pub clut_entries_size : (entries : List ClutEntry) → length (flat_map clut_entry_bytes entries) ≡ 6 * length entries
clut_entries_size [] = refl
clut_entries_size (entry ∷ entries) = omega (arith, clut_entries_size entries)

-- the places of listings that fit
places_fit : (listings : List Listing) → FitsFields (flat_map listing_fields listings)
    → AllByRecursion (λ (l : Listing). l.y < 4096) listings
places_fit [] fits = tt
places_fit (listing ∷ listings) fits = (fits.1.1.1.1.1.0, places_fit listings fits.1.1.1.1.1.1)

pub all_places_fit : (listings : List Listing) → FitsFields (flat_map listing_fields listings)
    → All (λ (l : Listing). l.y < 4096) listings
all_places_fit listings fits = All-from_recursion (λ (l : Listing). l.y < 4096) listings (places_fit listings fits)

-- the byte that makes a length even stands exactly where it is odd
padding_size : (n : ℕ) → length (padding_bytes (eqb (n % 2) 1)) ≡ n % 2
padding_size n = by (eqb (n % 2) 1) refl
  where
    by : (b : Bool) → eqb (n % 2) 1 ≡ b → length (padding_bytes b) ≡ n % 2
    by true e = sym (eqb-true (n % 2) 1 e)
    by false e = let other = eqb-false (n % 2) 1 e in omega (arith, other)

-- the two blocks of an object, and the byte behind them
blocks_size : (top bottom last : List ℕ)
    → length (top ++ (bottom ++ last)) ≡ length top + (length bottom + length last)
blocks_size top bottom last =
    length-append top (bottom ++ last) ∙ ap (λ (n : ℕ). length top + n) (length-append bottom last)

-- a body has the bytes of its segment but those of the head
pub body_size : (value : SegmentValue) → 6 + length (body_bytes value) ≡ size_of value
body_size (of_page value) = omega (arith, page_entries_size value.entries)
body_size (of_region value) = omega (arith, listings_size value.listings)
body_size (of_clut value) = omega (arith, clut_entries_size value.entries)
body_size (of_object value) =
    omega (
      arith,
      blocks_size value.top value.bottom (padding_bytes (is_odd value)),
      padding_size
          (13 + length value.top + length value.bottom),
    )
body_size (of_display value) = omega (arith, by value.window)
  where
    by : (window : Option Window) → length (window_bytes window) ≡ window_size window
    by None = refl
    by (Some window) = refl
body_size end_of_set = refl
body_size passed_over = refl

-- a segment that is written has as many bytes as are counted for its kind
pub written_size : (page : ℕ) (value : SegmentValue) → IsWritable page value
    → length (spelled page value) ≡ size_of value
written_size page value writable = ap length (spelled_as page value writable.fits) ∙ omega (arith, body_size value)
