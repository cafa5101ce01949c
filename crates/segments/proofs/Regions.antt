-- Regions: what is read has the table of a region, and what has that table is read.
use Rattle.std.proofs.Common.{◌≡◌, ℕ, zero, suc, ◌+◌, ◌/◌, ◌%◌, ◌<◌, ◌≤◌, List, [], ◌∷◌, length, get_or, drop, Ok, refl, arith}
use Rattle.std.specs.List.{flat_map}
use Rattle.sub_base.specs.declared.depth.Depth.{Depth}
use Rattle.sub_base.specs.declared.depth.Depth.TheVariants.{Two, Four, Eight}
use Rattle.stream_syntax.specs.declared.region.Listing.{Listing}
use Rattle.stream_syntax.specs.Fields.{HasFields, FitsFields}
use Rattle.stream_syntax.specs.PixelCodes.{bits_of}
use Rattle.stream_syntax.specs.Segments.{Region, listing_fields, region_fields, depth_number, flag}
use Rattle.stream_syntax.specs.SegmentTests.{listing_tests}
use Rattle.segments.specs.Contents.{region_listings}
use Rattle.segments.specs.Reading.{region_in, depth_of, tested}
use Rattle.segments.proofs.Checks.{test_passed, test_passes, zero_from, zero_there}
use Rattle.segments.proofs.Bits.{take_byte, put_byte, take_word, put_word}
use Rattle.segments.proofs.Shapes.{AreBytes, AreBytes-drop, fields_bytes, no_bytes, nothing_left, take_4_1, put_4_1, take_3_3, put_3_3, take_4_2, put_4_2, take_2_2_12, put_2_2_12, take_r4_12, put_r4_12, flag_back, flag_there}

-- listings that pass their tests have the table of listings
pub listings_laid : (place : ℕ) (bytes : List ℕ) → AreBytes bytes → tested (listing_tests place bytes) ≡ Ok tt
    → HasFields (flat_map listing_fields (region_listings bytes)) (bits_of bytes)
    × FitsFields (flat_map listing_fields (region_listings bytes))
listings_laid place (a ∷ b ∷ c ∷ d ∷ e ∷ f ∷ rest) fits pass =
    let first = test_passed _ _ _ _ pass in
    let second = test_passed _ _ _ _ first.1 in
    let more = listings_laid (place + 6) rest (λ i. fits (suc (suc (suc (suc (suc (suc i))))))) second.1 in
    let y = put_r4_12 e f (flat_map listing_fields (region_listings rest)) rest (fits 4) (fits 5) more.0 in
    let x = put_2_2_12 c d _ (e ∷ f ∷ rest) (fits 2) (fits 3) (zero_from _ first.0) (zero_from _ second.0) y in (
      put_word a b _ (c ∷ d ∷ e ∷ f ∷ rest) (fits 0) (fits 1)
          x,
      (omega (arith, fits 0, fits 1), (omega arith, (omega arith, (omega arith, (tt, (omega arith, more.1)))))),
    )
listings_laid place [] fits pass = (nothing_left, tt)
listings_laid place (a ∷ []) fits pass = absurd cc
listings_laid place (a ∷ b ∷ []) fits pass = absurd cc
listings_laid place (a ∷ b ∷ c ∷ []) fits pass = absurd cc
listings_laid place (a ∷ b ∷ c ∷ d ∷ []) fits pass = absurd cc
listings_laid place (a ∷ b ∷ c ∷ d ∷ e ∷ []) fits pass = absurd cc

-- listings that have their table pass their tests
pub listings_again : (listings : List Listing) (place : ℕ) (bytes : List ℕ) → AreBytes bytes
    → FitsFields (flat_map listing_fields listings)
    → HasFields (flat_map listing_fields listings) (bits_of bytes) → (region_listings bytes ≡ listings)
    × (tested (listing_tests place bytes) ≡ Ok tt)
listings_again [] place bytes fits fit has = let e = no_bytes bytes has in (rw e refl, rw e refl)
listings_again (first ∷ listings) place (a ∷ b ∷ c ∷ d ∷ e ∷ f ∷ rest) fits fit has =
    let object = take_word first.object a b _ _ fit.0 (fits 0) (fits 1) has in
    let x = take_2_2_12 c d first.x _ _ (fits 2) (fits 3) fit.1.1.1.0 object.1 in
    let y = take_r4_12 e f first.y (flat_map listing_fields listings) rest (fits 4) (fits 5) fit.1.1.1.1.1.0 x.3 in
    let more =
    listings_again listings (place + 6) rest (λ i. fits (suc (suc (suc (suc (suc (suc i))))))) fit.1.1.1.1.1.1 y.1
    in (
      rw (object.0, x.2, y.0, more.0) refl,
      test_passes _ _ _ _ (zero_there _ x.0)
          (test_passes _ _ _ _ (zero_there _ x.1) more.1),
    )
listings_again (first ∷ listings) place [] fits fit has = absurd (omega (arith, fields_bytes _ [] has))
listings_again (first ∷ listings) place (a ∷ []) fits fit has =
    absurd (omega (arith, fields_bytes _ (a ∷ []) has))
listings_again (first ∷ listings) place (a ∷ b ∷ []) fits fit has =
    absurd (omega (arith, fields_bytes _ (a ∷ b ∷ []) has))
listings_again (first ∷ listings) place (a ∷ b ∷ c ∷ []) fits fit has =
    absurd (omega (arith, fields_bytes _ (a ∷ b ∷ c ∷ []) has))
listings_again (first ∷ listings) place (a ∷ b ∷ c ∷ d ∷ []) fits fit has =
    absurd (omega (arith, fields_bytes _ (a ∷ b ∷ c ∷ d ∷ []) has))
listings_again (first ∷ listings) place (a ∷ b ∷ c ∷ d ∷ e ∷ []) fits fit has =
    absurd (omega (arith, fields_bytes _ (a ∷ b ∷ c ∷ d ∷ e ∷ []) has))

-- ---- what stands before the listings

pub depth_there : (n : ℕ) → 1 ≤ n → n < 4 → depth_number (depth_of n) ≡ n
depth_there zero low high = absurd (omega arith)
depth_there (suc zero) low high = refl
depth_there (suc (suc zero)) low high = refl
depth_there (suc (suc (suc zero))) low high = refl
depth_there (suc (suc (suc (suc n)))) low high = absurd (omega arith)

pub depth_back : (depth : Depth) → depth_of (depth_number depth) ≡ depth
depth_back Two = refl
depth_back Four = refl
depth_back Eight = refl

pub depth_range : (depth : Depth) → (1 ≤ depth_number depth) × (depth_number depth < 4)
depth_range Two = (omega arith, omega arith)
depth_range Four = (omega arith, omega arith)
depth_range Eight = (omega arith, omega arith)

pub region_laid : (body : List ℕ) → AreBytes body → 10 ≤ length body → 1 ≤ get_or body 6 0 / 4 % 8
    → get_or body 6 0 / 4 % 8 < 4 → tested (listing_tests 16 (drop 10 body)) ≡ Ok tt
    → HasFields (region_fields (get_or body 6 0 / 32) (region_in body)) (bits_of body)
    × FitsFields (region_fields (get_or body 6 0 / 32) (region_in body))
region_laid (r ∷ flags ∷ w1 ∷ w0 ∷ h1 ∷ h0 ∷ level ∷ clut ∷ code8 ∷ codes ∷ rest) fits long low high
    pass =
    let more =
    listings_laid 16 rest
    (AreBytes-drop 10 (r ∷ flags ∷ w1 ∷ w0 ∷ h1 ∷ h0 ∷ level ∷ clut ∷ code8 ∷ codes ∷ rest)
    fits) pass in
    let p1 = put_4_2 codes (flat_map listing_fields (region_listings rest)) rest (fits 9) more.0 in
    let p2 = put_byte code8 _ (codes ∷ rest) (fits 8) p1 in
    let p3 = put_byte clut _ (code8 ∷ codes ∷ rest) (fits 7) p2 in
    let p4 = put_3_3 level _ (clut ∷ code8 ∷ codes ∷ rest) (fits 6) p3 in
    let p5 = put_word h1 h0 _ (level ∷ clut ∷ code8 ∷ codes ∷ rest) (fits 4) (fits 5) p4 in
    let p6 = put_word w1 w0 _ (h1 ∷ h0 ∷ level ∷ clut ∷ code8 ∷ codes ∷ rest) (fits 2) (fits 3) p5 in
    let p7 = put_4_1 flags _ (w1 ∷ w0 ∷ h1 ∷ h0 ∷ level ∷ clut ∷ code8 ∷ codes ∷ rest) (fits 1) p6 in
    let p8 =
    put_byte r _ (flags ∷ w1 ∷ w0 ∷ h1 ∷ h0 ∷ level ∷ clut ∷ code8 ∷ codes ∷ rest) (fits 0) p7 in
    let fill = flag_there (flags / 8 % 2) (omega arith) in
    let deep = depth_there (level / 4 % 8) low high in
    rw (fill, deep) (
      p8,
      (
        fits
            0,
        (
          omega
              (arith, fits 1),
          (
            omega
                arith,
            (
              tt,
              (
                omega
                    (arith, fits 2, fits 3),
                (
                  omega
                      (arith, fits 4, fits 5),
                  (
                    omega
                        (arith, fits 6),
                    (
                      omega
                          arith,
                      (tt, (fits 7, (fits 8, (omega (arith, fits 9), (omega arith, (tt, more.1)))))),
                    ),
                  ),
                ),
              ),
            ),
          ),
        ),
      ),
    )
region_laid [] fits long low high pass = absurd (omega arith)
region_laid (a ∷ []) fits long low high pass = absurd (omega arith)
region_laid (a ∷ b ∷ []) fits long low high pass = absurd (omega arith)
region_laid (a ∷ b ∷ c ∷ []) fits long low high pass = absurd (omega arith)
region_laid (a ∷ b ∷ c ∷ d ∷ []) fits long low high pass = absurd (omega arith)
region_laid (a ∷ b ∷ c ∷ d ∷ e ∷ []) fits long low high pass = absurd (omega arith)
region_laid (a ∷ b ∷ c ∷ d ∷ e ∷ f ∷ []) fits long low high pass = absurd (omega arith)
region_laid (a ∷ b ∷ c ∷ d ∷ e ∷ f ∷ g ∷ []) fits long low high pass = absurd (omega arith)
region_laid (a ∷ b ∷ c ∷ d ∷ e ∷ f ∷ g ∷ h ∷ []) fits long low high pass = absurd (omega arith)
region_laid (a ∷ b ∷ c ∷ d ∷ e ∷ f ∷ g ∷ h ∷ i ∷ []) fits long low high pass = absurd (omega arith)

pub region_again : (compatibility : ℕ) (value : Region) (body : List ℕ) → AreBytes body
    → FitsFields (region_fields compatibility value)
    → HasFields (region_fields compatibility value) (bits_of body)
    → (region_in body ≡ value) × (10 ≤ length body) × (1 ≤ get_or body 6 0 / 4 % 8)
    × (get_or body 6 0 / 4 % 8 < 4) × (tested (listing_tests 16 (drop 10 body)) ≡ Ok tt)
region_again compatibility value
    (r ∷ flags ∷ w1 ∷ w0 ∷ h1 ∷ h0 ∷ level ∷ clut ∷ code8 ∷ codes ∷ rest) fits fit has =
    let a = take_byte value.head.region r _ _ fit.0 (fits 0) has in
    let b = take_4_1 flags value.head.version (flag value.head.fill) _ _ (fits 1) fit.1.0 fit.1.1.0 a.1 in
    let c = take_word value.head.width w1 w0 _ _ fit.1.1.1.1.0 (fits 2) (fits 3) b.2 in
    let d = take_word value.head.height h1 h0 _ _ fit.1.1.1.1.1.0 (fits 4) (fits 5) c.1 in
    let e =
    take_3_3 level compatibility (depth_number value.head.depth) _ _ (fits 6) fit.1.1.1.1.1.1.0 fit.1.1.1.1.1.1.1.0
    d.1 in
    let f = take_byte value.head.clut clut _ _ fit.1.1.1.1.1.1.1.1.1.0 (fits 7) e.1 in
    let g = take_byte value.head.code8 code8 _ _ fit.1.1.1.1.1.1.1.1.1.1.0 (fits 8) f.1 in
    let h =
    take_4_2 codes value.head.code4 value.head.code2 (flat_map listing_fields value.listings) rest (fits 9)
    fit.1.1.1.1.1.1.1.1.1.1.1.0 fit.1.1.1.1.1.1.1.1.1.1.1.1.0 g.1 in
    let more =
    listings_again value.listings 16 rest
    (AreBytes-drop 10 (r ∷ flags ∷ w1 ∷ w0 ∷ h1 ∷ h0 ∷ level ∷ clut ∷ code8 ∷ codes ∷ rest)
    fits) fit.1.1.1.1.1.1.1.1.1.1.1.1.1.1 h.2 in
    let range = depth_range value.head.depth in (
      rw (a.0, b.0, flag_back _ _ b.1, c.0, d.0, e.0, depth_back value.head.depth, f.0, g.0, h.0, h.1, more.0)
          refl,
      omega arith,
      omega (arith, e.0, range.0),
      omega (arith, e.0, range.1),
      more.1,
    )
region_again compatibility value [] fits fit has = absurd (omega (arith, fields_bytes _ [] has))
region_again compatibility value (a ∷ []) fits fit has = absurd (omega (arith, fields_bytes _ (a ∷ []) has))
region_again compatibility value (a ∷ b ∷ []) fits fit has =
    absurd (omega (arith, fields_bytes _ (a ∷ b ∷ []) has))
region_again compatibility value (a ∷ b ∷ c ∷ []) fits fit has =
    absurd (omega (arith, fields_bytes _ (a ∷ b ∷ c ∷ []) has))
region_again compatibility value (a ∷ b ∷ c ∷ d ∷ []) fits fit has =
    absurd (omega (arith, fields_bytes _ (a ∷ b ∷ c ∷ d ∷ []) has))
region_again compatibility value (a ∷ b ∷ c ∷ d ∷ e ∷ []) fits fit has =
    absurd (omega (arith, fields_bytes _ (a ∷ b ∷ c ∷ d ∷ e ∷ []) has))
region_again compatibility value (a ∷ b ∷ c ∷ d ∷ e ∷ f ∷ []) fits fit has =
    absurd (omega (arith, fields_bytes _ (a ∷ b ∷ c ∷ d ∷ e ∷ f ∷ []) has))
region_again compatibility value (a ∷ b ∷ c ∷ d ∷ e ∷ f ∷ g ∷ []) fits fit has =
    absurd (omega (arith, fields_bytes _ (a ∷ b ∷ c ∷ d ∷ e ∷ f ∷ g ∷ []) has))
region_again compatibility value (a ∷ b ∷ c ∷ d ∷ e ∷ f ∷ g ∷ h ∷ []) fits fit has =
    absurd (omega (arith, fields_bytes _ (a ∷ b ∷ c ∷ d ∷ e ∷ f ∷ g ∷ h ∷ []) has))
region_again compatibility value (a ∷ b ∷ c ∷ d ∷ e ∷ f ∷ g ∷ h ∷ i ∷ []) fits fit has =
    absurd (omega (arith, fields_bytes _ (a ∷ b ∷ c ∷ d ∷ e ∷ f ∷ g ∷ h ∷ i ∷ []) has))
