-- The bytes of each kind of segment are what a writer makes of its table, and are a segment with their value.
use Rattle.std.proofs.Common.{◌≡◌, ℕ, ◌+◌, ◌-◌, ◌<◌, Bool, true, false, List, [], ◌∷◌, ◌++◌, All, length, take, map, Option, Some, None, refl, sym, ap, subst, ◌∙◌, append_assoc, arith}
use Rattle.std.specs.List.{flat_map, AllByRecursion}
use Rattle.std.proofs.lemmas.List.Elements.{All-from_get_or, recursion_from_All}
use Rattle.std.proofs.lemmas.List.{take_at}
use Rattle.sub_base.specs.Colour.{shown_of}
use Rattle.stream_syntax.specs.declared.clut.ClutEntry.{ClutEntry}
use Rattle.stream_syntax.specs.declared.display.Window.{Window}
use Rattle.stream_syntax.specs.declared.page.PageEntry.{PageEntry}
use Rattle.stream_syntax.specs.declared.region.Listing.{Listing}
use Rattle.stream_syntax.specs.Fields.{Field, FitsFields}
use Rattle.stream_syntax.specs.Segments.{Page, Region, Clut, Object, Display, SegmentValue, of_page, of_region, of_clut, of_object, of_display, end_of_set, passed_over, page_entry_fields, page_fields, listing_fields, region_fields, coded_entry_fields, clut_fields, in_full, entry_of, object_fields, bytes_fields, padding, is_odd, display_fields, window_fields, window_flag, free_bytes, state_number, depth_number, flag, written_body, written_fields, segment_kind, byte_count, spelled, IsWritable, IsHeadedBy, IsBody, IsSegment, HasShownColours}
use Rattle.segments.specs.Writing.{page_entry_bytes, page_bytes, listing_bytes, region_bytes, clut_entry_bytes, clut_bytes, padding_bytes, object_bytes, window_bytes, display_bytes, body_bytes, frame_bytes, segment_bytes}
use Rattle.segments.proofs.WholeSegments.{byte_count_is}
use Rattle.segments.proofs.Shapes.{AreBytes}
use Rattle.segments.proofs.Writes.{Writes, nothing_written, write_byte, write_free, write_word, write_4_2, write_4_1, write_3_3, write_4, write_flags, write_4_2_1, write_2_2_12, write_r4_12, spelled_is, writes_has}

-- ---- pages

page_entries_written : (entries : List PageEntry) → FitsFields (flat_map page_entry_fields entries)
    → Writes (flat_map page_entry_fields entries) (flat_map page_entry_bytes entries)
page_entries_written [] fits = nothing_written
page_entries_written (entry ∷ entries) fits =
    write_byte entry.region _ _ fits.0
    (write_free _ _
    (write_word entry.x _ _ fits.1.1.0
    (write_word entry.y _ _ fits.1.1.1.0 (page_entries_written entries fits.1.1.1.1))))

page_written : (value : Page) → FitsFields (page_fields value) → Writes (page_fields value) (page_bytes value)
page_written value fits =
    write_byte value.time_out _ _ fits.0
    (write_4_2 value.version (state_number value.state) _ _ fits.1.0 fits.1.1.0
    (page_entries_written value.entries fits.1.1.1.1))

-- ---- regions

listings_written : (listings : List Listing) → FitsFields (flat_map listing_fields listings)
    → Writes (flat_map listing_fields listings) (flat_map listing_bytes listings)
listings_written [] fits = nothing_written
listings_written (listing ∷ listings) fits =
    write_word listing.object _ _ fits.0
    (write_2_2_12 listing.x _ _ fits.1.1.1.0
    (write_r4_12 listing.y _ _ fits.1.1.1.1.1.0 (listings_written listings fits.1.1.1.1.1.1)))

region_written : (value : Region) → FitsFields (region_fields (depth_number value.head.depth) value)
    → Writes (region_fields (depth_number value.head.depth) value) (region_bytes value)
region_written value fits =
    write_byte value.head.region _ _ fits.0 (write_4_1 value.head.version (flag value.head.fill) _ _ fits.1.0 fits.1.1.0
    (write_word value.head.width _ _ fits.1.1.1.1.0 (write_word value.head.height _ _ fits.1.1.1.1.1.0
    (write_3_3 (depth_number value.head.depth) (depth_number value.head.depth) _ _ fits.1.1.1.1.1.1.0
    fits.1.1.1.1.1.1.1.0
    (write_byte value.head.clut _ _ fits.1.1.1.1.1.1.1.1.1.0 (write_byte value.head.code8 _ _ fits.1.1.1.1.1.1.1.1.1.1.0
    (write_4_2 value.head.code4 value.head.code2 _ _ fits.1.1.1.1.1.1.1.1.1.1.1.0 fits.1.1.1.1.1.1.1.1.1.1.1.1.0
    (listings_written value.listings fits.1.1.1.1.1.1.1.1.1.1.1.1.1.1))))))))

-- ---- CLUTs

clut_entries_written : (entries : List ClutEntry) → FitsFields (flat_map coded_entry_fields (map in_full entries))
    → Writes (flat_map coded_entry_fields (map in_full entries)) (flat_map clut_entry_bytes entries)
clut_entries_written [] fits = nothing_written
clut_entries_written (entry ∷ entries) fits =
    write_byte entry.entry _ _ fits.0
    (write_flags (flag entry.two) (flag entry.four) (flag entry.eight) _ _ fits.1.0 fits.1.1.0 fits.1.1.1.0
    (write_byte entry.colour.y _ _ fits.1.1.1.1.1.1.0
    (write_byte entry.colour.cr _ _ fits.1.1.1.1.1.1.1.0
    (write_byte entry.colour.cb _ _ fits.1.1.1.1.1.1.1.1.0 (write_byte entry.colour.t _ _ fits.1.1.1.1.1.1.1.1.1.0
    (clut_entries_written entries fits.1.1.1.1.1.1.1.1.1.1))))))

clut_written : (value : Clut) → FitsFields (clut_fields value.clut value.version (map in_full value.entries))
    → Writes (clut_fields value.clut value.version (map in_full value.entries)) (clut_bytes value)
clut_written value fits =
    write_byte value.clut _ _ fits.0
    (write_4 value.version _ _ fits.1.0 (clut_entries_written value.entries fits.1.1.1))

-- ---- objects

bytes_written : (bytes more : List ℕ) (fields : List Field) → FitsFields (bytes_fields bytes ++ fields)
    → (FitsFields fields → Writes fields more) → Writes (bytes_fields bytes ++ fields) (bytes ++ more)
bytes_written [] more fields fits after = after fits
bytes_written (b ∷ bytes) more fields fits after =
    write_byte b _ _ fits.0 (bytes_written bytes more fields fits.1 after)

padding_written : (padded : Bool) → Writes (padding padded) (padding_bytes padded)
padding_written false = nothing_written
padding_written true = write_byte 0 _ _ (omega arith) nothing_written

object_written : (value : Object) → FitsFields (object_fields (is_odd value) value)
    → Writes (object_fields (is_odd value) value) (object_bytes value)
object_written value fits =
    write_word value.object _ _ fits.0 (write_4_2_1 value.version (flag value.see_through) _ _ fits.1.0 fits.1.1.1.0
    (write_word (length value.top) _ _ fits.1.1.1.1.1.0 (write_word (length value.bottom) _ _ fits.1.1.1.1.1.1.0
    (bytes_written value.top _ (bytes_fields value.bottom ++ padding (is_odd value)) fits.1.1.1.1.1.1.1
    (λ fit. bytes_written value.bottom _ (padding (is_odd value)) fit
    (λ last. padding_written (is_odd value)))))))

-- ---- displays

window_written : (window : Option Window) → FitsFields (window_fields window ++ free_bytes 0)
    → Writes (window_fields window ++ free_bytes 0) (window_bytes window)
window_written None fits = nothing_written
window_written (Some window) fits =
    write_word window.left _ _ fits.0
    (write_word window.right _ _ fits.1.0
    (write_word window.top _ _ fits.1.1.0 (write_word window.bottom _ _ fits.1.1.1.0 nothing_written)))

display_written : (value : Display) → FitsFields (display_fields 0 value)
    → Writes (display_fields 0 value) (display_bytes value)
display_written value fits =
    write_4_1 value.version (window_flag value.window) _ _ fits.0 fits.1.0
    (write_word (value.width - 1) _ _ fits.1.1.1.0
    (write_word (value.height - 1) _ _ fits.1.1.1.1.0 (window_written value.window fits.1.1.1.1.1)))

-- ---- bodies and whole segments

pub body_written : (value : SegmentValue) → FitsFields (written_body value)
    → Writes (written_body value) (body_bytes value)
body_written (of_page value) fits = page_written value fits
body_written (of_region value) fits = region_written value fits
body_written (of_clut value) fits = clut_written value fits
body_written (of_object value) fits = object_written value fits
body_written (of_display value) fits = display_written value fits
body_written end_of_set fits = nothing_written
body_written passed_over fits = nothing_written

-- the length field
pub size_is : (value : SegmentValue) → FitsFields (written_body value)
    → byte_count (written_body value) ≡ length (body_bytes value)
size_is value fits = byte_count_is (written_body value) (body_bytes value) (writes_has _ _ (body_written value fits))

pub segment_written : (page : ℕ) (value : SegmentValue) → FitsFields (written_fields page value)
    → Writes (written_fields page value) (segment_bytes page value)
segment_written page value fits =
    let size = size_is value fits.1.1.1.1 in
    let body = body_written value fits.1.1.1.1 in
    let made =
    write_byte 15 _ _ (omega arith)
    (write_byte (segment_kind value) _ _ fits.1.0
    (write_word page _ _ fits.1.1.0 (write_word (byte_count (written_body value)) _ _ fits.1.1.1.0 body))) in
    subst (λ (n : ℕ). Writes (written_fields page value)
    (frame_bytes (segment_kind value) page n ++ body_bytes value)) size made

pub spelled_as : (page : ℕ) (value : SegmentValue) → FitsFields (written_fields page value)
    → spelled page value ≡ segment_bytes page value
unfolding spelled
spelled_as page value fits =
    spelled_is (written_fields page value) (segment_bytes page value) (segment_written page value fits)

-- ---- what is written is a segment with its value

all_bytes : (bytes : List ℕ) → AreBytes bytes → All (λ (b : ℕ). b < 256) bytes
all_bytes bytes fits = All-from_get_or (λ (b : ℕ). b < 256) bytes 0 (λ i lt. fits i)

shown_again : (entries : List ClutEntry)
    → AllByRecursion (λ (e : ClutEntry). shown_of e.colour ≡ e.colour) entries
    → map entry_of (map in_full entries) ≡ entries
shown_again [] shown = refl
shown_again (entry ∷ entries) shown = rw (shown.0, shown_again entries shown.1) refl

written_is_body : (value : SegmentValue) → HasShownColours value
    → IsBody value (segment_kind value) (written_body value)
written_is_body (of_page value) shown = (refl, refl)
written_is_body (of_region value) shown = (refl, depth_number value.head.depth, refl)
written_is_body (of_clut value) shown = (
  refl,
  map in_full value.entries,
  shown_again value.entries
      (recursion_from_All (λ (e : ClutEntry). shown_of e.colour ≡ e.colour) value.entries shown),
  refl,
)
written_is_body (of_object value) shown = (refl, is_odd value, refl)
written_is_body (of_display value) shown = (refl, 0, refl)
written_is_body end_of_set shown = (refl, 0, refl)
written_is_body passed_over shown = (
  (
    omega arith,
    λ e. absurd (omega arith),
    λ e. absurd (omega arith),
    λ e. absurd (omega arith),
    λ e. absurd
        (omega arith),
    λ e. absurd (omega arith),
    λ e. absurd (omega arith),
  ),
  0,
  refl,
)

pub written_segment : (page : ℕ) (value : SegmentValue) → IsWritable page value
    → IsSegment (spelled page value) value
written_segment page value writable =
    let made = segment_written page value writable.fits in
    let whole : IsSegment (segment_bytes page value) value = record {
      each = all_bytes (segment_bytes page value) made.each;
      kind = segment_kind value;
      page = page;
      body = written_body value;
      is_body = written_is_body value writable.shown;
      fits = writable.fits;
      laid = writes_has (written_fields page value) (segment_bytes page value) made;
      valid = writable.valid;
    } in
    subst (λ (bytes : List ℕ). IsSegment bytes value) (sym (spelled_as page value writable.fits)) whole

-- ---- what the writer appends

pub body_small : (page : ℕ) (value : SegmentValue) → IsWritable page value → length (body_bytes value) < 65536
body_small page value writable = omega (arith, size_is value writable.fits.1.1.1.1, writable.fits.1.1.1.0)

pub appended : (page : ℕ) (value : SegmentValue) (old kept head after new : List ℕ) (kind size : ℕ)
    → IsWritable page value → kept ≡ old → head ≡ frame_bytes kind page size
    → kind ≡ segment_kind value → size ≡ length (body_bytes value)
    → after ≡ kept ++ head → new ≡ after ++ body_bytes value → new ≡ old ++ spelled page value
appended page value old kept head after new kind size writable kept-is head-is kind-is size-is after-is new-is =
    let front : after ≡ old ++ frame_bytes (segment_kind value) page (length (body_bytes value)) =
    after-is ∙ rw (kept-is, head-is, kind-is, size-is) refl in
    new-is ∙ ap (λ (s : List ℕ). s ++ body_bytes value) front
    ∙ append_assoc old (frame_bytes (segment_kind value) page (length (body_bytes value))) (body_bytes value)
    ∙ ap (λ (s : List ℕ). old ++ s) (sym (spelled_as page value writable.fits))

pub spelled_size : (page : ℕ) (value : SegmentValue) → IsWritable page value
    → length (spelled page value) ≡ 6 + byte_count (written_body value)
spelled_size page value writable =
    ap length (spelled_as page value writable.fits) ∙ omega (arith, size_is value writable.fits.1.1.1.1)

pub read_again : (page : ℕ) (value : SegmentValue) (rest : List ℕ) → IsWritable page value
    → IsSegment (take (length (spelled page value)) (spelled page value ++ rest)) value
read_again page value rest writable =
    subst (λ (bytes : List ℕ). IsSegment bytes value)
    (sym (take_at (spelled page value) rest (length (spelled page value)) refl))
    (written_segment page value writable)

pub spelled_head : (page : ℕ) (value : SegmentValue) → IsWritable page value
    → IsHeadedBy (segment_kind value) page (spelled page value)
spelled_head page value writable =
    let small = body_small page value writable in
    let headed : IsHeadedBy (segment_kind value) page (segment_bytes page value) =
    record { kind_is = refl; page_is = omega (arith, writable.fits.1.1.0); size_is = omega (arith, small) } in
    subst (λ (bytes : List ℕ). IsHeadedBy (segment_kind value) page bytes)
    (sym (spelled_as page value writable.fits)) headed
