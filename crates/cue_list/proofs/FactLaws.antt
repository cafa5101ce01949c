-- What the tests of a valid record say of its values.
use Rattle.std.proofs.Common.{◌≡◌, refl, ℕ, ◌+◌, ◌≤◌, ◌==◌, Bool, true, false, not, ◌&&◌, ◌||◌, nat_lt, nat_le, List, [], ◌∷◌, Option, Some, None, is_some, arith}
use Rattle.std.specs.List.{list_any}
use Rattle.std.proofs.lemmas.Bool.Decides.{nat_tests}
use Rattle.sub_base.specs.Depth.{bits_of, code_count}
use Rattle.sub_base.specs.Number.{is_number}
use Rattle.bitmap_font.specs.Font.{FontValue}
use Rattle.cue_records.specs.declared.limits.TheConstants.{LONGEST_CUE, MOST_DIGITS}
use Rattle.cue_records.specs.declared.row_values.ColourRow.{ColourRow}
use Rattle.cue_records.specs.declared.region.Region.{Region}
use Rattle.cue_records.specs.declared.fault.ScriptKind.{ScriptKind}
use Rattle.cue_records.specs.declared.fault.ScriptKind.TheVariants as faults
use Rattle.cue_records.specs.declared.row_values.PictureHead.{PictureHead}
use Rattle.cue_records.specs.declared.row_values.PlaceRow.{PlaceRow}
use Rattle.cue_records.specs.declared.row_kind.RowKind.{RowKind}
use Rattle.cue_records.specs.CellFaults.{fails, value_of, number_fault, cells_fault}
use Rattle.cue_list.specs.Past.{ScriptPast, is_close, region_with}
use Rattle.cue_list.specs.RowFaults.{fault_with, shape_fault, is_misplaced, is_full, kind_fault, epoch_fault, region_fault, colour_fault, span_fault, placed_fault, place_fault, cue_fault, set_fault, text_fault, glyph_fault, starts_before, lasts_past, is_early, are_too_many, regions_of, head_at}
use Rattle.cue_records.specs.Regions.{lies_on, share_row, has_room_at}
use Rattle.cue_records.specs.Rows.{Row}
use Rattle.cue_list.specs.TextSizes.{text_head, missing_glyph}
use Rattle.cue_records.proofs.TestLaws.{passed, not-wrong, not-false, both-true, both-false}

-- a valid record stands in its place, has room, and its cells and its kind's tests are valid
pub record IsValidRow (font : FontValue) (past : ScriptPast) (kind : RowKind) (number : ℕ) (cells : Row) : Type 0 where
  pub placed : is_misplaced past kind ≡ false
  pub room : is_full past kind ≡ false
  pub cells_right : cells_fault past.origin kind cells ≡ None
  pub content : kind_fault font past kind number cells ≡ None

pub IsValidRow-from : (font : FontValue) (past : ScriptPast) (kind : RowKind) (number : ℕ) (cells : Row)
    → fault_with font past (record { number = number; kind = kind; cells = cells }) ≡ None
    → IsValidRow font past kind number cells
IsValidRow-from font past kind number cells h =
    let shape = passed (shape_fault kind cells) _ h in
    let place = not-wrong (is_misplaced past kind) faults.Order _ shape.1 in
    let full = not-wrong (is_full past kind) faults.TooMany _ place.1 in
    let read = passed (cells_fault past.origin kind cells) _ full.1 in
    record {
      placed = place.0;
      room = full.0;
      cells_right = read.0;
      content = (passed (kind_fault font past kind number cells) [] read.1).0;
    }

-- a valid number lies in its range
pub number-range : (least most : ℕ) (cell : List ℕ) → number_fault least most cell ≡ None
    → (least ≤ value_of cell) × (value_of cell ≤ most)
unfolding number_fault
number-range least most cell h =
    let first =
    not-wrong (not (is_number MOST_DIGITS cell)) faults.Number
    (fails (not (nat_le least (value_of cell) && nat_le (value_of cell) most)) faults.Range ∷ []) h in
    let inside =
    not-false (nat_le least (value_of cell) && nat_le (value_of cell) most)
    (not-wrong (not (nat_le least (value_of cell) && nat_le (value_of cell) most)) faults.Range [] first.1).0 in
    let parts = both-true (nat_le least (value_of cell)) (nat_le (value_of cell) most) inside in
    (least-of parts.0, most-of parts.1)
  where
    least-of : nat_le least (value_of cell) ≡ true → least ≤ value_of cell
    least-of e = grind (arith, nat_tests)

    most-of : nat_le (value_of cell) most ≡ true → value_of cell ≤ most
    most-of e = grind (arith, nat_tests)

-- a valid epoch
pub epoch-valid : (past : ScriptPast) (start : ℕ) → epoch_fault past start ≡ None
    → (starts_before start past.epoch ≡ true) × (lasts_past start past.epoch ≡ false)
    × (past.is_near start ≡ false)
unfolding epoch_fault
epoch-valid past start h =
    let first = not-wrong (not (starts_before start past.epoch)) faults.Order _ h in
    let second = not-wrong (lasts_past start past.epoch) faults.OutsideEpoch _ first.1 in
    let third = not-wrong (past.is_near start) faults.TooClose [] second.1 in
    (not-false _ first.0, second.0, third.0)

-- a valid region
pub region-valid : (past : ScriptPast) (region : Region) → region_fault past region ≡ None
    → (is_some (region_with region.id (regions_of past.epoch)) ≡ false)
    × (lies_on past.width past.height region ≡ true)
    × (list_any (share_row region) (regions_of past.epoch) ≡ false)
unfolding region_fault
region-valid past region h =
    let first = not-wrong (is_some (region_with region.id (regions_of past.epoch))) faults.DoubleRegion _ h in
    let second = not-wrong (not (lies_on past.width past.height region)) faults.RegionOutside _ first.1 in
    let third = not-wrong (list_any (share_row region) (regions_of past.epoch)) faults.RegionsMeet [] second.1 in
    (first.0, not-false _ second.0, third.0)

-- a valid colour
pub colour-valid : (past : ScriptPast) (row : ColourRow) → colour_fault past row ≡ None
    → (nat_lt row.entry (code_count row.depth) ≡ true) × (is_early row.tick past.epoch ≡ false)
    × (past.is_near row.tick ≡ false)
unfolding colour_fault
colour-valid past row h =
    let first = not-wrong (not (nat_lt row.entry (code_count row.depth))) faults.CodeRange _ h in
    let second = not-wrong (is_early row.tick past.epoch) faults.OutsideEpoch _ first.1 in
    let third = not-wrong (past.is_near row.tick) faults.TooClose [] second.1 in
    (not-false _ first.0, second.0, third.0)

-- a valid span
pub record IsValidSpan (past : ScriptPast) (start end : ℕ) : Type 0 where
  pub within : is_early start past.epoch ≡ false
  pub lasts : nat_le end start ≡ false
  pub short : nat_lt (start + LONGEST_CUE) end ≡ false
  pub start_far : past.is_near start ≡ false
  pub end_far : past.is_near end ≡ false
  pub apart : is_close start end ≡ false

pub span-valid : (past : ScriptPast) (start end : ℕ) → span_fault past start end ≡ None → IsValidSpan past start end
unfolding span_fault
span-valid past start end h =
    let first = not-wrong (is_early start past.epoch) faults.OutsideEpoch _ h in
    let second = not-wrong (nat_le end start) faults.EmptySpan _ first.1 in
    let third = not-wrong (nat_lt (start + LONGEST_CUE) end) faults.TooLong _ second.1 in
    let fourth = not-wrong (past.is_near start || past.is_near end || is_close start end) faults.TooClose [] third.1 in
    let apart = both-false (past.is_near start || past.is_near end) (is_close start end) fourth.0 in
    let far = both-false (past.is_near start) (past.is_near end) apart.0 in
    record { within = first.0; lasts = second.0; short = third.0; start_far = far.0; end_far = far.1; apart = apart.1 }

-- a valid place or cue: its region, and its picture's depth and sides
pub record IsValidPlacing (past : ScriptPast) (placing : PlaceRow) (region : Region) (head : PictureHead) : Type 0 where
  pub found : region_with placing.region (regions_of past.epoch) ≡ Some region
  pub inside : has_room_at region placing.x placing.y head ≡ true
  pub shallow : bits_of head.depth ≤ bits_of region.depth
  pub span : IsValidSpan past placing.start placing.end

not-deeper : (a b : ℕ) → nat_lt a b ≡ false → b ≤ a
not-deeper a b h = grind (arith, nat_tests)

placed-valid : (past : ScriptPast) (placing : PlaceRow) (region : Option Region) (head : Option PictureHead)
    → region_with placing.region (regions_of past.epoch) ≡ region → placed_fault past placing region head ≡ None
    → (r : Region) × (h : PictureHead) × (head ≡ Some h) × IsValidPlacing past placing r h
placed-valid past placing None head is h = absurd (let never : Some faults.NoRegion ≡ None = h in cc)
placed-valid past placing (Some region) None is h = absurd (let never : Some faults.NoPicture ≡ None = h in cc)
placed-valid past placing (Some region) (Some head) is h =
    let first = not-wrong (nat_lt (bits_of region.depth) (bits_of head.depth)) faults.CodeRange _ h in
    let second = not-wrong (not (has_room_at region placing.x placing.y head)) faults.CueOutside _ first.1 in
    let third = passed (span_fault past placing.start placing.end) [] second.1 in (
      region,
      head,
      refl,
      record {
        found = is;
        inside = not-false _ second.0;
        shallow = not-deeper _ _ first.0;
        span = span-valid past placing.start placing.end third.0;
      },
    )

pub place-valid : (past : ScriptPast) (placing : PlaceRow) (name : List ℕ) → place_fault past placing name ≡ None
    → (r : Region) × (h : PictureHead) × (head_at past.heads (past.named name) ≡ Some h)
    × IsValidPlacing past placing r h
unfolding place_fault
place-valid past placing name h = placed-valid past placing _ _ refl h

set-valid : (font : FontValue) (past : ScriptPast) (placing : PlaceRow) (ink paper : ℕ) (characters : List ℕ)
    (region : Option Region) → region_with placing.region (regions_of past.epoch) ≡ region
    → set_fault font past placing ink paper characters region ≡ None
    → (r : Region) × IsValidPlacing past placing r (text_head font r.depth characters)
    × (are_too_many past (text_head font r.depth characters) ≡ false)
unfolding text_head
set-valid font past placing ink paper characters None is h =
    absurd (let never : Some faults.NoRegion ≡ None = h in cc)
set-valid font past placing ink paper characters (Some region) is h =
    let head = text_head font region.depth characters in
    let first =
    not-wrong (not (nat_lt ink (code_count region.depth) && nat_lt paper (code_count region.depth))) faults.CodeRange
    (glyph_fault (missing_glyph font characters) ∷ text_fault past placing region head ∷ []) h in
    let second =
    passed (glyph_fault (missing_glyph font characters)) (text_fault past placing region head ∷ []) first.1 in
    let third = passed (text_fault past placing region head) [] second.1 in
    let after_span : List (Option ScriptKind) = fails (are_too_many past head) faults.TooMany ∷ [] in
    let after_inside : List (Option ScriptKind) = span_fault past placing.start placing.end ∷ after_span in
    let outside : Bool =
    nat_lt 1920 head.width || nat_lt 1080 head.height || not (has_room_at region placing.x placing.y head) in
    let wide = not-wrong (head.width == 0) faults.Range (fails outside faults.CueOutside ∷ after_inside) third.0 in
    let inside = not-wrong outside faults.CueOutside after_inside wide.1 in
    let lies =
    not-false (has_room_at region placing.x placing.y head)
    (both-false (nat_lt 1920 head.width || nat_lt 1080 head.height)
    (not (has_room_at region placing.x placing.y head)) inside.0).1 in
    let span = passed (span_fault past placing.start placing.end) after_span inside.1 in
    let few = not-wrong (are_too_many past head) faults.TooMany [] span.1 in
    let same : bits_of head.depth ≤ bits_of region.depth = omega arith in (
      region,
      record {
        found = is;
        inside = lies;
        shallow = same;
        span = span-valid past placing.start placing.end
            span.0;
      },
      few.0,
    )

pub cue-valid : (font : FontValue) (past : ScriptPast) (placing : PlaceRow) (ink paper : ℕ) (characters : List ℕ)
    → cue_fault font past placing ink paper characters ≡ None
    → (r : Region) × IsValidPlacing past placing r (text_head font r.depth characters)
    × (are_too_many past (text_head font r.depth characters) ≡ false)
unfolding cue_fault
cue-valid font past placing ink paper characters h = set-valid font past placing ink paper characters _ refl h
