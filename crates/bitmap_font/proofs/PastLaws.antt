-- What looking back finds of a glyph with one more line.
use Rattle.std.proofs.Common.{◌≡◌, ◌||◌, refl, ℕ, ◌+◌, ◌-◌, ◌<◌, Bool, true, false, if◌then◌else◌, List, [], ◌∷◌, ◌++◌, Option, Some, None, is_some, nat_lt, arith}
use Rattle.std.specs.Option.{option_map_or}
use Rattle.std.proofs.lemmas.Bool.{ltb-false}
use Rattle.bitmap_font.specs.declared.keyword.Keyword.{Keyword}
use Rattle.bitmap_font.specs.declared.keyword.Keyword.TheVariants.{StartFont, FontBoundingBox, StartProperties, EndProperties, StartChar, Encoding, Dwidth, Bbx, Bitmap, EndChar, EndFont, Other}
use Rattle.bitmap_font.specs.Words.{words}
use Rattle.bitmap_font.specs.Values.{encoding_of, advance_of_words, box_of, bytes_of_row}
use Rattle.bitmap_font.specs.Past.{Line, is, OpenGlyph, Past, open_glyph, has, shape_in, since_bitmap, bytes_in, glyph_width, box_in, glyph_count, in_glyph, glyphs_in, encoded_in, has_bitmap, rows_left}
use Rattle.bitmap_font.specs.LineFaults.{is_known}
use Rattle.bitmap_font.specs.Private.Steps.{with_row, with_encoding, with_advance, with_shape, with_bitmap}

pub none_from : {A : Type 0} (o : Option A) → is_some o ≡ false → o ≡ None
none_from None e = refl
none_from (Some x) e = absurd (let no : true ≡ false = e in cc)

pub second_false : (a b : Bool) → (a || b) ≡ false → b ≡ false
second_false true b e = absurd (let no : true ≡ false = e in cc)
second_false false b e = e

pub first_false : (a b : Bool) → (a || b) ≡ false → a ≡ false
first_false true b e = absurd (let no : true ≡ false = e in cc)
first_false false b e = refl

-- the same past with another glyph in hand
abbrev pub past_with : Bool → List Line → Option OpenGlyph → Past
past_with properties seen glyph = record {
  properties = properties;
  bounds = box_in seen;
  started = glyph_count seen;
  glyph = glyph;
  glyphs = glyphs_in seen;
  is_encoded = λ character. has character (encoded_in seen);
}

left_step : (t : Bool) (h s : ℕ) → (if t then h - (s + 1) else 0) ≡ (if t then h - s else 0) - 1
left_step true h s = omega arith
left_step false h s = omega arith

left_same : (t : Bool) (h s : ℕ) → nat_lt 0 (if t then h - s else 0) ≡ false
    → (if t then h - (s + 1) else 0) ≡ (if t then h - s else 0)
left_same true h s e = omega (arith, ltb-false 0 (h - s) e)
left_same false h s e = refl

no_bitmap : (t : Bool) (h k s r : ℕ) → t ≡ false → (if t then h - s else 0) ≡ (if t then k - r else 0)
no_bitmap t h k s r e = rw e refl

abbrev height_in : List Line → ℕ
height_in glyph = option_map_or (λ shape. shape.height) (shape_in glyph) 0

row_bytes_more : (t : Bool) (bytes row : List ℕ) → t ≡ true
    → (if t then bytes ++ row else bytes) ≡ bytes ++ row
row_bytes_more t bytes row e = rw e refl

row_bytes_same : (t : Bool) (bytes row : List ℕ) → t ≡ false → (if t then bytes ++ row else bytes) ≡ bytes
row_bytes_same t bytes row e = rw e refl

-- a row was added to the glyph in hand
pub draft-row : (glyph : List Line) (keyword : Keyword) (text : List ℕ) → is_known keyword ≡ false
    → nat_lt 0 (rows_left glyph) ≡ true →
    open_glyph (record { keyword = keyword; text = text } ∷ glyph) ≡ with_row text (open_glyph glyph)
draft-row glyph StartFont text plain e = λ i. record (open_glyph glyph) {
  left = left_step (has_bitmap glyph) (height_in glyph) (since_bitmap glyph) i;
  bytes = row_bytes_more (nat_lt 0 (rows_left glyph)) (bytes_in glyph) (bytes_of_row (glyph_width glyph) text) e i;
}
draft-row glyph FontBoundingBox text plain e = absurd (let no : true ≡ false = plain in cc)
draft-row glyph StartProperties text plain e = absurd (let no : true ≡ false = plain in cc)
draft-row glyph EndProperties text plain e = λ i. record (open_glyph glyph) {
  left = left_step (has_bitmap glyph) (height_in glyph) (since_bitmap glyph) i;
  bytes = row_bytes_more (nat_lt 0 (rows_left glyph)) (bytes_in glyph) (bytes_of_row (glyph_width glyph) text) e i;
}
draft-row glyph StartChar text plain e = absurd (let no : true ≡ false = plain in cc)
draft-row glyph Encoding text plain e = absurd (let no : true ≡ false = plain in cc)
draft-row glyph Dwidth text plain e = absurd (let no : true ≡ false = plain in cc)
draft-row glyph Bbx text plain e = absurd (let no : true ≡ false = plain in cc)
draft-row glyph Bitmap text plain e = absurd (let no : true ≡ false = plain in cc)
draft-row glyph EndChar text plain e = absurd (let no : true ≡ false = plain in cc)
draft-row glyph EndFont text plain e = absurd (let no : true ≡ false = plain in cc)
draft-row glyph Other text plain e = λ i. record (open_glyph glyph) {
  left = left_step (has_bitmap glyph) (height_in glyph) (since_bitmap glyph) i;
  bytes = row_bytes_more (nat_lt 0 (rows_left glyph)) (bytes_in glyph) (bytes_of_row (glyph_width glyph) text) e i;
}

-- a line that means nothing to the glyph in hand
pub draft-plain : (glyph : List Line) (keyword : Keyword) (text : List ℕ) → is_known keyword ≡ false
    → nat_lt 0 (rows_left glyph) ≡ false →
    open_glyph (record { keyword = keyword; text = text } ∷ glyph) ≡ open_glyph glyph
draft-plain glyph StartFont text plain e = λ i. record (open_glyph glyph) {
  left = left_same (has_bitmap glyph) (height_in glyph) (since_bitmap glyph) e i;
  bytes = row_bytes_same (nat_lt 0 (rows_left glyph)) (bytes_in glyph) (bytes_of_row (glyph_width glyph) text) e i;
}
draft-plain glyph FontBoundingBox text plain e = absurd (let no : true ≡ false = plain in cc)
draft-plain glyph StartProperties text plain e = absurd (let no : true ≡ false = plain in cc)
draft-plain glyph EndProperties text plain e = λ i. record (open_glyph glyph) {
  left = left_same (has_bitmap glyph) (height_in glyph) (since_bitmap glyph) e i;
  bytes = row_bytes_same (nat_lt 0 (rows_left glyph)) (bytes_in glyph) (bytes_of_row (glyph_width glyph) text) e i;
}
draft-plain glyph StartChar text plain e = absurd (let no : true ≡ false = plain in cc)
draft-plain glyph Encoding text plain e = absurd (let no : true ≡ false = plain in cc)
draft-plain glyph Dwidth text plain e = absurd (let no : true ≡ false = plain in cc)
draft-plain glyph Bbx text plain e = absurd (let no : true ≡ false = plain in cc)
draft-plain glyph Bitmap text plain e = absurd (let no : true ≡ false = plain in cc)
draft-plain glyph EndChar text plain e = absurd (let no : true ≡ false = plain in cc)
draft-plain glyph EndFont text plain e = absurd (let no : true ≡ false = plain in cc)
draft-plain glyph Other text plain e = λ i. record (open_glyph glyph) {
  left = left_same (has_bitmap glyph) (height_in glyph) (since_bitmap glyph) e i;
  bytes = row_bytes_same (nat_lt 0 (rows_left glyph)) (bytes_in glyph) (bytes_of_row (glyph_width glyph) text) e i;
}

pub draft-encoding : (glyph : List Line) (text : List ℕ) → has_bitmap glyph ≡ false
    → nat_lt 0 (rows_left glyph) ≡ false →
    open_glyph (record { keyword = Encoding; text = text } ∷ glyph)
    ≡ with_encoding (encoding_of (words text)) (open_glyph glyph)
draft-encoding glyph text none e = λ i. record (open_glyph glyph) {
  encoding = encoding_of (words text);
  left =
      no_bitmap (has_bitmap glyph) (height_in (record { keyword = Encoding; text = text } ∷ glyph)) (height_in glyph)
      (since_bitmap glyph + 1) (since_bitmap glyph) none i;
  bytes = row_bytes_same (nat_lt 0 (rows_left glyph)) (bytes_in glyph) (bytes_of_row (glyph_width glyph) text) e i;
}

pub draft-dwidth : (glyph : List Line) (text : List ℕ) → has_bitmap glyph ≡ false
    → nat_lt 0 (rows_left glyph) ≡ false →
    open_glyph (record { keyword = Dwidth; text = text } ∷ glyph)
    ≡ with_advance (advance_of_words (words text)) (open_glyph glyph)
draft-dwidth glyph text none e = λ i. record (open_glyph glyph) {
  advance = advance_of_words (words text);
  left =
      no_bitmap (has_bitmap glyph) (height_in (record { keyword = Dwidth; text = text } ∷ glyph)) (height_in glyph)
      (since_bitmap glyph + 1) (since_bitmap glyph) none i;
  bytes = row_bytes_same (nat_lt 0 (rows_left glyph)) (bytes_in glyph) (bytes_of_row (glyph_width glyph) text) e i;
}

pub draft-bbx : (glyph : List Line) (text : List ℕ) → has_bitmap glyph ≡ false
    → nat_lt 0 (rows_left glyph) ≡ false →
    open_glyph (record { keyword = Bbx; text = text } ∷ glyph)
    ≡ with_shape (box_of 0 (words text)) (open_glyph glyph)
draft-bbx glyph text none e = λ i. record (open_glyph glyph) {
  shape = box_of 0 (words text);
  left =
      no_bitmap (has_bitmap glyph) (height_in (record { keyword = Bbx; text = text } ∷ glyph)) (height_in glyph)
      (since_bitmap glyph + 1) (since_bitmap glyph) none i;
  bytes = row_bytes_same (nat_lt 0 (rows_left glyph)) (bytes_in glyph) (bytes_of_row (glyph_width glyph) text) e i;
}

pub draft-bitmap : (glyph : List Line) (text : List ℕ) → nat_lt 0 (rows_left glyph) ≡ false →
    open_glyph (record { keyword = Bitmap; text = text } ∷ glyph) ≡ with_bitmap (open_glyph glyph)
draft-bitmap glyph text e =
    let whole : height_in glyph - 0 ≡ height_in glyph = omega arith in
    λ i. record (open_glyph glyph) {
      bitmap = true;
      left = whole i;
      bytes = row_bytes_same (nat_lt 0 (rows_left glyph)) (bytes_in glyph) (bytes_of_row (glyph_width glyph) text) e i;
    }

-- a glyph in hand was begun
count_positive : (a b : Bool) (inside : Bool) (n : ℕ) → (if a then true else if b then false else inside) ≡ true
    → (inside ≡ true → 0 < n) → 0 < (if a then n + 1 else n)
count_positive true b inside n e h = omega arith
count_positive false true inside n e h = absurd (let no : false ≡ true = e in cc)
count_positive false false inside n e h = h e

pub glyph_count-positive : (seen : List Line) → in_glyph seen ≡ true → 0 < glyph_count seen
glyph_count-positive [] e = absurd (let no : false ≡ true = e in cc)
glyph_count-positive (line ∷ earlier) e =
    count_positive (is StartChar line) (is EndChar line) (in_glyph earlier) (glyph_count earlier) e
    (glyph_count-positive earlier)
