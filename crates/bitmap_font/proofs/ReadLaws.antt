-- The lines of a font one after the other, up to the first that is wrong or the one that ends it.
use Rattle.std.proofs.Common.{zero, suc, ◌≡◌, ◌∙◌, not, refl, sym, ap, subst, inl, inr, ℕ, ◌+◌, ◌<◌, ◌≤◌, Bool, true, false, if◌then◌else◌, List, [], ◌∷◌, length, take, drop, get_or, Option, Some, None, is_some, IfSome, nat_lt, below_more, arith}
use Rattle.std.specs.Str.Lines.{lines}
use Rattle.std.proofs.Math.ListN.{get_or-map}
use Rattle.std.proofs.lemmas.List.{length-map, length-drop, length-take-le, length-reverse}
use Rattle.bitmap_font.specs.declared.keyword.Keyword.{Keyword}
use Rattle.bitmap_font.specs.declared.keyword.Keyword.TheVariants.{StartFont, FontBoundingBox, StartProperties, EndProperties, StartChar, Encoding, Dwidth, Bbx, Bitmap, EndChar, EndFont, Other}
use Rattle.bitmap_font.specs.declared.bounds.BoundingBox.{BoundingBox}
use Rattle.bitmap_font.specs.declared.reader.Reader.{Reader}
use Rattle.bitmap_font.specs.declared.font_fault.FontKind.{FontKind}
use Rattle.bitmap_font.specs.declared.font_fault.FontKind.TheVariants.{NotBdf, Truncated}
use Rattle.bitmap_font.specs.Font.{GlyphValue, FontValue, font_with}
use Rattle.bitmap_font.specs.Words.{keyword_of}
use Rattle.bitmap_font.specs.Past.{Line, line_of, OpenGlyph, Past, looking_back, counted, box_in, glyphs_in}
use Rattle.bitmap_font.specs.LineFaults.{fault_by, ends_by}
use Rattle.bitmap_font.specs.Reading.{fault_of, ends_font, font_lines, lines_before, line_at, AreValid, ListsFont, IsFont, IsRefusedLine}
use Rattle.bitmap_font.specs.Private.Steps.{first_past, step}
use Rattle.bitmap_font.specs.Private.Reader.{past_of, IsReader}
use Rattle.bitmap_font.proofs.SettingLaws.{earlier-more}
use Rattle.bitmap_font.proofs.StepLaws.{step-law}

-- The past where the font ends.

no_bounds : (bounds : Option BoundingBox) → (if not (is_some bounds) then Some NotBdf else None) ≡ None
    → is_some bounds ≡ true
no_bounds None e = absurd (let bad : Some NotBdf ≡ None = e in cc)
no_bounds (Some b) e = refl

end-in : (properties : Bool) (bounds : Option BoundingBox) (started : ℕ) (glyph : Option OpenGlyph)
    (glyphs : List GlyphValue) (is_encoded : ℕ → Bool) (text : List ℕ) →
    fault_by (record {
      properties = properties;
      bounds = bounds;
      started = started;
      glyph = glyph;
      glyphs = glyphs;
      is_encoded = is_encoded;
    }) (record { keyword = EndFont; text = text }) ≡ None →
    not properties ≡ true →
    (is_some bounds ≡ true)
    × (step (record {
      properties = properties;
      bounds = bounds;
      started = started;
      glyph = glyph;
      glyphs = glyphs;
      is_encoded = is_encoded;
    }) (record { keyword = EndFont; text = text })
    ≡ record {
      properties = properties;
      bounds = bounds;
      started = started;
      glyph = glyph;
      glyphs = glyphs;
      is_encoded = is_encoded;
    })
end-in true bounds started glyph glyphs is_encoded text ok open_end = absurd (let bad : false ≡ true = open_end in cc)
end-in false bounds started None glyphs is_encoded text ok open_end = (no_bounds bounds ok, refl)
end-in false bounds started (Some glyph) glyphs is_encoded text ok open_end =
    absurd (some_glyph (nat_lt 0 glyph.left) ok)
  where
    some_glyph : (t : Bool) → (if t then Some NotBdf else Some NotBdf) ≡ None → ⊥
    some_glyph true e = let bad : Some NotBdf ≡ None = e in cc
    some_glyph false e = let bad : Some NotBdf ≡ None = e in cc

pub end-law : (past : Past) (keyword : Keyword) (text : List ℕ)
    → fault_by past (record { keyword = keyword; text = text }) ≡ None →
    ends_by past (record { keyword = keyword; text = text }) ≡ true →
    (is_some past.bounds ≡ true) × (step past (record { keyword = keyword; text = text }) ≡ past)
end-law past StartFont text ok end = absurd (let bad : false ≡ true = end in cc)
end-law past FontBoundingBox text ok end = absurd (let bad : false ≡ true = end in cc)
end-law past StartProperties text ok end = absurd (let bad : false ≡ true = end in cc)
end-law past EndProperties text ok end = absurd (let bad : false ≡ true = end in cc)
end-law past StartChar text ok end = absurd (let bad : false ≡ true = end in cc)
end-law past Encoding text ok end = absurd (let bad : false ≡ true = end in cc)
end-law past Dwidth text ok end = absurd (let bad : false ≡ true = end in cc)
end-law past Bbx text ok end = absurd (let bad : false ≡ true = end in cc)
end-law past Bitmap text ok end = absurd (let bad : false ≡ true = end in cc)
end-law past EndChar text ok end = absurd (let bad : false ≡ true = end in cc)
end-law past EndFont text ok end =
    end-in past.properties past.bounds past.started past.glyph past.glyphs past.is_encoded text ok end
end-law past Other text ok end = absurd (let bad : false ≡ true = end in cc)

-- Lines one after the other.

pub next-line : (xs : List (List ℕ)) (n : ℕ) (x : List ℕ) (rest : List (List ℕ))
    → drop n xs ≡ x ∷ rest →
    (n < length xs) × (get_or xs n [] ≡ x) × (drop (n + 1) xs ≡ rest)
next-line [] zero x rest e = absurd (let bad : [] ≡ x ∷ rest = e in cc)
next-line [] (suc n) x rest e = absurd (let bad : [] ≡ x ∷ rest = e in cc)
next-line (y ∷ xs) zero x rest e = let e' : y ∷ xs ≡ x ∷ rest = e in (omega arith, cc, cc)
next-line (y ∷ xs) (suc n) x rest e =
    let more = next-line xs n x rest e in
    let step_on : suc n + 1 ≡ suc (n + 1) = omega arith in
    (omega (arith, more.0), more.1, ap (λ (k : ℕ). drop k (y ∷ xs)) step_on ∙ more.2)

pub line_at-lines : (bytes : List ℕ) (n : ℕ)
    → line_at (font_lines bytes) n ≡ line_of (get_or (lines bytes) n [])
line_at-lines bytes n = get_or-map line_of (lines bytes) n []

pub length-font_lines : (bytes : List ℕ) → length (font_lines bytes) ≡ length (lines bytes)
length-font_lines bytes = length-map (lines bytes) line_of

fault-before : (before : List Line) (line : Line) → 0 < length before
    → fault_of before line ≡ fault_by (looking_back before) line
fault-before [] line some = absurd (omega arith)
fault-before (last ∷ earlier) line some = refl

AreValid-more : (all : List Line) (n : ℕ) → n < length all → AreValid all n
    → fault_of (lines_before all n) (line_at all n) ≡ None →
    ends_font (lines_before all n) (line_at all n) ≡ false → AreValid all (n + 1)
AreValid-more all n inside valid now open_end = record {
  there = omega arith;
  valid = below_more (λ k. fault_of (lines_before all k) (line_at all k) ≡ None) n valid.valid now;
  open_end = below_more (λ k. ends_font (lines_before all k) (line_at all k) ≡ false) n valid.open_end open_end;
}

-- The first line.

first_valid : (keyword : Keyword) (text : List ℕ) → keyword ≡ StartFont
    → fault_of [] (record { keyword = keyword; text = text }) ≡ None
first_valid keyword text e = rw e refl

first_open : (keyword : Keyword) (text : List ℕ) → keyword ≡ StartFont
    → ends_font [] (record { keyword = keyword; text = text }) ≡ false
first_open keyword text e = rw e refl

first_in : (keyword : Keyword) (text : List ℕ) → keyword ≡ StartFont
    → first_past ≡ looking_back (record { keyword = keyword; text = text } ∷ [])
first_in keyword text e = rw e refl

first_wrong : (keyword : Keyword) (text : List ℕ) → (keyword ≡ StartFont → ⊥)
    → fault_of [] (record { keyword = keyword; text = text }) ≡ Some NotBdf
first_wrong StartFont text e = absurd (e refl)
first_wrong FontBoundingBox text e = refl
first_wrong StartProperties text e = refl
first_wrong EndProperties text e = refl
first_wrong StartChar text e = refl
first_wrong Encoding text e = refl
first_wrong Dwidth text e = refl
first_wrong Bbx text e = refl
first_wrong Bitmap text e = refl
first_wrong EndChar text e = refl
first_wrong EndFont text e = refl
first_wrong Other text e = refl

-- the first n lines were read
pub record HasRead (bytes : List ℕ) (n : ℕ) (left : List (List ℕ)) (reader : Reader) : Type 0 where
  pub lines_left : left ≡ drop n (lines bytes)
  pub valid : AreValid (font_lines bytes) n
  pub is_reader : IsReader reader
  pub first : n ≡ 0 → past_of reader ≡ first_past
  pub later : 1 ≤ n → past_of reader ≡ looking_back (lines_before (font_lines bytes) n)

pub HasRead-none : (bytes : List ℕ) (reader : Reader) → IsReader reader → past_of reader ≡ first_past
    → HasRead bytes 0 (lines bytes) reader
HasRead-none bytes reader is_reader first = record {
  lines_left = refl;
  valid =
      record {
        there = omega arith;
        valid = λ k below. absurd (omega arith);
        open_end = λ k below. absurd
            (omega arith);
      };
  is_reader = is_reader;
  first = λ _. first;
  later = λ some. absurd (omega arith);
}

lists_font : (seen : List Line) (new : Reader) (font : FontValue) (o : Option BoundingBox) → new.bounds ≡ o
    → new.bounds ≡ box_in seen → is_some new.bounds ≡ true → new.glyphs.items ≡ glyphs_in seen →
    IfSome new.bounds (λ bounds. font ≡ font_with bounds new.glyphs.items) → ListsFont seen font
lists_font seen new font None e same given glyphs is_font =
    absurd (let bad : is_some {T = BoundingBox} None ≡ true = ap is_some (sym e)
    ∙ given in let worse : false ≡ true = bad in cc)
lists_font seen new font (Some b) e same given glyphs is_font = record {
  bounds = b;
  given = sym same ∙ e;
  is_font =
      subst (λ (o : Option BoundingBox). IfSome o (λ bounds. font ≡ font_with bounds new.glyphs.items)) e is_font
      ∙ ap (λ (g : List GlyphValue). font_with b g) glyphs;
}

module _ (bytes : List ℕ) (n : ℕ) (left rest : List (List ℕ)) (text : List ℕ) (reader : Reader)
    (before : HasRead bytes n left reader) (next : left ≡ text ∷ rest) where
  abbrev all : List Line
  all = font_lines bytes

  at : (n < length (lines bytes)) × (get_or (lines bytes) n [] ≡ text) × (drop (n + 1) (lines bytes) ≡ rest)
  at = next-line (lines bytes) n text rest (sym before.lines_left ∙ next)

  pub inside : n < length all
  inside = omega (arith, at.0, length-font_lines bytes)

  this : line_at all n ≡ line_of text
  this = line_at-lines bytes n ∙ ap line_of at.1

  more : lines_before all (n + 1) ≡ line_of text ∷ lines_before all n
  more = earlier-more all n (line_of []) inside ∙ ap (λ (line : Line). line ∷ lines_before all n) this

  some_before : 1 ≤ n → 0 < length (lines_before all n)
  some_before some = omega (arith, length-reverse (take n all), length-take-le n all (omega arith))

  same_fault : (later : 1 ≤ n)
      → fault_of (lines_before all n) (line_at all n) ≡ fault_by (past_of reader) (line_of text)
  same_fault later =
      ap (λ (line : Line). fault_of (lines_before all n) line) this
      ∙ fault-before (lines_before all n) (line_of text) (some_before later)
      ∙ ap (λ (past : Past). fault_by past (line_of text)) (sym (before.later later))

  same_end : (later : 1 ≤ n)
      → ends_font (lines_before all n) (line_at all n) ≡ ends_by (past_of reader) (line_of text)
  same_end later =
      ap (λ (line : Line). ends_font (lines_before all n) line) this
      ∙ ap (λ (past : Past). ends_by past (line_of text)) (sym (before.later later))

  none_before : n ≡ 0 → lines_before all n ≡ []
  none_before none = ap (lines_before all) none

  one : n ≡ 0 → lines_before all (n + 1) ≡ line_of text ∷ []
  one none = more ∙ ap (λ (lines_so_far : List Line). line_of text ∷ lines_so_far) (none_before none)

  -- the first line
  pub HasRead-first : n ≡ 0 → keyword_of text ≡ StartFont → HasRead bytes (n + 1) rest reader
  HasRead-first none keyword = record {
    lines_left = sym at.2;
    valid = AreValid-more all n inside before.valid
        (ap (λ (lines_so_far : List Line). fault_of lines_so_far (line_at all n)) (none_before none)
        ∙ ap (fault_of []) this ∙ first_valid (keyword_of text) text keyword)
        (ap (λ (lines_so_far : List Line). ends_font lines_so_far (line_at all n)) (none_before none)
        ∙ ap (ends_font []) this ∙ first_open (keyword_of text) text keyword);
    is_reader = before.is_reader;
    first = λ no_line. absurd (omega arith);
    later = λ _. before.first none ∙ first_in (keyword_of text) text keyword ∙ ap looking_back (sym (one none));
  }

  -- a later line
  pub HasRead-line : 1 ≤ n → (new : Reader) → IsReader new → fault_by (past_of reader) (line_of text) ≡ None
      → past_of new ≡ step (past_of reader) (line_of text) →
      ends_by (past_of reader) (line_of text) ≡ false → HasRead bytes (n + 1) rest new
  HasRead-line later new is_new ok next_past open_end =
      let was = before.later later in
      let ok_back : fault_by (looking_back (lines_before all n)) (line_of text) ≡ None =
      ap (λ (past : Past). fault_by past (line_of text)) (sym was) ∙ ok in
      record {
        lines_left = sym at.2;
        valid = AreValid-more all n inside before.valid (same_fault later ∙ ok) (same_end later ∙ open_end);
        is_reader = is_new;
        first = λ none. absurd (omega arith);
        later =
            λ _. next_past ∙ ap (λ (past : Past). step past (line_of text)) was
            ∙ sym (step-law (lines_before all n) (line_of text) ok_back) ∙ ap looking_back (sym more);
      }

  -- a later line that is wrong
  pub IsRefused-line : 1 ≤ n → (kind : FontKind) → fault_by (past_of reader) (line_of text) ≡ Some kind
      → IsRefusedLine bytes (n + 1) kind
  IsRefused-line later kind wrong = record {
    before = n;
    number = refl;
    valid = before.valid;
    wrong = inl (inside, same_fault later ∙ wrong);
  }

  -- the first line is wrong
  pub IsRefused-first : n ≡ 0 → (keyword_of text ≡ StartFont → ⊥) → IsRefusedLine bytes (n + 1) NotBdf
  IsRefused-first none keyword = record {
    before = n;
    number = refl;
    valid = before.valid;
    wrong =
        inl (
          inside,
          ap (λ (lines_so_far : List Line). fault_of lines_so_far (line_at all n)) (none_before none)
              ∙ ap (fault_of []) this ∙ first_wrong (keyword_of text) text keyword,
        );
  }

  -- the font ends
  pub IsFont-end : 1 ≤ n → (new : Reader) → IsReader new → fault_by (past_of reader) (line_of text) ≡ None
      → past_of new ≡ step (past_of reader) (line_of text) →
      ends_by (past_of reader) (line_of text) ≡ true → (is_some new.bounds ≡ true)
      × ((font : FontValue) → IfSome new.bounds (λ bounds. font ≡ font_with bounds new.glyphs.items)
      → IsFont bytes font)
  IsFont-end later new is_new ok next_past end =
      let law = end-law (past_of reader) (keyword_of text) text ok end in
      let same : past_of new ≡ looking_back (lines_before all n) = next_past ∙ law.1 ∙ before.later later in
      let bounds : new.bounds ≡ box_in (counted (lines_before all n)) = ap (λ (past : Past). past.bounds) same in
      let given : is_some new.bounds ≡ true =
      ap (λ (past : Past). is_some past.bounds) (next_past ∙ law.1) ∙ law.0 in (
        given,
        λ font is_font. record {
          last = n;
          there = inside;
          before = before.valid;
          valid = same_fault later ∙ ok;
          end = same_end later ∙ end;
          lists =
              lists_font (counted (lines_before all n)) new font new.bounds refl bounds given
              (ap (λ (past : Past). past.glyphs) same) is_font;
        },
      )

-- all lines were read
pub IsRefused-all : (bytes : List ℕ) (n : ℕ) (left : List (List ℕ)) (reader : Reader)
    → HasRead bytes n left reader → left ≡ [] → IsRefusedLine bytes (n + 1) Truncated
IsRefused-all bytes n left reader before none = record {
  before = n;
  number = refl;
  valid = before.valid;
  wrong = inr (whole, refl);
}
  where
    whole : n ≡ length (font_lines bytes)
    whole =
        omega (
          arith,
          length-drop n (lines bytes),
          ap length (sym before.lines_left ∙ none),
          length-font_lines
              bytes,
          before.valid.there,
        )
