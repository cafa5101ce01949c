-- The characters that were encoded: those of the glyphs, and that of the glyph in hand.
use Rattle.std.proofs.Common.{◌≡◌, ◌==◌, ◌∙◌, ◌&&◌, ◌||◌, refl, sym, ap, ℕ, Bool, true, false, if◌then◌else◌, List, [], ◌∷◌, ◌++◌, Option, Some, None, is_some, find}
use Rattle.bitmap_font.specs.declared.bounds.BoundingBox.{BoundingBox}
use Rattle.bitmap_font.specs.Font.{GlyphValue, glyph_with}
use Rattle.bitmap_font.specs.Past.{OpenGlyph, Past, characters_of, glyph_from, has}
use Rattle.bitmap_font.specs.Private.Steps.{finished}
use Rattle.bitmap_font.specs.Private.Reader.{encoded_by, has_glyph}

or_assoc : (a b c : Bool) → ((a || b) || c) ≡ (a || (b || c))
or_assoc true b c = refl
or_assoc false b c = refl

or_comm : (a b : Bool) → (a || b) ≡ (b || a)
or_comm true true = refl
or_comm true false = refl
or_comm false true = refl
or_comm false false = refl

pub has-append : (character : ℕ) (xs ys : List ℕ)
    → has character (xs ++ ys) ≡ (has character xs || has character ys)
has-append character [] ys = refl
has-append character (x ∷ xs) ys =
    ap (λ (b : Bool). (x == character) || b) (has-append character xs ys)
    ∙ sym (or_assoc (x == character) (has character xs) (has character ys))

found_first : (test : Bool) (glyph : GlyphValue) (a b : Option GlyphValue) → is_some a ≡ is_some b →
    is_some (if test then Some glyph else a) ≡ (test || is_some b)
found_first true glyph a b e = refl
found_first false glyph a b e = e

has_glyph-cons : (character : ℕ) (glyph : GlyphValue) (glyphs : List GlyphValue) →
    has_glyph character (glyph ∷ glyphs) ≡ ((glyph.character == character) || has_glyph character glyphs)
has_glyph-cons character glyph glyphs =
    found_first (glyph.character == character) glyph (find (λ g. g.character == character) glyphs)
    (find (λ g. g.character == character) glyphs) refl

has_glyph-append : (character : ℕ) (xs ys : List GlyphValue)
    → has_glyph character (xs ++ ys) ≡ (has_glyph character xs || has_glyph character ys)
has_glyph-append character [] ys = refl
has_glyph-append character (x ∷ xs) ys =
    has_glyph-cons character x (xs ++ ys)
    ∙ ap (λ (b : Bool). (x.character == character) || b) (has_glyph-append character xs ys)
    ∙ sym (or_assoc (x.character == character) (has_glyph character xs) (has_glyph character ys))
    ∙ ap (λ (b : Bool). b || has_glyph character ys) (sym (has_glyph-cons character x xs))

-- a whole glyph is kept where it has a character
made : (character : ℕ) (encoding : Option (Option ℕ)) (advance : Option ℕ) (shape : Option BoundingBox)
    (bytes : List ℕ) →
    (is_some encoding && is_some advance && is_some shape) ≡ true
    → has_glyph character (glyph_from encoding advance shape bytes) ≡ has character (characters_of encoding)
made character None advance shape bytes e = absurd (let no : false ≡ true = e in cc)
made character (Some None) advance shape bytes e = refl
made character (Some (Some c)) None shape bytes e = absurd (let no : false ≡ true = e in cc)
made character (Some (Some c)) (Some a) None bytes e = absurd (let no : false ≡ true = e in cc)
made character (Some (Some c)) (Some a) (Some s) bytes e = has_glyph-cons character (glyph_with c a s bytes) []

-- a glyph that ends is one of the glyphs, and no longer in hand
ended : (glyph : OpenGlyph) (glyphs : List GlyphValue) (character : ℕ)
    → (is_some glyph.encoding && is_some glyph.advance && is_some glyph.shape) ≡ true
    → has_glyph character (glyphs ++ finished (Some glyph))
    ≡ (has character (characters_of glyph.encoding) || has_glyph character glyphs)
ended glyph glyphs character whole =
    has_glyph-append character glyphs (finished (Some glyph))
    ∙ ap (λ (b : Bool). has_glyph character glyphs || b)
    (made character glyph.encoding glyph.advance glyph.shape glyph.bytes whole)
    ∙ or_comm (has_glyph character glyphs) (has character (characters_of glyph.encoding))

pub encoded_ended : (glyph : OpenGlyph) (glyphs : List GlyphValue)
    → (is_some glyph.encoding && is_some glyph.advance && is_some glyph.shape) ≡ true
    → encoded_by None (glyphs ++ finished (Some glyph)) ≡ encoded_by (Some glyph) glyphs
encoded_ended glyph glyphs whole = λ i character. ended glyph glyphs character whole i

abbrev with_past : Bool → Option BoundingBox → ℕ → List GlyphValue → (ℕ → Bool) → Past
with_past properties bounds started glyphs is_encoded =
    record {
      properties = properties;
      bounds = bounds;
      started = started;
      glyph = None;
      glyphs = glyphs;
      is_encoded = is_encoded;
    }

-- what is found once a glyph has ended
pub past_ended : (properties : Bool) (bounds : Option BoundingBox) (started : ℕ) (last : Option OpenGlyph)
    (glyph : OpenGlyph) (old new : List GlyphValue) → last ≡ Some glyph
    → (is_some glyph.encoding && is_some glyph.advance && is_some glyph.shape) ≡ true
    → new ≡ old ++ finished (Some glyph)
    → with_past properties bounds started new (encoded_by None new)
    ≡ with_past properties bounds started (old ++ finished last) (encoded_by last old)
past_ended properties bounds started last glyph old new is whole new_is =
    λ i. record {
      properties = properties;
      bounds = bounds;
      started = started;
      glyph = None;
      glyphs = (new_is ∙ ap (λ (open_one : Option OpenGlyph). old ++ finished open_one) (sym is)) i;
      is_encoded =
          (ap (encoded_by None) new_is ∙ encoded_ended glyph old whole
          ∙ ap (λ (open_one : Option OpenGlyph). encoded_by open_one old) (sym is)) i;
    }
