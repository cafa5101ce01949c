use Rattle.std.proofs.Common.{zero, suc, ◌-◌, subst, inl, inr, length, find, slice_get, if◌then◌else◌, length-append, eq-eqb, ◌≡◌, ◌==◌, ◌∙◌, refl, sym, ap, ℕ, ◌+◌, ◌*◌, ◌<◌, ◌≤◌, min, ℤ, pos, negsuc, neg_ℤ, ◌≤ℤ◌, Bool, true, false, List, [], ◌∷◌, ◌++◌, Option, Some, None, option_map, option_and_then, append_assoc, nat_abs, slice_index, take, get_or, arith}
use Rattle.std.specs.Option.{unwrap_or}
use Rattle.std.proofs.lemmas.Int.{ints}
use Rattle.std.proofs.lemmas.List.FromFn.{map-range_with_len_more, length-map-range_with_len}
use Rattle.std.proofs.lemmas.Bool.Decides.{eqb_tells}
use Rattle.std.proofs.lemmas.List.{take_more}
use Rattle.sub_base.specs.Number.{value_from}
use Rattle.bitmap_font.specs.Font.{GlyphValue, Indexes}
use Rattle.bitmap_font.specs.Words.{value_of, within, capped, number_within}
use Rattle.sub_base.specs.Number.{hex_value}
use Rattle.bitmap_font.specs.Values.{bytes_from, box_of}

value_more : (before : ℕ) (digits : List ℕ) (digit : ℕ)
    → value_from before (digits ++ digit ∷ []) ≡ 10 * value_from before digits + (digit - 48)
value_more before [] digit = refl
value_more before (first ∷ digits) digit = value_more (10 * before + (first - 48)) digits digit

-- the number that the first digits spell, with one digit more
pub value_taken : (text : List ℕ) (i : ℕ) → i < length text
    → value_of (take (i + 1) text) ≡ 10 * value_of (take i text) + (get_or text i 0 - 48)
value_taken text i inside = ap value_of (take_more text i 0 inside) ∙ value_more 0 (take i text) (get_or text i 0)

within_none : (low high z : ℤ) → (low ≤ℤ z → z ≤ℤ high → ⊥) → within low high z ≡ None
within_none low high z outside = grind (arith, ints)

capped_same : (z : ℤ) → negsuc 1999998 ≤ℤ z → z ≤ℤ pos 1999999 → capped z ≡ z
capped_same (pos n) low high = let few : min n 2000000 ≡ n = omega (arith, ints) in ap pos few
capped_same (negsuc n) low high =
    let few : min (n + 1) 2000000 ≡ suc n = omega (arith, ints) in ap (λ (k : ℕ). neg_ℤ (pos k)) few

-- a number that is out of range when capped is out of range
pub capped_outside : (low high : ℤ) (word : Option ℤ) (number : ℤ) → negsuc 1999998 ≤ℤ low
    → high ≤ℤ pos 1999999 → option_map capped word ≡ Some number →
    (low ≤ℤ number → number ≤ℤ high → ⊥) → option_and_then (within low high) word ≡ None
capped_outside low high None number floor top e outside = absurd (let bad : None ≡ Some number = e in cc)
capped_outside low high (Some z) number floor top e outside =
    let is : Some (capped z) ≡ Some number = e in
    let same : capped z ≡ number = cc in
    within_none low high z (λ above below.
    let whole : capped z ≡ z = capped_same z (omega (arith, ints)) (omega (arith, ints)) in
    let this : number ≡ z = sym same ∙ whole in
    outside (rw this above) (rw this below))

pub box_from : (line_words : List (List ℕ)) (least : ℕ) (width height left bottom : ℤ) →
    Some width ≡ number_within line_words 1 (pos least) (pos 256)
    → Some height ≡ number_within line_words 2 (pos least) (pos 256) →
    Some left ≡ number_within line_words 3 (negsuc 255) (pos 256)
    → Some bottom ≡ number_within line_words 4 (negsuc 255) (pos 256) →
    Some (record { width = nat_abs width; height = nat_abs height; left = left; bottom = bottom })
    ≡ box_of least line_words
box_from line_words least width height left bottom w h l b = rw (← w, ← h, ← l, ← b) refl

-- one more byte of a row
pub bytes_from-more : (line : List ℕ) (n high low : ℕ) (bytes old : List ℕ)
    → bytes ≡ old ++ bytes_from line n →
    high ≡ unwrap_or (hex_value (slice_index line (2 * n))) 0
    → low ≡ unwrap_or (hex_value (slice_index line (2 * n + 1))) 0 →
    bytes ++ (high * 16 + low) ∷ [] ≡ old ++ bytes_from line (n + 1)
bytes_from-more line n high low bytes old so_far high_is low_is =
    ap (λ (l : List ℕ). l ++ (high * 16 + low) ∷ []) so_far
    ∙ append_assoc old (bytes_from line n) ((high * 16 + low) ∷ [])
    ∙ ap (λ (h : ℕ). old ++ (bytes_from line n ++ (h * 16 + low) ∷ [])) high_is
    ∙ ap (λ (l : ℕ). old
    ++ (bytes_from line n ++ (unwrap_or (hex_value (slice_index line (2 * n))) 0 * 16 + l) ∷ [])) low_is
    ∙ ap (λ (l : List ℕ). old ++ l) (sym (map-range_with_len_more
    (λ k. unwrap_or (hex_value (slice_index line (2 * k))) 0 * 16
    + unwrap_or (hex_value (slice_index line (2 * k + 1))) 0) 0 n n (omega arith)))

pub nat_abs_between : (z : ℤ) (n m : ℕ) → pos n ≤ℤ z → z ≤ℤ pos m → (n ≤ nat_abs z)
    × (nat_abs z ≤ m)
nat_abs_between (pos k) n m low high = (omega (arith, ints), omega (arith, ints))
nat_abs_between (negsuc k) n m low high = absurd (omega (arith, ints))

find-push : (character : ℕ) (glyphs : List GlyphValue) (glyph : GlyphValue)
    → find (λ g. g.character == character) glyphs ≡ None →
    find (λ g. g.character == character) (glyphs ++ glyph ∷ [])
    ≡ (if glyph.character == character then Some glyph else None)
find-push character [] glyph none = refl
find-push character (first ∷ glyphs) glyph none =
    find-push-by (first.character == character) first character glyphs glyph none (find-push character glyphs glyph)
  where
    find-push-by : (test : Bool) (first : GlyphValue) (character : ℕ) (glyphs : List GlyphValue)
        (glyph : GlyphValue) →
        (if test then Some first else find (λ g. g.character == character) glyphs) ≡ None →
        (find (λ g. g.character == character) glyphs ≡ None
        → find (λ g. g.character == character) (glyphs ++ glyph ∷ [])
        ≡ (if glyph.character == character then Some glyph else None)) →
        (if test then Some first else find (λ g. g.character == character) (glyphs ++ glyph ∷ []))
        ≡ (if glyph.character == character then Some glyph else None)
    find-push-by true first character glyphs glyph none next = absurd (let bad : Some first ≡ None = none in cc)
    find-push-by false first character glyphs glyph none next = next none

find-other : (character : ℕ) (glyphs : List GlyphValue) (glyph : GlyphValue)
    → (glyph.character == character) ≡ false →
    find (λ g. g.character == character) (glyphs ++ glyph ∷ []) ≡ find (λ g. g.character == character) glyphs
find-other character [] glyph other = rw other refl
find-other character (first ∷ glyphs) glyph other =
    ap (λ (rest : Option GlyphValue). if first.character == character then Some first else rest)
    (find-other character glyphs glyph other)

slice_get-append : (glyphs more : List GlyphValue) (place : ℕ) → place < length glyphs
    → slice_get (glyphs ++ more) place ≡ slice_get glyphs place
slice_get-append [] more place inside = absurd (omega arith)
slice_get-append (first ∷ glyphs) more zero inside = refl
slice_get-append (first ∷ glyphs) more (suc place) inside = slice_get-append glyphs more place (omega arith)

slice_get-last : (glyphs : List GlyphValue) (glyph : GlyphValue)
    → slice_get (glyphs ++ glyph ∷ []) (length glyphs) ≡ Some glyph
slice_get-last [] glyph = refl
slice_get-last (first ∷ glyphs) glyph = slice_get-last glyphs glyph

old_place : (glyphs more : List GlyphValue) (place : Option ℕ)
    → ((p : ℕ) → place ≡ Some p → p < length glyphs) →
    option_and_then (slice_get (glyphs ++ more)) place ≡ option_and_then (slice_get glyphs) place
old_place glyphs more None within = refl
old_place glyphs more (Some p) within = slice_get-append glyphs more p (within p refl)

-- one more glyph, and its place
pub Indexes-push : (place_of new_place_of : ℕ → Option ℕ) (glyphs : List GlyphValue) (glyph : GlyphValue)
    → Indexes place_of glyphs →
    find (λ g. g.character == glyph.character) glyphs ≡ None →
    new_place_of glyph.character ≡ Some (length glyphs)
    → ((character : ℕ) → (glyph.character == character) ≡ false
    → new_place_of character ≡ place_of character) →
    Indexes new_place_of (glyphs ++ glyph ∷ [])
Indexes-push place_of new_place_of glyphs glyph indexes none here others = record {
  within = λ character place at. elim (eqb_tells glyph.character character) [
    | inl same ↦
        let this : Some place ≡ Some (length glyphs) = sym at ∙ ap new_place_of (sym same.1) ∙ here in
        let last : place ≡ length glyphs = cc in
        omega (arith, length-append glyphs (glyph ∷ []))
    | inr other ↦
        let before : place < length glyphs = indexes.within character place (sym (others character other.0) ∙ at) in
        omega (arith, length-append glyphs (glyph ∷ []))
  ];
  leads = λ character. elim (eqb_tells glyph.character character) [
    | inl same ↦
        let P : ℕ
        → Type 0 = λ c. option_and_then (slice_get (glyphs ++ glyph ∷ [])) (new_place_of c)
        ≡ find (λ g. g.character == c) (glyphs ++ glyph ∷ []) in
        let self : (glyph.character == glyph.character) ≡ true = eq-eqb glyph.character glyph.character refl in
        subst P same.1 (ap (option_and_then (slice_get (glyphs ++ glyph ∷ []))) here ∙ slice_get-last glyphs glyph
        ∙ sym (find-push glyph.character glyphs glyph none ∙ rw self refl))
    | inr other ↦
        ap (option_and_then (slice_get (glyphs ++ glyph ∷ []))) (others character other.0)
        ∙ old_place glyphs (glyph ∷ []) (place_of character) (λ p at. indexes.within character p at)
        ∙ indexes.leads character
        ∙ sym (find-other character glyphs glyph other.0)
  ];
}

pub row_done : (left row : ℕ) → 0 < left → left * row ≡ (left - 1) * row + row
row_done left row some =
    let k = left - 1 in
    let split : k + 1 ≡ left = omega arith in
    subst (λ (n : ℕ). n * row ≡ k * row + row) split (grind arith)

pub length-bytes_from : (line : List ℕ) (n : ℕ) → length (bytes_from line n) ≡ n
length-bytes_from line n = length-map-range_with_len
    (λ k. unwrap_or (hex_value (slice_index line (2 * k))) 0 * 16
    + unwrap_or (hex_value (slice_index line (2 * k + 1))) 0) 0 n
