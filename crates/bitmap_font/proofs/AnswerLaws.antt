-- A font and a fault of the same bytes exclude each other, and there is one of each. The same of texts that are set.
use Rattle.std.proofs.Common.{◌≡◌, ◌≢◌, ◌∙◌, ◌⊎◌, refl, sym, ap, inl, inr, ℕ, ◌+◌, ◌*◌, ◌<◌, Bool, true, false, List, reverse, Option, Some, None, is_some, Result, Ok, Err, IfOk, IfErr, MatchResult, arith}
use Rattle.std.specs.Prelude.{slice_index, IsSome, IsOkUnless, OnOk}
use Rattle.bitmap_font.specs.declared.bounds.BoundingBox.{BoundingBox}
use Rattle.bitmap_font.specs.declared.font_fault.FontFault.{FontFault}
use Rattle.bitmap_font.specs.declared.font_fault.FontFault.TheVariants.{Memory, Refused}
use Rattle.bitmap_font.specs.declared.font_fault.FontKind.{FontKind}
use Rattle.bitmap_font.specs.declared.set_fault.SetFault.{SetFault}
use Rattle.bitmap_font.specs.declared.set_fault.SetFault.TheVariants as sets
use Rattle.bitmap_font.specs.Font.{FontValue, glyph_of}
use Rattle.bitmap_font.specs.Past.{Line, counted, box_in}
use Rattle.bitmap_font.specs.Reading.{fault_of, ends_font, font_lines, lines_before, line_at, AreValid, ListsFont, IsFont, IsRefusedLine}
use Rattle.bitmap_font.specs.Refusal.{IsFontFault, IsFontRefusal, IsSetRefusal}
use Rattle.bitmap_font.specs.Setting.{AllCanBeSet, HasRoom, IsFirstMissing, IsSetFault, widest_line, line_after}

-- of two numbers one is less, or they are the same
apart_or_same : (a b : ℕ) → (a < b) ⊎ ((b < a) ⊎ (a ≡ b))
apart_or_same a b = grind arith

right_or_wrong : (found : Option FontKind) (kind : FontKind) → found ≡ None → found ≡ Some kind → ⊥
right_or_wrong found kind valid wrong = let bad : None ≡ Some kind = sym valid ∙ wrong in cc

open_or_ended : (ended : Bool) → ended ≡ false → ended ≡ true → ⊥
open_or_ended ended is_open is_end = let bad : false ≡ true = sym is_open ∙ is_end in cc

-- no line before is wrong, and none is where the lines have no end
not_before : (all : List Line) (n before : ℕ) (kind : FontKind) → AreValid all n → before < n →
    fault_of (lines_before all before) (line_at all before) ≡ Some kind → ⊥
not_before all n before kind valid less wrong =
    right_or_wrong (fault_of (lines_before all before) (line_at all before)) kind (valid.valid before less) wrong

-- bytes are not both a font and faulty
pub font_or_fault : (bytes : List ℕ) (font : FontValue) (line : ℕ) (kind : FontKind) → IsFont bytes font
    → IsRefusedLine bytes line kind → ⊥
font_or_fault bytes font line kind is bad =
    let all = font_lines bytes in
    elim (apart_or_same is.last bad.before) [
      | inl less ↦ open_or_ended (ends_font (lines_before all is.last) (line_at all is.last))
          (bad.valid.open_end is.last less) is.end
      | inr (inl more) ↦ elim bad.wrong [
        | inl wrong ↦ not_before all is.last bad.before kind is.before more wrong.1
        | inr none ↦ absurd (omega (arith, is.there, none.0))
      ]
      | inr (inr same) ↦ elim bad.wrong [
        | inl wrong ↦ right_or_wrong (fault_of (lines_before all bad.before) (line_at all bad.before)) kind
            (ap (λ (n : ℕ). fault_of (lines_before all n) (line_at all n)) (sym same) ∙ is.valid) wrong.1
        | inr none ↦ absurd (omega (arith, is.there, none.0, same))
      ]
    ]

same_box : (a b : BoundingBox) (found : Option BoundingBox) → found ≡ Some a → found ≡ Some b → a ≡ b
same_box a b found first second = let same : Some a ≡ Some b = sym first ∙ second in cc

same_listed : (one other : List Line) (a b : FontValue) → one ≡ other → ListsFont one a → ListsFont other b
    → a ≡ b
same_listed one other a b same first second =
    let again : box_in one ≡ Some second.bounds = ap box_in same ∙ second.given in
    let bounds = same_box first.bounds second.bounds (box_in one) first.given again in
    cc (first.is_font, second.is_font, bounds, same)

-- bytes are one font
pub one_font : (bytes : List ℕ) (a b : FontValue) → IsFont bytes a → IsFont bytes b → a ≡ b
one_font bytes a b first second =
    let all = font_lines bytes in
    elim (apart_or_same first.last second.last) [
      | inl less ↦ absurd
          (open_or_ended (ends_font (lines_before all first.last) (line_at all first.last))
          (second.before.open_end first.last less) first.end)
      | inr (inl more) ↦ absurd
          (open_or_ended (ends_font (lines_before all second.last) (line_at all second.last))
          (first.before.open_end second.last more) second.end)
      | inr (inr same) ↦ same_listed (counted (lines_before all first.last)) (counted (lines_before all second.last))
          a b
          (ap (λ (n : ℕ). counted (lines_before all n)) same) first.lists second.lists
    ]

same_kind : (a b : FontKind) (found : Option FontKind) → found ≡ Some a → found ≡ Some b → a ≡ b
same_kind a b found first second = let same : Some a ≡ Some b = sym first ∙ second in cc

-- the first faulty line of bytes is one, for one kind of reason
pub one_refusal : (bytes : List ℕ) (line other : ℕ) (a b : FontKind) → IsRefusedLine bytes line a
    → IsRefusedLine bytes other b → (line ≡ other) × (a ≡ b)
one_refusal bytes line other a b first second =
    let all = font_lines bytes in
    elim (apart_or_same first.before second.before) [
      | inl less ↦ absurd (elim first.wrong [
        | inl wrong ↦ not_before all second.before first.before a second.valid less wrong.1
        | inr none ↦ absurd (omega (arith, second.valid.there, none.0))
      ])
      | inr (inl more) ↦ absurd (elim second.wrong [
        | inl wrong ↦ not_before all first.before second.before b first.valid more wrong.1
        | inr none ↦ absurd (omega (arith, first.valid.there, none.0))
      ])
      | inr (inr same) ↦ (
        omega (arith, first.number, second.number),
        elim first.wrong [
          | inl wrong ↦ elim second.wrong [
            | inl again ↦ same_kind a b (fault_of (lines_before all first.before) (line_at all first.before)) wrong.1
                (ap (λ (n : ℕ). fault_of (lines_before all n) (line_at all n)) same ∙ again.1)
            | inr none ↦ absurd (omega (arith, wrong.0, none.0))
          ]
          | inr none ↦ elim second.wrong [
            | inl again ↦ absurd (omega (arith, again.0, none.0))
            | inr also ↦ none.1 ∙ sym also.1
          ]
        ],
      )
    ]

-- What is answered of a file.

pub every_font : (bytes : List ℕ) (result : Result FontValue FontFault) → IfOk result (IsFont bytes)
    → IfErr result (IsFontFault bytes) →
    (font : FontValue) → IsFont bytes font
    → MatchResult result (λ read. read ≡ font) (λ fault. fault ≡ Memory)
every_font bytes (Ok read) found refused font is = one_font bytes read font found is
every_font bytes (Err Memory) found refused font is = refl
every_font bytes (Err (Refused line kind)) found refused font is =
    absurd (font_or_fault bytes font line kind is refused)

pub every_font_fault : (bytes : List ℕ) (result : Result FontValue FontFault) → IfOk result (IsFont bytes)
    → IfErr result (IsFontFault bytes) →
    (fault : FontFault) → IsFontFault bytes fault → fault ≢ Memory → IsFontRefusal fault result
every_font_fault bytes result found refused Memory is other = absurd (other refl)
every_font_fault bytes (Ok read) found refused (Refused line kind) is other =
    font_or_fault bytes read line kind found is
every_font_fault bytes (Err Memory) found refused (Refused line kind) is other = inl refl
every_font_fault bytes (Err (Refused place reason)) found refused (Refused line kind) is other =
    let one = one_refusal bytes place line reason kind refused is in
    inr (cc (one.0, one.1))

-- What is answered of a text.

no_glyph : {A : Type 0} (found : Option A) → IsSome found → found ≡ None → ⊥
no_glyph found some none = let bad : false ≡ true = ap is_some (sym none) ∙ some in cc

missing_or_set : (font : FontValue) (characters : List ℕ) (character : ℕ)
    → IsFirstMissing font characters character → AllCanBeSet font characters → ⊥
missing_or_set font characters character bad all =
    elim (all bad.place bad.within) [
      | inl feed ↦ bad.no_line_feed (sym bad.there ∙ feed)
      | inr some ↦ no_glyph (glyph_of font (slice_index characters bad.place)) some
          (ap (glyph_of font) bad.there ∙ bad.missing)
    ]

missing_before : (font : FontValue) (characters : List ℕ) (a b : ℕ) (first : IsFirstMissing font characters a)
    (second : IsFirstMissing font characters b) →
    first.place < second.place → ⊥
missing_before font characters a b first second less =
    elim (second.before first.place less) [
      | inl feed ↦ first.no_line_feed (sym first.there ∙ feed)
      | inr some ↦ no_glyph (glyph_of font (slice_index characters first.place)) some
          (ap (glyph_of font) first.there ∙ first.missing)
    ]

one_missing : (font : FontValue) (characters : List ℕ) (a b : ℕ) → IsFirstMissing font characters a
    → IsFirstMissing font characters b → a ≡ b
one_missing font characters a b first second =
    elim (apart_or_same first.place second.place) [
      | inl less ↦ absurd (missing_before font characters a b first second less)
      | inr (inl more) ↦ absurd (missing_before font characters b a second first more)
      | inr (inr same) ↦ sym first.there ∙ ap (slice_index characters) same ∙ second.there
    ]

large_or_room : (font : FontValue) (characters : List ℕ) → HasRoom font characters →
    (1920 < widest_line font (reverse characters)) ⊎ (1080 < (line_after (reverse characters) + 1) * font.height)
    → ⊥
large_or_room font characters room (inl wide) = absurd (omega (arith, room.wide.1, wide))
large_or_room font characters room (inr high) = absurd (omega (arith, room.high, high))

-- a text has room and glyphs, or a fault
pub text_or_fault : (font : FontValue) (characters : List ℕ) (fault : SetFault) → HasRoom font characters
    → AllCanBeSet font characters →
    IsSetFault font characters fault → fault ≡ sets.Memory
text_or_fault font characters sets.Memory room all is = refl
text_or_fault font characters (sets.MissingGlyph character) room all is =
    absurd (missing_or_set font characters character is all)
text_or_fault font characters sets.Empty room all is = absurd (omega (arith, room.wide.0, is.1))
text_or_fault font characters sets.TooWide room all is = absurd (large_or_room font characters room is.2)

one_set_fault : (font : FontValue) (characters : List ℕ) (told fault : SetFault) → IsSetFault font characters told
    → IsSetFault font characters fault → fault ≢ sets.Memory →
    (told ≡ sets.Memory) ⊎ (told ≡ fault)
one_set_fault font characters told sets.Memory is also other = absurd (other refl)
one_set_fault font characters sets.Memory fault is also other = inl refl
one_set_fault font characters (sets.MissingGlyph a) (sets.MissingGlyph b) is also other =
    inr (ap (λ (character : ℕ). sets.MissingGlyph character) (one_missing font characters a b is also))
one_set_fault font characters (sets.MissingGlyph a) sets.Empty is also other =
    absurd (missing_or_set font characters a is also.0)
one_set_fault font characters (sets.MissingGlyph a) sets.TooWide is also other =
    absurd (missing_or_set font characters a is also.0)
one_set_fault font characters sets.Empty (sets.MissingGlyph b) is also other =
    absurd (missing_or_set font characters b also is.0)
one_set_fault font characters sets.Empty sets.Empty is also other = inr refl
one_set_fault font characters sets.Empty sets.TooWide is also other = absurd (omega (arith, is.1, also.1))
one_set_fault font characters sets.TooWide (sets.MissingGlyph b) is also other =
    absurd (missing_or_set font characters b also is.0)
one_set_fault font characters sets.TooWide sets.Empty is also other = absurd (omega (arith, is.1, also.1))
one_set_fault font characters sets.TooWide sets.TooWide is also other = inr refl

pub every_text : {T : Type 0} (font : FontValue) (characters : List ℕ) (result : Result T SetFault)
    → IfErr result (IsSetFault font characters) →
    HasRoom font characters → AllCanBeSet font characters → IsOkUnless result sets.Memory
every_text font characters (Ok picture) refused room all = tt
every_text font characters (Err fault) refused room all = text_or_fault font characters fault room all refused

pub every_set_fault : {T : Type 0} (font : FontValue) (characters : List ℕ) (result : Result T SetFault)
    → OnOk result (HasRoom font characters) →
    OnOk result (AllCanBeSet font characters) → IfErr result (IsSetFault font characters) →
    (fault : SetFault) → IsSetFault font characters fault → fault ≢ sets.Memory → IsSetRefusal fault result
every_set_fault font characters (Ok picture) room all refused fault is other =
    absurd (other (text_or_fault font characters fault room all is))
every_set_fault font characters (Err told) room all refused fault is other =
    one_set_fault font characters told fault refused is other
