-- What looking back finds with one more valid line.
use Rattle.std.proofs.Common.{◌≡◌, ◌∙◌, not, refl, ap, ℕ, Bool, true, false, if◌then◌else◌, List, ◌∷◌, Option, Some, None, is_some, nat_lt}
use Rattle.std.proofs.lemmas.Bool.{lt-ltb}
use Rattle.bitmap_font.specs.declared.keyword.Keyword.{Keyword}
use Rattle.bitmap_font.specs.declared.keyword.Keyword.TheVariants.{StartFont, FontBoundingBox, StartProperties, EndProperties, StartChar, Encoding, Dwidth, Bbx, Bitmap, EndChar, EndFont, Other}
use Rattle.bitmap_font.specs.declared.font_fault.FontKind.{FontKind}
use Rattle.bitmap_font.specs.declared.font_fault.FontKind.TheVariants.{NotBdf}
use Rattle.bitmap_font.specs.Words.{words}
use Rattle.bitmap_font.specs.Values.{encoding_of}
use Rattle.bitmap_font.specs.Past.{Line, is, OpenGlyph, Past, open_glyph, has, characters_of, past_among, looking_back, counted, in_properties, in_glyph, this_glyph, glyph_count, encoding_in, advance_in, shape_in, encoded_in, has_bitmap, rows_left}
use Rattle.bitmap_font.specs.LineFaults.{counted_fault, fault_by}
use Rattle.bitmap_font.specs.Private.Steps.{encoded_with, step_counted, step}
use Rattle.bitmap_font.proofs.PastLaws.{past_with, draft-row, draft-plain, draft-encoding, draft-dwidth, draft-bbx, draft-bitmap, glyph_count-positive, second_false, first_false}
use Rattle.bitmap_font.proofs.EncodedLaws.{has-append}

abbrev pub line_with : Keyword → List ℕ → Line
line_with keyword text = record { keyword = keyword; text = text }

-- only STARTPROPERTIES begins properties
abbrev pub later : Keyword → Bool
later StartProperties = true
later _ = false

no_fault : (test : Bool) (f : Option FontKind) → (if test then Some NotBdf else f) ≡ None → test ≡ false
no_fault true f e = absurd (let no : Some NotBdf ≡ None = e in cc)
no_fault false f e = refl

-- the line is one more of the glyph in hand
inside : (seen : List Line) (line : Line) → in_glyph seen ≡ true →
    past_with false seen (if in_glyph seen then Some (open_glyph (line ∷ this_glyph seen)) else None)
    ≡ past_with false seen (Some (open_glyph (line ∷ this_glyph seen)))
inside seen line e =
    ap (λ (test : Bool). past_with false seen (if test then Some (open_glyph (line ∷ this_glyph seen)) else None)) e

-- the past after a line, looking back and by the past before
pub step-among : (seen : List Line) (keyword : Keyword) (text : List ℕ) (b t : Bool) → in_glyph seen ≡ b
    → nat_lt 0 (rows_left (this_glyph seen)) ≡ t →
    counted_fault (past_among false seen) (line_with keyword text) ≡ None →
    past_among (later keyword) (line_with keyword text ∷ seen)
    ≡ step_counted (past_among false seen) (line_with keyword text)
step-among seen StartFont text false t e et ok = rw e refl
step-among seen StartFont text true true e et ok =
    inside seen (record { keyword = StartFont; text = text }) e
    ∙ ap (λ (draft : OpenGlyph). past_with false seen (Some draft))
    (draft-row (this_glyph seen) StartFont text refl et)
    ∙ rw (e, et) refl
step-among seen StartFont text true false e et ok =
    inside seen (record { keyword = StartFont; text = text }) e
    ∙ ap (λ (draft : OpenGlyph). past_with false seen (Some draft))
    (draft-plain (this_glyph seen) StartFont text refl et)
    ∙ rw (e, et) refl
step-among seen FontBoundingBox text false t e et ok = rw e refl
step-among seen FontBoundingBox text true true e et ok = absurd (let no = rw (e, et) at ok in cc)
step-among seen FontBoundingBox text true false e et ok =
    let begun = lt-ltb 0 (glyph_count seen) (glyph_count-positive seen e) in
    let no =
    second_false (is_some (past_among false seen).bounds) (nat_lt 0 (glyph_count seen))
    (no_fault _ _ (rw (e, et) at ok)) in
    absurd (cc (begun, no))
step-among seen StartProperties text false t e et ok = rw e refl
step-among seen StartProperties text true true e et ok = absurd (let no = rw (e, et) at ok in cc)
step-among seen StartProperties text true false e et ok = absurd (let no = rw (e, et) at ok in cc)
step-among seen EndProperties text false t e et ok = rw e refl
step-among seen EndProperties text true true e et ok =
    inside seen (record { keyword = EndProperties; text = text }) e
    ∙ ap (λ (draft : OpenGlyph). past_with false seen (Some draft))
    (draft-row (this_glyph seen) EndProperties text refl et)
    ∙ rw (e, et) refl
step-among seen EndProperties text true false e et ok =
    inside seen (record { keyword = EndProperties; text = text }) e
    ∙ ap (λ (draft : OpenGlyph). past_with false seen (Some draft))
    (draft-plain (this_glyph seen) EndProperties text refl et)
    ∙ rw (e, et) refl
step-among seen StartChar text false t e et ok = rw e refl
step-among seen StartChar text true true e et ok = absurd (let no = rw (e, et) at ok in cc)
step-among seen StartChar text true false e et ok = absurd (let no = rw (e, et) at ok in cc)
step-among seen Encoding text false t e et ok = absurd (let no = rw e at ok in cc)
step-among seen Encoding text true true e et ok = absurd (let no = rw (e, et) at ok in cc)
step-among seen Encoding text true false e et ok =
    let none =
    first_false (has_bitmap (this_glyph seen)) (is_some (encoding_in (this_glyph seen)))
    (no_fault _ _ (rw (e, et) at ok)) in
    let encoded : ℕ → Bool =
    encoded_with (encoding_of (words text)) (λ character. has character (encoded_in seen)) in
    (λ i. record (past_among false (line_with Encoding text ∷ seen)) {
      is_encoded = λ character. has-append
          character (characters_of (encoding_of (words text))) (encoded_in seen) i;
    })
    ∙ ap (λ (past : Past). record past { is_encoded = encoded })
    (inside seen (line_with Encoding text) e
    ∙ ap (λ (draft : OpenGlyph). past_with false seen (Some draft)) (draft-encoding (this_glyph seen) text none et))
    ∙ rw (e, et) refl
step-among seen Dwidth text false t e et ok = absurd (let no = rw e at ok in cc)
step-among seen Dwidth text true true e et ok = absurd (let no = rw (e, et) at ok in cc)
step-among seen Dwidth text true false e et ok =
    let none =
    first_false (has_bitmap (this_glyph seen)) (is_some (advance_in (this_glyph seen)))
    (no_fault _ _ (rw (e, et) at ok)) in
    inside seen (record { keyword = Dwidth; text = text }) e
    ∙ ap (λ (draft : OpenGlyph). past_with false seen (Some draft)) (draft-dwidth (this_glyph seen) text none et)
    ∙ rw (e, et) refl
step-among seen Bbx text false t e et ok = absurd (let no = rw e at ok in cc)
step-among seen Bbx text true true e et ok = absurd (let no = rw (e, et) at ok in cc)
step-among seen Bbx text true false e et ok =
    let none =
    first_false (has_bitmap (this_glyph seen)) (is_some (shape_in (this_glyph seen)))
    (no_fault _ _ (rw (e, et) at ok)) in
    inside seen (record { keyword = Bbx; text = text }) e
    ∙ ap (λ (draft : OpenGlyph). past_with false seen (Some draft)) (draft-bbx (this_glyph seen) text none et)
    ∙ rw (e, et) refl
step-among seen Bitmap text false t e et ok = absurd (let no = rw e at ok in cc)
step-among seen Bitmap text true true e et ok = absurd (let no = rw (e, et) at ok in cc)
step-among seen Bitmap text true false e et ok =
    inside seen (record { keyword = Bitmap; text = text }) e
    ∙ ap (λ (draft : OpenGlyph). past_with false seen (Some draft)) (draft-bitmap (this_glyph seen) text et)
    ∙ rw (e, et) refl
step-among seen EndChar text false t e et ok = absurd (let no = rw e at ok in cc)
step-among seen EndChar text true true e et ok = absurd (let no = rw (e, et) at ok in cc)
step-among seen EndChar text true false e et ok = rw (e, et) refl
step-among seen EndFont text false t e et ok = rw e refl
step-among seen EndFont text true true e et ok = absurd (let no = rw (e, et) at ok in cc)
step-among seen EndFont text true false e et ok = absurd (let no = rw (e, et) at ok in cc)
step-among seen Other text false t e et ok = rw e refl
step-among seen Other text true true e et ok =
    inside seen (record { keyword = Other; text = text }) e
    ∙ ap (λ (draft : OpenGlyph). past_with false seen (Some draft)) (draft-row (this_glyph seen) Other text refl et)
    ∙ rw (e, et) refl
step-among seen Other text true false e et ok =
    inside seen (record { keyword = Other; text = text }) e
    ∙ ap (λ (draft : OpenGlyph). past_with false seen (Some draft))
    (draft-plain (this_glyph seen) Other text refl et)
    ∙ rw (e, et) refl

-- among properties
passed_over : (keyword : Keyword) (text : List ℕ) →
    (if is StartProperties (line_with keyword text) then true else if is EndProperties (line_with keyword text)
    then false else true)
    ≡ not (is EndProperties (line_with keyword text))
passed_over StartFont text = refl
passed_over FontBoundingBox text = refl
passed_over StartProperties text = refl
passed_over EndProperties text = refl
passed_over StartChar text = refl
passed_over Encoding text = refl
passed_over Dwidth text = refl
passed_over Bbx text = refl
passed_over Bitmap text = refl
passed_over EndChar text = refl
passed_over EndFont text = refl
passed_over Other text = refl

begun_now : (keyword : Keyword) (text : List ℕ) →
    (if is StartProperties (line_with keyword text) then true else if is EndProperties (line_with keyword text)
    then false else false) ≡ later keyword
begun_now StartFont text = refl
begun_now FontBoundingBox text = refl
begun_now StartProperties text = refl
begun_now EndProperties text = refl
begun_now StartChar text = refl
begun_now Encoding text = refl
begun_now Dwidth text = refl
begun_now Bbx text = refl
begun_now Bitmap text = refl
begun_now EndChar text = refl
begun_now EndFont text = refl
begun_now Other text = refl

step-by : (before : List Line) (keyword : Keyword) (text : List ℕ) (p : Bool) → in_properties before ≡ p →
    fault_by (looking_back before) (line_with keyword text) ≡ None
    → looking_back (line_with keyword text ∷ before) ≡ step (looking_back before) (line_with keyword text)
step-by before keyword text true e ok =
    rw e (ap (λ (x : Bool). past_among x (counted before)) (passed_over keyword text))
step-by before keyword text false e ok =
    rw e (ap (λ (x : Bool). past_among x (line_with keyword text ∷ counted before)) (begun_now keyword text)
    ∙ step-among (counted before) keyword text (in_glyph (counted before))
    (nat_lt 0 (rows_left (this_glyph (counted before)))) refl refl (rw e at ok))

-- the past after a valid line
pub step-law : (before : List Line) (line : Line) → fault_by (looking_back before) line ≡ None
    → looking_back (line ∷ before) ≡ step (looking_back before) line
step-law before line ok = step-by before line.keyword line.text (in_properties before) refl ok
