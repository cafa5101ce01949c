-- What a text's picture and its faults say of the tests of its record.
use Rattle.std.proofs.Common.{zero, suc, ◌≡◌, ◌≢◌, ◌⊎◌, inl, inr, refl, sym, ℕ, ◌+◌, ◌*◌, ◌<◌, ◌≤◌, ◌==◌, Bool, true, false, not, ◌&&◌, ◌||◌, nat_lt, List, [], ◌∷◌, length, reverse, get_or, find, Option, Some, None, is_some, IsSome, arith}
use Rattle.std.proofs.lemmas.Bool.Decides.{nat_tests}
use Rattle.sub_base.specs.declared.depth.Depth.{Depth}
use Rattle.sub_base.specs.Picture.{Picture}
use Rattle.bitmap_font.specs.Font.{GlyphValue, FontValue}
use Rattle.bitmap_font.specs.Setting.{AllCanBeSet, IsFirstMissing, IsSetting, IsSetFault, widest_line, line_after}
use Rattle.bitmap_font.specs.declared.set_fault.SetFault.{SetFault}
use Rattle.bitmap_font.specs.declared.set_fault.SetFault.TheVariants as set
use Rattle.cue_records.specs.declared.region.Region.{Region}
use Rattle.cue_records.specs.declared.row_values.PlaceRow.{PlaceRow}
use Rattle.cue_records.specs.declared.record_fault.RecordFault.{RecordFault}
use Rattle.cue_records.specs.CellFaults.{first_of, IsRecordFault}
use Rattle.cue_list.specs.Past.{ScriptPast}
use Rattle.cue_list.specs.RowFaults.{glyph_fault, text_fault}
use Rattle.cue_list.specs.Setting.{record_fault_of}
use Rattle.cue_list.specs.Private.State.{head_of}
use Rattle.cue_list.specs.TextSizes.{text_head, missing_glyph}

-- a search finds the first element that passes
find-first : (p : ℕ → Bool) (xs : List ℕ) (k c : ℕ) → k < length xs → get_or xs k 0 ≡ c
    → p c ≡ true → ((j : ℕ) → j < k → p (get_or xs j 0) ≡ false) → find p xs ≡ Some c
find-first p [] k c within there passes before = absurd (omega arith)
find-first p (x ∷ xs) zero c within there passes before =
    let same : x ≡ c = there in
    rw (same, passes) refl
find-first p (x ∷ xs) (suc k) c within there passes before =
    let first : p x ≡ false = before 0 (omega arith) in
    rw first (find-first p xs k c (omega arith) there passes (λ j below. before (suc j) (omega arith)))

find-none : (p : ℕ → Bool) (xs : List ℕ) → ((j : ℕ) → j < length xs → p (get_or xs j 0) ≡ false)
    → find p xs ≡ None
find-none p [] none = refl
find-none p (x ∷ xs) none =
    let first : p x ≡ false = none 0 (omega arith) in
    rw first (find-none p xs (λ j below. none (suc j) (omega arith)))

can-pass : (c : ℕ) (glyph : Option GlyphValue) → (c ≡ 10) ⊎ IsSome glyph
    → (not (c == 10) && not (is_some glyph)) ≡ false
can-pass c glyph (inl feed) = rw feed refl
can-pass c None (inr some) = absurd (let never : false ≡ true = some in cc)
can-pass c (Some glyph) (inr some) = last (c == 10)
  where
    last : (b : Bool) → (not b && false) ≡ false
    last true = refl
    last false = refl

cannot-pass : (c : ℕ) (glyph : Option GlyphValue) → c ≢ 10 → glyph ≡ None
    → (not (c == 10) && not (is_some glyph)) ≡ true
cannot-pass c glyph other missing =
    let test : (c == 10) ≡ false = grind (arith, nat_tests) in
    rw (missing, test) refl

-- where each character can be set none is missing
pub missing-none : (font : FontValue) (characters : List ℕ) → AllCanBeSet font characters
    → missing_glyph font characters ≡ None
unfolding missing_glyph
missing-none font characters all = find-none _ characters (λ j below. can-pass _ _ (all j below))

pub missing-some : (font : FontValue) (characters : List ℕ) (c : ℕ) → IsFirstMissing font characters c
    → missing_glyph font characters ≡ Some c
unfolding missing_glyph
missing-some font characters c first =
    find-first _ characters first.place c first.within first.there (cannot-pass c _ first.no_line_feed first.missing)
    (λ j below. can-pass _ _ (first.before j below))

-- the depth and sides of a text that was set
pub text_head-set : (font : FontValue) (characters : List ℕ) (ink paper : ℕ) (depth : Depth) (picture : Picture)
    → IsSetting font characters ink paper depth picture
    → text_head font depth characters ≡ head_of picture
unfolding text_head
text_head-set font characters ink paper depth picture set = λ i. record {
  depth = sym set.sides.deep i;
  width = sym set.sides.wide i;
  height = sym set.sides.high i;
}

glyph-first : (missing : Option ℕ) (c : ℕ) (past : ScriptPast) (placing : PlaceRow) (region : Region) (font : FontValue)
    (characters : List ℕ) → missing ≡ Some c
    → first_of
    (glyph_fault missing ∷ text_fault past placing region (text_head font region.depth characters) ∷ [])
    ≡ glyph_fault (Some c)
glyph-first missing c past placing region font characters e = rw e refl

wide_tests : (w h : ℕ) → (1920 < w) ⊎ (1080 < h) → (nat_lt 1920 w || nat_lt 1080 h) ≡ true
wide_tests w h over = grind (arith, nat_tests)

not_zero : (w : ℕ) → 1 ≤ w → (w == 0) ≡ false
not_zero w some = grind (arith, nat_tests)

-- a text that cannot be set fails the test of its record
pub set-refused : (font : FontValue) (characters : List ℕ) (fault : SetFault) (past : ScriptPast) (placing : PlaceRow)
    (region : Region) → IsSetFault font characters fault
    → IsRecordFault
    (first_of
    (glyph_fault (missing_glyph font characters)
    ∷ text_fault past placing region (text_head font region.depth characters) ∷ [])) (record_fault_of fault)
unfolding text_head
set-refused font characters set.Memory past placing region why = tt
set-refused font characters (set.MissingGlyph c) past placing region why = rw (missing-some font characters c why) refl
set-refused font characters set.Empty past placing region why = rw (missing-none font characters why.0, why.1) refl
set-refused font characters set.TooWide past placing region why =
    rw (
      missing-none font characters why.0,
      not_zero (widest_line font (reverse characters)) why.1,
      wide_tests (widest_line font (reverse characters)) ((line_after (reverse characters) + 1) * font.height) why.2,
    ) refl

pub set-refused-as : (font : FontValue) (characters : List ℕ) (fault : SetFault) (past : ScriptPast)
    (placing : PlaceRow)
    (region : Region) (answer : RecordFault) → answer ≡ record_fault_of fault → IsSetFault font characters fault
    → IsRecordFault
    (first_of
    (glyph_fault (missing_glyph font characters)
    ∷ text_fault past placing region (text_head font region.depth characters) ∷ [])) answer
set-refused-as font characters fault past placing region answer is why =
    rw is (set-refused font characters fault past placing region why)
