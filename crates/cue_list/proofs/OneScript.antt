-- Bytes are one script: what its records say determines its values, the pictures among them.
use Rattle.std.proofs.Common.{◌≡◌, ◌∙◌, refl, sym, ap, subst, ℕ, ◌+◌, List, [], ◌∷◌, ◌++◌, length, Option, Some, Result, Ok, Err, IfOk, IfErr}
use Rattle.std.specs.Prelude.{MatchResult, chars}
use Rattle.bitmap_font.specs.Font.{FontValue}
use Rattle.bitmap_font.specs.Setting.{IsSetting}
use Rattle.bitmap_font.proofs.OneSetting.{one_setting}
use Rattle.sub_base.specs.Picture.{Picture, picture_of}
use Rattle.cue_list.specs.declared.epoch.Epoch.{Epoch}
use Rattle.cue_records.specs.declared.region.Region.{Region}
use Rattle.cue_list.specs.declared.fault.ScriptFault.{ScriptFault}
use Rattle.cue_list.specs.declared.fault.ScriptFault.TheVariants.{Memory, Refused}
use Rattle.cue_records.specs.declared.row_kind.RowKind.{RowKind}
use Rattle.cue_records.specs.declared.row_kind.RowKind.TheVariants as kinds
use Rattle.cue_records.specs.declared.row_values.PictureHead.{PictureHead}
use Rattle.cue_list.specs.declared.script.Script.{Script}
use Rattle.cue_records.specs.CellFaults.{value_at}
use Rattle.cue_records.specs.Cells.{cell_at}
use Rattle.cue_list.specs.Drawn.{Brings, IsPictureWith}
use Rattle.cue_list.specs.Past.{region_with, regions_in}
use Rattle.cue_records.specs.PixelRuns.{picture_codes}
use Rattle.cue_records.specs.Records.{Record, records_of, records_before}
use Rattle.cue_records.specs.RowValues.{head_in}
use Rattle.cue_records.specs.Rows.{Row}
use Rattle.cue_list.specs.ScriptRows.{AreDrawn, HasValues, IsScript, IsScriptFault}
use Rattle.cue_list.specs.Setting.{IsTextPicture}
use Rattle.cue_list.proofs.AnswerLaws.{script_or_fault}

some_same : {A : Type 0} (x y : A) (found : Option A) → found ≡ Some x → found ≡ Some y → x ≡ y
some_same x y found first second = let same : Some x ≡ Some y = sym first ∙ second in cc

-- ---- pictures

one_text_picture : (font : FontValue) (regions : List Region) (id ink paper : ℕ) (characters : List ℕ)
    (one other : Picture) → IsTextPicture font regions id ink paper characters one
    → IsTextPicture font regions id ink paper characters other → one ≡ other
one_text_picture font regions id ink paper characters one other first second =
    let region : second.region ≡ first.region =
    some_same second.region first.region (region_with id regions) second.found first.found in
    one_setting font characters ink paper first.region.depth one other first.set
    (subst (λ (r : Region). IsSetting font characters ink paper r.depth other) region second.set) first.whole
    second.whole

one_picture_with : (head : PictureHead) (text : List ℕ) (one other : Picture) → IsPictureWith head text one
    → IsPictureWith head text other → one ≡ other
one_picture_with head text one other first second =
    let codes : first.codes ≡ second.codes =
    some_same first.codes second.codes (picture_codes head.depth text) first.read second.read in
    first.drawn ∙ ap (λ (codes : List ℕ). picture_of head.width head.height head.depth codes) codes
    ∙ sym second.drawn

-- ---- lists of pictures

with_picture : (old one other : List Picture) (first second : Picture) → one ≡ old ++ first ∷ []
    → other ≡ old ++ second ∷ [] → first ≡ second → one ≡ other
with_picture old one other first second is also same =
    is ∙ ap (λ (picture : Picture). old ++ picture ∷ []) same ∙ sym also

-- a record brings one list of pictures
one_brought : (font : FontValue) (regions : List Region) (kind : RowKind) (cells : Row)
    (old one other : List Picture) → Brings font regions kind cells old one → Brings font regions kind cells old other
    → one ≡ other
one_brought font regions kinds.Origin cells old one other first second = first ∙ sym second
one_brought font regions kinds.Display cells old one other first second = first ∙ sym second
one_brought font regions kinds.Refresh cells old one other first second = first ∙ sym second
one_brought font regions kinds.Epoch cells old one other first second = first ∙ sym second
one_brought font regions kinds.Region cells old one other first second = first ∙ sym second
one_brought font regions kinds.Colour cells old one other first second = first ∙ sym second
one_brought font regions kinds.Picture cells old one other first second =
    with_picture old one other first.picture second.picture first.added second.added
    (one_picture_with (head_in cells) (cell_at cells 5) first.picture second.picture first.drawn second.drawn)
one_brought font regions kinds.Place cells old one other first second = first ∙ sym second
one_brought font regions kinds.Cue cells old one other first second =
    with_picture old one other first.picture second.picture first.added second.added
    (one_text_picture font regions (value_at cells 3) (value_at cells 6) (value_at cells 7) (chars (cell_at cells 8))
    first.picture second.picture first.set second.set)
one_brought font regions kinds.Other cells old one other first second = first ∙ sym second

-- records bring one list of pictures
pub one_drawn : (font : FontValue) (rows : List Record) (one other : List Picture) → AreDrawn font rows one
    → AreDrawn font rows other → one ≡ other
one_drawn font [] one other first second = first ∙ sym second
one_drawn font (row ∷ earlier) one other (before, drawn, brings) (others, again, brings_too) =
    let same : before ≡ others = one_drawn font earlier before others drawn again in
    let Brought : List Picture → Type 0 =
    λ old. Brings font (regions_in earlier) row.kind row.cells old other in
    one_brought font (regions_in earlier) row.kind row.cells before one other brings
    (subst Brought (sym same) brings_too)

-- ---- scripts

-- bytes that are a script are one
pub one_script : (bytes : List ℕ) (font : FontValue) (script : Script) (origin width height refresh : ℕ)
    (epochs : List Epoch) (pictures : List Picture) →
    IsScript bytes font script.origin script.width script.height script.refresh script.epochs script.pictures →
    IsScript bytes font origin width height refresh epochs pictures
    → HasValues origin width height refresh epochs pictures script
one_script bytes font script origin width height refresh epochs pictures first second =
    let rows = records_before (records_of bytes) (length (records_of bytes)) in
    record {
      origin_is = first.lists.origin_is ∙ sym second.lists.origin_is;
      width_is = first.lists.width_is ∙ sym second.lists.width_is;
      height_is = first.lists.height_is ∙ sym second.lists.height_is;
      refresh_is = first.lists.refresh_is ∙ sym second.lists.refresh_is;
      epochs_are = first.lists.epochs_are ∙ sym second.lists.epochs_are;
      pictures_are =
          one_drawn font rows script.pictures pictures first.lists.pictures_are second.lists.pictures_are;
    }

pub every_script : (bytes : List ℕ) (font : FontValue) (result : Result Script ScriptFault) →
    IfOk result
    (λ script. IsScript bytes font script.origin script.width script.height script.refresh script.epochs
    script.pictures) →
    IfErr result (IsScriptFault bytes font) → (origin width height refresh : ℕ) (epochs : List Epoch)
    (pictures : List Picture) → IsScript bytes font origin width height refresh epochs pictures →
    MatchResult result (HasValues origin width height refresh epochs pictures) (λ fault. fault ≡ Memory)
every_script bytes font (Ok script) found refused origin width height refresh epochs pictures is =
    one_script bytes font script origin width height refresh epochs pictures found is
every_script bytes font (Err Memory) found refused origin width height refresh epochs pictures is = refl
every_script bytes font (Err (Refused row kind)) found refused origin width height refresh epochs pictures is =
    absurd (script_or_fault bytes font origin width height refresh epochs pictures row kind is refused)
