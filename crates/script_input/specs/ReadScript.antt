-- A script that is read out of a source, with its font, and why none is.
use Rattle.std.specs.Prelude.{◌≡◌, ℕ, ◌+◌, ◌≤◌, Bool, true, false, List, [], pos}
use Rattle.bitmap_font.specs.Font.{FontValue}
use Rattle.bitmap_font.specs.Reading.{IsFont}
use Rattle.bitmap_font.specs.Refusal.{IsFontFault}
use Rattle.bitmap_font.specs.declared.font_fault.FontFault.{FontFault}
use Rattle.bitmap_font.specs.declared.font_fault.FontFault.TheVariants as font
use Rattle.cue_list.specs.ScriptRows.{IsScript, IsScriptFault}
use Rattle.cue_list.specs.declared.fault.ScriptFault.{ScriptFault}
use Rattle.cue_list.specs.declared.fault.ScriptFault.TheVariants as script
use Rattle.cue_list.specs.declared.script.Script.{Script}
use Rattle.sub_base.specs.Counts.{HasRisen, HasRisenPast}
use Rattle.sub_base.specs.Endpoints.{Supplied, WasRead}
use Rattle.script_input.specs.declared.input_end.FontEnd.{FontEnd}
use Rattle.script_input.specs.declared.input_end.FontEnd.TheVariants as font_end
use Rattle.script_input.specs.declared.input_end.Input.TheVariants as input
use Rattle.script_input.specs.declared.input_end.InputEnd.{InputEnd}
use Rattle.script_input.specs.declared.input_end.InputEnd.TheVariants as end
use Rattle.script_input.specs.declared.limits.TheConstants.{TEXT_LIMIT}

-- the most bytes of a script, and of a font
abbrev pub text_limit : ℕ
text_limit = TEXT_LIMIT

-- the font without glyphs
abbrev pub no_font : FontValue
no_font = record { width = 1; height = 1; left = pos 0; bottom = pos 0; glyphs = [] }

-- the font of a script: that of the second source, or the one without glyphs where no font is named
abbrev pub HasFont : Bool → Supplied → Supplied → FontValue → Type 0
HasFont false before now value = value ≡ no_font
HasFont true before now value = (text : List ℕ) × WasRead text_limit before now text × IsFont text value

-- no font is named, or it was read and is valid
abbrev pub HasSomeFont : Bool → Supplied → Supplied → Type 0
HasSomeFont has_font before now = (font : FontValue) × HasFont has_font before now font

-- the first source was read to its end and is this script, in the font
pub record ReadsScript (has_font : Bool) (first_before first_now second_before second_now : Supplied)
    (script : Script) : Type 0 where
  pub font : FontValue
  pub has : HasFont has_font second_before second_now font
  pub text : List ℕ
  pub read : WasRead text_limit first_before first_now text
  pub valid : IsScript text font script.origin script.width script.height script.refresh script.epochs script.pictures

-- the second source was read to its end, and is refused as a font
abbrev pub IsFontRefused : FontFault → Supplied → Supplied → Type 0
IsFontRefused font.Memory before now = ⊥
IsFontRefused (font.Refused line kind) before now =
    (text : List ℕ) × WasRead text_limit before now text × IsFontFault text (font.Refused line kind)

-- the first source was read to its end, and is refused as a script in the font
pub record IsRefusedAt (has_font : Bool) (first_before first_now second_before second_now : Supplied)
    (fault : ScriptFault) : Type 0 where
  pub font : FontValue
  pub has : HasFont has_font second_before second_now font
  pub text : List ℕ
  pub read : WasRead text_limit first_before first_now text
  pub refused : IsScriptFault text font fault

-- the first source is refused as a script in the font for this fault; want of memory is no refusal
abbrev pub IsScriptRefused : Bool → Supplied → Supplied → Supplied → Supplied → ScriptFault → Type 0
IsScriptRefused has_font first_before first_now second_before second_now script.Memory = ⊥
IsScriptRefused has_font first_before first_now second_before second_now (script.Refused row kind) =
    IsRefusedAt has_font first_before first_now second_before second_now (script.Refused row kind)

-- the source gave no more bytes than a script or a font may have
abbrev pub IsTextWithin : Supplied → Supplied → Type 0
IsTextWithin before now = now.given ≤ before.given + text_limit

-- why the font that is named was not read; memory may want at any time
abbrev pub IsFontEnd : Bool → Supplied → Supplied → FontEnd → Type 0
IsFontEnd has_font before now (font_end.Refused fault) = (has_font ≡ true) × IsFontRefused fault before now
IsFontEnd has_font before now font_end.Unread =
    (has_font ≡ true) × HasRisen before.faults now.faults × IsTextWithin before now
IsFontEnd has_font before now font_end.TooLong =
    (has_font ≡ true) × HasRisenPast text_limit before.given now.given
IsFontEnd has_font before now font_end.Memory = Unit {0}

-- why no script was read where its font was not
abbrev pub end_without_font : FontEnd → InputEnd
end_without_font (font_end.Refused fault) = end.FontRefused fault
end_without_font font_end.Unread = end.Unread input.Font
end_without_font font_end.TooLong = end.TooLong input.Font
end_without_font font_end.Memory = end.Memory

-- why no script was read. The font is read first: a fault of the second source comes before the first one is
-- called, and a fault of the first source with a font that is valid
abbrev pub IsInputEnd : Bool → Supplied → Supplied → Supplied → Supplied → InputEnd → Type 0
IsInputEnd has_font first_before first_now second_before second_now (end.FontRefused fault) =
    (has_font ≡ true) × IsFontRefused fault second_before second_now × (first_now ≡ first_before)
IsInputEnd has_font first_before first_now second_before second_now (end.ScriptRefused fault) =
    IsScriptRefused has_font first_before first_now second_before second_now fault
IsInputEnd has_font first_before first_now second_before second_now (end.Unread input.Script) =
    HasSomeFont has_font second_before second_now × HasRisen first_before.faults first_now.faults
    × IsTextWithin first_before first_now
IsInputEnd has_font first_before first_now second_before second_now (end.Unread input.Font) =
    (has_font ≡ true) × HasRisen second_before.faults second_now.faults × (first_now ≡ first_before)
    × IsTextWithin second_before second_now
IsInputEnd has_font first_before first_now second_before second_now (end.TooLong input.Script) =
    HasSomeFont has_font second_before second_now × HasRisenPast text_limit first_before.given first_now.given
IsInputEnd has_font first_before first_now second_before second_now (end.TooLong input.Font) =
    (has_font ≡ true) × HasRisenPast text_limit second_before.given second_now.given × (first_now ≡ first_before)
IsInputEnd has_font first_before first_now second_before second_now end.Memory = Unit {0}

-- nothing stops the reading of the inputs: no count rose, no limit was passed, font and script are valid, and P holds
-- of the script
pub record HasValidScript (has_font : Bool) (first_before first_now second_before second_now : Supplied)
    (P : Script → Type 0) : Type 0 where
  pub first_read : HasRisen first_before.faults first_now.faults → ⊥
  pub second_read : has_font ≡ true → HasRisen second_before.faults second_now.faults → ⊥
  pub first_within : HasRisenPast text_limit first_before.given first_now.given → ⊥
  pub second_within : has_font ≡ true → HasRisenPast text_limit second_before.given second_now.given → ⊥
  pub font_valid : (fault : FontFault) → has_font ≡ true → IsFontRefused fault second_before second_now → ⊥
  pub script_valid : (fault : ScriptFault)
      → IsScriptRefused has_font first_before first_now second_before second_now fault → ⊥
  pub goes_on : (script : Script) → ReadsScript has_font first_before first_now second_before second_now script
      → P script
