-- Valid scripts, and why others are refused.
use Rattle.std.specs.Prelude.{◌≡◌, ◌⊎◌, ℕ, ◌+◌, ◌*◌, ◌<◌, ◌≤◌, List, [], ◌∷◌, length, true, Some, None, is_some, Result, MatchResult, ⊤}
use Rattle.sub_base.specs.Picture.{Picture}
use Rattle.bitmap_font.specs.Font.{FontValue}
use Rattle.cue_list.specs.declared.epoch.Epoch.{Epoch}
use Rattle.cue_list.specs.declared.fault.ScriptFault.{ScriptFault}
use Rattle.cue_list.specs.declared.fault.ScriptFault.TheVariants.{Memory, Refused}
use Rattle.cue_records.specs.declared.fault.ScriptKind.{ScriptKind}
use Rattle.cue_records.specs.declared.fault.ScriptKind.TheVariants as faults
use Rattle.cue_list.specs.declared.script.Script.{Script}
use Rattle.cue_list.specs.Drawn.{Brings}
use Rattle.cue_list.specs.Past.{with_last, looking_back, regions_in}
use Rattle.cue_records.specs.Records.{Record, records_of, records_before, record_at}
use Rattle.cue_list.specs.RowFaults.{fault_of}
use Rattle.sub_base.specs.declared.pace.TheConstants.{SECOND}

-- the first n records are valid, each judged by those before it
pub record AreValidRecords (font : FontValue) (all : List Record) (n : ℕ) : Type 0 where
  pub there : n ≤ length all
  pub valid : (k : ℕ) → k < n → fault_of font (records_before all k) (record_at all k) ≡ None

-- the pictures that records bring, in the script's order; the records are given nearest first
abbrev pub AreDrawn : FontValue → List Record → List Picture → Type 0
AreDrawn font [] pictures = pictures ≡ []
AreDrawn font (row ∷ earlier) pictures =
    (before : List Picture) × AreDrawn font earlier before
    × Brings font (regions_in earlier) row.kind row.cells before pictures

-- the values of a script that records list; the records are given nearest first
pub record Lists (font : FontValue) (rows : List Record) (origin width height refresh : ℕ) (epochs : List Epoch)
    (pictures : List Picture) : Type 0 where
  pub origin_is : origin ≡ (looking_back font rows).origin
  pub width_is : width ≡ (looking_back font rows).width
  pub height_is : height ≡ (looking_back font rows).height
  pub refresh_is : refresh ≡ SECOND * (looking_back font rows).seconds
  pub some_epoch : is_some (looking_back font rows).epoch ≡ true
  pub epochs_are : epochs ≡ with_last (looking_back font rows).ended (looking_back font rows).epoch
  pub pictures_are : AreDrawn font rows pictures

-- the bytes are a script: all its records are valid, and they list these values
pub record IsScript (bytes : List ℕ) (font : FontValue) (origin width height refresh : ℕ) (epochs : List Epoch)
    (pictures : List Picture) : Type 0 where
  pub valid : AreValidRecords font (records_of bytes) (length (records_of bytes))
  pub lists : Lists font (records_before (records_of bytes) (length (records_of bytes))) origin width height refresh
      epochs pictures

-- a script has these values
pub record HasValues (origin width height refresh : ℕ) (epochs : List Epoch) (pictures : List Picture)
    (script : Script) : Type 0 where
  pub origin_is : script.origin ≡ origin
  pub width_is : script.width ≡ width
  pub height_is : script.height ≡ height
  pub refresh_is : script.refresh ≡ refresh
  pub epochs_are : script.epochs ≡ epochs
  pub pictures_are : script.pictures ≡ pictures

-- a record, counted from 1, is the first that is faulty, and for what: or all are valid, but none starts an epoch
pub record IsRefusedRecord (bytes : List ℕ) (font : FontValue) (row : ℕ) (kind : ScriptKind) : Type 0 where
  pub before : ℕ
  pub number : row ≡ before + 1
  pub valid : AreValidRecords font (records_of bytes) before
  pub wrong : ((before < length (records_of bytes))
      × (fault_of font (records_before (records_of bytes) before) (record_at (records_of bytes) before) ≡ Some kind))
      ⊎ ((before ≡ length (records_of bytes))
      × ((looking_back font (records_before (records_of bytes) before)).epoch ≡ None) × (kind ≡ faults.Order))

-- why bytes are no script
abbrev pub IsScriptFault : List ℕ → FontValue → ScriptFault → Type 0
IsScriptFault bytes font Memory = ⊤
IsScriptFault bytes font (Refused row kind) = IsRefusedRecord bytes font row kind

-- this fault is answered, or want of memory
abbrev pub AnswersScriptFault : {T : Type 0} → ScriptFault → Result T ScriptFault → Type 0
AnswersScriptFault fault result = MatchResult result (λ _. ⊥) (λ told. (told ≡ Memory) ⊎ (told ≡ fault))
