-- A script and a fault of the same bytes exclude each other, and there is one fault.
use Rattle.std.proofs.Common.{◌≡◌, ◌≢◌, ◌∙◌, ◌⊎◌, refl, sym, ap, inl, inr, ℕ, ◌<◌, true, false, List, length, Option, Some, None, is_some, Result, Ok, Err, IfOk, IfErr, arith}
use Rattle.sub_base.specs.Picture.{Picture}
use Rattle.bitmap_font.specs.Font.{FontValue}
use Rattle.cue_list.specs.declared.epoch.Epoch.{Epoch}
use Rattle.cue_list.specs.declared.fault.ScriptFault.{ScriptFault}
use Rattle.cue_list.specs.declared.fault.ScriptFault.TheVariants.{Memory, Refused}
use Rattle.cue_records.specs.declared.fault.ScriptKind.{ScriptKind}
use Rattle.cue_list.specs.declared.script.Script.{Script}
use Rattle.cue_list.specs.Past.{looking_back}
use Rattle.cue_records.specs.Records.{Record, records_of, records_before, record_at}
use Rattle.cue_list.specs.RowFaults.{fault_of}
use Rattle.cue_list.specs.ScriptRows.{AreValidRecords, IsScript, IsRefusedRecord, IsScriptFault, AnswersScriptFault}

-- of two numbers one is less, or they are the same
apart_or_same : (a b : ℕ) → (a < b) ⊎ ((b < a) ⊎ (a ≡ b))
apart_or_same a b = grind arith

-- a valid record is not faulty
right_or_wrong : (found : Option ScriptKind) (kind : ScriptKind) → found ≡ None → found ≡ Some kind → ⊥
right_or_wrong found kind valid wrong = let bad : None ≡ Some kind = sym valid ∙ wrong in cc

not_before : (font : FontValue) (all : List Record) (n before : ℕ) (kind : ScriptKind) → AreValidRecords font all n
    → before < n →
    fault_of font (records_before all before) (record_at all before) ≡ Some kind → ⊥
not_before font all n before kind valid less wrong =
    right_or_wrong (fault_of font (records_before all before) (record_at all before)) kind (valid.valid before less)
    wrong

-- an epoch was started, or none
some_or_none : {A : Type 0} (found : Option A) → is_some found ≡ true → found ≡ None → ⊥
some_or_none found some none = let bad : false ≡ true = ap is_some (sym none) ∙ some in cc

-- bytes are not both a script and faulty
pub script_or_fault : (bytes : List ℕ) (font : FontValue) (origin width height refresh : ℕ) (epochs : List Epoch)
    (pictures : List Picture) (row : ℕ) (kind : ScriptKind) →
    IsScript bytes font origin width height refresh epochs pictures → IsRefusedRecord bytes font row kind → ⊥
script_or_fault bytes font origin width height refresh epochs pictures row kind is bad =
    let all = records_of bytes in
    elim bad.wrong [
      | inl wrong ↦ not_before font all (length all) bad.before kind is.valid wrong.0 wrong.1
      | inr none ↦ some_or_none (looking_back font (records_before all (length all))).epoch is.lists.some_epoch
          (ap (λ (n : ℕ). (looking_back font (records_before all n)).epoch) (sym none.0) ∙ none.1)
    ]

same_kind : (a b : ScriptKind) (found : Option ScriptKind) → found ≡ Some a → found ≡ Some b → a ≡ b
same_kind a b found first second = let same : Some a ≡ Some b = sym first ∙ second in cc

-- the first faulty record of bytes is one, for one kind of reason
pub one_refusal : (bytes : List ℕ) (font : FontValue) (row other : ℕ) (a b : ScriptKind)
    → IsRefusedRecord bytes font row a → IsRefusedRecord bytes font other b →
    (row ≡ other) × (a ≡ b)
one_refusal bytes font row other a b first second =
    let all = records_of bytes in
    elim (apart_or_same first.before second.before) [
      | inl less ↦ absurd (elim first.wrong [
        | inl wrong ↦ not_before font all second.before first.before a second.valid less wrong.1
        | inr none ↦ absurd (omega (arith, second.valid.there, none.0))
      ])
      | inr (inl more) ↦ absurd (elim second.wrong [
        | inl wrong ↦ not_before font all first.before second.before b first.valid more wrong.1
        | inr none ↦ absurd (omega (arith, first.valid.there, none.0))
      ])
      | inr (inr same) ↦ (
        omega (arith, first.number, second.number),
        elim first.wrong [
          | inl wrong ↦ elim second.wrong [
            | inl again ↦ same_kind a b (fault_of font (records_before all first.before) (record_at all first.before))
                wrong.1
                (ap (λ (n : ℕ). fault_of font (records_before all n) (record_at all n)) same ∙ again.1)
            | inr none ↦ absurd (omega (arith, wrong.0, none.0))
          ]
          | inr none ↦ elim second.wrong [
            | inl again ↦ absurd (omega (arith, again.0, none.0))
            | inr also ↦ none.2 ∙ sym also.2
          ]
        ],
      )
    ]

-- What is answered of a file.

pub every_fault : (bytes : List ℕ) (font : FontValue) (result : Result Script ScriptFault) →
    IfOk result
    (λ script. IsScript bytes font script.origin script.width script.height script.refresh script.epochs
    script.pictures) →
    IfErr result (IsScriptFault bytes font) → (fault : ScriptFault) → IsScriptFault bytes font fault
    → fault ≢ Memory → AnswersScriptFault fault result
every_fault bytes font result found refused Memory is other = absurd (other refl)
every_fault bytes font (Ok script) found refused (Refused row kind) is other =
    script_or_fault bytes font script.origin script.width script.height script.refresh script.epochs script.pictures row
    kind found is
every_fault bytes font (Err Memory) found refused (Refused row kind) is other = inl refl
every_fault bytes font (Err (Refused place reason)) found refused (Refused row kind) is other =
    let one = one_refusal bytes font place row reason kind refused is in
    inr (cc (one.0, one.1))
