use Rattle.std.proofs.Common.{◌≡◌, ◌∙◌, ◌+◌, ℕ, sym, ap, subst, Bool, true, false, if◌then◌else◌, List, [], ◌∷◌, None, Result, Err, IfErr, arith}
use Rattle.csv.specs.Records.{fields_of}
use Rattle.cue_list.specs.declared.fault.ScriptFault.{ScriptFault}
use Rattle.cue_list.specs.declared.fault.ScriptFault.TheVariants.{Refused}
use Rattle.cue_records.specs.declared.fault.ScriptKind.{ScriptKind}
use Rattle.cue_records.specs.declared.fault.ScriptKind.TheVariants.{Order}
use Rattle.cue_list.specs.declared.reader.Reader.{Reader}
use Rattle.cue_records.specs.declared.record_fault.RecordFault.{RecordFault}
use Rattle.cue_list.specs.Private.HasRead.{HasRead}
use Rattle.cue_records.specs.Records.{record_of}
use Rattle.cue_list.specs.RowFaults.{fault_with}
use Rattle.cue_records.specs.Rows.{Row, rows_left, unread}
use Rattle.cue_list.specs.ScriptRows.{IsScriptFault}
use Rattle.cue_list.specs.Private.State.{past_of}
use Rattle.cue_records.specs.CellFaults.{IsRecordFault}
use Rattle.cue_list.proofs.ReadLaws.{HasRead-first, HasRead-next, IsRefused-row, IsRefused-whole, IfErr-follows, length-records, few-rows}
use Rattle.cue_list.proofs.read.read_records.Goals as goal

abbrev refused_of : ℕ → ScriptKind → Result Reader ScriptFault
refused_of row kind = Err (Refused row kind)

pub loop-reader-init : goal.loop-reader-init
loop-reader-init c =
    let Read : List Row → Type 0 =
    λ (left : List Row). HasRead c.args.bytes.now c.args.font.now left c.new-reader.result in
    record {
      readable = c.reader_of-rows.ensures.readable;
      read =
          subst Read (sym c.reader_of-rows.ensures.rows)
          (HasRead-first c.args.bytes.now c.args.font.now c.new-reader.result c.new-reader.ensures.reader
          c.new-reader.ensures.rows (c.new-reader.ensures.past c.args.font.now) c.new-reader.ensures.pictures);
    }

pub whole-requires : goal.whole-requires
whole-requires c =
    omega (arith, c.loop-reader.invariant.read.valid.there, length-records c.args.bytes.now, few-rows c.args.bytes.now)

pub take-requires-clause-fits : goal.take-requires-clause-fits
take-requires-clause-fits c =
    omega (arith, c.loop-reader.invariant.read.valid.there, length-records c.args.bytes.now, few-rows c.args.bytes.now)

pub refusal-requires : goal.refusal-requires
refusal-requires c =
    omega (arith, c.loop-reader.invariant.read.valid.there, length-records c.args.bytes.now, few-rows c.args.bytes.now)

pub returns-in-Ok-false-clause-refused : goal.returns-in-Ok-false-clause-refused
returns-in-Ok-false-clause-refused c =
    let rest : List Row = rows_left unread c.next_row.new.reader in
    let found : c.in-Ok-false.field-0 ≡ false = c.in-Ok-false.field-0-test in
    let none : rows_left unread c.loop-reader.rows ≡ [] =
    c.in-Ok-false.ensures.row
    ∙ ap (λ (b : Bool). if b then fields_of c.next_row.new.row ∷ rest else []) found in
    let Whole : ScriptFault → Type 0 = λ (fault : ScriptFault). (c.loop-reader.reader.epoch ≡ None)
    × (fault ≡ Refused (c.loop-reader.reader.rows + 1) Order) in
    IfErr-follows Whole (IsScriptFault c.args.bytes.now c.args.font.now) c.whole.result
    (λ (fault : ScriptFault) (told : Whole fault). subst (IsScriptFault c.args.bytes.now c.args.font.now) (sym told.1)
    (IsRefused-whole c.args.bytes.now c.args.font.now (rows_left unread c.loop-reader.rows) c.loop-reader.reader
    c.loop-reader.invariant.read none told.0))
    c.whole.ensures.none

pub returns-in-Err-Wrong-clause-refused : goal.returns-in-Err-Wrong-clause-refused
returns-in-Err-Wrong-clause-refused c =
    let rest : List Row = rows_left unread c.next_row.new.reader in
    let found : c.in-Ok-true.field-0 ≡ true = c.in-Ok-true.field-0-test in
    let next : rows_left unread c.loop-reader.rows ≡ fields_of c.next_row.new.row ∷ rest =
    c.in-Ok-true.ensures.row
    ∙ ap (λ (b : Bool). if b then fields_of c.next_row.new.row ∷ rest else []) found in
    let Because : RecordFault
    → Type 0 = λ (fault : RecordFault). IsRecordFault
    (fault_with c.args.font.now (past_of c.loop-reader.reader)
    (record_of (c.loop-reader.reader.rows + 1) (fields_of c.next_row.new.row))) fault in
    let wrong = subst Because c.in-Err-Wrong.field-0-is c.in-Err-Wrong.ensures.refused in
    let IsRefusal : Result Reader ScriptFault → Type 0 =
    λ (answer : Result Reader ScriptFault). IfErr answer (IsScriptFault c.args.bytes.now c.args.font.now) in
    let answer : ScriptKind → Result Reader ScriptFault =
    λ (kind : ScriptKind). refused_of (c.loop-reader.reader.rows + 1) kind in
    subst IsRefusal (sym (c.refusal.ensures ∙ ap answer c.in-Err-Wrong.kind-is))
    (IsRefused-row c.args.bytes.now c.args.font.now (rows_left unread c.loop-reader.rows) rest c.loop-reader.reader
    (fields_of c.next_row.new.row) c.loop-reader.invariant.read next c.in-Err-Wrong.kind wrong)

pub loop-reader-preserved : goal.loop-reader-preserved
loop-reader-preserved c =
    let rest : List Row = rows_left unread c.next_row.new.reader in
    let found : c.in-Ok-true.field-0 ≡ true = c.in-Ok-true.field-0-test in
    let next : rows_left unread c.loop-reader.rows ≡ fields_of c.next_row.new.row ∷ rest =
    c.in-Ok-true.ensures.row
    ∙ ap (λ (b : Bool). if b then fields_of c.next_row.new.row ∷ rest else []) found in
    record {
      readable = c.in-Ok-true.ensures.readable found;
      read =
          HasRead-next c.args.bytes.now c.args.font.now (rows_left unread c.loop-reader.rows) rest c.loop-reader.reader
          (fields_of c.next_row.new.row) c.loop-reader.invariant.read next c.take.new.self c.in-Ok.ensures.reader
          c.in-Ok.ensures.valid c.in-Ok.ensures.next c.in-Ok.ensures.drawn;
    }
