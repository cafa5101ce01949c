use Rattle.std.proofs.Common.{◌≡◌, ◌∙◌, ℕ, ◌*◌, ◌++◌, take, drop, ap, ap₂, sym, subst, length, chars, true, false, Option, Some, None, OnOk, IfErr, arith}
use Rattle.std.specs.Str.{IsUtf8}
use Rattle.std.proofs.Math.Seq.{take-append_seam}
use Rattle.csv.specs.Records.{fields_of}
use Rattle.cue_records.specs.Cells.{cell_at}
use Rattle.cue_records.specs.Codes.{are_digits, codes_of}
use Rattle.cue_records.specs.RowValues.{area}
use Rattle.cue_records.specs.PixelRuns.{is_in_runs}
use Rattle.cue_records.specs.CellFaults.{IsRecordFault}
use Rattle.cue_records.specs.CodeFaults.{codes_fault, digits_of, runs_fault}
use Rattle.cue_records.specs.declared.fault.ScriptKind.{ScriptKind}
use Rattle.cue_records.proofs.HexLaws.{valid-digits, digits-valid}
use Rattle.cue_records.proofs.RunLaws.{digits_no_runs, picture_in_digits, pixels_in_digits, pixels_in_runs}
use Rattle.cue_records.proofs.picture_codes.read_codes.Goals as goal
use Rattle.cue_records.proofs.picture_codes.read_codes.Goals.{then-text-digits+in_ok-codes+else-put_codes, else-text-digits}

pub returns-then-put_codes-clause-valid : goal.returns-then-put_codes-clause-valid
returns-then-put_codes-clause-valid c =
    let wanted : c.digits.result * c.area.result ≡ digits_of c.args.head.depth * area c.args.head =
    ap₂ (λ a b. a * b) c.digits.ensures.value c.area.ensures.value in
    let digits : are_digits c.args.head.depth c.cell-text.result.now ≡ true =
    sym c.put_codes.ensures.digits ∙ c.if-put_codes.true in
    let cell = cell_at (fields_of c.args.row.now) 5 in
    let all : are_digits c.args.head.depth cell ≡ true =
    ap (are_digits c.args.head.depth) (sym c.cell-text.ensures) ∙ digits in
    pixels_in_digits c.args.head cell (digits_no_runs c.args.head.depth cell all)
    ∙ digits-valid c.args.head cell (omega (arith, ap length c.cell-text.ensures, c.if-text-digits.true, wanted)) all

pub returns-then-put_codes-clause-read : goal.returns-then-put_codes-clause-read
returns-then-put_codes-clause-read c =
    let cell = cell_at (fields_of c.args.row.now) 5 in
    let depth = c.args.head.depth in
    let put = c.put_codes.new.codes in
    let behind = drop (length put) c.in_ok-codes.codes.items in
    let all : are_digits depth cell ≡ true =
    ap (are_digits depth) (sym c.cell-text.ensures) ∙ sym c.put_codes.ensures.digits ∙ c.if-put_codes.true in
    let long : c.in_ok-codes.codes.len ≡ length put =
    sym (c.put_codes.ensures.count ∙ c.as_mut_slice.ensures.len) in
    picture_in_digits depth cell (digits_no_runs depth cell all) ∙ ap (codes_of depth) (sym c.cell-text.ensures)
    ∙ c.put_codes.ensures.codes c.if-put_codes.true
    ∙ ap Some (sym (ap (λ (n : ℕ). take n (put ++ behind)) long ∙ take-append_seam put behind))

pub returns-then-is_in_runs-clause-valid : goal.returns-then-is_in_runs-clause-valid
returns-then-is_in_runs-clause-valid c =
    let cell = cell_at (fields_of c.args.row.now) 5 in
    let runs : is_in_runs cell ≡ true =
    ap is_in_runs (sym c.cell-text.ensures) ∙ sym c.is_in_runs.ensures ∙ c.if-is_in_runs.true in
    subst (λ (fault : Option ScriptKind). OnOk c.read_runs.result (fault ≡ None))
    (ap (runs_fault c.args.head.depth (area c.args.head)) c.cell-text.ensures
    ∙ sym (pixels_in_runs c.args.head cell runs)) c.read_runs.ensures.valid

pub returns-then-is_in_runs-clause-refused : goal.returns-then-is_in_runs-clause-refused
returns-then-is_in_runs-clause-refused c =
    let cell = cell_at (fields_of c.args.row.now) 5 in
    let runs : is_in_runs cell ≡ true =
    ap is_in_runs (sym c.cell-text.ensures) ∙ sym c.is_in_runs.ensures ∙ c.if-is_in_runs.true in
    subst (λ (fault : Option ScriptKind). IfErr c.read_runs.result (IsRecordFault fault))
    (ap (runs_fault c.args.head.depth (area c.args.head)) c.cell-text.ensures
    ∙ sym (pixels_in_runs c.args.head cell runs)) c.read_runs.ensures.refused

pub returns-clause-refused : goal.returns-clause-refused
returns-clause-refused c =
    let cell = cell_at (fields_of c.args.row.now) 5 in
    let digits : is_in_runs cell ≡ false =
    ap is_in_runs (sym c.cell-text.ensures) ∙ sym c.is_in_runs.ensures ∙ c.if-is_in_runs.false in
    pixels_in_digits c.args.head cell digits
    ∙ ap (λ t. codes_fault c.args.head (chars t)) (sym c.text_cell.ensures) ∙ sym c.codes_fault.ensures
    ∙ c.in-Some.is

pub unreachable-requires : goal.unreachable-requires
unreachable-requires c =
    let cell = cell_at (fields_of c.args.row.now) 5 in
    let wanted : c.digits.result * c.area.result ≡ digits_of c.args.head.depth * area c.args.head =
    ap₂ (λ a b. a * b) c.digits.ensures.value c.area.ensures.value in
    let none : codes_fault c.args.head (chars cell) ≡ None =
    ap (λ t. codes_fault c.args.head (chars t)) (sym c.text_cell.ensures) ∙ sym c.codes_fault.ensures
    ∙ c.in-None.is in
    let valid = valid-digits c.args.head cell (subst IsUtf8 c.text_cell.ensures c.text_cell.utf8) none in
    elim c.if-text-digits.branch [
      | then-text-digits+in_ok-codes+else-put_codes w ↦ let never : true ≡ false =
          sym valid.1 ∙ ap (are_digits c.args.head.depth) (sym c.cell-text.ensures)
          ∙ sym w.put_codes.ensures.digits ∙ w.if-put_codes.false in cc
      | else-text-digits w ↦ omega (arith, valid.0, ap length c.cell-text.ensures, w.if-text-digits.false, wanted)
    ]
