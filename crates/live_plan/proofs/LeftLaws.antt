-- What is left of the packets of rows with an epoch, and why such rows have none.
use Rattle.std.proofs.Common.{◌≡◌, ◌∙◌, inr, refl, sym, ap, subst, ℕ, Bool, true, false, ◌||◌, if◌then◌else◌, List, [], ◌∷◌, ◌++◌, ◌+◌, length, find, drop, Option, Some, None, is_some, option_map, append-nil, append_assoc}
use Rattle.std.specs.List.{list_any}
use Rattle.std.proofs.lemmas.List.{take-append-drop}
use Rattle.std.proofs.lemmas.List.Folds.{list_any-append}
use Rattle.sub_base.specs.Picture.{Picture}
use Rattle.sub_base.specs.declared.profile.ProfileName.{ProfileName}
use Rattle.bitmap_font.specs.Font.{FontValue}
use Rattle.cue_list.specs.Past.{ScriptPast, epoch_of}
use Rattle.cue_records.specs.Cells.{cell_at}
use Rattle.cue_records.specs.Records.{Record, is, kind_of, record_of}
use Rattle.cue_list.specs.RowFaults.{fault_with}
use Rattle.cue_records.specs.Rows.{Row}
use Rattle.cue_list.specs.SeenReaders.{seen_of}
use Rattle.cue_records.specs.CellFaults.{IsRecordFault}
use Rattle.cue_list.specs.TakenRows.{CanGoBack, IsScriptOf, Kept, Mark, StandsFor, TakesRow, nearest, next_fault}
use Rattle.cue_list.specs.TickRows.{first_tick}
use Rattle.cue_list.specs.declared.kept_rows.ScriptReader.{ScriptReader}
use Rattle.cue_records.specs.declared.row_kind.RowKind.TheVariants as kinds
use Rattle.cue_list.specs.declared.script.Script.{Script}
use Rattle.cue_records.specs.declared.record_fault.RecordFault.{RecordFault}
use Rattle.cue_records.specs.declared.record_fault.RecordFault.TheVariants as record_faults
use Rattle.cue_list.proofs.OneScript.{one_drawn}
use Rattle.script_stream.specs.Refused.{IsSendCause}
use Rattle.script_stream.specs.declared.faults.SendFault.{SendFault}
use Rattle.script_stream.specs.declared.faults.SendFault.TheVariants as send
use Rattle.set_coder.specs.GrownBlocks.{AreBlocksOf}
use Rattle.set_coder.specs.declared.coded_picture.KeptBlocks.{KeptBlocks}
use Rattle.shown_stream.specs.Compiled.{IsCompiledTo}
use Rattle.live_plan.specs.LiveCalls.{HasBlocks}
use Rattle.live_plan.specs.LiveRows.{Inserter, RowOrTick, row, tick, early_tick, has_epoch, nearest_in, next_record, records_in, rows_in, compiling_by}
use Rattle.live_plan.specs.Private.Accepting.{AreAccepted, HasLeft, IsNextRefused, IsUnsent, IsUnsentOrEarly, horizon_over, inserter_in, record_refusal}
use Rattle.live_plan.specs.Private.Planning.{IsSendRefused, KeepsBlocks, refusal_of}
use Rattle.script_stream.specs.LeftPackets.{ArePacketsLeft}
use Rattle.live_plan.specs.declared.accepted.Accepted.{Accepted}
use Rattle.live_plan.specs.declared.faults.RowFault.{RowFault}
use Rattle.live_plan.specs.declared.faults.RowFault.TheVariants as refused
use Rattle.script_stream.specs.declared.left.PacketsLeft.{PacketsLeft}
use Rattle.live_plan.proofs.TakenRows.{nearest_more, records_more}

-- ---- whether an epoch was started

one_found : (b : Bool) (next : Record) (found : Option Record) (any : Bool) → is_some found ≡ any
    → is_some (if b then Some next else found) ≡ (any || (b || false))
one_found true next found true same = refl
one_found true next found false same = refl
one_found false next found true same = same
one_found false next found false same = same

-- an epoch's row is found from either end
found_any : (past : List RowOrTick) → is_some (find (is kinds.Epoch) (nearest_in past)) ≡ has_epoch (records_in past)
found_any [] = refl
found_any (tick time ∷ past) = found_any past
found_any (row cells ∷ past) =
    let next = next_record past cells in
    ap (λ (rows : List Record). is_some (find (is kinds.Epoch) rows)) (nearest_more past cells)
    ∙ one_found (is kinds.Epoch next) next (find (is kinds.Epoch) (nearest_in past)) (has_epoch (records_in past))
    (found_any past)
    ∙ sym (ap (list_any (is kinds.Epoch)) (records_more 1 (rows_in past) cells)
    ∙ list_any-append (is kinds.Epoch) (records_in past) (next ∷ []))

some_map : {A B : Type 0} (f : A → B) (found : Option A) → is_some (option_map f found) ≡ is_some found
some_map f None = refl
some_map f (Some one) = refl

-- a reader knows whether an epoch's row was let in
pub epoch_found : (font : FontValue) (past : List RowOrTick) (kept : Kept) → StandsFor font (rows_in past) kept
    → is_some kept.past.epoch ≡ has_epoch (records_in past)
epoch_found font past kept stands =
    ap (λ (known : ScriptPast). is_some known.epoch) stands.found
    ∙ some_map (epoch_of font (nearest_in past)) (find (is kinds.Epoch) (nearest_in past))
    ∙ found_any past

-- ---- the blocks of the first pictures

-- pictures that a record brings come behind those that were there
pictures_stay : (font : FontValue) (rows : List Row) (cells : Row) (old now : Kept) (mark : Mark)
    → StandsFor font rows old → TakesRow font rows cells now mark
    → now.pictures ≡ old.pictures ++ drop mark.count now.pictures
pictures_stay font rows cells old now mark stands takes =
    let same : takes.back.kept.pictures ≡ old.pictures =
    one_drawn font (nearest rows) takes.back.kept.pictures old.pictures takes.back.stood.drawn stands.drawn in
    sym (take-append-drop mark.count now.pictures)
    ∙ ap (λ (front : List Picture). front ++ drop mark.count now.pictures) (takes.back.front ∙ same)

-- behind the first ones, whose blocks are kept
pictures_behind : (font : FontValue) (rows : List Row) (cells : Row) (old now : Kept) (mark : Mark)
    (first more : List Picture) → StandsFor font rows old → TakesRow font rows cells now mark
    → old.pictures ≡ first ++ more → now.pictures ≡ first ++ (more ++ drop mark.count now.pictures)
pictures_behind font rows cells old now mark first more stands takes all =
    let behind = drop mark.count now.pictures in
    pictures_stay font rows cells old now mark stands takes
    ∙ ap (λ (front : List Picture). front ++ behind) all ∙ append_assoc first more behind

-- all pictures of a script are coded
pub blocks_whole : (pictures all : List Picture) (blocks : KeptBlocks) → all ≡ pictures → AreBlocksOf all blocks
    → HasBlocks pictures blocks
blocks_whole pictures all blocks same are =
    record { first = all; more = []; are = are; all = sym (append-nil all ∙ same) }

-- ---- what was accepted

-- a row more was taken
pub accepted_next : (old : Accepted) (reader : ScriptReader) (past : List RowOrTick) (cells : Row) (mark : Mark)
    → AreAccepted old past → TakesRow old.font (rows_in past) cells (seen_of reader) mark
    → AreAccepted (record old { reader = reader }) (row cells ∷ past)
accepted_next old reader past cells mark are takes = record {
  stands = takes.stands;
  blocks = record {
    first = are.blocks.first;
    more = are.blocks.more ++ drop mark.count (seen_of reader).pictures;
    are = are.blocks.are;
    all = pictures_behind old.font (rows_in past) cells (seen_of old.reader) (seen_of reader) mark are.blocks.first
        are.blocks.more are.stands takes are.blocks.all;
  };
}

-- the same rows, with other blocks
pub accepted_still : (old new : Accepted) (past : List RowOrTick) → AreAccepted old past
    → inserter_in new ≡ inserter_in old → seen_of new.reader ≡ seen_of old.reader
    → HasBlocks (seen_of old.reader).pictures new.blocks → AreAccepted new past
accepted_still old new past are same seen has = record {
  stands = subst (λ (inserter : Inserter). StandsFor inserter.font (rows_in past) (seen_of new.reader)) (sym same)
      (subst (StandsFor old.font (rows_in past)) (sym seen) are.stands);
  blocks = subst (λ (kept : Kept). HasBlocks kept.pictures new.blocks) (sym seen) has;
}

-- the row that was taken is given up
pub accepted_back : (old left : Accepted) (taken reader : ScriptReader) (past : List RowOrTick) (cells : Row)
    (mark : Mark)
    → AreAccepted old past → TakesRow old.font (rows_in past) cells (seen_of taken) mark
    → inserter_in left ≡ inserter_in old → seen_of left.reader ≡ seen_of taken
    → KeepsBlocks (seen_of taken).pictures old.blocks left.blocks
    → ((font : FontValue) (rows : List Row) → CanGoBack font rows (seen_of left.reader) mark
    → StandsFor font rows (seen_of reader))
    → AreAccepted (record left { reader = reader }) past
accepted_back old left taken reader past cells mark are takes same seen keeps back =
    let rows = rows_in past in
    let stands : StandsFor old.font rows (seen_of reader) =
    back old.font rows (subst (λ (kept : Kept). CanGoBack old.font rows kept mark) (sym seen) takes.back) in
    let more = are.blocks.more ++ drop mark.count (seen_of taken).pictures in
    let all : (seen_of taken).pictures ≡ are.blocks.first ++ more =
    pictures_behind old.font rows cells (seen_of old.reader) (seen_of taken) mark are.blocks.first are.blocks.more
    are.stands takes are.blocks.all in record {
      stands = subst (λ (inserter : Inserter). StandsFor inserter.font rows (seen_of reader)) (sym same) stands;
      blocks = record {
        first = are.blocks.first;
        more = are.blocks.more;
        are = keeps are.blocks.first more all are.blocks.are;
        all = one_drawn old.font (nearest rows) (seen_of reader).pictures (seen_of old.reader).pictures stands.drawn
            are.stands.drawn
            ∙ are.blocks.all;
      };
    }

-- the first tick of a valid row, as a reader has it
pub first_is_early : (font : FontValue) (past : List RowOrTick) (cells : Row) (kept : Kept) (first : Option ℕ)
    → StandsFor font (rows_in past) kept → next_fault font (rows_in past) cells ≡ None
    → ((any : FontValue) (number : ℕ) → fault_with any kept.past (record_of number cells) ≡ None
    → first ≡ first_tick kept.past (kind_of (cell_at cells 0)) cells)
    → first ≡ early_tick font past cells
first_is_early font past cells kept first stands right is =
    is font (length (rows_in past) + 1)
    (ap (λ (known : ScriptPast). fault_with font known (record_of (length (rows_in past) + 1) cells)) stands.found
    ∙ right)
    ∙ ap (λ (known : ScriptPast). first_tick known (kind_of (cell_at cells 0)) cells) stands.found

-- ---- a script that is sent, and one that is not

-- what is left of the packets of a script is so of the rows that it is of
pub batch_left : (inserter : Inserter) (past : List RowOrTick) (sent : ℕ) (script : Script) (left : PacketsLeft)
    → has_epoch (records_in past) ≡ true → IsScriptOf inserter.font (records_in past) script
    → ((packets : List ℕ) × IsCompiledTo (compiling_by inserter script) packets
    × ArePacketsLeft packets sent left)
    → HasLeft inserter past sent (Some left)
batch_left inserter past sent script left some right (packets, compiled, are) =
    (packets, inr (some, script, right, compiled), are)

-- a script that is not sent, as the fault of a row
pub send_refused : (profile : ProfileName) (script : Script) (fault : SendFault) → IsSendCause profile script fault
    → IsSendRefused profile script (refusal_of fault)
send_refused profile script send.Memory cause = tt
send_refused profile script (send.Plan fault) cause = cause
send_refused profile script (send.Schedule place fault) cause = (place, cause)

-- and so the rows that it is of have no packets
pub rows_unsent : (inserter : Inserter) (past : List RowOrTick) (script : Script) (fault : RowFault)
    → has_epoch (records_in past) ≡ true → IsScriptOf inserter.font (records_in past) script
    → IsSendRefused inserter.profile script fault → IsUnsent inserter past fault
rows_unsent inserter past script refused.Memory some right cause = tt
rows_unsent inserter past script (refused.Records count) some right cause = cause
rows_unsent inserter past script (refused.Script kind) some right cause = cause
rows_unsent inserter past script (refused.Early horizon) some right cause = cause
rows_unsent inserter past script (refused.Plan fault) some right cause =
    record { epoch = some; script = script; valid = right; cause = cause }
rows_unsent inserter past script (refused.Schedule fault) some right (place, cause) =
    record { epoch = some; script = script; valid = right; place = place; cause = cause }

-- ---- a record that is refused

pub late_unsent : (inserter : Inserter) (past : List RowOrTick) (first last : Option ℕ) (fault : RowFault)
    → horizon_over first last ≡ None → IsUnsent inserter past fault
    → IsUnsentOrEarly inserter past first last fault
late_unsent inserter past first last refused.Memory late cause = tt
late_unsent inserter past first last (refused.Records count) late cause = cause
late_unsent inserter past first last (refused.Script kind) late cause = absurd cause
late_unsent inserter past first last (refused.Early horizon) late cause = absurd cause
late_unsent inserter past first last (refused.Plan fault) late cause = (refl, late, cause)
late_unsent inserter past first last (refused.Schedule fault) late cause = (refl, late, cause)

pub early_unsent : (inserter : Inserter) (past : List RowOrTick) (first last : Option ℕ) (horizon : ℕ)
    → horizon_over first last ≡ Some horizon → IsUnsentOrEarly inserter past first last (refused.Early horizon)
early_unsent inserter past first last horizon early = (refl, early)

-- the record is valid, and refused behind its tests
pub next_refused : (inserter : Inserter) (past : List RowOrTick) (cells : Row) (first last : Option ℕ)
    (fault : RowFault)
    → next_fault inserter.font (rows_in past) cells ≡ None → first ≡ early_tick inserter.font past cells
    → IsUnsentOrEarly inserter (row cells ∷ past) first last fault → IsNextRefused inserter past cells last fault
next_refused inserter past cells first last refused.Memory right same cause = tt
next_refused inserter past cells first last (refused.Records count) right same cause = cause
next_refused inserter past cells first last (refused.Script kind) right same cause = right ∙ cause
next_refused inserter past cells first last (refused.Early horizon) right same (none, cause) =
    (right, ap (λ (tick : Option ℕ). horizon_over tick last) (sym same) ∙ cause)
next_refused inserter past cells first last (refused.Plan fault) right same (none, late, cause) =
    (right, ap (λ (tick : Option ℕ). horizon_over tick last) (sym same) ∙ late, cause)
next_refused inserter past cells first last (refused.Schedule fault) right same (none, late, cause) =
    (right, ap (λ (tick : Option ℕ). horizon_over tick last) (sym same) ∙ late, cause)

-- the record is wrong
pub next_wrong : (inserter : Inserter) (past : List RowOrTick) (cells : Row) (last : Option ℕ) (fault : RecordFault)
    → IsRecordFault (next_fault inserter.font (rows_in past) cells) fault
    → IsNextRefused inserter past cells last (record_refusal fault)
next_wrong inserter past cells last record_faults.Memory cause = tt
next_wrong inserter past cells last (record_faults.Wrong kind) cause = cause
