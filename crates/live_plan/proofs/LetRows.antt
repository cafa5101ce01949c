-- A row or a tick that is let in behind others, by what is seen of a live inserter.
use Rattle.std.proofs.Common.{◌≡◌, ◌∙◌, inl, inr, refl, sym, ap, subst, ℕ, ◌+◌, ◌*◌, ◌≤◌, nat_le, min, not, Bool, true, false, ◌&&◌, if◌then◌else◌, List, [], ◌∷◌, ◌++◌, length, take, Option, Some, None, IfSome, is_some, Result, Ok, Err, arith, length-append}
use Rattle.std.proofs.lemmas.Bool.{cases_lt}
use Rattle.std.proofs.lemmas.Bool.Decides.{nat_tests}
use Rattle.std.proofs.lemmas.List.{length-take, take_all}
use Rattle.std.proofs.Math.Seq.{take-append_seam}
use Rattle.sub_base.specs.Pace.{pace_of}
use Rattle.sub_base.specs.Profile.{profile_of}
use Rattle.bitmap_font.specs.Font.{FontValue}
use Rattle.cue_records.specs.CellFaults.{value_at}
use Rattle.cue_list.specs.Past.{ScriptPast, looking_back}
use Rattle.cue_list.specs.RowFaults.{fault_of}
use Rattle.cue_records.specs.Rows.{Row, rows_of}
use Rattle.cue_list.specs.SeenReaders.{seen_of}
use Rattle.cue_list.specs.TakenRows.{StandsFor, next_fault}
use Rattle.cue_list.specs.TickRows.{is_not_above, is_tick_row, tick_row_fault}
use Rattle.set_coder.specs.GrownBlocks.{AreBlocksOf}
use Rattle.live_plan.specs.LetIn.{LetIn}
use Rattle.live_plan.specs.LiveCalls.{AnswersPiece, HasBlocks, HasLetIn, LiveState}
use Rattle.live_plan.specs.LiveRows.{Inserter, IsBatchOf, IsDue, IsDueBy, IsLetIn, IsUnplanned, IsUnscheduled, RowOrTick, row, tick, before_tick, due_front, early_behind, early_of, early_tick, has_epoch, is_within, last_tick, nearest_in, next_record, records_in, row_fault, rows_in, slots_by, taken_as}
use Rattle.live_plan.specs.Outlets.{IsOutletOf, OutletState}
use Rattle.live_plan.specs.Private.Accepting.{AnswersRow, AreAccepted, CanSend, HasLeft, IsLive, IsNextRefused, IsNextTaken, IsRowRefused, IsSmallTick, horizon_over, inserter_in, live_of}
use Rattle.live_plan.specs.Private.Loading.{HasRoomFor, loaded}
use Rattle.script_stream.specs.LeftPackets.{ArePacketsLeft}
use Rattle.live_plan.specs.declared.accepted.Accepted.{Accepted}
use Rattle.live_plan.specs.declared.faults.RowFault.{RowFault}
use Rattle.live_plan.specs.declared.faults.RowFault.TheVariants as refused
use Rattle.live_plan.specs.declared.limits.TheConstants.{AHEAD}
use Rattle.script_stream.specs.declared.left.PacketsLeft.{PacketsLeft}
use Rattle.live_plan.proofs.DueFronts.{slots_later}
use Rattle.live_plan.proofs.DueRows.{batch_goes_on, due_begins, split_tick}
use Rattle.live_plan.proofs.LeftLaws.{epoch_found}
use Rattle.live_plan.proofs.TakenRows.{still_epoch, tick_above}

-- ---- by the first cell

-- a row that is no tick row has the tests of a record
plain_fault : (font : FontValue) (past : List RowOrTick) (cells : Row) → is_tick_row cells ≡ false
    → row_fault font past cells ≡ next_fault font (rows_in past) cells
plain_fault font past cells plain =
    ap (λ (b : Bool). if b then tick_row_fault (looking_back font (nearest_in past)) (last_tick past) cells
    else fault_of font (nearest_in past) (next_record past cells)) plain

plain_early : (font : FontValue) (past : List RowOrTick) (cells : Row) (last : Option ℕ) → is_tick_row cells ≡ false
    → early_behind font past cells last ≡ horizon_over (early_tick font past cells) last
plain_early font past cells None plain = refl
plain_early font past cells (Some time) plain =
    ap (λ (b : Bool). if not b && is_within (early_tick font past cells) (time + AHEAD)
    then Some (time + AHEAD) else None) plain

plain_taken : (cells : Row) → is_tick_row cells ≡ false → taken_as cells ≡ row cells
plain_taken cells plain = ap (λ (b : Bool). if b then tick (value_at cells 1) else row cells) plain

-- a tick row has its own
tick_tests : (font : FontValue) (past : List RowOrTick) (cells : Row) → is_tick_row cells ≡ true
    → row_fault font past cells ≡ tick_row_fault (looking_back font (nearest_in past)) (last_tick past) cells
tick_tests font past cells is =
    ap (λ (b : Bool). if b then tick_row_fault (looking_back font (nearest_in past)) (last_tick past) cells
    else fault_of font (nearest_in past) (next_record past cells)) is

tick_late : (font : FontValue) (past : List RowOrTick) (cells : Row) (last : Option ℕ) → is_tick_row cells ≡ true
    → early_behind font past cells last ≡ None
tick_late font past cells None is = refl
tick_late font past cells (Some time) is =
    ap (λ (b : Bool). if not b && is_within (early_tick font past cells) (time + AHEAD)
    then Some (time + AHEAD) else None) is

tick_taken : (cells : Row) → is_tick_row cells ≡ true → taken_as cells ≡ tick (value_at cells 1)
tick_taken cells is = ap (λ (b : Bool). if b then tick (value_at cells 1) else row cells) is

-- ---- the outlet with a new batch

-- what is due are the slots that are due
pub due_long : (packets due : List ℕ) (outlet : OutletState) → IsOutletOf packets due outlet
    → length due ≡ 188 * outlet.due
due_long packets due outlet is =
    omega (
      arith,
      ap (λ (xs : List ℕ). length xs) is.is_due,
      length-take (188 * outlet.due) packets,
      is.whole,
      is.few,
    )

-- a batch that goes on with what is due
loaded_outlet : (packets due more now : List ℕ) (outlet : OutletState) (left : PacketsLeft)
    → IsOutletOf packets due outlet → ArePacketsLeft now outlet.sent left → now ≡ due ++ more
    → IsOutletOf now due (loaded outlet (Some left))
loaded_outlet packets due more now outlet left is are goes_on =
    let long = due_long packets due outlet is in
    let all : length now ≡ length (due ++ more) = ap (λ (xs : List ℕ). length xs) goes_on in record {
      whole = are.whole;
      few = omega (arith, long, all, are.whole, length-append due more);
      left = are.behind;
      is_due = sym (ap (λ (n : ℕ). take n now) (sym long) ∙ ap (take (length due)) goes_on
          ∙ take-append_seam due more);
    }

-- ---- a record

still_due : (inserter : Inserter) (past : List RowOrTick) (cells : Row) (due : List ℕ) (last : Option ℕ)
    → IsDueBy inserter past last due → IsDueBy inserter (row cells ∷ past) last due
still_due inserter past cells due None is = is
still_due inserter past cells due (Some time) is = is

-- the record is let in, and its batch is that of the outlet
pub record IsNext (old : LiveState) (past : List RowOrTick) (cells : Row) (due : List ℕ)
    (outlet : OutletState) : Type 0 where
  pub packets : List ℕ
  pub batch : IsBatchOf old.inserter (row cells ∷ past) packets
  pub lets : IsLetIn old.inserter past cells
  pub each : LetIn old.inserter (row cells ∷ past)
  pub is_due : IsDue old.inserter (row cells ∷ past) due
  pub outlet_of : IsOutletOf packets due outlet

no_packets : (inserter : Inserter) (past : List RowOrTick) (cells : Row) (packets : List ℕ)
    → has_epoch (records_in (row cells ∷ past)) ≡ false → IsBatchOf inserter past packets → packets ≡ []
no_packets inserter past cells packets none (inl (also, nothing)) = nothing
no_packets inserter past cells packets none (inr (some, script, right, compiled)) =
    absurd (let clash : true ≡ false = sym (still_epoch past (row cells) some) ∙ none in cc)

pub next_in : (old : LiveState) (past : List RowOrTick) (cells : Row) (left : Option PacketsLeft)
    → is_tick_row cells ≡ false → (has : HasLetIn old past)
    → IsNextTaken old.inserter past cells old.last old.outlet.sent left
    → IsNext old past cells has.due (loaded old.outlet left)
next_in old past cells left plain has taken = by left taken.has_left
  where
    inserter : Inserter
    inserter = old.inserter

    lets_in : (packets : List ℕ) → IsBatchOf inserter (row cells ∷ past) packets → IsLetIn inserter past cells
    lets_in packets batch = record {
      valid = plain_fault inserter.font past cells plain ∙ taken.valid;
      late = plain_early inserter.font past cells (last_tick past) plain
          ∙ ap (horizon_over (early_tick inserter.font past cells)) (sym has.last) ∙ taken.late;
      packets = packets;
      batch =
          subst (λ (one : RowOrTick). IsBatchOf inserter (one ∷ past) packets) (sym (plain_taken cells plain)) batch;
    }

    all_in : IsLetIn inserter past cells → LetIn inserter (row cells ∷ past)
    all_in lets = ((cells, sym (plain_taken cells plain), lets), has.each)

    due_too : IsDue inserter (row cells ∷ past) has.due
    due_too = still_due inserter past cells has.due (last_tick past) has.is_due

    by : (left : Option PacketsLeft) → HasLeft inserter (row cells ∷ past) old.outlet.sent left
        → IsNext old past cells has.due (loaded old.outlet left)
    by None none =
        let batch : IsBatchOf inserter (row cells ∷ past) [] = inl (none, refl) in
        let lets = lets_in [] batch in record {
          packets = [];
          batch = batch;
          lets = lets;
          each = all_in lets;
          is_due = due_too;
          outlet_of = subst (λ (packets : List ℕ). IsOutletOf packets has.due old.outlet)
              (no_packets inserter past cells has.packets none has.batch) has.outlet;
        }
    by (Some left) (packets, batch, are) =
        let lets = lets_in packets batch in
        let each = all_in lets in
        let goes_on = batch_goes_on inserter (row cells ∷ past) has.due packets
        (due_begins inserter (row cells ∷ past) has.due each due_too) batch in record {
          packets = packets;
          batch = batch;
          lets = lets;
          each = each;
          is_due = due_too;
          outlet_of = loaded_outlet has.packets has.due goes_on.0 packets old.outlet left has.outlet are goes_on.1;
        }

-- so the record is let in
pub record_in : (old new : LiveState) (past : List RowOrTick) (cells : Row) (left : Option PacketsLeft)
    → is_tick_row cells ≡ false → HasLetIn old past
    → IsNextTaken old.inserter past cells old.last old.outlet.sent left
    → StandsFor new.inserter.font (rows_in (row cells ∷ past)) (seen_of new.reader)
    → HasBlocks (seen_of new.reader).pictures new.blocks
    → new.inserter ≡ old.inserter → new.last ≡ old.last → new.outlet ≡ loaded old.outlet left
    → IsLetIn old.inserter past cells × HasLetIn new (taken_as cells ∷ past)
record_in old new past cells left plain has taken stands blocks same last outlet =
    let next = next_in old past cells left plain has taken in
    let now : HasLetIn new (row cells ∷ past) = record {
      each = subst (λ (inserter : Inserter). LetIn inserter (row cells ∷ past)) (sym same) next.each;
      stands = stands;
      blocks = blocks;
      last = last ∙ has.last;
      packets = next.packets;
      batch = subst (λ (inserter : Inserter). IsBatchOf inserter (row cells ∷ past) next.packets) (sym same) next.batch;
      due = has.due;
      is_due = subst (λ (inserter : Inserter). IsDue inserter (row cells ∷ past) has.due) (sym same) next.is_due;
      outlet = subst (IsOutletOf next.packets has.due) (sym outlet) next.outlet_of;
    } in (
      next.lets,
      subst (λ (one : RowOrTick). HasLetIn new (one ∷ past)) (sym (plain_taken cells plain)) now,
    )

-- the batch has all slots that are due
pub has_room : (old : LiveState) (past : List RowOrTick) (cells : Row) (left : Option PacketsLeft)
    → is_tick_row cells ≡ false → HasLetIn old past
    → IsNextTaken old.inserter past cells old.last old.outlet.sent left → IfSome left (HasRoomFor old.outlet)
has_room old past cells None plain has taken = tt
has_room old past cells (Some left) plain has taken = record {
  enough = (next_in old past cells (Some left) plain has taken).outlet_of.few;
  kept = taken.has_left.2.kept;
}

-- why a record is refused, as a row
pub record_refused : (old : LiveState) (past : List RowOrTick) (cells : Row) (fault : RowFault)
    → is_tick_row cells ≡ false → HasLetIn old past → IsNextRefused old.inserter past cells old.last fault
    → IsRowRefused old.inserter past cells fault
record_refused old past cells fault plain has cause = by fault cause
  where
    inserter : Inserter
    inserter = old.inserter

    passes : next_fault inserter.font (rows_in past) cells ≡ None → row_fault inserter.font past cells ≡ None
    passes right = plain_fault inserter.font past cells plain ∙ right

    early : (horizon : Option ℕ) → horizon_over (early_tick inserter.font past cells) old.last ≡ horizon
        → early_of inserter.font past cells ≡ horizon
    early horizon is =
        plain_early inserter.font past cells (last_tick past) plain
        ∙ ap (horizon_over (early_tick inserter.font past cells)) (sym has.last) ∙ is

    by : (fault : RowFault) → IsNextRefused inserter past cells old.last fault
        → IsRowRefused inserter past cells fault
    by refused.Memory cause = tt
    by (refused.Records count) cause = cause
    by (refused.Script kind) cause = plain_fault inserter.font past cells plain ∙ cause
    by (refused.Early horizon) (right, is) = (passes right, early (Some horizon) is)
    by (refused.Plan fault) (right, late, cause) = (
      passes right,
      early None late,
      subst (λ (one : RowOrTick). IsUnplanned inserter (one ∷ past) fault) (sym (plain_taken cells plain)) cause,
    )
    by (refused.Schedule fault) (right, late, cause) = (
      passes right,
      early None late,
      subst (λ (one : RowOrTick). IsUnscheduled inserter (one ∷ past) fault) (sym (plain_taken cells plain)) cause,
    )

-- ---- a tick

take_few : (n count : ℕ) (packets : List ℕ) → length packets ≡ 188 * count
    → take (188 * n) packets ≡ take (188 * min n count) packets
take_few n count packets whole =
    elim (cases_lt count n) [
      | inl more ↦ take_all (188 * n) packets (omega (arith, more, whole))
          ∙ sym (take_all (188 * min n count) packets (omega (arith, more, whole)))
      | inr few ↦ ap (λ (k : ℕ). take (188 * k) packets) (let same : n ≡ min n count = omega (arith, few) in same)
    ]

not_below : (last time : ℕ) → nat_le time last ≡ false → last ≤ time
not_below last time test = grind (arith, nat_tests)

-- the step of an inserter's packets
abbrev step_of : Inserter → ℕ
step_of inserter = (pace_of 0 (profile_of inserter.profile)).step

-- the slots that are due for a tick above the last one are no fewer
pub due_later : (old : LiveState) (past : List RowOrTick) (time : ℕ) → HasLetIn old past
    → is_not_above old.last time ≡ false
    → old.outlet.due ≤ slots_by (seen_of old.reader).past.origin (step_of old.inserter) time
due_later old past time has above = by (last_tick past) refl has.is_due
  where
    inserter : Inserter
    inserter = old.inserter

    long : length has.due ≡ 188 * old.outlet.due
    long = due_long has.packets has.due old.outlet has.outlet

    by : (last : Option ℕ) → last_tick past ≡ last → IsDueBy inserter past last has.due
        → old.outlet.due ≤ slots_by (seen_of old.reader).past.origin (step_of inserter) time
    by None none nothing = omega (arith, long, ap (λ (xs : List ℕ). length xs) nothing)
    by (Some last) some (packets, batch, front) =
        let rises : last ≤ time =
        not_below last time (sym (ap (λ (tick : Option ℕ). is_not_above tick time) (has.last ∙ some)) ∙ above) in
        let parts = split_tick past last some in
        let all = slots_later inserter past (before_tick past) parts.0 last time packets parts.1 has.each batch rises in
        let origin : (seen_of old.reader).past.origin ≡ (looking_back inserter.font (nearest_in past)).origin =
        ap (λ (known : ScriptPast). known.origin) has.stands.found in
        omega (
          arith,
          long,
          all,
          ap (λ (xs : List ℕ). length xs) front,
          ap (λ (origin : ℕ). slots_by origin (step_of inserter) time) origin,
        )

-- a tick row that passes its tests, behind what a reader knows
pub tick_in : (old : LiveState) (past : List RowOrTick) (cells : Row) (slots : ℕ) → is_tick_row cells ≡ true
    → HasLetIn old past → tick_row_fault (seen_of old.reader).past old.last cells ≡ None
    → slots ≡ slots_by (seen_of old.reader).past.origin (step_of old.inserter) (value_at cells 1)
    → IsLetIn old.inserter past cells
    × HasLetIn (record old {
      last = Some (value_at cells 1);
      outlet = record old.outlet { due = min slots old.outlet.count };
    }) (taken_as cells ∷ past)
tick_in old past cells slots is has tests slots_are =
    let inserter = old.inserter in
    let time = value_at cells 1 in
    let same = tick_taken cells is in
    let lets : IsLetIn inserter past cells = record {
      valid = tick_tests inserter.font past cells is
          ∙ ap (λ (last : Option ℕ). tick_row_fault (looking_back inserter.font (nearest_in past)) last cells)
          (sym has.last)
          ∙ ap (λ (known : ScriptPast). tick_row_fault known old.last cells) (sym has.stands.found) ∙ tests;
      late = tick_late inserter.font past cells (last_tick past) is;
      packets = has.packets;
      batch = subst (λ (one : RowOrTick). IsBatchOf inserter (one ∷ past) has.packets) (sym same) has.batch;
    } in
    let origin : (seen_of old.reader).past.origin ≡ (looking_back inserter.font (nearest_in past)).origin =
    ap (λ (known : ScriptPast). known.origin) has.stands.found in
    let due : slots_by (looking_back inserter.font (nearest_in past)).origin (step_of inserter) time ≡ slots =
    sym (slots_are ∙ ap (λ (origin : ℕ). slots_by origin (step_of inserter) time) origin) in
    let front : due_front inserter past time has.packets ≡ take (188 * min slots old.outlet.count) has.packets =
    ap (λ (n : ℕ). take (188 * n) has.packets) due ∙ take_few slots old.outlet.count has.packets has.outlet.whole in
    let now : HasLetIn (record old {
      last = Some time;
      outlet = record old.outlet { due = min slots old.outlet.count };
    }) (tick time ∷ past) = record {
      each = ((cells, sym same, lets), has.each);
      stands = has.stands;
      blocks = has.blocks;
      last = refl;
      packets = has.packets;
      batch = has.batch;
      due = due_front inserter past time has.packets;
      is_due = (has.packets, has.batch, refl);
      outlet = record {
        whole = has.outlet.whole;
        few = omega arith;
        left = has.outlet.left;
        is_due = front;
      };
    } in (
      lets,
      subst (λ (one : RowOrTick). HasLetIn (record old {
        last = Some time;
        outlet = record old.outlet { due = min slots old.outlet.count };
      }) (one ∷ past)) (sym same) now,
    )

-- ---- what is answered

-- what is seen is that of some rows still
pub answered_live : (old new : LiveState) (cells : Row) (answer : Result Unit RowFault)
    → AnswersRow old new cells answer → new.inserter ≡ old.inserter → IsSmallTick new.last → IsLive old → IsLive new
answered_live old new cells answer answers same small is =
    let now = answers is.past is.has in
    record { sends = subst CanSend (sym same) is.sends; small = small; past = now.0; has = now.2 }

-- a record is refused, and what was taken of it is given up
pub record_left : (old new : Accepted) (last : Option ℕ) (outlet : OutletState) (cells : Row) (fault : RowFault)
    → is_tick_row cells ≡ false
    → ((past : List RowOrTick) → AreAccepted old past
    → IsNextRefused (inserter_in old) past cells last fault × AreAccepted new past)
    → inserter_in new ≡ inserter_in old
    → AnswersRow (live_of old last outlet) (live_of new last outlet) cells (Err fault)
record_left old new last outlet cells fault plain refused same past has =
    let now = refused past (record { stands = has.stands; blocks = has.blocks }) in (
      past,
      (record_refused (live_of old last outlet) past cells fault plain has now.0, refl),
      record {
        each = subst (λ (inserter : Inserter). LetIn inserter past) (sym same) has.each;
        stands = now.1.stands;
        blocks = now.1.blocks;
        last = has.last;
        packets = has.packets;
        batch = subst (λ (inserter : Inserter). IsBatchOf inserter past has.packets) (sym same) has.batch;
        due = has.due;
        is_due = subst (λ (inserter : Inserter). IsDue inserter past has.due) (sym same) has.is_due;
        outlet = has.outlet;
      },
    )

-- a record is taken
abbrev pub TakesNext : Accepted → Accepted → Row → Option ℕ → ℕ → Option PacketsLeft → Type 0
TakesNext old new cells last sent left =
    (past : List RowOrTick) → AreAccepted old past
    → IsNextTaken (inserter_in old) past cells last sent left × AreAccepted new (row cells ∷ past)

pub record_taken : (old new : Accepted) (last : Option ℕ) (outlet now : OutletState) (cells : Row)
    (left : Option PacketsLeft) → is_tick_row cells ≡ false → TakesNext old new cells last outlet.sent left
    → inserter_in new ≡ inserter_in old → now ≡ loaded outlet left
    → AnswersRow (live_of old last outlet) (live_of new last now) cells (Ok tt)
record_taken old new last outlet now cells left plain takes same outlet_is past has =
    let taken = takes past (record { stands = has.stands; blocks = has.blocks }) in
    let let_in = record_in (live_of old last outlet) (live_of new last now) past cells left plain has taken.0
    taken.1.stands taken.1.blocks same refl outlet_is in
    (taken_as cells ∷ past, (let_in.0, refl), let_in.1)

pub record_room : (old new : Accepted) (last : Option ℕ) (outlet : OutletState) (cells : Row)
    (left : Option PacketsLeft) → is_tick_row cells ≡ false → TakesNext old new cells last outlet.sent left
    → IsLive (live_of old last outlet) → IfSome left (HasRoomFor outlet)
record_room old new last outlet cells left plain takes is =
    has_room (live_of old last outlet) is.past cells left plain is.has
    (takes is.past (record { stands = is.has.stands; blocks = is.has.blocks })).0

-- a tick is taken
pub tick_passed : (old : LiveState) (now : OutletState) (cells : Row) (time slots : ℕ) → is_tick_row cells ≡ true
    → tick_row_fault (seen_of old.reader).past old.last cells ≡ None → time ≡ value_at cells 1
    → slots ≡ slots_by (seen_of old.reader).past.origin (step_of old.inserter) time
    → now ≡ record old.outlet { due = min slots old.outlet.count }
    → AnswersRow old (record old { last = Some time; outlet = now }) cells (Ok tt)
tick_passed old now cells time slots is tests time_is slots_are outlet past has =
    let due = slots_are ∙ ap (slots_by (seen_of old.reader).past.origin (step_of old.inserter)) time_is in
    let let_in = tick_in old past cells slots is has tests due in
    let taken = subst (λ (one : OutletState). HasLetIn (record old { last = Some (value_at cells 1); outlet = one })
    (taken_as cells ∷ past)) (sym outlet) let_in.1 in (
      taken_as cells ∷ past,
      (let_in.0, refl),
      subst (λ (t : ℕ). HasLetIn (record old { last = Some t; outlet = now }) (taken_as cells ∷ past)) (sym time_is)
          taken,
    )

pub tick_room : (live : LiveState) (cells : Row) (time slots : ℕ)
    → tick_row_fault (seen_of live.reader).past live.last cells ≡ None → time ≡ value_at cells 1
    → slots ≡ slots_by (seen_of live.reader).past.origin (step_of live.inserter) time → IsLive live
    → live.outlet.due ≤ slots
tick_room live cells time slots tests time_is slots_are is =
    let above = ap (is_not_above live.last) time_is ∙ tick_above (seen_of live.reader).past live.last cells tests in
    subst (λ (n : ℕ). live.outlet.due ≤ n) (sym slots_are) (due_later live is.past time is.has above)

-- ---- a piece

-- the answer to the one row of a piece is that to the piece
pub piece_answered : (old new : LiveState) (piece : List ℕ) (cells : Row) (answer : Result Unit RowFault)
    → rows_of piece ≡ cells ∷ [] → AnswersRow old new cells answer → AnswersPiece old new piece answer
piece_answered old new piece cells (Ok done) one answers past has =
    let now = answers past has in (now.0, (cells, one, now.1.0, now.1.1), now.2)
piece_answered old new piece cells (Err refused.Memory) one answers past has = answers past has
piece_answered old new piece cells (Err (refused.Records count)) one answers past has =
    absurd (answers past has).1.0
piece_answered old new piece cells (Err (refused.Script kind)) one answers past has =
    let now = answers past has in (now.0, ((cells, one, now.1.0), now.1.1), now.2)
piece_answered old new piece cells (Err (refused.Early horizon)) one answers past has =
    let now = answers past has in (now.0, ((cells, one, now.1.0.0, now.1.0.1), now.1.1), now.2)
piece_answered old new piece cells (Err (refused.Plan fault)) one answers past has =
    let now = answers past has in (now.0, ((cells, one, now.1.0.0, now.1.0.1, now.1.0.2), now.1.1), now.2)
piece_answered old new piece cells (Err (refused.Schedule fault)) one answers past has =
    let now = answers past has in (now.0, ((cells, one, now.1.0.0, now.1.0.1, now.1.0.2), now.1.1), now.2)

-- ---- whether an epoch was started

-- its reader knows whether one of the rows that were let in is an epoch's
pub epoch_seen : (live other : LiveState) (past : List RowOrTick) → live ≡ other → HasLetIn other past
    → is_some (seen_of live.reader).past.epoch ≡ has_epoch (records_in past)
epoch_seen live other past same has =
    epoch_found live.inserter.font past (seen_of live.reader)
    (subst (λ (one : LiveState). HasLetIn one past) (sym same) has).stands

-- ---- no rows yet

-- none are due, and none are left
pub none_in : (accepted : Accepted) (outlet : OutletState)
    → ((font : FontValue) → StandsFor font [] (seen_of accepted.reader)) → AreBlocksOf [] accepted.blocks
    → outlet ≡ record {
      kept = record { slots = []; packets = [] };
      sent = 0;
      due = 0;
      count = 0;
      closed = false;
    }
    → HasLetIn (live_of accepted None outlet) []
none_in accepted outlet stands blocks empty = record {
  each = tt;
  stands = stands accepted.font;
  blocks = record { first = []; more = []; are = blocks; all = (stands accepted.font).drawn };
  last = refl;
  packets = [];
  batch = inl (refl, refl);
  due = [];
  is_due = refl;
  outlet = subst (IsOutletOf [] []) (sym empty)
      (record { whole = refl; few = omega arith; left = refl; is_due = refl });
}
