-- What a piece more does to a run, and how a run ends.
use Rattle.std.proofs.Common.{◌≡◌, ◌≢◌, ◌∙◌, inl, inr, refl, sym, ap, subst, ℕ, ◌+◌, ◌*◌, ◌≤◌, ◌==◌, true, false, List, [], ◌∷◌, ◌++◌, length, take, drop, Option, Some, None, Ok, Err, arith, append_assoc, append-nil, length-append, take-append-drop}
use Rattle.std.proofs.KnownBytes.{Appends-nil, Appends-trans}
use Rattle.std.proofs.Math.Seq.{drop-append_seam, take-append-add}
use Rattle.std.proofs.lemmas.Bool.Decides.{nat_tests}
use Rattle.std.proofs.lemmas.List.{nil_from_length}
use Rattle.std.specs.Io.KnownBytes.{Appends, Keeps}
use Rattle.sub_base.proofs.TransferSteps.{HasRisen-since}
use Rattle.sub_base.specs.Counts.{HasRisen}
use Rattle.sub_base.specs.Endpoints.{AppendsPrefix, Received, Wrote, WrotePrefix}
use Rattle.sub_base.specs.declared.faults.WriteFailed.{WriteFailed}
use Rattle.cue_records.specs.Rows.{Row, rows_of}
use Rattle.live_plan.proofs.DueFurther.{due_goes_further}
use Rattle.live_plan.proofs.DueRows.{batch_goes_on, due_begins, runs_let_in}
use Rattle.live_plan.specs.LetIn.{LetIn}
use Rattle.live_plan.specs.LiveCalls.{AnswersPiece, HasLetIn, LiveState, WritesDueOf, WritesRestOf}
use Rattle.live_plan.specs.LiveOutcome.{BeginsBatch, Runs, is_memory, let_in, none_yet, passed_over, refused_line, turned_away}
use Rattle.live_plan.specs.LiveRows.{Inserter, IsAnswer, IsBatchOf, IsDue, IsLetIn, IsPieceRefusedFor, RowOrTick, has_epoch, records_in, taken_as}
use Rattle.live_plan.specs.Private.Running.{Begun, HasTaken, IsFresh, IsHalted, IsPaid, IsSentNothing, IsSentWhole, begun_of, is_without_record}
use Rattle.live_plan.specs.declared.faults.RowFault.{RowFault}
use Rattle.live_plan.specs.declared.faults.RowFault.TheVariants as refused
use Rattle.live_plan.specs.declared.run.Run.{Run}
use Rattle.live_plan.specs.declared.run.Stop.TheVariants as stop

-- ---- bytes that were written

-- a prefix of what was to be written behind bytes that were
pub prefix_behind : (a b c : Option (List ℕ)) (first second : List ℕ) → Appends a b first
    → AppendsPrefix b c second → AppendsPrefix a c (first ++ second)
prefix_behind a b c first second wrote (n, within, front) = (
  length first + n,
  omega (arith, within, length-append first second),
  subst (Appends a c) (sym (take-append-add first second n)) (Appends-trans a b c first (take n second) wrote front),
)

nothing_more : (a b : Option (List ℕ)) → Appends a b [] → Keeps a b
nothing_more None b is = tt
nothing_more (Some x) None is = absurd is
nothing_more (Some x) (Some y) is = is ∙ append-nil x

-- a prefix of bytes that begin a batch begins it too
shorter : (inserter : Inserter) (past : List RowOrTick) (first second : List ℕ) (n : ℕ)
    → BeginsBatch inserter past (first ++ second) → BeginsBatch inserter past (first ++ take n second)
shorter inserter past first second n (more, batch) = (
  drop n second ++ more,
  subst (IsBatchOf inserter past)
      (ap (λ l. (first ++ l) ++ more) (sym (take-append-drop n second))
      ∙ (ap (λ l. l ++ more) (sym (append_assoc first (take n second) (drop n second)))
      ∙ append_assoc (first ++ take n second) (drop n second) more))
      batch,
)

-- ---- the beginning

pub fresh_paid : (run : Run) (out notes : Received) → IsFresh run
    → IsPaid (begun_of run out notes) [] [] out notes run
fresh_paid run out notes fresh = (
  record {
    past = [];
    lines = [];
    runs = subst (λ (count : ℕ). Runs run.live.inserter [] [] count []) (sym fresh.none) none_yet;
    let_in = fresh.let_in;
    same = refl;
    due = [];
    is_due = record { past = []; count = 0; lines = []; runs = none_yet; is_due = refl };
    behind = [];
    sent = ap (λ (n : ℕ). 188 * n) fresh.unsent;
    written = Appends-nil out.written;
    owed = [];
    is_owed = refl;
    told = Appends-nil notes.written;
    out_kept = omega arith;
    notes_kept = omega arith;
  },
  refl,
)

-- what was written is what is due
pub paid_due : (begun : Begun) (earlier further : List (List ℕ)) (out notes : Received) (run : Run)
    → (paid : IsPaid begun earlier further out notes run)
    → IsDue begun.inserter paid.0.past (paid.0.due ++ paid.0.behind)
paid_due begun earlier further out notes run (taken, none) =
    let all = taken.due ++ taken.behind in
    subst (IsDue begun.inserter taken.past) (ap (λ l. all ++ l) none ∙ append-nil all) taken.is_owed

-- all that went in so far went in before
pub go_on_anew : (begun : Begun) (earlier further : List (List ℕ)) (out notes : Received) (run : Run)
    → IsPaid begun earlier further out notes run → IsPaid begun (earlier ++ further) [] out notes run
go_on_anew begun earlier further out notes run (taken, none) =
    let all = taken.due ++ taken.behind in
    let is_due = paid_due begun earlier further out notes run (taken, none) in
    let bare : all ≡ all ++ [] = sym (append-nil all) in (
      record {
        past = taken.past;
        lines = taken.lines;
        runs = subst (λ pieces. Runs begun.inserter pieces taken.past run.count taken.lines)
            (sym (append-nil (earlier ++ further))) taken.runs;
        let_in = taken.let_in;
        same = taken.same;
        due = all;
        is_due = record {
          past = taken.past;
          count = run.count;
          lines = taken.lines;
          runs = taken.runs;
          is_due = is_due;
        };
        behind = [];
        sent = taken.sent ∙ ap length bare;
        written = subst (Wrote begun.out out) bare taken.written;
        owed = [];
        is_owed = subst (IsDue begun.inserter taken.past) (bare ∙ sym (append-nil (all ++ []))) is_due;
        told = taken.told;
        out_kept = taken.out_kept;
        notes_kept = taken.notes_kept;
      },
      refl,
    )

-- ---- a piece more

module _ (begun : Begun) (earlier further : List (List ℕ)) (piece : List ℕ) (out notes : Received) (run : Run)
    (live : LiveState) (same_inserter : live.inserter ≡ run.live.inserter)
    (same_sent : live.outlet.sent ≡ run.live.outlet.sent) where
  -- its row was let in
  row_in : (taken : HasTaken begun earlier further out notes run)
      → IsDue begun.inserter taken.past (taken.due ++ taken.behind)
      → (now : List RowOrTick) × IsAnswer run.live.inserter taken.past now piece (Ok tt) × HasLetIn live now
      → HasTaken begun earlier (further ++ piece ∷ []) out notes (record { live = live; count = run.count + 1 })
  row_in taken was (now, (cells, one, lets, is), has_now) =
      let inserter = begun.inserter in
      let past = taken_as cells ∷ taken.past in
      let has : HasLetIn live past = subst (HasLetIn live) is has_now in
      let own : live.inserter ≡ inserter = same_inserter ∙ taken.same in
      let is_due : IsDue inserter past has.due = subst (λ i. IsDue i past has.due) own has.is_due in
      let more = due_goes_further inserter taken.past (taken_as cells) (taken.due ++ taken.behind) has.due
      (subst (λ i. LetIn i past) own has.each) was is_due in
      record {
        past = past;
        lines = taken.lines;
        runs = subst (λ pieces. Runs inserter pieces past (run.count + 1) taken.lines)
            (append_assoc earlier further (piece ∷ []))
            (let_in piece cells taken.runs one (subst (λ i. IsLetIn i taken.past cells) taken.same lets));
        let_in = has;
        same = own;
        due = taken.due;
        is_due = taken.is_due;
        behind = taken.behind;
        sent = ap (λ (n : ℕ). 188 * n) same_sent ∙ taken.sent;
        written = taken.written;
        owed = more.0;
        is_owed = subst (IsDue inserter past) more.1 is_due;
        told = taken.told;
        out_kept = taken.out_kept;
        notes_kept = taken.notes_kept;
      }

  pub put_let_in : IsPaid begun earlier further out notes run → AnswersPiece run.live live piece (Ok tt)
      → HasTaken begun earlier (further ++ piece ∷ []) out notes (record { live = live; count = run.count + 1 })
  put_let_in paid answers =
      row_in paid.0 (paid_due begun earlier further out notes run paid) (answers paid.0.past paid.0.let_in)

  -- what is known where its row was refused
  record IsKept (taken : HasTaken begun earlier further out notes run) (fault : RowFault) : Type 0 where
    refused : IsPieceRefusedFor begun.inserter taken.past piece fault
    let_in : HasLetIn live taken.past

  kept_of : (taken : HasTaken begun earlier further out notes run) (fault : RowFault)
      → (now : List RowOrTick) × IsAnswer run.live.inserter taken.past now piece (Err fault) × HasLetIn live now
      → IsKept taken fault
  kept_of taken fault (now, (cause, is), has) = record {
    refused = subst (λ i. IsPieceRefusedFor i taken.past piece fault) taken.same cause;
    let_in = subst (HasLetIn live) is has;
  }

  -- a piece went in that is told of by these bytes, or by none, and nothing of it was let in
  stays : (taken : HasTaken begun earlier further out notes run) (its_notes : Received) (count : ℕ) (line : List ℕ)
      → HasLetIn live taken.past
      → Runs begun.inserter ((earlier ++ further) ++ piece ∷ []) taken.past count (taken.lines ++ line)
      → Wrote notes its_notes line → notes.faults ≤ its_notes.faults
      → HasTaken begun earlier (further ++ piece ∷ []) out its_notes (record { live = live; count = count })
  stays taken its_notes count line has runs wrote kept = record {
    past = taken.past;
    lines = taken.lines ++ line;
    runs = subst (λ pieces. Runs begun.inserter pieces taken.past count (taken.lines ++ line))
        (append_assoc earlier further (piece ∷ [])) runs;
    let_in = has;
    same = same_inserter ∙ taken.same;
    due = taken.due;
    is_due = taken.is_due;
    behind = taken.behind;
    sent = ap (λ (n : ℕ). 188 * n) same_sent ∙ taken.sent;
    written = taken.written;
    owed = taken.owed;
    is_owed = taken.is_owed;
    told = Appends-trans begun.notes.written notes.written its_notes.written taken.lines line taken.told wrote;
    out_kept = taken.out_kept;
    notes_kept = omega (arith, taken.notes_kept, kept);
  }

  -- a piece without a record has none
  no_rows : (past : List RowOrTick) (fault : RowFault) → is_without_record fault ≡ true
      → IsPieceRefusedFor begun.inserter past piece fault → rows_of piece ≡ []
  no_rows past refused.Memory is cause = absurd (let never : false ≡ true = is in cc)
  no_rows past (refused.Records count) is cause =
      nil_from_length (rows_of piece)
      (let none : count ≡ 0 = grind (arith, nat_tests) in omega (arith, cause.0, none))
  no_rows past (refused.Script kind) is cause = absurd (let never : false ≡ true = is in cc)
  no_rows past (refused.Early horizon) is cause = absurd (let never : false ≡ true = is in cc)
  no_rows past (refused.Plan fault) is cause = absurd (let never : false ≡ true = is in cc)
  no_rows past (refused.Schedule fault) is cause = absurd (let never : false ≡ true = is in cc)

  pub put_passed_over : (fault : RowFault) → IsPaid begun earlier further out notes run
      → AnswersPiece run.live live piece (Err fault) → is_without_record fault ≡ true
      → HasTaken begun earlier (further ++ piece ∷ []) out notes (record { live = live; count = run.count })
  put_passed_over fault paid answers is =
      let taken = paid.0 in
      let kept = kept_of taken fault (answers taken.past taken.let_in) in
      let bare : taken.lines ≡ taken.lines ++ [] = sym (append-nil taken.lines) in
      stays taken notes run.count [] kept.let_in
      (passed_over piece
      (subst (Runs begun.inserter (earlier ++ further) taken.past run.count) bare taken.runs)
      (no_rows taken.past fault is kept.refused))
      (Appends-nil notes.written) (omega arith)

  -- a row that is refused is one
  one_there : (rows : List Row) (cells : Row) → rows ≡ cells ∷ [] → rows ≢ []
  one_there rows cells one = λ none. let never : [] ≡ cells ∷ [] = sym none ∙ one in absurd (grind (arith, never))

  some_rows : (past : List RowOrTick) (fault : RowFault) → is_memory fault ≡ false → is_without_record fault ≡ false
      → IsPieceRefusedFor begun.inserter past piece fault → rows_of piece ≢ []
  some_rows past refused.Memory memory some cause = absurd (let never : true ≡ false = memory in cc)
  some_rows past (refused.Records count) memory some cause =
      λ none.
      let zero : count ≡ 0 = cause.0 ∙ ap length none in
      let never : (0 == 0) ≡ false = sym (ap (λ (n : ℕ). n == 0) zero) ∙ some in
      absurd (let clash : true ≡ false = never in cc)
  some_rows past (refused.Script kind) memory some cause = one_there (rows_of piece) cause.0 cause.1
  some_rows past (refused.Early horizon) memory some cause = one_there (rows_of piece) cause.0 cause.1
  some_rows past (refused.Plan fault) memory some cause = one_there (rows_of piece) cause.0 cause.1
  some_rows past (refused.Schedule fault) memory some cause = one_there (rows_of piece) cause.0 cause.1

  -- the run with the refused row
  turned : (taken : HasTaken begun earlier further out notes run) (fault : RowFault)
      → IsPieceRefusedFor begun.inserter taken.past piece fault → is_memory fault ≡ false
      → is_without_record fault ≡ false
      → Runs begun.inserter ((earlier ++ further) ++ piece ∷ []) taken.past (run.count + 1)
      (taken.lines ++ refused_line (run.count + 1) fault)
  turned taken fault cause memory some =
      turned_away piece fault taken.runs (some_rows taken.past fault memory some cause) memory cause

  pub put_turned_away : (fault : RowFault) (its_notes : Received) → IsPaid begun earlier further out notes run
      → AnswersPiece run.live live piece (Err fault) → is_memory fault ≡ false → is_without_record fault ≡ false
      → Wrote notes its_notes (refused_line (run.count + 1) fault) → notes.faults ≤ its_notes.faults
      → HasTaken begun earlier (further ++ piece ∷ []) out its_notes (record { live = live; count = run.count + 1 })
  put_turned_away fault its_notes paid answers memory some wrote up =
      let taken = paid.0 in
      let kept = kept_of taken fault (answers taken.past taken.let_in) in
      stays taken its_notes (run.count + 1) (refused_line (run.count + 1) fault) kept.let_in
      (turned taken fault kept.refused memory some) wrote up

  -- all that was written begins the packets
  all_begin : (paid : IsPaid begun earlier further out notes run)
      → BeginsBatch begun.inserter paid.0.past (paid.0.due ++ paid.0.behind)
  all_begin paid =
      due_begins begun.inserter paid.0.past (paid.0.due ++ paid.0.behind) (runs_let_in paid.0.runs)
      (paid_due begun earlier further out notes run paid)

  -- the line of the refused row was not written
  pub put_untold : (fault : RowFault) (its_notes : Received) → IsPaid begun earlier further out notes run
      → AnswersPiece run.live live piece (Err fault) → is_memory fault ≡ false → is_without_record fault ≡ false
      → WrotePrefix notes its_notes (refused_line (run.count + 1) fault)
      → HasRisen notes.faults its_notes.faults
      → IsHalted begun earlier (further ++ piece ∷ []) out its_notes stop.Notes
  put_untold fault its_notes paid answers memory some front rose =
      let taken = paid.0 in
      let line = refused_line (run.count + 1) fault in
      let kept = kept_of taken fault (answers taken.past taken.let_in) in
      record {
        further = further ++ piece ∷ [];
        left = [];
        parts = sym (append-nil (further ++ piece ∷ []));
        past = taken.past;
        count = run.count + 1;
        lines = taken.lines ++ line;
        runs = subst (λ pieces. Runs begun.inserter pieces taken.past (run.count + 1) (taken.lines ++ line))
            (append_assoc earlier further (piece ∷ [])) (turned taken fault kept.refused memory some);
        due = taken.due;
        is_due = taken.is_due;
        behind = taken.behind;
        written = taken.written;
        begins = all_begin paid;
        halt = (
          HasRisen-since begun.notes.faults notes.faults its_notes.faults taken.notes_kept rose,
          prefix_behind begun.notes.written notes.written its_notes.written taken.lines line taken.told front,
        );
      }

-- memory was wanting for pieces
pub wanting : (begun : Begun) (earlier further ahead : List (List ℕ)) (out notes : Received) (run : Run)
    → IsPaid begun earlier further out notes run
    → IsHalted begun earlier (further ++ ahead) out notes stop.Memory
wanting begun earlier further ahead out notes run paid =
    let taken = paid.0 in
    record {
      further = further;
      left = ahead;
      parts = refl;
      past = taken.past;
      count = run.count;
      lines = taken.lines;
      runs = taken.runs;
      due = taken.due;
      is_due = taken.is_due;
      behind = taken.behind;
      written = taken.written;
      begins = due_begins begun.inserter taken.past (taken.due ++ taken.behind) (runs_let_in taken.runs)
          (paid_due begun earlier further out notes run paid);
      halt = (taken.told, taken.notes_kept);
    }

-- ---- what is due

-- bytes behind those that were written
behind_sent : (sent : ℕ) (all more bytes : List ℕ) → 188 * sent ≡ length all → bytes ≡ all ++ more
    → drop (188 * sent) bytes ≡ more
behind_sent sent all more bytes long is =
    ap (λ (k : ℕ). drop k bytes) long ∙ (ap (drop (length all)) is ∙ drop-append_seam all more)

module _ (begun : Begun) (earlier further : List (List ℕ)) (out its_out notes : Received) (run : Run)
    (taken : HasTaken begun earlier further out notes run) where
  -- bytes more behind what was written
  more_written : (more : List ℕ) → Appends out.written its_out.written more
      → Wrote begun.out its_out (taken.due ++ (taken.behind ++ more))
  more_written more wrote =
      subst (Wrote begun.out its_out) (append_assoc taken.due taken.behind more)
      (Appends-trans begun.out.written out.written its_out.written (taken.due ++ taken.behind) more taken.written wrote)

  -- a prefix of bytes more was written, and these begin the packets
  stopped_in : (more : List ℕ) → AppendsPrefix out.written its_out.written more
      → HasRisen out.faults its_out.faults
      → BeginsBatch begun.inserter taken.past ((taken.due ++ taken.behind) ++ more)
      → IsHalted begun earlier further its_out notes stop.Out
  stopped_in more (n, within, wrote) rose begins = record {
    further = further;
    left = [];
    parts = sym (append-nil further);
    past = taken.past;
    count = run.count;
    lines = taken.lines;
    runs = taken.runs;
    due = taken.due;
    is_due = taken.is_due;
    behind = taken.behind ++ take n more;
    written = more_written (take n more) wrote;
    begins = subst (BeginsBatch begun.inserter taken.past) (append_assoc taken.due taken.behind (take n more))
        (shorter begun.inserter taken.past (taken.due ++ taken.behind) more n begins);
    halt = (
      HasRisen-since begun.out.faults out.faults its_out.faults taken.out_kept rose,
      taken.told,
      taken.notes_kept,
    );
  }

  own_due : (run.live.inserter ≡ begun.inserter)
      → IsDue run.live.inserter taken.past ((taken.due ++ taken.behind) ++ taken.owed)
  own_due same =
      subst (λ i. IsDue i taken.past ((taken.due ++ taken.behind) ++ taken.owed)) (sym same) taken.is_owed

  pub owed_written : (live : LiveState) → WritesDueOf run.live live out its_out (Ok tt)
      → live.inserter ≡ run.live.inserter → out.faults ≤ its_out.faults
      → IsPaid begun earlier further its_out notes (record { live = live; count = run.count })
  owed_written live writes same kept =
      let all = taken.due ++ taken.behind in
      let total = all ++ taken.owed in
      let did = writes taken.past total taken.let_in (own_due taken.same) in
      let wrote = subst (Appends out.written its_out.written)
      (behind_sent run.live.outlet.sent all taken.owed total taken.sent refl) did.0 in
      let one : total ≡ taken.due ++ (taken.behind ++ taken.owed) =
      append_assoc taken.due taken.behind taken.owed in (
        record {
          past = taken.past;
          lines = taken.lines;
          runs = taken.runs;
          let_in = did.1;
          same = same ∙ taken.same;
          due = taken.due;
          is_due = taken.is_due;
          behind = taken.behind ++ taken.owed;
          sent = did.2 ∙ ap length one;
          written = more_written taken.owed wrote;
          owed = [];
          is_owed = subst (IsDue begun.inserter taken.past)
              (one ∙ sym (append-nil (taken.due ++ (taken.behind ++ taken.owed)))) taken.is_owed;
          told = taken.told;
          out_kept = omega (arith, taken.out_kept, kept);
          notes_kept = taken.notes_kept;
        },
        refl,
      )

  pub owed_unwritten : (live : LiveState) (failed : WriteFailed) → WritesDueOf run.live live out its_out (Err failed)
      → IsHalted begun earlier further its_out notes stop.Out
  owed_unwritten live failed writes =
      let all = taken.due ++ taken.behind in
      let total = all ++ taken.owed in
      let did = writes taken.past total taken.let_in (own_due taken.same) in
      let front = subst (AppendsPrefix out.written its_out.written)
      (behind_sent run.live.outlet.sent all taken.owed total taken.sent refl) did.0.0 in
      stopped_in taken.owed front did.0.1
      (due_begins begun.inserter taken.past total (runs_let_in taken.runs) taken.is_owed)

-- ---- the end

module _ (begun : Begun) (earlier further : List (List ℕ)) (out notes : Received) (run : Run)
    (paid : IsPaid begun earlier further out notes run) where
  batch : IsBatchOf begun.inserter paid.0.past paid.0.let_in.packets
  batch = subst (λ i. IsBatchOf i paid.0.past paid.0.let_in.packets) paid.0.same paid.0.let_in.batch

  -- what was written begins the packets
  goes_on : (more : List ℕ) × (paid.0.let_in.packets ≡ (paid.0.due ++ paid.0.behind) ++ more)
  goes_on =
      batch_goes_on begun.inserter paid.0.past (paid.0.due ++ paid.0.behind) paid.0.let_in.packets
      (due_begins begun.inserter paid.0.past (paid.0.due ++ paid.0.behind) (runs_let_in paid.0.runs)
      (paid_due begun earlier further out notes run paid))
      batch

  nothing_in : (first more : List ℕ) → [] ≡ first ++ more → first ≡ []
  nothing_in [] more is = refl
  nothing_in (byte ∷ first) more is = absurd (let never : [] ≡ byte ∷ (first ++ more) = is in cc)

  none_of : has_epoch (records_in paid.0.past) ≡ false → IsBatchOf begun.inserter paid.0.past paid.0.let_in.packets
      → paid.0.let_in.packets ≡ []
  none_of none (inl (also, nothing)) = nothing
  none_of none (inr (some, script, right, compiled)) = absurd (let clash : true ≡ false = sym some ∙ none in cc)

  pub finished_without : has_epoch (records_in paid.0.past) ≡ false → IsSentNothing begun earlier further out notes
  finished_without none =
      let all = paid.0.due ++ paid.0.behind in
      let bare : all ≡ [] = nothing_in all goes_on.0 (sym (none_of none batch) ∙ goes_on.1) in
      record {
        past = paid.0.past;
        count = run.count;
        lines = paid.0.lines;
        runs = paid.0.runs;
        none = none;
        nothing = nothing_more begun.out.written out.written (subst (Wrote begun.out out) bare paid.0.written);
        told = paid.0.told;
        notes_kept = paid.0.notes_kept;
      }

  pub finished_whole : (its_out : Received) → has_epoch (records_in paid.0.past) ≡ true
      → WritesRestOf run.live out its_out (Ok tt) → IsSentWhole begun earlier further its_out notes
  finished_whole its_out some writes =
      let taken = paid.0 in
      let all = taken.due ++ taken.behind in
      let packets = taken.let_in.packets in
      let wrote = subst (Appends out.written its_out.written)
      (behind_sent run.live.outlet.sent all goes_on.0 packets taken.sent goes_on.1)
      (writes taken.past packets taken.let_in taken.let_in.batch) in
      record {
        past = taken.past;
        count = run.count;
        lines = taken.lines;
        runs = taken.runs;
        epoch = some;
        packets = packets;
        batch = batch;
        written = subst (Wrote begun.out its_out) (sym goes_on.1)
            (Appends-trans begun.out.written out.written its_out.written all goes_on.0 taken.written wrote);
        told = taken.told;
        notes_kept = taken.notes_kept;
      }

  pub finished_halfway : (its_out : Received) (failed : WriteFailed) → WritesRestOf run.live out its_out (Err failed)
      → IsHalted begun earlier further its_out notes stop.Out
  finished_halfway its_out failed writes =
      let taken = paid.0 in
      let all = taken.due ++ taken.behind in
      let packets = taken.let_in.packets in
      let did = writes taken.past packets taken.let_in taken.let_in.batch in
      let front = subst (AppendsPrefix out.written its_out.written)
      (behind_sent run.live.outlet.sent all goes_on.0 packets taken.sent goes_on.1) did.0 in
      stopped_in begun earlier further out its_out notes run taken goes_on.0 front did.1
      ([], subst (IsBatchOf begun.inserter taken.past) (goes_on.1 ∙ sym (append-nil (all ++ goes_on.0))) batch)
