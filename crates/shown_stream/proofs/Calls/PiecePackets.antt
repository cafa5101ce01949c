-- One packet more, where it is a null packet or that of a piece that is not the last of its unit: what it adds to the
-- calls, and what is left behind it.
use Rattle.std.proofs.Common.{◌≡◌, ◌∙◌, inl, inr, ℕ, suc, ◌+◌, ◌%◌, ◌<◌, ◌≤◌, Bool, false, eqb, cond, List, [], ◌∷◌, ◌++◌, length, map, take, drop, reverse, Option, Some, sym, ap, subst, arith, append-nil}
use Rattle.std.specs.Prelude.{flat_map, slice_index}
use Rattle.std.proofs.lemmas.Bool.{cases_lt}
use Rattle.std.proofs.lemmas.Bool.Decides.{nat_tests}
use Rattle.std.proofs.lemmas.List.{length-map}
use Rattle.sub_base.specs.declared.load.WriteLoad.{WriteLoad}
use Rattle.buffer_model.specs.Calls.{Call, Arrived, SetWhole}
use Rattle.schedule.specs.Packets.{units_of, packets_of, payload_of, payloads_of}
use Rattle.stream_syntax.specs.Cutting.{IsUnit}
use Rattle.stream_syntax.specs.TransportPackets.{null_packet}
use Rattle.stream_syntax.specs.Units.{hand_after, last_counter}
use Rattle.ts_packets.proofs.WrittenPackets.{null_is_taken}
use Rattle.scheduled_level_laws.specs.EnteredCalls.{Entry, heard_load}
use Rattle.slot_stream.specs.SlotStream.{Piece, packet_of, all_pieces, IsPiece}
use Rattle.received_level_laws.specs.StreamCalls.{itself, count_with, arrived_in}
use Rattle.shown_stream.proofs.Calls.BroughtPieces.{IsReady, null_brings, piece_brings}
use Rattle.shown_stream.proofs.Calls.CallsOfPieces.{ArePiecesOf, bytes_left, Hearing, Place, place_at, E, units_in, AreLeft, Course, Piecewise, Position, goes_on, dropped}
use Rattle.shown_stream.proofs.Calls.EnteredSlots.{StandsAt, packet_adds, last_adds}
use Rattle.slot_stream.proofs.SentPieces.{FollowsOn, says}
use Rattle.shown_stream.proofs.Sent.SetPackets.{bytes_in}
use Rattle.shown_stream.proofs.Calls.SetsInHand.{sets_so_far, no_unit_more, slice_inside, IsPlain, plain_piece, count_is}
use Rattle.sent_sets.proofs.Runs.{HaveDifferentTimes}
use Rattle.sent_sets.proofs.SetEnds.{delivered}
use Rattle.sent_sets.proofs.Units.{TimedSet}

-- the times differ without the later sets
pub front_of_apart : (sets : List TimedSet) (set : TimedSet) (later : List TimedSet)
    → HaveDifferentTimes (sets ++ set ∷ later) → HaveDifferentTimes (sets ++ set ∷ [])
front_of_apart [] set later h = (tt, tt)
front_of_apart (first ∷ []) set later h = (h.0, front_of_apart [] set later h.1)
front_of_apart (first ∷ next ∷ sets) set later h = (h.0, front_of_apart (next ∷ sets) set later h.1)

-- ---- a null packet

-- behind a null packet the same is left
pub null_more : (hearing : Hearing) (place : Place) (left : List Piece) → Piecewise hearing place left
    → Piecewise hearing (place_at (place.slot + 1) place.number place.set (place.before ++ null_packet ∷ [])) left
null_more hearing place left at =
    let brings = null_brings hearing.pid hearing.coded place.before hearing.free in
    let goes = at.goes in
    record {
      course = at.course;
      goes = record {
        inside = goes.inside;
        numbered = goes.numbered;
        begun = goes.begun;
        counted = goes.counted;
        passed = λ q low. (let less = goes.passed q low in omega arith);
        follows = subst (λ (last : Option ℕ). FollowsOn last place.number) (sym brings.counter_behind) goes.follows;
        came =
            no_unit_more hearing.coded hearing.pid hearing.pages 0 place.before null_packet
            (hand_after hearing.pid hearing.coded place.before) (last_counter hearing.pid place.before)
            at.course.sets at.course.set at.course.u goes.came
            (null_is_taken hearing.pid (λ e. hearing.free.no_null (sym e))) brings;
        all = goes.all;
        is = goes.is;
        apart = goes.apart;
        sent = goes.sent;
      };
      one = at.one;
      found = at.found;
      unit = at.unit;
      unit_is = at.unit_is;
      whole = at.whole;
      start = at.start;
      front = at.front;
      piece = at.piece;
      pieces = at.pieces;
      rest = at.rest;
      ready = subst (λ (hand : Option (List ℕ)). IsReady at.start hand at.front) (sym brings.hand_behind) at.ready;
      units = at.units;
      units_are = at.units_are;
      units_whole = at.units_whole;
      own = at.own;
      left_is = at.left_is;
    }

-- and no set comes with it
pub null_count : (hearing : Hearing) (place : Place) (left : List Piece) → Piecewise hearing place left
    → count_with hearing.coded hearing.pid hearing.pages place.before null_packet ≡ 0
unfolding null_more
null_count hearing place left at =
    let goes = at.goes in
    let behind = (null_more hearing place left at).goes.came in
    let inside = slice_inside at.course.u at.course.set.units at.one at.found in
    let apart = front_of_apart at.course.sets at.course.set at.course.later goes.apart in
    count_is hearing.coded hearing.pid hearing.pages place.before null_packet at.course.sets []
    (sets_so_far hearing.coded hearing.pid hearing.pages place.before at.course.sets at.course.set at.course.u
    goes.came goes.all goes.is apart inside)
    (sets_so_far hearing.coded hearing.pid hearing.pages (place.before ++ null_packet ∷ []) at.course.sets
    at.course.set at.course.u behind goes.all goes.is apart
    inside ∙ ap (map delivered) (sym (append-nil at.course.sets)))

-- ---- the packet of a piece

-- the same sets came, and another packet of the set is next
abbrev pub one_further : Course → Course
one_further course = record {
  k = suc course.k;
  sets = course.sets;
  set = course.set;
  u = course.u;
  groups = course.groups;
  later = course.later;
}

-- what the next piece's packet adds, and what is left behind it
pub record Step (hearing : Hearing) (place : Place) (piece : Piece) (rest : List Piece) : Type 0 where
  pub plain : IsPlain hearing.coded hearing.pid hearing.pages place.before (packet_of hearing.pid place.number piece)
      (length piece.bytes)
  pub count : ℕ
  pub counted : count_with hearing.coded hearing.pid hearing.pages place.before
      (packet_of hearing.pid place.number piece) ≡ count
  pub adds : (calls : List (List Call)) → count ≤ length calls
      → AreLeft hearing.loads hearing.painted hearing.entry place.set calls
      → reverse
      (arrived_in itself place.slot (length piece.bytes) ++ flat_map (λ (calls : List Call). calls) (take count calls))
      ++ E hearing place.slot ≡ E hearing (place.slot + 1)
  pub next : ℕ
  pub left_behind : (calls : List (List Call)) → AreLeft hearing.loads hearing.painted hearing.entry place.set calls
      → AreLeft hearing.loads hearing.painted hearing.entry next (drop count calls)
  pub onward : Position hearing
      (place_at (place.slot + 1) (place.number + 1) next
      (place.before ++ packet_of hearing.pid place.number piece ∷ [])) rest

some_arrive : (slot bytes : ℕ) → 1 ≤ bytes → arrived_in itself slot bytes ≡ Arrived slot bytes ∷ []
some_arrive slot bytes some = ap (λ none. cond none [] (Arrived slot bytes ∷ [])) (not_none bytes some)
  where
    not_none : (n : ℕ) → 1 ≤ n → eqb n 0 ≡ false
    not_none n h = grind (arith, nat_tests)

-- the first piece of the rest is one with bytes
first_is : (start : Bool) (front : List ℕ) (piece : Piece) (pieces : List Piece) (unit : List ℕ)
    → ArePiecesOf start front (piece ∷ pieces) unit → IsPiece piece × (piece.starts ≡ start)
first_is start front piece [] unit are = (are.0, are.1)
first_is start front piece (next ∷ pieces) unit are = (are.0, are.1)

-- where the packet of the next piece stands
pub record Stands (hearing : Hearing)
    (place : Place) (left : List Piece)
    (at : Piecewise hearing place left) : Type 0 where
  pub stands : StandsAt hearing.loads hearing.slots hearing.entry place.set at.course.k place.slot
  pub payload : payload_of hearing.loads place.set at.course.k ≡ length at.piece.bytes
  pub many : packets_of hearing.loads place.set ≡ at.course.k + suc (length (at.pieces ++ all_pieces at.units))
  pub own_left : drop (suc at.course.k) (payloads_of (units_of hearing.loads place.set)) ≡ map bytes_in
      (at.pieces ++ all_pieces at.units)
  pub passed_here : (q : ℕ) → q < place.number + 1 → slice_index hearing.slots q < place.slot + 1

pub stands_here : (hearing : Hearing)
    (place : Place) (left : List Piece)
    (at : Piecewise hearing place left) → slice_index hearing.slots place.number ≡ place.slot
    → Stands hearing place left at
stands_here hearing place left at here =
    let goes = at.goes in
    let told =
    dropped at.course.k (payloads_of (units_of hearing.loads place.set)) (length at.piece.bytes)
    (map bytes_in (at.pieces ++ all_pieces at.units)) at.own in
    record {
      stands = record {
        inside = goes.inside;
        within = omega (arith, told.0);
        begun = goes.begun;
        counted = goes.counted;
        here = ap (slice_index hearing.slots) (sym goes.numbered) ∙ here;
      };
      payload = told.1;
      many = omega (arith, told.0, length-map (at.pieces ++ all_pieces at.units) bytes_in);
      own_left = told.2;
      passed_here = λ q low.
          elim (cases_lt q place.number) [
            | inl less ↦ (let under = goes.passed q less in omega arith)
            | inr most ↦ (let same : q ≡ place.number = omega arith in omega
                (arith, here, ap (slice_index hearing.slots) same))
          ];
    }

-- a packet that ends no set: its bytes arrive
pub adds_bytes : (hearing : Hearing) (place : Place) (left : List Piece)
    (at : Piecewise hearing place left) → Stands hearing place left at
    → 1 ≤ length at.piece.bytes → 1 ≤ length (at.pieces ++ all_pieces at.units)
    → reverse (arrived_in itself place.slot (length at.piece.bytes) ++ [])
    ++ E hearing place.slot ≡ E hearing (place.slot + 1)
adds_bytes hearing place left at stands some more =
    let many = stands.many in
    let next : suc place.slot ≡ place.slot + 1 = omega arith in
    ap (λ calls. reverse (calls ++ []) ++ E hearing place.slot)
    (some_arrive place.slot (length at.piece.bytes) some)
    ∙ ap (λ bytes. Arrived place.slot bytes ∷ E hearing place.slot) (sym stands.payload)
    ∙ sym (packet_adds hearing.loads hearing.slots hearing.painted hearing.entry place.set at.course.k place.slot
    hearing.are stands.stands (omega arith))
    ∙ ap (E hearing) next

-- a packet that ends a set: its bytes arrive, and the set is whole
pub adds_set : (hearing : Hearing) (place : Place) (left : List Piece)
    (at : Piecewise hearing place left) → Stands hearing place left at
    → 1 ≤ length at.piece.bytes → length (at.pieces ++ all_pieces at.units) ≡ 0
    → (calls : List (List Call)) → 1 ≤ length calls → AreLeft hearing.loads hearing.painted hearing.entry place.set
    calls
    → reverse
    (arrived_in itself place.slot (length at.piece.bytes) ++ flat_map (λ (calls : List Call). calls) (take 1 calls))
    ++ E hearing place.slot ≡ E hearing (place.slot + 1)
adds_set hearing place left at stands some last [] any h =
    absurd (omega arith)
adds_set hearing place left at stands some last (own ∷ calls) any
    h =
    let many = stands.many in
    let next : suc place.slot ≡ place.slot + 1 = omega arith in
    let same : place.set + 0 ≡ place.set = omega arith in
    let first : own ≡ SetWhole (heard_load hearing.loads hearing.painted hearing.entry place.set) ∷ [] =
    h 0 (omega arith) ∙ ap (λ n. SetWhole (heard_load hearing.loads hearing.painted hearing.entry n) ∷ []) same in
    ap (λ calls. reverse (calls ++ (own ++ [])) ++ E hearing place.slot)
    (some_arrive place.slot (length at.piece.bytes) some)
    ∙ ap (λ own. reverse (Arrived place.slot (length at.piece.bytes) ∷ (own ++ [])) ++ E hearing place.slot)
    first
    ∙ ap (λ bytes. SetWhole (heard_load hearing.loads hearing.painted hearing.entry place.set) ∷ Arrived place.slot
    bytes
    ∷ E hearing place.slot) (sym stands.payload)
    ∙ sym (last_adds hearing.loads hearing.slots hearing.painted hearing.entry place.set at.course.k place.slot
    hearing.are stands.stands (omega arith))
    ∙ ap (E hearing) next

-- the same calls are left, and all but the first
pub same_left : (loads : List WriteLoad) (painted : ℕ → ℕ) (entry : Entry) (i : ℕ) (calls : List (List Call))
    → AreLeft loads painted entry i calls → AreLeft loads painted entry i (drop 0 calls)
same_left loads painted entry i calls h = h

pub one_less : (loads : List WriteLoad) (painted : ℕ → ℕ) (entry : Entry) (i : ℕ) (calls : List (List Call))
    → AreLeft loads painted entry i calls → AreLeft loads painted entry (suc i) (drop 1 calls)
one_less loads painted entry i [] h = λ j inside. absurd (omega arith)
one_less loads painted entry i (first ∷ calls) h =
    λ j inside. (let next : i + suc j ≡ suc i + j = omega arith in h (suc j) (omega arith)
    ∙ ap (λ n. SetWhole (heard_load loads painted entry n) ∷ []) next)

-- ---- a piece that is not its unit's last

pub inner_step : (hearing : Hearing) (place : Place) (left : List Piece)
    → (at : Piecewise hearing place left)
    → slice_index hearing.slots place.number ≡ place.slot → (next : Piece) (pieces : List Piece) → at.pieces ≡ next
    ∷ pieces
    → Step hearing place at.piece
    (at.pieces ++ (all_pieces at.units ++ all_pieces (units_in at.course.groups)))
inner_step hearing place left at here next pieces more =
    let goes = at.goes in
    let stands = stands_here hearing place left at here in
    let rest : ArePiecesOf at.start at.front (at.piece ∷ next ∷ pieces) at.unit =
    subst (λ (found : List Piece). ArePiecesOf at.start at.front (at.piece ∷ found) at.unit) more at.rest in
    let is : IsPiece at.piece = rest.0 in
    let some = bytes_left (at.front ++ at.piece.bytes) next pieces at.unit rest.2 in
    let ready : IsReady at.piece.starts (hand_after hearing.pid hearing.coded place.before) at.front =
    subst (λ (flag : Bool). IsReady flag (hand_after hearing.pid hearing.coded place.before) at.front) (sym rest.1)
    at.ready in
    let packet = packet_of hearing.pid place.number at.piece in
    let taken = (says hearing.pid place.number at.piece hearing.free is).taken in
    let brings =
    piece_brings hearing.pid hearing.coded place.number place.before at.piece at.front some.0 hearing.free is
    goes.follows ready
    (subst (IsUnit hearing.coded) some.1 at.whole) some.2 in
    let came =
    no_unit_more hearing.coded hearing.pid hearing.pages (length at.piece.bytes) place.before packet
    (Some (at.front ++ at.piece.bytes))
    (Some (place.number % 16)) at.course.sets at.course.set at.course.u goes.came taken brings in
    let inside = slice_inside at.course.u at.course.set.units at.one at.found in
    let apart = front_of_apart at.course.sets at.course.set at.course.later goes.apart in
    let many : length (at.pieces ++ all_pieces at.units) ≡ suc (length (pieces ++ all_pieces at.units)) =
    ap (λ found. length (found ++ all_pieces at.units)) more in
    record {
      plain =
          plain_piece hearing.coded hearing.pid hearing.pages (length at.piece.bytes) place.before packet
          (Some (at.front ++ at.piece.bytes))
          (Some (place.number % 16)) brings;
      count = 0;
      counted =
          count_is hearing.coded hearing.pid hearing.pages place.before packet at.course.sets []
          (sets_so_far hearing.coded hearing.pid hearing.pages place.before at.course.sets at.course.set at.course.u
          goes.came goes.all goes.is apart inside)
          (sets_so_far hearing.coded hearing.pid hearing.pages (place.before ++ packet ∷ []) at.course.sets
          at.course.set at.course.u came goes.all goes.is apart
          inside ∙ ap (map delivered) (sym (append-nil at.course.sets)));
      adds =
          λ calls enough h. adds_bytes hearing place left at
          stands is.0 (omega (arith, many));
      next = place.set;
      left_behind = same_left hearing.loads hearing.painted hearing.entry place.set;
      onward = goes_on (record {
        course = one_further at.course;
        goes = record {
          inside = goes.inside;
          numbered = (let same = goes.numbered in omega (arith, same));
          begun = goes.begun;
          counted = (let low = goes.counted in omega arith);
          passed = stands.passed_here;
          follows = inr (place.number % 16, brings.counter_behind, omega arith);
          came = came;
          all = goes.all;
          is = goes.is;
          apart = goes.apart;
          sent = goes.sent;
        };
        one = at.one;
        found = at.found;
        unit = at.unit;
        unit_is = at.unit_is;
        whole = at.whole;
        start = false;
        front = at.front ++ at.piece.bytes;
        piece = next;
        pieces = pieces;
        rest = rest.2;
        ready = brings.hand_behind;
        units = at.units;
        units_are = at.units_are;
        units_whole = at.units_whole;
        own = stands.own_left ∙ ap (λ found. map bytes_in (found ++ all_pieces at.units)) more;
        left_is = ap (λ found. found ++ (all_pieces at.units ++ all_pieces (units_in at.course.groups))) more;
      });
    }
