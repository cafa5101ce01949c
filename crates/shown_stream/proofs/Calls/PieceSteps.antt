-- One packet more, where it is that of the last piece of a unit or a set: what it adds to the calls, and what is left
-- behind it.
use Rattle.std.proofs.Common.{◌≡◌, ◌∙◌, inr, ℕ, zero, suc, ◌+◌, ◌%◌, ◌<◌, ◌≤◌, Bool, false, eqb, cond, List, [], ◌∷◌, ◌++◌, length, map, drop, Some, None, refl, sym, ap, subst, arith, append-nil, append_assoc, length-append}
use Rattle.std.specs.Prelude.{slice_index}
use Rattle.std.specs.List.{AllByRecursion, AllZip}
use Rattle.std.proofs.lemmas.Bool.Decides.{nat_tests}
use Rattle.std.proofs.lemmas.Grind.{flat_map-append}
use Rattle.schedule.specs.Packets.{packets_of, first_packet}
use Rattle.schedule.proofs.SumLaws.{sum_below-suc}
use Rattle.stream_syntax.specs.Cutting.{IsUnit}
use Rattle.stream_syntax.specs.TransportPackets.{packet_fault}
use Rattle.stream_syntax.specs.Units.{hand_after, last_counter}
use Rattle.decoder_model.specs.declared.pages.Pages.{Pages}
use Rattle.decoder_model.proofs.Lists.{all-append}
use Rattle.scheduled_level_laws.specs.EnteredCalls.{from_of}
use Rattle.slot_stream.specs.SlotStream.{Piece, packet_of, pieces_of, all_pieces, IsPiece}
use Rattle.shown_stream.proofs.Calls.BroughtPieces.{Brings, IsReady, last_brings}
use Rattle.shown_stream.proofs.Calls.CallsOfPieces.{ArePiecesOf, unit_has_bytes, Hearing, Place, place_at, IsSentSet, AreSentSets, units_in, Course, Goes, Piecewise, Position, nothing_left, goes_on, unit_at_front, begin_unit}
use Rattle.slot_stream.proofs.SentPieces.{FollowsOn, says}
use Rattle.slot_stream.proofs.SentStream.{its_pieces}
use Rattle.shown_stream.proofs.Sent.SetPackets.{bytes_in}
use Rattle.shown_stream.proofs.Calls.SetsInHand.{HaveCome, Following, EndsNext, sets_so_far, sets_whole, slice_inside, next_unit_more, last_unit_more, plain_last, count_is}
use Rattle.sent_sets.proofs.Runs.{HaveDifferentTimes}
use Rattle.sent_sets.proofs.SetEnds.{delivered}
use Rattle.sent_sets.proofs.Units.{SetUnit, TimedSet, timed, AreSetUnits, IsTimedSet, IsUnitOf}
use Rattle.shown_stream.proofs.Calls.PiecePackets.{front_of_apart, Step, stands_here, adds_bytes, adds_set, same_left, one_less, inner_step}

-- ---- a unit's last piece

-- what the last piece of a unit brings
record EndsUnit (hearing : Hearing) (place : Place) (left : List Piece) (at : Piecewise hearing place left)
    : Type 0 where
  is : IsPiece at.piece
  taken : packet_fault hearing.pid (packet_of hearing.pid place.number at.piece) ≡ None
  brings : Brings hearing.pid hearing.coded place.before (packet_of hearing.pid place.number at.piece)
      (length at.piece.bytes) (Some at.unit) None (Some (place.number % 16))

ends_unit : (hearing : Hearing) (place : Place) (left : List Piece) (at : Piecewise hearing place left)
    → at.pieces ≡ [] → EndsUnit hearing place left at
ends_unit hearing place left at none =
    let rest : ArePiecesOf at.start at.front (at.piece ∷ []) at.unit =
    subst (λ (found : List Piece). ArePiecesOf at.start at.front (at.piece ∷ found) at.unit) none at.rest in
    let ready : IsReady at.piece.starts (hand_after hearing.pid hearing.coded place.before) at.front =
    subst (λ (flag : Bool). IsReady flag (hand_after hearing.pid hearing.coded place.before) at.front) (sym rest.1)
    at.ready in
    record {
      is = rest.0;
      taken = (says hearing.pid place.number at.piece hearing.free rest.0).taken;
      brings =
          subst (λ (unit : List ℕ). Brings hearing.pid hearing.coded place.before
          (packet_of hearing.pid place.number at.piece) (length at.piece.bytes)
          (Some unit) None (Some (place.number % 16))) (sym rest.2)
          (last_brings hearing.pid hearing.coded place.number place.before at.piece at.front hearing.free rest.0
          at.goes.follows ready
          (subst (IsUnit hearing.coded) rest.2 at.whole));
    }

-- it is the next unit of the set
abbrev with_packet : (hearing : Hearing) (place : Place) (left : List Piece) → Piecewise hearing place left → Following
with_packet hearing place left at = record {
  coded = hearing.coded;
  pid = hearing.pid;
  pages = hearing.pages;
  before = place.before;
  packet = packet_of hearing.pid place.number at.piece;
  sets = at.course.sets;
  set = at.course.set;
  k = at.course.u;
}

abbrev ends_next : (hearing : Hearing) (place : Place) (left : List Piece) (at : Piecewise hearing place left)
    → EndsUnit hearing place left at → EndsNext (with_packet hearing place left at)
ends_next hearing place left at ends = record {
  bytes = length at.piece.bytes;
  unit = at.unit;
  hand = None;
  counter = Some (place.number % 16);
  one = at.one;
  came = at.goes.came;
  taken = ends.taken;
  brings = ends.brings;
  found = at.found;
  is = at.unit_is;
}

some_pieces : (coded : ℕ) (unit : List ℕ) (units : List (List ℕ))
    → AllByRecursion (IsUnit coded) (unit ∷ units) → 1 ≤ length (all_pieces (unit ∷ units))
some_pieces coded unit units whole =
    omega (
      arith,
      length-append (pieces_of unit) (all_pieces units),
      ap length
          (its_pieces unit (unit_has_bytes coded unit whole.0)),
    )

-- another packet of the set is next, and with it another unit
abbrev next_unit : Course → Course
next_unit course = record {
  k = suc course.k;
  sets = course.sets;
  set = course.set;
  u = suc course.u;
  groups = course.groups;
  later = course.later;
}

-- a unit that is not its set's last
middle_step : (hearing : Hearing) (place : Place) (left : List Piece)
    → (at : Piecewise hearing place left)
    → slice_index hearing.slots place.number ≡ place.slot → at.pieces ≡ [] → (unit : List ℕ) (units : List (List ℕ))
    → at.units ≡ unit ∷ units
    → Step hearing place at.piece
    (at.pieces ++ (all_pieces at.units ++ all_pieces (units_in at.course.groups)))
middle_step hearing place left at here none unit units more =
    let goes = at.goes in
    let stands = stands_here hearing place left at here in
    let ends = ends_unit hearing place left at none in
    let packet = packet_of hearing.pid place.number at.piece in
    let inside = slice_inside at.course.u at.course.set.units at.one at.found in
    let apart = front_of_apart at.course.sets at.course.set at.course.later goes.apart in
    let came =
    next_unit_more (with_packet hearing place left at) (ends_next hearing place left at ends) in
    let units_are : AllZip (IsUnitOf hearing.pages) (unit ∷ units)
    (map (timed at.course.set.time) (drop (suc at.course.u) at.course.set.units)) =
    subst (λ (found : List (List ℕ)). AllZip (IsUnitOf hearing.pages) found
    (map (timed at.course.set.time) (drop (suc at.course.u) at.course.set.units))) more at.units_are in
    let whole : AllByRecursion (IsUnit hearing.coded) (unit ∷ units) =
    subst (AllByRecursion (IsUnit hearing.coded)) more at.units_whole in
    let following = unit_at_front hearing.pages at.course.set.time (suc at.course.u) at.course.set.units unit units
    units_are in
    let later = slice_inside (suc at.course.u) at.course.set.units following.0 following.1 in
    let pieces_are : at.pieces ++ all_pieces at.units ≡ all_pieces (unit ∷ units) =
    ap (λ found. found ++ all_pieces at.units) none ∙ ap all_pieces more in
    let left_are : at.pieces ++ (all_pieces at.units ++ all_pieces (units_in at.course.groups)) ≡
    all_pieces (unit ∷ units) ++ all_pieces (units_in at.course.groups) =
    ap (λ found. found ++ (all_pieces at.units ++ all_pieces (units_in at.course.groups))) none
    ∙ ap (λ found. all_pieces found ++ all_pieces (units_in at.course.groups)) more in
    record {
      plain =
          plain_last (with_packet hearing place left at) (ends_next hearing place left at ends) goes.is;
      count = 0;
      counted =
          count_is hearing.coded hearing.pid hearing.pages place.before packet at.course.sets []
          (sets_so_far hearing.coded hearing.pid hearing.pages place.before at.course.sets at.course.set at.course.u
          goes.came goes.all goes.is apart inside)
          (sets_so_far hearing.coded hearing.pid hearing.pages (place.before ++ packet ∷ []) at.course.sets
          at.course.set (suc at.course.u) came goes.all goes.is apart
          later ∙ ap (map delivered) (sym (append-nil at.course.sets)));
      adds =
          λ calls enough h. adds_bytes hearing place left at
          stands ends.is.0 (omega (arith, ap length pieces_are, some_pieces hearing.coded unit units whole));
      next = place.set;
      left_behind = same_left hearing.loads hearing.painted hearing.entry place.set;
      onward =
          goes_on (subst
          (Piecewise hearing (place_at (place.slot + 1) (place.number + 1) place.set (place.before ++ packet ∷ [])))
          (sym left_are)
          (begin_unit hearing (place_at (place.slot + 1) (place.number + 1) place.set (place.before ++ packet ∷ []))
          (next_unit at.course) unit units
          (record {
            inside = goes.inside;
            numbered = (let same = goes.numbered in omega (arith, same));
            begun = goes.begun;
            counted = (let low = goes.counted in omega arith);
            passed = stands.passed_here;
            follows = inr (place.number % 16, ends.brings.counter_behind, omega arith);
            came = came;
            all = goes.all;
            is = goes.is;
            apart = goes.apart;
            sent = goes.sent;
          })
          (record {
            units_are = units_are;
            whole = whole;
            hand = ends.brings.hand_behind;
            own = stands.own_left ∙ ap (map bytes_in) pieces_are;
          })));
    }

-- ---- a set's last piece

later_set : (number place : ℕ) → number ≤ place → eqb (suc place) number ≡ false
later_set number place h = grind (arith, nat_tests)

apart_next : (sets : List TimedSet) (set next : TimedSet) (later : List TimedSet)
    → HaveDifferentTimes (sets ++ set ∷ next ∷ later) → eqb set.time next.time ≡ false
apart_next [] set next later h = h.0
apart_next (first ∷ sets) set next later h = apart_next sets set next later h.1

no_units_left : (pages : Pages) (time u : ℕ) (units : List SetUnit) → u < length units
    → AllZip (IsUnitOf pages) [] (map (timed time) (drop (suc u) units)) → suc u ≡ length units
no_units_left pages time u [] inside are = absurd (omega arith)
no_units_left pages time zero (one ∷ []) inside are = refl
no_units_left pages time zero (one ∷ next ∷ units) inside are = absurd are
no_units_left pages time (suc u) (one ∷ units) inside are =
    ap suc (no_units_left pages time u units (omega arith) are)

-- a set after this one, and one at another time where there is none
abbrev next_of : TimedSet → List TimedSet → TimedSet
next_of set [] = record { time = suc set.time; units = [] }
next_of set (next ∷ later) = next

next_is_other : (sets : List TimedSet) (set : TimedSet) (later : List TimedSet)
    → HaveDifferentTimes (sets ++ set ∷ later) → eqb set.time (next_of set later).time ≡ false
next_is_other sets set [] h = grows set.time
  where
    grows : (n : ℕ) → eqb n (suc n) ≡ false
    grows n = grind (arith, nat_tests)
next_is_other sets set (next ∷ later) h = apart_next sets set next later h

units_append : (group : List (List ℕ)) (groups : List (List (List ℕ)))
    → all_pieces (units_in (group ∷ groups)) ≡ all_pieces group ++ all_pieces (units_in groups)
units_append group groups = flat_map-append pieces_of group (units_in groups)

-- the set that came is whole, and behind its last packet the next one can begin
record EndsSet (hearing : Hearing) (place : Place) (course : Course) : Type 0 where
  sent : AreSentSets hearing.coded hearing.pages hearing.loads (suc place.set) course.groups course.later
  numbered : place.number ≡ first_packet hearing.loads place.set + course.k
  last : suc course.k ≡ packets_of hearing.loads place.set
  begun : hearing.entry.set ≤ place.set
  passed : (q : ℕ) → q < place.number + 1 → slice_index hearing.slots q < place.slot
  follows : FollowsOn (last_counter hearing.pid place.before) (place.number + 1)
  came : HaveCome hearing.coded hearing.pid hearing.pages place.before (course.sets ++ course.set ∷ [])
      (next_of course.set course.later) 0
  all : AllByRecursion (IsTimedSet hearing.coded hearing.pages) (course.sets ++ course.set ∷ [])
  apart : HaveDifferentTimes (course.sets ++ course.set ∷ course.later)
  hand : hand_after hearing.pid hearing.coded place.before ≡ None

-- the next set begins with the next packet, or nothing is left
begin_set : (hearing : Hearing) (place : Place) (course : Course) → EndsSet hearing place course
    → Position hearing (place_at place.slot (place.number + 1) (suc place.set) place.before)
    (all_pieces (units_in course.groups))
begin_set hearing place course ends =
    from course.groups course.later ends.sent ends.came ends.apart
  where
    there : Place
    there = place_at place.slot (place.number + 1) (suc place.set) place.before

    from : (groups : List (List (List ℕ))) (later : List TimedSet)
        → AreSentSets hearing.coded hearing.pages hearing.loads (suc place.set) groups later
        → HaveCome hearing.coded hearing.pid hearing.pages place.before (course.sets ++ course.set ∷ [])
        (next_of course.set later) 0
        → HaveDifferentTimes (course.sets ++ course.set ∷ later)
        → Position hearing there (all_pieces (units_in groups))
    from [] [] sent came apart = nothing_left
    from [] (next ∷ later) sent came apart = absurd sent
    from (group ∷ groups) [] sent came apart = absurd sent
    from (group ∷ groups) (next ∷ later) sent came apart = by group sent.0
      where
        onward : Course
        onward = record {
          k = 0;
          sets = course.sets ++ course.set ∷ [];
          set = next;
          u = 0;
          groups = groups;
          later = later;
        }

        goes : Goes hearing there onward
        goes = record {
          inside = sent.0.inside;
          numbered = omega (arith, ends.numbered, ends.last, sum_below-suc (packets_of hearing.loads) place.set);
          begun = omega (arith, ends.begun);
          counted = ap_le (later_set hearing.entry.set place.set ends.begun);
          passed = ends.passed;
          follows = ends.follows;
          came = came;
          all = ends.all;
          is = sent.0.is;
          apart =
              subst HaveDifferentTimes (sym (append_assoc course.sets (course.set ∷ []) (next ∷ later))) apart;
          sent = sent.1;
        }
          where
            ap_le : eqb (suc place.set) hearing.entry.set ≡ false → from_of hearing.entry (suc place.set) ≤ 0
            ap_le e = omega (arith, ap (λ found. cond found hearing.entry.packet 0) e)

        no_set : (units : List SetUnit) → AreSetUnits hearing.pages units
            → AllZip (IsUnitOf hearing.pages) [] (map (timed next.time) units) → ⊥
        no_set [] is are = is
        no_set (one ∷ units) is are = are

        by : (group : List (List ℕ)) → IsSentSet hearing.coded hearing.pages hearing.loads (suc place.set) group next
            → Position hearing there (all_pieces (units_in (group ∷ groups)))
        by [] is = absurd (no_set next.units is.is.units is.units)
        by (unit ∷ units) is =
            goes_on (subst (Piecewise hearing there) (sym (units_append (unit ∷ units) groups))
            (begin_unit hearing there onward unit units goes
            (record { units_are = is.units; whole = is.whole; hand = ends.hand; own = is.bytes })))

-- the last unit of a set
last_step : (hearing : Hearing) (place : Place) (left : List Piece)
    → (at : Piecewise hearing place left)
    → slice_index hearing.slots place.number ≡ place.slot → at.pieces ≡ [] → at.units ≡ []
    → Step hearing place at.piece
    (at.pieces ++ (all_pieces at.units ++ all_pieces (units_in at.course.groups)))
last_step hearing place left at here none no_units =
    let goes = at.goes in
    let stands = stands_here hearing place left at here in
    let ends = ends_unit hearing place left at none in
    let packet = packet_of hearing.pid place.number at.piece in
    let inside = slice_inside at.course.u at.course.set.units at.one at.found in
    let apart = front_of_apart at.course.sets at.course.set at.course.later goes.apart in
    let next = next_of at.course.set at.course.later in
    let last =
    no_units_left hearing.pages at.course.set.time at.course.u at.course.set.units inside
    (subst (λ (found : List (List ℕ)). AllZip (IsUnitOf hearing.pages) found
    (map (timed at.course.set.time) (drop (suc at.course.u) at.course.set.units))) no_units at.units_are) in
    let came =
    last_unit_more (with_packet hearing place left at) (ends_next hearing place left at ends) goes.is last next
    (next_is_other at.course.sets at.course.set at.course.later goes.apart) in
    let all = all-append (IsTimedSet hearing.coded hearing.pages) at.course.sets (at.course.set ∷ []) goes.all
    (goes.is, tt) in
    let pieces_are : at.pieces ++ all_pieces at.units ≡ [] =
    ap (λ found. found ++ all_pieces at.units) none ∙ ap all_pieces no_units in
    let left_are : at.pieces
    ++ (all_pieces at.units ++ all_pieces (units_in at.course.groups)) ≡ all_pieces (units_in at.course.groups) =
    ap (λ found. found ++ (all_pieces at.units ++ all_pieces (units_in at.course.groups))) none
    ∙ ap (λ found. all_pieces found ++ all_pieces (units_in at.course.groups)) no_units in
    let many = stands.many in
    record {
      plain =
          plain_last (with_packet hearing place left at) (ends_next hearing place left at ends) goes.is;
      count = 1;
      counted =
          count_is hearing.coded hearing.pid hearing.pages place.before packet at.course.sets (at.course.set ∷ [])
          (sets_so_far hearing.coded hearing.pid hearing.pages place.before at.course.sets at.course.set at.course.u
          goes.came goes.all goes.is apart inside)
          (sets_whole hearing.coded hearing.pid hearing.pages (place.before ++ packet ∷ [])
          (at.course.sets ++ at.course.set ∷ []) next came all apart);
      adds =
          λ calls enough h. adds_set hearing place left at stands
          ends.is.0 (ap length pieces_are) calls enough h;
      next = suc place.set;
      left_behind = one_less hearing.loads hearing.painted hearing.entry place.set;
      onward =
          subst (Position hearing
          (place_at (place.slot + 1) (place.number + 1) (suc place.set) (place.before ++ packet ∷ [])))
          (sym left_are)
          (begin_set hearing (place_at (place.slot + 1) place.number place.set (place.before ++ packet ∷ [])) at.course
          (record {
            sent = goes.sent;
            numbered = goes.numbered;
            last = omega (arith, many, ap length pieces_are);
            begun = goes.begun;
            passed = stands.passed_here;
            follows = inr (place.number % 16, ends.brings.counter_behind, omega arith);
            came = came;
            all = all;
            apart = goes.apart;
            hand = ends.brings.hand_behind;
          }));
    }

-- ---- any piece

pub piece_step : (hearing : Hearing) (place : Place) (left : List Piece)
    → (at : Piecewise hearing place left)
    → slice_index hearing.slots place.number ≡ place.slot
    → Step hearing place at.piece
    (at.pieces ++ (all_pieces at.units ++ all_pieces (units_in at.course.groups)))
piece_step hearing place left at here =
    by at.pieces refl at.units refl
  where
    by : (pieces : List Piece) → at.pieces ≡ pieces → (units : List (List ℕ)) → at.units ≡ units
        → Step hearing place at.piece
        (at.pieces ++ (all_pieces at.units ++ all_pieces (units_in at.course.groups)))
    by (next ∷ pieces) more units same =
        inner_step hearing place left at here next pieces more
    by [] none (unit ∷ units) more =
        middle_step hearing place left at here none unit units
        more
    by [] none [] no_units =
        last_step hearing place left at here none no_units
