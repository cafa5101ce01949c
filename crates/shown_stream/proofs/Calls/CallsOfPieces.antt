-- The packets of sets that are cut into pieces, at their slots, give the calls of the scheduled sets.
use Rattle.std.proofs.Common.{◌≡◌, ◌∙◌, ℕ, zero, suc, ◌+◌, ◌-◌, ◌<◌, ◌≤◌, Bool, true, false, List, [], ◌∷◌, ◌++◌, length, map, take, drop, reverse, get_or, Some, None, refl, sym, ap, subst, arith, append-nil, append_assoc, length-append}
use Rattle.std.specs.Prelude.{flat_map, slice_index}
use Rattle.std.specs.List.{AllByRecursion, AllZip, concat, slice_get}
use Rattle.std.proofs.lemmas.List.{reverse-append}
use Rattle.std.proofs.Math.Seq.{drop-nil}
use Rattle.sub_base.specs.declared.load.WriteLoad.{WriteLoad}
use Rattle.buffer_model.specs.Calls.{Call, SetWhole}
use Rattle.schedule.specs.Packets.{units_of, first_packet, payloads_of}
use Rattle.stream_syntax.specs.Cutting.{IsUnit}
use Rattle.stream_syntax.specs.Units.{event_at, hand_after, last_counter}
use Rattle.decoder_model.specs.declared.pages.Pages.{Pages}
use Rattle.decoder_model.specs.PacketArrivals.{packet_arrival}
use Rattle.scheduled_level_laws.specs.EnteredCalls.{Entry, from_of, heard_load, entered_calls}
use Rattle.scheduled_level_laws.proofs.EnteredSums.{AreSlots}
use Rattle.slot_stream.specs.SlotStream.{Piece, all_pieces, IsPiece}
use Rattle.received_level_laws.specs.StreamCalls.{itself, count_with, calls_of_packet, arrived_in, calls_from}
use Rattle.shown_stream.proofs.Calls.BroughtPieces.{IsReady}
use Rattle.slot_stream.proofs.SentPieces.{IsFree, AreFurther, FollowsOn}
use Rattle.slot_stream.proofs.SentStream.{first_piece, further_of, its_pieces, its_bytes, its_first, its_further}
use Rattle.shown_stream.proofs.Sent.SetPackets.{bytes_in}
use Rattle.shown_stream.proofs.Calls.SetsInHand.{HaveCome, IsPlain, plain_calls}
use Rattle.sent_sets.proofs.Runs.{HaveDifferentTimes}
use Rattle.sent_sets.proofs.Units.{SetUnit, TimedSet, timed, IsTimedSet, IsUnitOf}

-- ---- the pieces that are left of a unit

-- behind a prefix of a unit, these pieces are its rest; the first of them begins the unit or not
abbrev pub ArePiecesOf : Bool → List ℕ → List Piece → List ℕ → Type 0
ArePiecesOf start front [] unit = ⊥
ArePiecesOf start front (piece ∷ []) unit =
    IsPiece piece × (piece.starts ≡ start) × (unit ≡ front ++ piece.bytes)
ArePiecesOf start front (piece ∷ next ∷ pieces) unit =
    IsPiece piece × (piece.starts ≡ start) × ArePiecesOf false (front ++ piece.bytes) (next ∷ pieces) unit

-- some bytes of the unit are left
pub bytes_left : (front : List ℕ) (piece : Piece) (pieces : List Piece) (unit : List ℕ)
    → ArePiecesOf false front (piece ∷ pieces) unit → (rest : List ℕ) × (unit ≡ front ++ rest)
    × (1 ≤ length rest)
bytes_left front piece [] unit are = (piece.bytes, are.2, are.0.0)
bytes_left front piece (next ∷ pieces) unit are =
    let more =
    bytes_left (front ++ piece.bytes) next pieces unit are.2 in (
      piece.bytes ++ more.0,
      more.1
          ∙ append_assoc front piece.bytes more.0,
      omega (arith, more.2, length-append piece.bytes more.0),
    )

are_pieces : (start : Bool) (front : List ℕ) (piece : Piece) (pieces : List Piece) (unit : List ℕ)
    → IsPiece piece → piece.starts ≡ start → AreFurther pieces
    → unit ≡ front ++ concat (map (λ (piece : Piece). piece.bytes) (piece ∷ pieces))
    → ArePiecesOf start front (piece ∷ pieces) unit
are_pieces start front piece [] unit is starts further e =
    (is, starts, e ∙ ap (λ rest. front ++ rest) (append-nil piece.bytes))
are_pieces start front piece (next ∷ pieces) unit is starts further e = (
  is,
  starts,
  are_pieces false (front ++ piece.bytes) next pieces unit further.0.0 further.0.1 further.1
      (e ∙ sym (append_assoc front piece.bytes (concat (map (λ (piece : Piece). piece.bytes) (next ∷ pieces))))),
)

-- the pieces of a unit are all of it
pub unit_pieces : (unit : List ℕ) → 1 ≤ length unit
    → ArePiecesOf true [] (first_piece unit ∷ further_of unit) unit
unit_pieces unit some =
    are_pieces true [] (first_piece unit) (further_of unit) unit (its_first unit some) refl (its_further unit some)
    (its_bytes unit some)

pub unit_has_bytes : (coded : ℕ) (unit : List ℕ) → IsUnit coded unit → 1 ≤ length unit
unit_has_bytes coded unit whole = let long = whole.bounded in omega arith

-- ---- a packet and those behind it

-- which packets are heard: those of a schedule at its slots, on a PID that null packets don't have, by a receiver
-- that enters somewhere
pub record Hearing : Type 0 where
  pub coded : ℕ
  pub pid : ℕ
  pub pages : Pages
  pub loads : List WriteLoad
  pub slots : List ℕ
  pub painted : ℕ → ℕ
  pub entry : Entry
  pub free : IsFree pid
  pub are : AreSlots loads slots

-- where the packets stand: the next slot, the number of the next packet and that of its set, and the packets before it
pub record Place : Type 0 where
  pub slot : ℕ
  pub number : ℕ
  pub set : ℕ
  pub before : List (List ℕ)

abbrev pub place_at : ℕ → ℕ → ℕ → List (List ℕ) → Place
place_at slot number set before = record { slot = slot; number = number; set = set; before = before }

-- the calls of the schedule before a slot
abbrev pub E : Hearing → ℕ → List Call
E hearing bound =
    entered_calls hearing.loads hearing.slots bound hearing.painted hearing.entry (length hearing.loads)

-- so many calls of sets are left for the packets behind others, and no more
abbrev pub AreUsedUp : ℕ → ℕ → Pages → List (List ℕ) → List (List ℕ) → ℕ → Type 0
AreUsedUp coded pid pages before [] n = n ≡ 0
AreUsedUp coded pid pages before (packet ∷ packets) n = (count_with coded pid pages before packet ≤ n)
    × AreUsedUp coded pid pages (before ++ packet ∷ []) packets (n - count_with coded pid pages before packet)

-- the packets from a slot on add to the calls so far those of the slots that they have
abbrev pub Add : (hearing : Hearing) (slot : ℕ) (before packets : List (List ℕ)) (left : List (List Call)) (m : ℕ)
    → Type 0
Add hearing slot before packets left m =
    reverse (calls_from itself hearing.coded hearing.pid hearing.pages slot before packets left)
    ++ E hearing slot ≡ E hearing (slot + m)

pub one_more : (hearing : Hearing) (slot bytes count m : ℕ) (before : List (List ℕ)) (packet : List ℕ)
    (packets : List (List ℕ)) (left : List (List Call))
    → IsPlain hearing.coded hearing.pid hearing.pages before packet bytes → count_with hearing.coded hearing.pid
    hearing.pages before packet ≡ count
    → reverse (arrived_in itself slot bytes ++ flat_map (λ (calls : List Call). calls) (take count left))
    ++ E hearing slot ≡ E hearing (slot + 1)
    → Add hearing (slot + 1) (before ++ packet ∷ []) packets (drop count left) m
    → Add hearing slot before (packet ∷ packets) left (suc m)
one_more hearing slot bytes count m before packet packets left plain counted here
    onward =
    let own = arrived_in itself slot bytes ++ flat_map (λ (calls : List Call). calls) (take count left) in
    let behind = calls_from itself hearing.coded hearing.pid hearing.pages (slot + 1) (before ++ packet ∷ []) packets
    (drop count left) in
    let same : slot + 1 + m ≡ slot + suc m = omega arith in
    ap (λ n. reverse
    (calls_of_packet itself (event_at hearing.pid hearing.coded before packet)
    (packet_arrival hearing.coded hearing.pid hearing.pages before packet) slot
    (flat_map (λ (calls : List Call). calls) (take n left))
    ++ calls_from itself hearing.coded hearing.pid hearing.pages (slot + 1) (before ++ packet ∷ []) packets
    (drop n left))
    ++ E hearing slot) counted
    ∙ ap (λ calls. reverse (calls ++ behind) ++ E hearing slot)
    (plain_calls hearing.coded hearing.pid hearing.pages slot bytes before packet
    (flat_map (λ (calls : List Call). calls) (take count left)) plain)
    ∙ ap (λ calls. calls ++ E hearing slot) (reverse-append own behind)
    ∙ append_assoc (reverse behind) (reverse own) (E hearing slot)
    ∙ ap (λ past. reverse behind ++ past) here
    ∙ onward
    ∙ ap (E hearing) same

-- ---- what is left to send

-- a set of a schedule and its units
pub record IsSentSet (coded : ℕ) (pages : Pages) (loads : List WriteLoad) (i : ℕ) (group : List (List ℕ))
    (set : TimedSet) : Type 0 where
  pub inside : i < length loads
  pub bytes : payloads_of (units_of loads i) ≡ map bytes_in (all_pieces group)
  pub units : AllZip (IsUnitOf pages) group (map (timed set.time) set.units)
  pub whole : AllByRecursion (IsUnit coded) group
  pub is : IsTimedSet coded pages set

abbrev pub AreSentSets : ℕ → Pages → List WriteLoad → ℕ → List (List (List ℕ)) → List TimedSet
    → Type 0
AreSentSets coded pages loads i [] [] = Unit {0}
AreSentSets coded pages loads i [] (set ∷ later) = ⊥
AreSentSets coded pages loads i (group ∷ groups) [] = ⊥
AreSentSets coded pages loads i (group ∷ groups) (set ∷ later) =
    IsSentSet coded pages loads i group set × AreSentSets coded pages loads (suc i) groups later

abbrev pub units_in : List (List (List ℕ)) → List (List ℕ)
units_in groups = flat_map (λ (group : List (List ℕ)). group) groups

-- the calls that are left are those of the sets from one on
abbrev pub AreLeft : List WriteLoad → (ℕ → ℕ) → Entry → ℕ → List (List Call) → Type 0
AreLeft loads painted entry i left =
    (j : ℕ) → j < length left → get_or left j [] ≡ SetWhole (heard_load loads painted entry (i + j)) ∷ []

-- how far the sets are sent: packet k of a set is next, u units of it and these sets came, and those are left
pub record Course : Type 0 where
  pub k : ℕ
  pub sets : List TimedSet
  pub set : TimedSet
  pub u : ℕ
  pub groups : List (List (List ℕ))
  pub later : List TimedSet

-- behind these packets that packet is next: what came, and what is left
pub record Goes (hearing : Hearing) (place : Place) (course : Course) : Type 0 where
  pub inside : place.set < length hearing.loads
  pub numbered : place.number ≡ first_packet hearing.loads place.set + course.k
  pub begun : hearing.entry.set ≤ place.set
  pub counted : from_of hearing.entry place.set ≤ course.k
  pub passed : (q : ℕ) → q < place.number → slice_index hearing.slots q < place.slot
  pub follows : FollowsOn (last_counter hearing.pid place.before) place.number
  pub came : HaveCome hearing.coded hearing.pid hearing.pages place.before course.sets course.set course.u
  pub all : AllByRecursion (IsTimedSet hearing.coded hearing.pages) course.sets
  pub is : IsTimedSet hearing.coded hearing.pages course.set
  pub apart : HaveDifferentTimes (course.sets ++ course.set ∷ course.later)
  pub sent : AreSentSets hearing.coded hearing.pages hearing.loads (suc place.set) course.groups course.later

-- the next piece is one of a unit: the next one of the set
pub record Piecewise (hearing : Hearing)
    (place : Place) (left : List Piece) : Type 0 where
  pub course : Course
  pub goes : Goes hearing place course
  pub one : SetUnit
  pub found : slice_get course.set.units course.u ≡ Some one
  pub unit : List ℕ
  pub unit_is : IsUnitOf hearing.pages unit (timed course.set.time one)
  pub whole : IsUnit hearing.coded unit
  pub start : Bool
  pub front : List ℕ
  pub piece : Piece
  pub pieces : List Piece
  pub rest : ArePiecesOf start front (piece ∷ pieces) unit
  pub ready : IsReady start (hand_after hearing.pid hearing.coded place.before) front
  pub units : List (List ℕ)
  pub units_are : AllZip (IsUnitOf hearing.pages) units
      (map (timed course.set.time) (drop (suc course.u) course.set.units))
  pub units_whole : AllByRecursion (IsUnit hearing.coded) units
  pub own : drop course.k (payloads_of (units_of hearing.loads place.set)) ≡ map bytes_in
      ((piece ∷ pieces) ++ all_pieces units)
  pub left_is : left ≡ (piece ∷ pieces) ++ (all_pieces units ++ all_pieces (units_in course.groups))

-- packets go on with the pieces of sets, or nothing is left
pub data Position (hearing : Hearing)
    (place : Place) : List Piece → Type 0 where
  nothing_left : Position hearing place []
  goes_on : {left : List Piece} → Piecewise hearing place left
      → Position hearing place left

-- ---- lists

pub dropped : (k : ℕ) (xs : List ℕ) (y : ℕ) (ys : List ℕ) → drop k xs ≡ y ∷ ys
    → (length xs ≡ k + suc (length ys)) × (slice_index xs k ≡ y) × (drop (suc k) xs ≡ ys)
dropped zero [] y ys e = absurd (cc)
dropped zero (x ∷ xs) y ys e =
    let head : x ≡ y = cc in let tail : xs ≡ ys = cc in (omega (arith, ap length tail), head, tail)
dropped (suc k) [] y ys e = absurd (cc)
dropped (suc k) (x ∷ xs) y ys e = let more = dropped k xs y ys e in (omega (arith, more.0), more.1, more.2)

pub unit_at_front : (pages : Pages) (time u : ℕ) (units : List SetUnit) (unit : List ℕ) (rest : List (List ℕ))
    → AllZip (IsUnitOf pages) (unit ∷ rest) (map (timed time) (drop u units))
    → (one : SetUnit) × (slice_get units u ≡ Some one) × IsUnitOf pages unit (timed time one)
    × AllZip (IsUnitOf pages) rest (map (timed time) (drop (suc u) units))
unit_at_front pages time u [] unit rest are =
    absurd (subst (λ (found : List SetUnit). AllZip (IsUnitOf pages) (unit ∷ rest) (map (timed time) found))
    (drop-nil u) are)
unit_at_front pages time zero (one ∷ units) unit rest are = (one, refl, are.0, are.1)
unit_at_front pages time (suc u) (one ∷ units) unit rest are = unit_at_front pages time u units unit rest are

-- ---- a unit begins

-- units come whole, and the first of them is next
pub record AreNext (hearing : Hearing) (place : Place) (course : Course) (unit : List ℕ) (units : List (List ℕ))
    : Type 0 where
  pub units_are : AllZip (IsUnitOf hearing.pages) (unit ∷ units)
      (map (timed course.set.time) (drop course.u course.set.units))
  pub whole : AllByRecursion (IsUnit hearing.coded) (unit ∷ units)
  pub hand : hand_after hearing.pid hearing.coded place.before ≡ None
  pub own : drop course.k (payloads_of (units_of hearing.loads place.set)) ≡ map bytes_in (all_pieces (unit ∷ units))

-- the next unit of a set begins with the next packet
pub begin_unit : (hearing : Hearing) (place : Place) (course : Course) (unit : List ℕ) (units : List (List ℕ))
    → Goes hearing place course → AreNext hearing place course unit units
    → Piecewise hearing place (all_pieces (unit ∷ units) ++ all_pieces (units_in course.groups))
begin_unit hearing place course unit units goes next =
    let set = course.set in
    let some = unit_has_bytes hearing.coded unit next.whole.0 in
    let at = unit_at_front hearing.pages set.time course.u set.units unit units next.units_are in
    let all : all_pieces (unit ∷ units) ≡ (first_piece unit ∷ further_of unit) ++ all_pieces units =
    ap (λ pieces. pieces ++ all_pieces units) (its_pieces unit some) in
    record {
      course = course;
      goes = goes;
      one = at.0;
      found = at.1;
      unit = unit;
      unit_is = at.2;
      whole = next.whole.0;
      start = true;
      front = [];
      piece = first_piece unit;
      pieces = further_of unit;
      rest = unit_pieces unit some;
      ready = (next.hand, refl);
      units = units;
      units_are = at.3;
      units_whole = next.whole.1;
      own = next.own ∙ ap (map bytes_in) all;
      left_is =
          ap (λ pieces. pieces ++ all_pieces (units_in course.groups)) all
          ∙ append_assoc (first_piece unit ∷ further_of unit) (all_pieces units)
          (all_pieces (units_in course.groups));
    }
