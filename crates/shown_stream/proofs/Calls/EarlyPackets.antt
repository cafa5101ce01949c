-- A stream that is entered inside a unit: the packets of its rest give no calls, and then come those of the scheduled
-- sets.
use Rattle.std.proofs.Common.{◌≡◌, ◌∙◌, inl, inr, ℕ, zero, suc, ◌+◌, ◌%◌, ◌<◌, ◌≤◌, true, eqb, cond, List, [], ◌∷◌, ◌++◌, length, map, take, drop, None, Some, Option, sym, ap, subst, arith, length-append, length-drop}
use Rattle.std.specs.Prelude.{slice_index}
use Rattle.std.specs.List.{AllByRecursion, AllZip}
use Rattle.std.proofs.lemmas.Bool.{cases_lt}
use Rattle.std.proofs.lemmas.Bool.Decides.{nat_tests}
use Rattle.std.proofs.lemmas.List.{length-map}
use Rattle.sub_base.specs.declared.load.WriteLoad.{WriteLoad}
use Rattle.buffer_model.specs.Calls.{Call}
use Rattle.schedule.specs.Packets.{units_of, packets_of, first_packet, payloads_of}
use Rattle.stream_syntax.specs.Cutting.{IsUnit}
use Rattle.stream_syntax.specs.TransportPackets.{null_packet, packet_fault}
use Rattle.stream_syntax.specs.Units.{hand_after, last_counter}
use Rattle.decoder_model.specs.declared.pages.Pages.{Pages}
use Rattle.ts_packets.proofs.WrittenPackets.{null_is_taken}
use Rattle.scheduled_level_laws.specs.EnteredCalls.{Entry, from_of}
use Rattle.scheduled_level_laws.proofs.EnteredSums.{AreSlots, within_slots, rising}
use Rattle.slot_stream.specs.SlotStream.{Piece, packet_of, all_pieces, pieces_of}
use Rattle.received_level_laws.specs.StreamCalls.{count_with}
use Rattle.shown_stream.proofs.Calls.BroughtPieces.{Brings, null_brings, further_brings}
use Rattle.shown_stream.proofs.Calls.CallsOfPackets.{laid_here, laid_later, used_next, Awaits, laid_from, Tell, walk_none, walk}
use Rattle.shown_stream.proofs.Calls.CallsOfPieces.{Hearing, Place, place_at, AreUsedUp, Add, one_more, AreSentSets, units_in, Course, Piecewise, Position, nothing_left, goes_on, begin_unit, dropped, unit_has_bytes}
use Rattle.shown_stream.proofs.Calls.EnteredSlots.{IsNotBegun, nothing_yet}
use Rattle.slot_stream.proofs.LaidPackets.{laid, IsAhead}
use Rattle.slot_stream.proofs.SentPieces.{AreFurther, FollowsOn, says}
use Rattle.slot_stream.proofs.SentStream.{its_pieces}
use Rattle.shown_stream.proofs.Sent.SetPackets.{bytes_in}
use Rattle.shown_stream.proofs.Calls.SetsInHand.{HaveCome, sets_whole, no_unit_more, plain_piece, count_is}
use Rattle.sent_sets.proofs.Runs.{HaveDifferentTimes}
use Rattle.sent_sets.proofs.Units.{TimedSet, timed, IsTimedSet, IsUnitOf}

-- ---- what stands behind the rest of a unit

-- the first unit that comes whole begins with the packet of that number, at the entry
pub record Begins (coded : ℕ) (pages : Pages) (loads : List WriteLoad) (entry : Entry) (first : ℕ)
    (behind : List Piece) : Type 0 where
  pub inside : entry.set < length loads
  pub numbered : first ≡ first_packet loads entry.set + entry.packet
  pub set : TimedSet
  pub unit : List ℕ
  pub units : List (List ℕ)
  pub groups : List (List (List ℕ))
  pub later : List TimedSet
  pub is : IsTimedSet coded pages set
  pub units_are : AllZip (IsUnitOf pages) (unit ∷ units) (map (timed set.time) set.units)
  pub whole : AllByRecursion (IsUnit coded) (unit ∷ units)
  pub own : drop entry.packet (payloads_of (units_of loads entry.set)) ≡ map bytes_in (all_pieces (unit ∷ units))
  pub sent : AreSentSets coded pages loads (suc entry.set) groups later
  pub apart : HaveDifferentTimes (set ∷ later)
  pub behind_is : behind ≡ all_pieces (unit ∷ units) ++ all_pieces (units_in groups)

pub data Behind (coded : ℕ) (pages : Pages) (loads : List WriteLoad) (entry : Entry) (first : ℕ) : List Piece
    → Type 0 where
  nothing_behind : length loads ≤ entry.set → Behind coded pages loads entry first []
  begins : {behind : List Piece} → Begins coded pages loads entry first behind
      → Behind coded pages loads entry first behind

-- behind these packets nothing came yet, and pieces of a unit that was not begun are next
pub record Early (hearing : Hearing) (place : Place) (further behind : List Piece) : Type 0 where
  pub rest : AreFurther further
  pub hand : hand_after hearing.pid hearing.coded place.before ≡ None
  pub follows : FollowsOn (last_counter hearing.pid place.before) place.number
  pub passed : (q : ℕ) → q < place.number → slice_index hearing.slots q < place.slot
  pub at_entry : place.set ≡ hearing.entry.set
  pub came : (set : TimedSet) → HaveCome hearing.coded hearing.pid hearing.pages place.before [] set 0
  pub next : Behind hearing.coded hearing.pages hearing.loads hearing.entry (place.number + length further) behind

same_number : (n : ℕ) → eqb n n ≡ true
same_number n = grind (arith, nat_tests)

-- behind the rest of the unit the first unit begins
reaches : (hearing : Hearing) (place : Place) (behind : List Piece) → Early hearing place [] behind
    → Position hearing place behind
reaches hearing place behind early = by behind early.next
  where
    by : (behind : List Piece)
        → Behind hearing.coded hearing.pages hearing.loads hearing.entry (place.number + 0) behind
        → Position hearing place behind
    by behind (nothing_behind none) = nothing_left
    by behind (begins first) =
        goes_on (subst (Piecewise hearing place) (sym first.behind_is)
        (subst (λ (set : ℕ). Piecewise hearing (place_at place.slot place.number set place.before)
        (all_pieces (first.unit ∷ first.units) ++ all_pieces (units_in first.groups))) (sym early.at_entry)
        (begin_unit hearing there course first.unit first.units
        (record {
          inside = first.inside;
          numbered = (let same = first.numbered in omega (arith, same));
          begun = omega arith;
          counted =
              (let own : from_of hearing.entry hearing.entry.set ≡ hearing.entry.packet =
              ap (λ b. cond b hearing.entry.packet 0) (same_number hearing.entry.set) in
              omega (arith, own));
          passed = early.passed;
          follows = early.follows;
          came = early.came first.set;
          all = tt;
          is = first.is;
          apart = first.apart;
          sent = first.sent;
        })
        (record { units_are = first.units_are; whole = first.whole; hand = early.hand; own = first.own }))))
      where
        there : Place
        there = place_at place.slot place.number hearing.entry.set place.before

        course : Course
        course = record {
          k = hearing.entry.packet;
          sets = [];
          set = first.set;
          u = 0;
          groups = first.groups;
          later = first.later;
        }

-- ---- the packets of the rest

-- a packet brings nothing, early: no set came before it, and the entry's packet stands behind it
record BringsNothing (hearing : Hearing) (place : Place) (packet : List ℕ) : Type 0 where
  hand : Option (List ℕ)
  counter : Option ℕ
  brings : Brings hearing.pid hearing.coded place.before packet 0 None hand counter
  taken : packet_fault hearing.pid packet ≡ None
  came : (set : TimedSet) → HaveCome hearing.coded hearing.pid hearing.pages place.before [] set 0
  early : IsNotBegun hearing.loads hearing.slots hearing.entry place.slot
  still : IsNotBegun hearing.loads hearing.slots hearing.entry (place.slot + 1)

-- such a packet, and those behind it
early_more : (hearing : Hearing) (place : Place) (m : ℕ) (packets : List (List ℕ)) (packet : List ℕ)
    (calls : List (List Call)) → BringsNothing hearing place packet
    → (AreUsedUp hearing.coded hearing.pid hearing.pages (place.before ++ packet ∷ []) packets (length calls)
    → Add hearing (place.slot + 1) (place.before ++ packet ∷ []) packets calls m)
    → AreUsedUp hearing.coded hearing.pid hearing.pages place.before (packet ∷ packets) (length calls)
    → Add hearing place.slot place.before (packet ∷ packets) calls (suc m)
early_more hearing place m packets packet calls nothing onward = λ used.
    let coded = hearing.coded in
    let pid = hearing.pid in
    let pages = hearing.pages in
    let set : TimedSet = record { time = 0; units = [] } in
    let counted : count_with coded pid pages place.before packet ≡ 0 =
    count_is coded pid pages place.before packet [] []
    (sets_whole coded pid pages place.before [] set (nothing.came set) tt tt)
    (sets_whole coded pid pages (place.before ++ packet ∷ []) [] set
    (no_unit_more coded pid pages 0 place.before packet nothing.hand nothing.counter [] set 0 (nothing.came set)
    nothing.taken nothing.brings) tt tt) in
    one_more hearing place.slot 0 0 m place.before packet packets calls
    (plain_piece coded pid pages 0 place.before packet nothing.hand nothing.counter nothing.brings) counted
    (nothing_yet hearing.loads hearing.slots hearing.painted hearing.entry place.slot (length hearing.loads)
    hearing.are (omega arith) nothing.early
    ∙ sym (nothing_yet hearing.loads hearing.slots hearing.painted hearing.entry (place.slot + 1)
    (length hearing.loads) hearing.are (omega arith) nothing.still))
    (onward (used_next coded pid pages 0 place.before packets packet calls counted used).1)

-- the entry's packet stands behind the slot of a packet before it
not_begun : (coded : ℕ) (pages : Pages) (loads : List WriteLoad) (slots : List ℕ) (entry : Entry)
    (number more slot : ℕ) (behind : List Piece) → AreSlots loads slots → slot ≤ slice_index slots number
    → Behind coded pages loads entry (number + suc more) behind → IsNotBegun loads slots entry (slot + 1)
not_begun coded pages loads slots entry number more slot behind are low (nothing_behind none) =
    λ inside. absurd (omega arith)
not_begun coded pages loads slots entry number more slot behind are low (begins first) = λ inside.
    let some = unit_has_bytes coded first.unit first.whole.0 in
    let many : length (drop entry.packet (payloads_of (units_of loads entry.set)))
    ≡ length (map bytes_in (all_pieces (first.unit ∷ first.units))) = ap length first.own in
    let pieces : 1 ≤ length (all_pieces (first.unit ∷ first.units)) =
    omega (
      arith,
      length-append (pieces_of first.unit) (all_pieces first.units),
      ap length
          (its_pieces first.unit some),
    ) in
    let within : entry.packet < packets_of loads entry.set =
    omega (
      arith,
      many,
      pieces,
      length-map (all_pieces (first.unit ∷ first.units)) bytes_in,
      length-drop
          entry.packet (payloads_of (units_of loads entry.set)),
    ) in
    let numbered = first.numbered in
    let above =
    rising slots number (first_packet loads entry.set + entry.packet) are.rise (omega arith)
    (within_slots loads slots entry.set entry.packet are inside within) in
    (within, omega arith)

less_begun : (loads : List WriteLoad) (slots : List ℕ) (entry : Entry) (slot : ℕ)
    → IsNotBegun loads slots entry (slot + 1) → IsNotBegun loads slots entry slot
less_begun loads slots entry slot h = λ inside. (let told = h inside in (told.0, omega (arith, told.1)))

-- so many packets from a place on, early, add the calls of the scheduled sets
abbrev pub EarlyWalk : (hearing : Hearing) (m : ℕ) → Type 0
EarlyWalk hearing m =
    (place : Place) (further behind : List Piece) (places : List ℕ) (calls : List (List Call))
    → Early hearing place further behind → Awaits hearing place places calls
    → Tell hearing place m calls (laid_from hearing place (further ++ behind) places)

-- one packet more of the rest of a unit, which waits for its slot
record EarlyWaiting (hearing : Hearing) : Type 0 where
  place : Place
  piece : Piece
  further : List Piece
  behind : List Piece
  early : Early hearing place (piece ∷ further) behind
  at : ℕ
  places : List ℕ
  calls : List (List Call)
  awaits : Awaits hearing place (at ∷ places) calls

still_early : (hearing : Hearing) (waits : EarlyWaiting hearing)
    → IsNotBegun hearing.loads hearing.slots hearing.entry (waits.place.slot + 1)
still_early hearing waits =
    let place = waits.place in
    let found = dropped place.number hearing.slots waits.at waits.places waits.awaits.places_are in
    let least = waits.awaits.ahead.0 in
    not_begun hearing.coded hearing.pages hearing.loads hearing.slots hearing.entry place.number
    (length waits.further) place.slot waits.behind hearing.are (omega (arith, found.1, least)) waits.early.next

-- a null packet, and those behind it
early_null : (hearing : Hearing) (m : ℕ) → EarlyWalk hearing m → (waits : EarlyWaiting hearing)
    → waits.place.slot < waits.at
    → Tell hearing waits.place (suc m) waits.calls
    (null_packet
    ∷ laid hearing.pid (waits.place.slot + 1) waits.place.number (waits.piece ∷ (waits.further ++ waits.behind))
    (waits.at ∷ waits.places))
early_null hearing m walk waits later =
    λ many used.
    let place = waits.place in
    let early = waits.early in
    let still = still_early hearing waits in
    let brings = null_brings hearing.pid hearing.coded place.before hearing.free in
    let taken = null_is_taken hearing.pid (λ e. hearing.free.no_null (sym e)) in
    early_more hearing place m
    (take m
    (laid hearing.pid (place.slot + 1) place.number (waits.piece ∷ (waits.further ++ waits.behind))
    (waits.at ∷ waits.places)))
    null_packet waits.calls
    (record {
      hand = hand_after hearing.pid hearing.coded place.before;
      counter = last_counter hearing.pid place.before;
      brings = brings;
      taken = taken;
      came = early.came;
      early = less_begun hearing.loads hearing.slots hearing.entry place.slot still;
      still = still;
    })
    (λ used_behind. walk (place_at (place.slot + 1) place.number place.set (place.before ++ null_packet ∷ []))
    (waits.piece ∷ waits.further) waits.behind (waits.at ∷ waits.places) waits.calls
    (record {
      rest = early.rest;
      hand = brings.hand_behind ∙ early.hand;
      follows = subst (λ (last : Option ℕ). FollowsOn last place.number) (sym brings.counter_behind) early.follows;
      passed = λ q low. (let less = early.passed q low in omega arith);
      at_entry = early.at_entry;
      came =
          λ set. no_unit_more hearing.coded hearing.pid hearing.pages 0 place.before null_packet
          (hand_after hearing.pid hearing.coded place.before) (last_counter hearing.pid place.before) [] set 0
          (early.came set) taken brings;
      next = early.next;
    })
    (record {
      ahead = (omega arith, waits.awaits.ahead.1);
      places_are = waits.awaits.places_are;
      is_left = waits.awaits.is_left;
    })
    (omega arith) used_behind)
    used

-- the packet of a piece, and those behind it
early_piece : (hearing : Hearing) (m : ℕ) → EarlyWalk hearing m → (waits : EarlyWaiting hearing)
    → waits.at ≡ waits.place.slot
    → Tell hearing waits.place (suc m) waits.calls
    (packet_of hearing.pid waits.place.number waits.piece
    ∷ laid hearing.pid (waits.place.slot + 1) (waits.place.number + 1) (waits.further ++ waits.behind) waits.places)
early_piece hearing m walk waits same =
    λ many used.
    let place = waits.place in
    let early = waits.early in
    let still = still_early hearing waits in
    let packet = packet_of hearing.pid place.number waits.piece in
    let brings =
    further_brings hearing.pid hearing.coded place.number place.before waits.piece hearing.free early.rest.0.0
    early.rest.0.1 early.follows early.hand in
    let taken = (says hearing.pid place.number waits.piece hearing.free early.rest.0.0).taken in
    let found = dropped place.number hearing.slots waits.at waits.places waits.awaits.places_are in
    let following : suc place.number ≡ place.number + 1 = omega arith in
    let all : place.number + suc (length waits.further) ≡ place.number + 1 + length waits.further = omega arith in
    early_more hearing place m
    (take m (laid hearing.pid (place.slot + 1) (place.number + 1) (waits.further ++ waits.behind) waits.places)) packet
    waits.calls
    (record {
      hand = None;
      counter = Some (place.number % 16);
      brings = brings;
      taken = taken;
      came = early.came;
      early = less_begun hearing.loads hearing.slots hearing.entry place.slot still;
      still = still;
    })
    (λ used_behind. walk (place_at (place.slot + 1) (place.number + 1) place.set (place.before ++ packet ∷ []))
    waits.further waits.behind waits.places waits.calls
    (record {
      rest = early.rest.1;
      hand = brings.hand_behind;
      follows = inr (place.number % 16, brings.counter_behind, omega arith);
      passed = λ q low.
          elim (cases_lt q place.number) [
            | inl less ↦ (let under = early.passed q less in omega arith)
            | inr most ↦
                (let here : q ≡ place.number = omega arith in
                omega (arith, same, found.1, ap (slice_index hearing.slots) here))
          ];
      at_entry = early.at_entry;
      came =
          λ set. no_unit_more hearing.coded hearing.pid hearing.pages 0 place.before packet None
          (Some (place.number % 16)) [] set 0 (early.came set) taken brings;
      next =
          subst (λ (first : ℕ). Behind hearing.coded hearing.pages hearing.loads hearing.entry first waits.behind) all
          early.next;
    })
    (record {
      ahead = subst (λ (n : ℕ). IsAhead (n + 1) waits.places) same waits.awaits.ahead.1;
      places_are = ap (λ n. drop n hearing.slots) (sym following) ∙ found.2;
      is_left = waits.awaits.is_left;
    })
    (omega arith) used_behind)
    used

-- one packet more
early_step : (hearing : Hearing) (m : ℕ) → EarlyWalk hearing m → EarlyWalk hearing (suc m)
early_step hearing m onward = by
  where
    by : EarlyWalk hearing (suc m)
    by place [] behind places calls early awaits =
        walk hearing (suc m) place behind places calls (reaches hearing place behind early) awaits
    by place (piece ∷ further) behind [] calls early awaits = λ many used. absurd (omega arith)
    by place (piece ∷ further) behind (first ∷ places) calls early awaits =
        elim (cases_lt place.slot first) [
          | inl later ↦
              subst (Tell hearing place (suc m) calls)
              (sym (laid_later hearing.pid place.slot place.number first piece (further ++ behind) places later))
              (early_null hearing m onward waits later)
          | inr most ↦
              let least = awaits.ahead.0 in
              let same : first ≡ place.slot = omega arith in
              subst (Tell hearing place (suc m) calls)
              (sym (laid_here hearing.pid place.slot place.number first piece (further ++ behind) places same))
              (early_piece hearing m onward waits same)
        ]
      where
        waits : EarlyWaiting hearing
        waits = record {
          place = place;
          piece = piece;
          further = further;
          behind = behind;
          early = early;
          at = first;
          places = places;
          calls = calls;
          awaits = awaits;
        }

-- the packets of a stream from any of them on
pub early_walk : (hearing : Hearing) (m : ℕ) → EarlyWalk hearing m
early_walk hearing zero =
    λ place further behind places calls early awaits many used.
    walk_none hearing place [] places calls nothing_left awaits (omega arith) used
early_walk hearing (suc m) = early_step hearing m (early_walk hearing m)
