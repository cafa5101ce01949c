-- The packets of a stream that were passed, and those that the source gave.
use Rattle.std.proofs.Common.{◌≡◌, ◌∙◌, ◌≤◌, ◌<◌, ℕ, ◌+◌, ◌*◌, true, false, List, [], ◌∷◌, ◌++◌, length, length-append, length-take-le, take, drop, get_or, Option, Some, sym, ap, subst, append-nil, append_assoc, slice_get, arith}
use Rattle.std.proofs.lemmas.Grind.{flat_map-append}
use Rattle.std.proofs.lemmas.List.{nil_from_length, take-append-drop, take_all, take_more}
use Rattle.std.proofs.KnownBytes.{Consumes-nil}
use Rattle.std.proofs.lemmas.List.Elements.{All-nil, All-take}
use Rattle.sub_base.specs.Counts.{counted}
use Rattle.std.proofs.lemmas.Option.{get_or_from_slice_get, slice_get_within}
use Rattle.sub_base.specs.Endpoints.{Supplied}
use Rattle.packet_source.specs.InHand.{InHand, read_count, rest_of, whole_packets}
use Rattle.packet_source.specs.Packets.{Gave, HasGivenInHand, IsWithin, stream_length}
use Rattle.packet_source.specs.declared.limits.TheConstants.{STREAM_LIMIT}
use Rattle.packet_source.proofs.GaveLaws.{AreLong, Gave-more, Gave-up_to, bytes_of, length-whole_packets, stream_length-more, whole_packets-rest_of, whole_packets_long}
use Rattle.service_mux.specs.Private.Lanes.{HasEnded, HasPassed, IsLaneStop, IsSound, Passes, PassesReached, as_list}
use Rattle.service_mux.specs.StreamReads.{IsRead}
use Rattle.service_mux.specs.declared.lane.Lane.{Lane}
use Rattle.service_mux.specs.declared.lane.LaneStop.{LaneStop}
use Rattle.service_mux.specs.declared.lane.LaneStop.TheVariants as stop
use Rattle.sub_base.proofs.TransferSteps.{HasRisen-since}

-- no whole packet is in hand where there are fewer bytes than one has
pub none_in_hand : (bytes : List ℕ) → length bytes < 188 → length (whole_packets bytes) ≡ 0
none_in_hand bytes short = omega (arith, length-whole_packets bytes)

-- the packet that is reached was passed
pub passed_one : (old new : Lane) → new.packets ≡ old.packets → new.next ≡ old.next + 1
    → new.is_ended ≡ old.is_ended → old.next < length (whole_packets old.packets.bytes) → Passes old new
passed_one old new same next ended there before now packets packet past is =
    let whole = whole_packets old.packets.bytes in
    let more : take new.next whole ≡ take old.next whole ++ packet ∷ [] =
    ap (λ (n : ℕ). take n whole) next ∙ take_more whole old.next [] there
    ∙ ap (λ (p : List ℕ). take old.next whole ++ p ∷ []) (get_or_from_slice_get whole old.next packet [] is) in
    let all : packets ++ packet ∷ [] ≡ past.earlier ++ take new.next (whole_packets new.packets.bytes) =
    ap (λ (p : List (List ℕ)). p ++ packet ∷ []) past.passed
    ∙ append_assoc past.earlier (take old.next whole) (packet ∷ [])
    ∙ ap (λ (p : List (List ℕ)). past.earlier ++ p) (sym more)
    ∙ ap (λ (hand : InHand). past.earlier ++ take new.next (whole_packets hand.bytes)) (sym same) in
    record {
      earlier = past.earlier;
      stands = subst (λ (hand : InHand). HasGivenInHand before now hand past.earlier) (sym same) past.stands;
      passed = all;
      ended =
          λ is_ended. subst (λ (hand : InHand). HasEnded now hand) (sym same) (past.ended (sym ended ∙ is_ended));
    }

-- passing the packet that is reached, where there is one
pub passed_reached : (old new : Lane) (packet : List ℕ)
    → slice_get (whole_packets old.packets.bytes) old.next ≡ Some packet → Passes old new
    → PassesReached old new true
passed_reached old new packet is passes before now packets past =
    subst (λ (found : Option (List ℕ)). HasPassed before now new (packets ++ as_list found)) (sym is)
    (passes before now packets packet past is)

pub passed_none : (old new : Lane) → new ≡ old → PassesReached old new false
passed_none old new same before now packets past =
    subst (λ (all : List (List ℕ)). HasPassed before now new all) (sym (append-nil packets))
    (subst (λ (lane : Lane). HasPassed before now lane packets) (sym same) past)

-- what stopped a stream since an earlier moment
pub stopped_since : (before was mid is : Supplied) (why : LaneStop) → was.faults ≤ mid.faults
    → IsLaneStop before mid is why → IsLaneStop before was is why
stopped_since before was mid is stop.Unread kept risen = HasRisen-since was.faults mid.faults is.faults kept risen
stopped_since before was mid is stop.TooLong kept risen = risen

-- a stream that has ended reaches no packet
pub ended_none : (before now : Supplied) (lane : Lane) (packets : List (List ℕ))
    → HasPassed before now lane packets → lane.is_ended ≡ true
    → lane.next < length (whole_packets lane.packets.bytes) → ⊥
ended_none before now lane packets past ended there =
    let short = (past.ended ended).short in
    omega (arith, none_in_hand lane.packets.bytes short, there)

-- ---- what the source gave

-- nothing was given
pub gave_nothing : (source : Supplied) → Gave source source [] []
gave_nothing source = record { each = All-nil _; bytes = Consumes-nil source.left; count = counted_none source.given }
  where
    counted_none : (count : ℕ) → count ≡ counted count 0
    counted_none count = grind arith

-- the packets that were passed, and the bytes behind them, which are fewer than a packet has where the stream has ended
pub record HasGiven (before now : Supplied) (lane : Lane) (packets : List (List ℕ)) : Type 0 where
  pub rest : List ℕ
  pub gave : Gave before now packets rest
  pub within : IsSound lane → IsWithin packets rest
  pub short : lane.is_ended ≡ true → length rest < 188

-- as many bytes were given as were read
read_in_all : (before now : Supplied) (lane : Lane) (packets : List (List ℕ))
    → (past : HasPassed before now lane packets)
    → stream_length past.earlier lane.packets.bytes ≡ read_count lane.packets
read_in_all before now lane packets past = omega (arith, past.stands.count)

pub given : (before now : Supplied) (lane : Lane) (packets : List (List ℕ)) → HasPassed before now lane packets
    → HasGiven before now lane packets
given before now lane packets past =
    let bytes = lane.packets.bytes in
    let whole = whole_packets bytes in
    let front = take lane.next whole in
    let behind = drop lane.next whole in
    let rest = bytes_of behind ++ rest_of bytes in
    let cut : bytes ≡ bytes_of front ++ rest =
    sym (whole_packets-rest_of bytes)
    ∙ ap (λ (w : List (List ℕ)). bytes_of w ++ rest_of bytes) (sym (take-append-drop lane.next whole))
    ∙ ap (λ (w : List ℕ). w ++ rest_of bytes) (flat_map-append (λ (p : List ℕ). p) front behind)
    ∙ append_assoc (bytes_of front) (bytes_of behind) (rest_of bytes) in
    let each : AreLong front =
    All-take (λ (packet : List ℕ). length packet ≡ 188) lane.next whole (whole_packets_long bytes) in
    record {
      rest = rest;
      gave = subst (λ (all : List (List ℕ)). Gave before now all rest) (sym past.passed)
          (Gave-more before now past.earlier front bytes rest past.stands.gave each cut);
      within = λ sound. subst (λ (all : List (List ℕ)). IsWithin all rest) (sym past.passed)
          (omega (
            arith,
            stream_length-more past.earlier front bytes rest each cut,
            read_in_all before now lane packets past,
            sound.limit,
          ));
      short = λ ended. omega (
        arith,
        ap (λ (l : List ℕ). length l) cut,
        length-append (bytes_of front) rest,
        (past.ended ended).short,
      );
    }

-- the packets that were passed, the one that is reached, and the bytes behind it
pub record HasGivenNext (before now : Supplied) (lane : Lane) (packets : List (List ℕ)) (packet : List ℕ) : Type 0 where
  pub rest : List ℕ
  pub gave : Gave before now packets (packet ++ rest)
  pub within : IsSound lane → IsWithin packets (packet ++ rest)
  pub long : length packet ≡ 188

pub given_next : (before now : Supplied) (lane : Lane) (packets : List (List ℕ)) (packet : List ℕ)
    → HasPassed before now lane packets
    → slice_get (whole_packets lane.packets.bytes) lane.next ≡ Some packet
    → HasGivenNext before now lane packets packet
given_next before now lane packets packet past is =
    let bytes = lane.packets.bytes in
    let whole = whole_packets bytes in
    let here : get_or whole lane.next [] ≡ packet = get_or_from_slice_get whole lane.next packet [] is in
    let up_to =
    Gave-up_to before now past.earlier bytes lane.next past.stands.gave (slice_get_within whole lane.next packet is)
    in
    record {
      rest = up_to.rest;
      gave = subst (λ (all : List (List ℕ)). Gave before now all (packet ++ up_to.rest)) (sym past.passed)
          (subst (λ (p : List ℕ). Gave before now (past.earlier ++ take lane.next whole) (p ++ up_to.rest)) here
          up_to.gave);
      within = λ sound. subst (λ (all : List (List ℕ)). IsWithin all (packet ++ up_to.rest)) (sym past.passed)
          (subst (λ (p : List ℕ). IsWithin (past.earlier ++ take lane.next whole) (p ++ up_to.rest)) here
          (omega (arith, up_to.same, read_in_all before now lane packets past, sound.limit)));
      long = ap length (sym here) ∙ up_to.long;
    }

-- a stream that has ended gave these packets, and a rest that is shorter than one
pub given_all : (before now : Supplied) (lane : Lane) (packets : List (List ℕ))
    → HasPassed before now lane packets → IsSound lane → lane.is_ended ≡ true → IsRead before now packets
given_all before now lane packets past sound ended =
    let end = past.ended ended in
    let none : whole_packets lane.packets.bytes ≡ [] =
    nil_from_length (whole_packets lane.packets.bytes) (none_in_hand lane.packets.bytes end.short) in
    let all : packets ≡ past.earlier =
    past.passed ∙ ap (λ (w : List (List ℕ)). past.earlier ++ take lane.next w) none
    ∙ ap (λ (w : List (List ℕ)). past.earlier ++ w) (take_all lane.next [] (omega arith))
    ∙ append-nil past.earlier in
    record {
      rest = lane.packets.bytes;
      gave = subst (λ (p : List (List ℕ)). Gave before now p lane.packets.bytes) (sym all) past.stands.gave;
      within = subst (λ (p : List (List ℕ)). IsWithin p lane.packets.bytes) (sym all)
          (omega (arith, read_in_all before now lane packets past, sound.limit));
      short = end.short;
      end = end.end;
    }

-- how many packets were passed, at the most
pub few_passed : (before now : Supplied) (lane : Lane) (packets : List (List ℕ))
    → HasPassed before now lane packets → IsSound lane → 188 * length packets ≤ STREAM_LIMIT
few_passed before now lane packets past sound =
    let whole = whole_packets lane.packets.bytes in
    let within = sound.within in
    let limit = sound.limit in
    omega (
      arith,
      ap length past.passed,
      length-append past.earlier (take lane.next whole),
      length-take-le lane.next
          whole within,
      past.stands.count,
      length-whole_packets lane.packets.bytes,
      limit,
    )
