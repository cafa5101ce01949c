-- The calls that a compiled stream gives to a receiver that enters it behind any number of packets, up to any packet.
use Rattle.std.proofs.Common.{◌≡◌, ◌∙◌, ℕ, zero, suc, ◌+◌, ◌<◌, ◌≤◌, false, List, [], ◌∷◌, ◌++◌, length, map, take, drop, reverse, get_or, None, sym, ap, arith}
use Rattle.std.specs.Prelude.{All}
use Rattle.std.specs.List.{AllByRecursion, AllZip}
use Rattle.std.proofs.lemmas.List.{length-map, length-reverse}
use Rattle.sub_base.specs.Pace.{pace_of}
use Rattle.sub_base.specs.Profile.{profile_of}
use Rattle.sub_base.specs.declared.load.WriteLoad.{WriteLoad}
use Rattle.cue_list.specs.declared.script.Script.{Script}
use Rattle.page_epoch.specs.declared.planned_set.PlannedSet.{PlannedSet}
use Rattle.buffer_model.specs.Calls.{Call}
use Rattle.schedule.specs.Slots.{IsLoad}
use Rattle.stream_syntax.specs.Cutting.{IsUnit}
use Rattle.stream_syntax.specs.TransportPackets.{packet_fault}
use Rattle.decoder_model.specs.Frames.{only}
use Rattle.decoder_model.specs.Sets.{sets_of}
use Rattle.decoder_model.specs.Streams.{entered_at}
use Rattle.decoder_model.proofs.SentUnits.{all_taken}
use Rattle.scheduled_level_laws.specs.EnteredCalls.{Entry, entered_calls}
use Rattle.shown_stream.specs.Compiled.{all_units, IsCompiledTo, Compiling, received_by}
use Rattle.sent_sets.specs.SentStream.{AreSizedAs}
use Rattle.slot_stream.specs.SlotStream.{all_pieces}
use Rattle.received_level_laws.specs.StreamCalls.{itself, set_call, set_calls, calls_from, AreCallsOf}
use Rattle.received_level_laws.proofs.EachBehind.{each_count}
use Rattle.received_level_laws.proofs.PacketCalls.{none_yet}
use Rattle.received_level_laws.proofs.ToldLaws.{as_many_received}
use Rattle.shown_stream.proofs.Calls.CallsOfPackets.{used_up}
use Rattle.shown_stream.proofs.Calls.CallsOfPieces.{AreSentSets, AreLeft, AreUsedUp}
use Rattle.shown_stream.proofs.Sent.CompiledPackets.{packets_in, ArePackets}
use Rattle.shown_stream.proofs.Sent.CompiledSets.{AreSentAs}
use Rattle.shown_stream.proofs.Calls.LateCalls.{IsSentStream, entry_of, late_calls}
use Rattle.shown_stream.proofs.Late.LatePlaces.{same_many}
use Rattle.slot_stream.proofs.SentPieces.{IsFree, none_refused}
use Rattle.slot_stream.proofs.SentStream.{pieces_are}
use Rattle.shown_stream.proofs.Sent.SetPackets.{bytes_in, set_bytes}
use Rattle.sent_sets.proofs.PacketCounts.{as_many, count_pieces}
use Rattle.sent_sets.proofs.RisingSlots.{rises, slots_rise}
use Rattle.sent_sets.proofs.Units.{TimedSet, timed, timed_units, IsTimedSet, IsUnitOf}

-- ---- the sets of a compiled stream as they are sent

zip_split : {A B : Type 0} (R : A → B → Type 0) (xs more : List A) (ys others : List B)
    → length xs ≡ length ys → AllZip R (xs ++ more) (ys ++ others) → AllZip R xs ys × AllZip R more others
zip_split R [] more [] others same h = (tt, h)
zip_split R [] more (y ∷ ys) others same h = absurd (omega arith)
zip_split R (x ∷ xs) more [] others same h = absurd (omega arith)
zip_split R (x ∷ xs) more (y ∷ ys) others same h =
    let rest = zip_split R xs more ys others (omega arith) h.1 in ((h.0, rest.0), rest.1)

all_split : {X : Type 0} (P : X → Type 0) (xs ys : List X) → AllByRecursion P (xs ++ ys) → AllByRecursion P xs
    × AllByRecursion P ys
all_split P [] ys h = (tt, h)
all_split P (x ∷ xs) ys h = let rest = all_split P xs ys h.1 in ((h.0, rest.0), rest.1)

pub all_drop : {X : Type 0} (P : X → Type 0) (n : ℕ) (xs : List X) → AllByRecursion P xs
    → AllByRecursion P (drop n xs)
all_drop P zero xs h = h
all_drop P (suc n) [] h = tt
all_drop P (suc n) (x ∷ xs) h = all_drop P n xs h.1

pub all_take : {X : Type 0} (P : X → Type 0) (n : ℕ) (xs : List X) → AllByRecursion P xs
    → AllByRecursion P (take n xs)
all_take P zero xs h = tt
all_take P (suc n) [] h = tt
all_take P (suc n) (x ∷ xs) h = (h.0, all_take P n xs h.1)

-- from a set on, the sets with their PES packets
sets_from : (coded page : ℕ) (script : Script) (loads : List WriteLoad) (units : List (List (List ℕ))) (i : ℕ)
    (sets : List PlannedSet) (groups : List (List (List ℕ))) (sent : List TimedSet) → AreSizedAs loads units
    → AreSentAs script page sets groups sent
    → AllZip (IsUnitOf (only page)) (all_units groups) (timed_units sent)
    → AllByRecursion (IsTimedSet coded (only page)) sent → AllByRecursion (IsUnit coded) (all_units groups)
    → ((j : ℕ) → get_or units (i + j) [] ≡ get_or groups j []) → i + length groups ≡ length loads
    → AreSentSets coded (only page) loads i groups sent
sets_from coded page script loads units i [] [] [] sized are each timed_sets whole same many = tt
sets_from coded page script loads units i [] [] (one ∷ sent) sized are each timed_sets whole same many = absurd are
sets_from coded page script loads units i [] (packets ∷ groups) sent sized are each timed_sets whole same many =
    absurd are
sets_from coded page script loads units i (set ∷ sets) [] sent sized are each timed_sets whole same many = absurd are
sets_from coded page script loads units i (set ∷ sets) (packets ∷ groups) [] sized are each timed_sets whole same
    many = absurd are
sets_from coded page script loads units i (set ∷ sets) (packets ∷ groups) (one ∷ sent) sized are each timed_sets
    whole same many =
    let first : i + 0 ≡ i = omega arith in
    let own : get_or units i [] ≡ packets = ap (λ n. get_or units n []) (sym first) ∙ same 0 in
    let parts =
    zip_split (IsUnitOf (only page)) packets (all_units groups) (map (timed one.time) one.units) (timed_units sent)
    (omega (arith, same_many script page set packets one are.0, length-map one.units (timed one.time))) each in
    let wholes = all_split (IsUnit coded) packets (all_units groups) whole in
    let inside : i < length loads = omega arith in (
      record {
        inside = inside;
        bytes = set_bytes i loads units inside sized
            ∙ ap (λ found. map bytes_in (all_pieces found)) own;
        units = parts.0;
        whole = wholes.0;
        is = timed_sets.0;
      },
      sets_from coded page script loads units (suc i) sets groups sent sized are.1 parts.1 timed_sets.1 wholes.1
          (λ j. (let next : suc i + j ≡ i + suc j = omega arith in ap (λ n. get_or units n []) next
          ∙ same (suc j))) (omega arith),
    )

-- a compiled stream is one of scheduled sets in slots
pub compiled_stream : (compiling : Compiling) (bytes : List ℕ)
    (compiled : IsCompiledTo compiling bytes) (known : ArePackets compiling bytes compiled)
    → All IsLoad compiled.loads
    → IsSentStream (profile_of compiling.profile).coded (only compiling.page) compiled.loads compiled.table.slots
    compiled.units known.sent
compiled_stream compiling bytes compiled known loads_are =
    let loads = compiled.loads in
    let pace = pace_of compiling.script.origin (profile_of compiling.profile) in
    let all = as_many loads compiled.units compiled.sized in
    record {
      are =
          record {
            each = loads_are;
            count = compiled.schedule.packets;
            rise = rises loads (length loads) pace
                compiled.table compiled.schedule;
          };
      ahead = slots_rise loads (length loads) pace compiled.table compiled.schedule;
      sent =
          sets_from (profile_of compiling.profile).coded compiling.page compiling.script loads compiled.units 0
          compiled.sets compiled.units known.sent
          compiled.sized known.are.are known.are.carry.each known.are.carry.whole known.units
          (λ j. ap (λ n. get_or compiled.units n []) (omega arith)) (omega (arith, all));
      apart = known.apart;
      many = all;
      whole = known.units;
      pieces = sym (count_pieces loads compiled.units compiled.sized) ∙ sym compiled.schedule.packets;
    }

-- where a compiled stream is entered
abbrev pub compiled_entry : (compiling : Compiling) (bytes : List ℕ)
    (compiled : IsCompiledTo compiling bytes) (known : ArePackets compiling bytes compiled)
    → All IsLoad compiled.loads → ℕ → Entry
compiled_entry compiling bytes compiled known loads_are missed =
    entry_of (profile_of compiling.profile).coded (only compiling.page) compiled.loads compiled.table.slots
    compiled.units known.sent missed
    (compiled_stream compiling bytes compiled known loads_are)

-- ---- its calls

-- the calls of a compiled stream that is entered behind so many packets, up to any packet, are those of its scheduled
-- sets; where each set is received at its own time, with as much painting as is said of it
pub compiled_calls : (compiling : Compiling) (bytes : List ℕ) → IsFree compiling.pid
    → (compiled : IsCompiledTo compiling bytes) (known : ArePackets compiling bytes compiled)
    (loads_are : All IsLoad compiled.loads)
    → (painted : ℕ → ℕ) (anchor missed m : ℕ) (calls : List Call)
    → m ≤ length (entered_at missed (packets_in compiling bytes compiled))
    → (given : AreCallsOf (received_by compiling anchor) missed false
    (take m (entered_at missed (packets_in compiling bytes compiled))) calls)
    → AreLeft compiled.loads painted (compiled_entry compiling bytes compiled known loads_are missed)
    (compiled_entry compiling bytes compiled known loads_are missed).set
    (set_calls (profile_of compiling.profile) anchor (reverse given.past))
    → calls ≡ entered_calls compiled.loads compiled.table.slots (missed + m) painted
    (compiled_entry compiling bytes compiled known loads_are missed) (length compiled.loads)
compiled_calls compiling bytes free compiled known loads_are painted anchor missed m calls within given
    kept =
    let coded = (profile_of compiling.profile).coded in
    let packets = take m (entered_at missed (packets_in compiling bytes compiled)) in
    let left = set_calls (profile_of compiling.profile) anchor (reverse given.past) in
    let is = compiled_stream compiling bytes compiled known loads_are in
    let units = all_units compiled.units in
    let sound : AllByRecursion (λ packet. packet_fault compiling.pid packet ≡ None) packets =
    all_take (λ packet. packet_fault compiling.pid packet ≡ None) m
    (entered_at missed (packets_in compiling bytes compiled))
    (all_drop (λ packet. packet_fault compiling.pid packet ≡ None) missed (packets_in compiling bytes compiled)
    (none_refused compiling.pid 0 0 (all_pieces units) compiled.table.slots free (pieces_are coded units known.units)))
    in
    let many : length left ≡ length (sets_of coded compiling.pid (only compiling.page) false packets) =
    each_count (set_call (profile_of compiling.profile) anchor) [] (reverse given.past) ∙ length-reverse given.past
    ∙ as_many_received (received_by compiling anchor) false packets given.past given.received in
    let used : AreUsedUp coded compiling.pid (only compiling.page) [] packets (length left) =
    used_up coded compiling.pid (only compiling.page) [] packets (length left) sound
    (omega (arith, many, ap length (none_yet coded compiling.pid (only compiling.page) false))) in
    given.are
    ∙ ap (λ taken. reverse (calls_from itself coded compiling.pid (only compiling.page) missed [] taken left))
    (all_taken compiling.pid packets sound)
    ∙ late_calls coded compiling.pid (only compiling.page) compiled.loads compiled.table.slots compiled.units known.sent
    painted missed m
    left free is kept within used
