-- The told calls of packets that come by any course.
use Rattle.std.proofs.Common.{◌≡◌, ◌∙◌, ℕ, List, [], ◌∷◌, ◌++◌, map, reverse, Option, Some, None, refl, ap}
use Rattle.std.proofs.lemmas.List.{map-append}
use Rattle.buffer_model.specs.Calls.{Call, Arrived, SetWhole, Dropped}
use Rattle.decoder_model.specs.Kept.{lifted_time}
use Rattle.decoder_model.specs.PacketArrivals.{PacketArrival}
use Rattle.decoder_model.specs.Painting.{set_load}
use Rattle.decoder_model.specs.Readings.{Reading}
use Rattle.decoder_model.specs.Sets.{Delivery}
use Rattle.decoder_model.specs.Verdict.{verdict_of}
use Rattle.received_level_laws.specs.StreamCalls.{call_by, calls_of_packet}
use Rattle.received_level_laws.specs.ToldSets.{ToldCall, ToldSet, of_no_set, of_set, set_told, told_behind, told_call}
use Rattle.received_level_laws.proofs.SameCalls.{map_all_of, same_of_packet}
use Rattle.decoder_model.specs.Received.{Reception}
use Rattle.stream_syntax.specs.declared.transport.Event.{Event}
use Rattle.sub_base.specs.Lists.{all_of}
use Rattle.sub_base.specs.declared.load.SetLoad.{SetLoad}
use Rattle.sub_base.specs.declared.profile.Profile.{Profile}
use Rattle.check_text.specs.Checking.{own_slot, told_with}
use Rattle.check_text.specs.Courses.{in_slots, one_in_slots, told_in_slots}

-- ---- the slot of that number

call_itself : (call : Call) → in_slots own_slot call ≡ call
call_itself (Arrived place bytes) = refl
call_itself (SetWhole load) = refl
call_itself Dropped = refl

-- calls in the slots of their places are the calls themselves
pub told_itself : (told : List ToldCall) → told_in_slots own_slot told ≡ told
told_itself [] = refl
told_itself (one ∷ told) =
    ap (λ (call : Call). record { call = call; set = one.set } ∷ told_in_slots own_slot told) (call_itself one.call)
    ∙ ap (λ (rest : List ToldCall). one ∷ rest) (told_itself told)

-- ---- calls of sets, which are of no slot

call_same : (slot_of : ℕ → ℕ) (set : Option ToldSet) (lifted : Option ℕ) (load : Option SetLoad)
    → told_in_slots slot_of (map (of_set set) (call_by lifted load)) ≡ map (of_set set) (call_by lifted load)
call_same slot_of set None None = refl
call_same slot_of set (Some time) None = refl
call_same slot_of set None (Some load) = refl
call_same slot_of set (Some time) (Some load) = refl

each_same : (slot_of : ℕ → ℕ) (profile : Profile) (anchor : ℕ) (older received : List (Delivery Reading))
    → map (told_in_slots slot_of) (told_behind profile anchor older received)
    ≡ told_behind profile anchor older received
each_same slot_of profile anchor older [] = refl
each_same slot_of profile anchor older (one ∷ received) =
    ap (λ (calls : List ToldCall). calls
    ∷ map (told_in_slots slot_of) (told_behind profile anchor (one ∷ older) received))
    (call_same slot_of (set_told (verdict_of profile anchor older one) (set_load profile anchor older one))
    (lifted_time anchor older one) (set_load profile anchor older one))
    ∙ ap (λ (rest : List (List ToldCall)). told_call profile anchor older one ∷ rest)
    (each_same slot_of profile anchor (one ∷ older) received)

pub sets_same : (slot_of : ℕ → ℕ) (made : Reception) (past more : List (Delivery Reading))
    → told_in_slots slot_of (told_with made past more) ≡ told_with made past more
sets_same slot_of made past more =
    map_all_of (one_in_slots slot_of) (told_behind made.profile made.anchor past (reverse more))
    ∙ ap (λ (sets : List (List ToldCall)). all_of sets)
    (each_same slot_of made.profile made.anchor past (reverse more))

-- ---- a packet

-- a packet's calls behind others, with those of the sets that come with it
pub packet_in_slots : (slot_of : ℕ → ℕ) (made : Reception) (event : Event) (arrival : PacketArrival) (place : ℕ)
    (told : List ToldCall) (past more : List (Delivery Reading))
    → told_in_slots slot_of (told ++ calls_of_packet of_no_set event arrival place (told_with made past more))
    ≡ told_in_slots slot_of told
    ++ calls_of_packet of_no_set event arrival (slot_of place) (told_with made past more)
packet_in_slots slot_of made event arrival place told past more =
    map-append (one_in_slots slot_of) told
    (calls_of_packet of_no_set event arrival place (told_with made past more))
    ∙ ap (λ (calls : List ToldCall). told_in_slots slot_of told ++ calls)
    (same_of_packet (one_in_slots slot_of) of_no_set event arrival place (told_with made past more)
    ∙ ap (calls_of_packet of_no_set event arrival (slot_of place)) (sets_same slot_of made past more))

-- the calls of sets behind others
pub sets_in_slots : (slot_of : ℕ → ℕ) (made : Reception) (told : List ToldCall) (past more : List (Delivery Reading))
    → told_in_slots slot_of (told ++ told_with made past more) ≡ told_in_slots slot_of told ++ told_with made past more
sets_in_slots slot_of made told past more =
    map-append (one_in_slots slot_of) told (told_with made past more)
    ∙ ap (λ (calls : List ToldCall). told_in_slots slot_of told ++ calls) (sets_same slot_of made past more)
