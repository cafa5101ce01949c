-- The told calls of packets: one packet more, and the end of the stream.
use Rattle.std.proofs.Common.{◌≡◌, ◌∙◌, ℕ, suc, ◌+◌, Bool, false, List, [], ◌∷◌, ◌++◌, length, map, reverse, Option, None, refl, sym, ap, subst, arith, append-nil, length-append}
use Rattle.std.specs.List.{AllByRecursion, filter_map}
use Rattle.std.proofs.lemmas.List.{length-reverse, map-append, reverse-append}
use Rattle.std.proofs.lemmas.List.Elements.{filter_map-append}
use Rattle.sub_base.specs.Lists.{with_earlier, all_of}
use Rattle.sub_base.specs.declared.pace.Pace.{Pace}
use Rattle.sub_base.specs.declared.profile.Profile.{Profile}
use Rattle.stream_syntax.specs.TransportPackets.{packet_fault}
use Rattle.stream_syntax.specs.Units.{event_at}
use Rattle.buffer_model.specs.Calls.{Call}
use Rattle.decoder_model.specs.Arrivals.{packets_taken}
use Rattle.decoder_model.specs.PacketArrivals.{packet_arrival}
use Rattle.decoder_model.specs.Readings.{Reading, AreDeliveriesRead}
use Rattle.decoder_model.specs.Received.{HasReceived, Reception, sets_received}
use Rattle.decoder_model.specs.Sets.{Delivery, lost}
use Rattle.decoder_model.proofs.Growth.{flat-append}
use Rattle.decoder_model.proofs.Lists.{all-append}
use Rattle.received_level_laws.specs.StreamCalls.{set_call, each_behind, itself, calls_of_packet, calls_from, AreCallsOf}
use Rattle.received_level_laws.specs.ToldSets.{ToldSet, ToldCall, of_no_set, of_set, told_call, told_behind, told_of, AreToldCalls, calls_told, ToldDoneSet, done_set, told_sets, told_sets_behind}
use Rattle.received_level_laws.proofs.EachBehind.{with_earlier-append, each_count, each_more, each_last}
use Rattle.received_level_laws.proofs.PacketCalls.{AreSound, many, none_yet, calls_of_last, calls_at_end}
use Rattle.received_level_laws.proofs.SameCalls.{same_calls}
use Rattle.received_level_laws.proofs.TakenPackets.{sound_taken}

-- ---- as many as come

as_many_read : (deliveries : List (Delivery (List ℕ))) (past : List (Delivery Reading))
    → AreDeliveriesRead deliveries past → length past ≡ length deliveries
as_many_read [] [] h = refl
as_many_read [] (one ∷ past) h = absurd h
as_many_read (delivery ∷ deliveries) [] h = absurd h
as_many_read (delivery ∷ deliveries) (one ∷ past) h = ap suc (as_many_read deliveries past h.1)

pub as_many_received : (reception : Reception) (ended : Bool) (packets : List (List ℕ))
    (past : List (Delivery Reading)) → HasReceived reception ended packets past
    → length past ≡ length (sets_received reception ended packets)
as_many_received reception ended packets past received =
    as_many_read (reverse (sets_received reception ended packets)) past received
    ∙ length-reverse (sets_received reception ended packets)

told_count : (profile : Profile) (anchor : ℕ) (older received : List (Delivery Reading))
    → length (told_behind profile anchor older received) ≡ length received
told_count profile anchor older received = each_count (told_call profile anchor) older received

-- ---- one packet more

-- behind packets that were all taken, one without a fault adds its calls, with those of the sets that come with it,
-- and changes none before them
pub packet_tells : (reception : Reception) (slot : ℕ) (packets : List (List ℕ))
    (packet : List ℕ)
    (past more : List (Delivery Reading))
    → packets_taken reception.pid packets ≡ packets → packet_fault reception.pid packet ≡ None
    → HasReceived reception false packets past
    → HasReceived reception false (packets ++ packet ∷ [])
    (more ++ past)
    → told_of reception slot (packets ++ packet ∷ []) (more ++ past)
    ≡ told_of reception slot packets past
    ++ calls_of_packet of_no_set (event_at reception.pid reception.profile.coded packets packet)
    (packet_arrival reception.profile.coded reception.pid reception.pages packets packet) (slot + length packets)
    (all_of (told_behind reception.profile reception.anchor past (reverse more)))
packet_tells reception slot packets packet past more taken sound before behind =
    let front = told_behind reception.profile reception.anchor [] (reverse past) in
    let back = told_behind reception.profile reception.anchor past (reverse more) in
    let all_sound : AreSound reception.pid (packets ++ packet ∷ []) = all-append
    (λ packet. packet_fault reception.pid packet ≡ None) packets (packet ∷ []) (sound_taken reception.pid packets taken)
    (sound, tt) in
    let some : many reception.profile.coded reception.pid reception.pages packets ≡ length front =
    sym (as_many_received reception false packets past before)
    ∙ sym (told_count reception.profile reception.anchor [] (reverse past) ∙ length-reverse past) in
    let all : many reception.profile.coded reception.pid reception.pages (packets ++ packet ∷ [])
    ≡ length (front ++ back) =
    sym (as_many_received reception false (packets ++ packet ∷ []) (more ++ past) behind)
    ∙ omega (
      arith,
      length-append more past,
      length-append front back,
      told_count reception.profile reception.anchor []
          (reverse past),
      length-reverse past,
      told_count reception.profile reception.anchor past (reverse more),
      length-reverse more,
    ) in
    ap (calls_from of_no_set reception.profile.coded reception.pid reception.pages slot [] (packets ++ packet ∷ []))
    (each_more (told_call reception.profile reception.anchor) past more)
    ∙ calls_of_last of_no_set reception.profile.coded reception.pid reception.pages slot packets packet front back
    all_sound some all

-- ---- the end

-- the end of the stream adds the calls of the sets that it alone makes ready, last
pub end_tells : (reception : Reception) (slot : ℕ) (packets : List (List ℕ))
    (past more : List (Delivery Reading))
    → packets_taken reception.pid packets ≡ packets → HasReceived reception false packets past
    → told_of reception slot packets (more ++ past)
    ≡ told_of reception slot packets past ++ all_of (told_behind reception.profile reception.anchor past (reverse more))
end_tells reception slot packets past more taken before =
    let front = told_behind reception.profile reception.anchor [] (reverse past) in
    let back = told_behind reception.profile reception.anchor past (reverse more) in
    let some : many reception.profile.coded reception.pid reception.pages packets ≡ length front =
    sym (as_many_received reception false packets past before)
    ∙ sym (told_count reception.profile reception.anchor [] (reverse past) ∙ length-reverse past) in
    ap (calls_from of_no_set reception.profile.coded reception.pid reception.pages slot [] packets)
    (each_more (told_call reception.profile reception.anchor) past more)
    ∙ calls_at_end of_no_set reception.profile.coded reception.pid reception.pages slot packets front back
    (sound_taken reception.pid packets taken) some

-- ---- the calls themselves

calls_kept : (set : Option ToldSet) (calls : List Call) → map (λ (one : ToldCall). one.call) (map (of_set set) calls)
    ≡ calls
calls_kept set [] = refl
calls_kept set (call ∷ calls) = ap (λ rest. call ∷ rest) (calls_kept set calls)

told_are_calls : (profile : Profile) (anchor : ℕ) (older received : List (Delivery Reading))
    → map (map (λ (one : ToldCall). one.call)) (told_behind profile anchor older received)
    ≡ each_behind (set_call profile anchor) older received
told_are_calls profile anchor older [] = refl
told_are_calls profile anchor older (one ∷ received) =
    ap (λ calls. calls
    ∷ map (map (λ (one : ToldCall). one.call)) (told_behind profile anchor (one ∷ older) received))
    (calls_kept _ (set_call profile anchor older one))
    ∙ ap (λ rest. set_call profile anchor older one ∷ rest)
    (told_are_calls profile anchor (one ∷ older) received)

-- the calls of packets are those that are told of them
pub are_calls : (reception : Reception) (slot : ℕ) (ended : Bool)
    (packets : List (List ℕ))
    (told : List ToldCall)
    → AreToldCalls reception slot ended packets told
    → AreCallsOf reception slot ended packets (calls_told told)
are_calls reception slot ended packets told is = record {
  past = is.past;
  received = is.received;
  are = ap calls_told is.are
      ∙ ap reverse
      (same_calls (λ (one : ToldCall). one.call) of_no_set reception.profile.coded reception.pid reception.pages
      slot []
      (packets_taken reception.pid packets) (told_behind reception.profile reception.anchor [] (reverse is.past))
      ∙ ap (calls_from itself reception.profile.coded reception.pid reception.pages slot []
      (packets_taken reception.pid packets))
      (told_are_calls reception.profile reception.anchor [] (reverse is.past)));
}

-- ---- sets that are told

-- more told calls come last: their sets are told behind those before
pub sets_more : (pace : Pace) (told more : List ToldCall) → told_sets pace (told ++ more)
    ≡ told_sets pace told ++ told_sets_behind pace (reverse told) more
sets_more pace told more =
    let of_placed : ToldCall × List ToldCall → Option ToldDoneSet = λ placed. done_set pace placed.1 placed.0 in
    ap (filter_map of_placed) (with_earlier-append [] told more)
    ∙ filter_map-append of_placed (with_earlier [] told) (with_earlier (reverse told ++ []) more)
    ∙ ap (λ earlier. told_sets pace told ++ told_sets_behind pace earlier more) (append-nil (reverse told))

-- the latest of them first
pub calls_more : (told more : List ToldCall) → calls_told (told ++ more) ≡ calls_told more ++ calls_told told
calls_more told more =
    ap reverse (map-append (λ (one : ToldCall). one.call) told more)
    ∙ reverse-append (map (λ (one : ToldCall). one.call) told) (map (λ (one : ToldCall). one.call) more)

-- ---- sets and losses one by one

-- one more set or loss that comes is told behind those that came
pub one_more_tells : (profile : Profile) (anchor : ℕ) (past more : List (Delivery Reading)) (one : Delivery Reading)
    → all_of (told_behind profile anchor past (reverse (one ∷ more)))
    ≡ all_of (told_behind profile anchor past (reverse more)) ++ told_call profile anchor (more ++ past) one
one_more_tells profile anchor past more one =
    ap (λ sets. all_of sets) (each_last (told_call profile anchor) past more one)
    ∙ flat-append (told_behind profile anchor past (reverse more))
    (told_call profile anchor (more ++ past) one ∷ [])
    ∙ ap (λ calls. all_of (told_behind profile anchor past (reverse more)) ++ calls)
    (append-nil (told_call profile anchor (more ++ past) one))

-- losses alone tell nothing
pub losses_tell : (profile : Profile) (anchor : ℕ) (past more : List (Delivery Reading))
    → AllByRecursion (λ one. one ≡ lost) more → all_of (told_behind profile anchor past (reverse more)) ≡ []
losses_tell profile anchor past [] h = refl
losses_tell profile anchor past (one ∷ more) h =
    one_more_tells profile anchor past more one
    ∙ ap (λ last. all_of (told_behind profile anchor past (reverse more))
    ++ told_call profile anchor (more ++ past) last) h.0
    ∙ ap (λ calls. calls ++ []) (losses_tell profile anchor past more h.1)

-- ---- nothing

-- before the first packet nothing is told
pub nothing_told : (reception : Reception) (slot : ℕ) (ended : Bool)
    → AreToldCalls reception slot ended [] []
nothing_told reception slot ended = record {
  past = [];
  received = subst (λ (sets : List (Delivery (List ℕ))). AreDeliveriesRead (reverse sets) [])
      (sym (none_yet reception.profile.coded reception.pid reception.pages ended)) tt;
  are = refl;
}
