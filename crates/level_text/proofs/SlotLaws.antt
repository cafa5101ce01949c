-- Two courses that are the same for all packets give the same told calls.
use Rattle.std.proofs.Common.{◌≡◌, ◌∙◌, ℕ, suc, ◌+◌, ◌<◌, List, [], ◌∷◌, ◌++◌, length, map, take, drop, reverse, Option, Some, None, refl, sym, ap, subst, arith}
use Rattle.std.specs.List.{drop-map, take-map}
use Rattle.std.proofs.lemmas.List.{map-append}
use Rattle.check_text.specs.Checking.{Checking, HasMetered}
use Rattle.check_text.specs.Courses.{one_in_slots, told_in_slots}
use Rattle.decoder_model.specs.PacketArrivals.{PacketArrival, packet_arrival}
use Rattle.decoder_model.specs.Kept.{lifted_time}
use Rattle.decoder_model.specs.Painting.{set_load}
use Rattle.decoder_model.specs.Readings.{Reading}
use Rattle.decoder_model.specs.Verdict.{verdict_of}
use Rattle.decoder_model.specs.Sets.{Delivery}
use Rattle.decoder_model.specs.declared.pages.Pages.{Pages}
use Rattle.received_level_laws.specs.StreamCalls.{call_by, calls_from, calls_of_packet, count_with}
use Rattle.received_level_laws.specs.ToldSets.{ToldCall, ToldSet, of_no_set, of_set, set_told, told_behind}
use Rattle.received_level_laws.proofs.SameCalls.{map_all_of, same_of_packet}
use Rattle.set_receiver.specs.Receiving.{reception}
use Rattle.stream_syntax.specs.Units.{event_at}
use Rattle.stream_syntax.specs.declared.transport.Event.{Event}
use Rattle.sub_base.specs.Lists.{all_of}
use Rattle.sub_base.specs.declared.load.SetLoad.{SetLoad}
use Rattle.sub_base.specs.declared.profile.Profile.{Profile}

-- a packet's calls and those behind them
in_one : (slot_of : ℕ → ℕ) (event : Event) (arrival : PacketArrival) (slot : ℕ) (mine rest : List ToldCall)
    → told_in_slots slot_of (calls_of_packet of_no_set event arrival slot mine ++ rest)
    ≡ calls_of_packet of_no_set event arrival (slot_of slot) (told_in_slots slot_of mine) ++ told_in_slots slot_of rest
in_one slot_of event arrival slot mine rest =
    map-append (one_in_slots slot_of) (calls_of_packet of_no_set event arrival slot mine) rest
    ∙ ap (λ (calls : List ToldCall). calls ++ told_in_slots slot_of rest)
    (same_of_packet (one_in_slots slot_of) of_no_set event arrival slot mine)

module _ (one other : ℕ → ℕ) where
  -- calls of sets are of no slot
  call_same : (set : Option ToldSet) (lifted : Option ℕ) (load : Option SetLoad)
      → told_in_slots one (map (of_set set) (call_by lifted load))
      ≡ told_in_slots other (map (of_set set) (call_by lifted load))
  call_same set None None = refl
  call_same set (Some time) None = refl
  call_same set None (Some load) = refl
  call_same set (Some time) (Some load) = refl

  each_same : (profile : Profile) (anchor : ℕ) (older received : List (Delivery Reading))
      → map (told_in_slots one) (told_behind profile anchor older received)
      ≡ map (told_in_slots other) (told_behind profile anchor older received)
  each_same profile anchor older [] = refl
  each_same profile anchor older (next ∷ received) =
      let set = set_told (verdict_of profile anchor older next) (set_load profile anchor older next) in
      let calls = call_same set (lifted_time anchor older next) (set_load profile anchor older next) in
      λ i. calls i ∷ each_same profile anchor (next ∷ older) received i

  -- the calls of so many sets
  some_same : (count : ℕ) (left : List (List ToldCall)) → map (told_in_slots one) left ≡ map (told_in_slots other) left
      → told_in_slots one (all_of (take count left)) ≡ told_in_slots other (all_of (take count left))
  some_same count left same =
      map_all_of (one_in_slots one) (take count left)
      ∙ ap all_of (sym (take-map (told_in_slots one) count left) ∙ ap (take count) same
      ∙ take-map (told_in_slots other) count left)
      ∙ sym (map_all_of (one_in_slots other) (take count left))

  others_same : (count : ℕ) (left : List (List ToldCall))
      → map (told_in_slots one) left ≡ map (told_in_slots other) left
      → map (told_in_slots one) (drop count left) ≡ map (told_in_slots other) (drop count left)
  others_same count left same =
      sym (drop-map (told_in_slots one) count left) ∙ ap (drop count) same
      ∙ drop-map (told_in_slots other) count left

  -- the calls of packets behind others
  from_same : (coded pid : ℕ) (pages : Pages) (slot : ℕ) (before packets : List (List ℕ))
      (left : List (List ToldCall)) → map (told_in_slots one) left ≡ map (told_in_slots other) left
      → ((k : ℕ) → k < length packets → one (slot + k) ≡ other (slot + k))
      → told_in_slots one (calls_from of_no_set coded pid pages slot before packets left)
      ≡ told_in_slots other (calls_from of_no_set coded pid pages slot before packets left)
  from_same coded pid pages slot before [] left sets same =
      map_all_of (one_in_slots one) left ∙ ap all_of sets ∙ sym (map_all_of (one_in_slots other) left)
  from_same coded pid pages slot before (packet ∷ packets) left sets same =
      let count = count_with coded pid pages before packet in
      let event = event_at pid coded before packet in
      let arrival = packet_arrival coded pid pages before packet in
      let mine : List ToldCall = all_of (take count left) in
      let rest : List ToldCall =
      calls_from of_no_set coded pid pages (slot + 1) (before ++ packet ∷ []) packets (drop count left) in
      let head : one slot ≡ other slot =
      subst (λ (n : ℕ). one n ≡ other n) (let at : slot + 0 ≡ slot = omega arith in at) (same 0 (omega arith)) in
      let behind : told_in_slots one rest ≡ told_in_slots other rest =
      from_same coded pid pages (slot + 1) (before ++ packet ∷ []) packets (drop count left)
      (others_same count left sets)
      (λ k within. subst (λ (n : ℕ). one n ≡ other n)
      (let at : slot + suc k ≡ slot + 1 + k = omega arith in at) (same (suc k) (omega (arith, within)))) in
      in_one one event arrival slot mine rest
      ∙ (λ i. calls_of_packet of_no_set event arrival (head i) (some_same count left sets i) ++ behind i)
      ∙ sym (in_one other event arrival slot mine rest)

  -- what packets were told by one course was told by the other
  pub metered_same : (sets : Checking) (packets : List (List ℕ)) (text : List ℕ)
      → ((k : ℕ) → k < length packets → one k ≡ other k)
      → HasMetered one sets packets text → HasMetered other sets packets text
  metered_same sets packets text same has =
      let made = reception sets.receiving in
      let received : List (Delivery Reading) = reverse has.past in
      record {
        past = has.past;
        told = has.told;
        at = has.at;
        received = has.received;
        are = has.are
            ∙ from_same made.profile.coded made.pid made.pages 0 [] packets
            (told_behind made.profile made.anchor [] received)
            (each_same made.profile made.anchor [] received)
            (λ k within. subst (λ (n : ℕ). one n ≡ other n) (let at : k ≡ 0 + k = omega arith in at) (same k within));
      }
