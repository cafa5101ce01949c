-- A receiver of a compiled stream of which some packets are lost shows at each good tick what the script authors, keeps
-- each set that comes whole, and its page memory holds the script behind each of them whose epoch is known.
use Rattle.std.proofs.Common.{◌≡◌, ◌∙◌, ℕ, suc, ◌-◌, ◌<◌, ◌≤◌, inl, Bool, true, false, List, [], ◌∷◌, length, take, drop, get_or, reverse, Some, None, refl, sym, ap, subst, arith, append-nil}
use Rattle.std.specs.Prelude.{slice_index, slice_get}
use Rattle.std.specs.List.{AllByRecursion, list_all, list_any}
use Rattle.std.proofs.lemmas.List.Elements.{recursion_from_All}
use Rattle.std.proofs.lemmas.Option.{slice_get_within}
use Rattle.sub_base.specs.Pace.{pace_of}
use Rattle.sub_base.specs.Profile.{profile_of}
use Rattle.sub_base.specs.declared.load.WriteLoad.{WriteLoad}
use Rattle.sub_base.specs.declared.profile.Profile.{Profile}
use Rattle.stream_syntax.specs.TransportPackets.{packet_fault}
use Rattle.stream_syntax.specs.Units.{last_counter, hand_after}
use Rattle.page_epoch.specs.declared.planned_set.PlannedSet.{PlannedSet}
use Rattle.schedule.specs.Packets.{packets_of}
use Rattle.schedule.specs.Slots.{Timetable, start_of, slots_of}
use Rattle.schedule.proofs.SumLaws.{sum_below-suc}
use Rattle.decoder_model.specs.Frames.{only}
use Rattle.decoder_model.specs.Arrivals.{Arrival}
use Rattle.decoder_model.specs.Readings.{Reading, AreDeliveriesRead}
use Rattle.decoder_model.specs.Received.{HasReceived}
use Rattle.decoder_model.specs.Sets.{Delivery, runs_of, sets_in, sets_of}
use Rattle.decoder_model.specs.Shown.{Agrees, view_at}
use Rattle.decoder_model.specs.Streams.{Sending, SentSet, IsReceived, IsGoodTick, IsCutTo, received_of, is_received_at}
use Rattle.decoder_model.proofs.SentUnits.{no_hand}
use Rattle.shown_stream.specs.Compiled.{IsCompiledFor, IsCompiledTo, all_units, Compiling, received_by}
use Rattle.shown_stream.specs.Entered.{IsCutRightly}
use Rattle.shown_stream.specs.HoldsWhole.{HoldsWhole}
use Rattle.shown_stream.specs.KeptSets.{IsKept}
use Rattle.shown_stream.specs.SentSets.{sent_set, sent_sets, first_times_received}
use Rattle.shown_stream.specs.Shows.{authored_view, IsAnchorOf, Shows}
use Rattle.slot_stream.specs.SlotStream.{Piece, all_pieces, IsPiece}
use Rattle.shown_stream.proofs.Late.LateCompiled.{timed_as}
use Rattle.shown_stream.proofs.Shown.ComingSets.{all_come}
use Rattle.shown_stream.proofs.Sent.CompiledPackets.{packets_in, ArePackets, are_packets}
use Rattle.shown_stream.proofs.Shown.SentShown.{new_receiver, no_time, low_origin}
use Rattle.shown_stream.proofs.Shown.EnteredRuns.{turned_is}
use Rattle.shown_stream.proofs.Shown.HeldSets.{holds_none}
use Rattle.slot_stream.proofs.LaidPackets.{IsAhead}
use Rattle.shown_stream.proofs.Late.LatePlaces.{count_sets}
use Rattle.shown_stream.proofs.Lost.LostCompiled.{all_there, some_there, there-take, there-drop, length-there, good_from, received_sound, sets_by_flow}
use Rattle.shown_stream.proofs.Lost.LostCuts.{near_from}
use Rattle.shown_stream.proofs.Shown.FirstTimes.{first_received_suits}
use Rattle.shown_stream.proofs.Lost.LostGood.{kept_if_whole}
use Rattle.shown_stream.proofs.Lost.LostFits.{flags_at, AreTold, are_fit}
use Rattle.shown_stream.proofs.Lost.LostPieces.{there_at, flow, walked}
use Rattle.shown_stream.proofs.Lost.LostKinds.{Fresh, Arrive, Walking}
use Rattle.shown_stream.proofs.Lost.LostUnits.{come_whole, units_arrive}
use Rattle.shown_stream.proofs.Lost.LostViews.{AreFit, Ends, GoodFrom, good_ends}
use Rattle.shown_stream.proofs.Lost.LostWalk.{Before}
use Rattle.reading_laws.proofs.OneReading.{same_past}
use Rattle.shown_stream.proofs.Shown.PlannedRegions.{planned_well}
use Rattle.shown_stream.proofs.Sent.PlannedTimes.{times_in_span, pts_rise}
use Rattle.shown_stream.specs.SentPlan.{sent_plan}
use Rattle.slot_stream.proofs.SentPieces.{IsFree, none_refused}
use Rattle.slot_stream.proofs.SentStream.{pieces_are}
use Rattle.sent_sets.proofs.LateStream.{no_counter}
use Rattle.sent_sets.proofs.PacketCounts.{as_many, count_pieces, count_before, count_of_set}
use Rattle.sent_sets.proofs.RisingSlots.{slots_rise}
use Rattle.sent_sets.proofs.SetsCome.{have_units}
use Rattle.sent_sets.proofs.SlotPlaces.{start_is}
use Rattle.sent_sets.proofs.Units.{TimedSet, timed_units}

-- what is received of a compiled stream that is shortly cut, what is shown of it, what is kept, and what is held
pub record IsReceivedCut (compiling : Compiling) (bytes : List ℕ)
    (compiled : IsCompiledTo compiling bytes) (sendings : List Sending) (received : List (List ℕ))
    (anchor tick : ℕ) : Type 0 where
  pub past : List (Delivery Reading)
  pub has_received : HasReceived (received_by compiling anchor) true received past
  pub shows : IsGoodTick (sent_sets compiled.table compiled.sets) sendings tick
      → Agrees (view_at (profile_of compiling.profile) anchor tick past) (authored_view compiling.script tick)
  pub kept : (number : ℕ) (set : PlannedSet) → slice_get compiled.sets number ≡ Some set
      → IsReceived sendings (sent_set compiled.table number set)
      → IsKept (profile_of compiling.profile) anchor (IsGoodTick (sent_sets compiled.table compiled.sets) sendings) past
      set
  pub holds : HoldsWhole compiling.script (profile_of compiling.profile) anchor compiled.sets
      (λ number set. IsReceived sendings (sent_set compiled.table number set)) past

pub received_cut : (compiling : Compiling) (bytes : List ℕ) → IsFree compiling.pid
    → IsCompiledFor compiling.profile → (compiled : IsCompiledTo compiling bytes)
    → (sendings : List Sending) (received : List (List ℕ))
    → IsCutTo compiling.pid (packets_in compiling bytes compiled) sendings received → (anchor : ℕ)
    → IsAnchorOf (first_times_received sendings (sent_sets compiled.table compiled.sets)) anchor → (tick : ℕ)
    → IsReceivedCut compiling bytes compiled sendings received anchor tick
received_cut compiling bytes free made compiled sendings received cut anchor suits tick = record {
  past = ends.past;
  has_received =
      subst (λ (all : List (Delivery (List ℕ))). AreDeliveriesRead all ends.past)
      (turned_is deliveries [] ∙ append-nil (reverse deliveries) ∙ ap reverse (sym sets_are)) ends.read;
  shows =
      λ good. ends.seen
      (good_from compiling.script profile anchor compiling.script.origin compiling.page tick sets sendings table false 0
      [] sets sent come good.before
      good.entry good.after fits refl good.placed good.begins good.come
      (recursion_from_All (λ (set : SentSet). set.time ≤ tick → IsReceived sendings set)
      (good.entry ∷ good.after) good.whole));
  kept =
      kept_if_whole sendings table profile anchor ends.past sets
      (pts_rise compiling.script profile sets compiled.planned.plan) ends.kept;
  holds = ends.holds;
}
  where
    profile : Profile
    profile = profile_of compiling.profile

    coded : ℕ
    coded = profile.coded

    sets : List PlannedSet
    sets = compiled.sets

    table : Timetable
    table = compiled.table

    slots : List ℕ
    slots = table.slots

    loads : List WriteLoad
    loads = compiled.loads

    known : ArePackets compiling bytes compiled
    known = are_packets compiling bytes free made compiled

    sent : List TimedSet
    sent = known.sent

    units : List (List ℕ)
    units = all_units compiled.units

    pieces : List Piece
    pieces = all_pieces units

    ComesWhole : ℕ → PlannedSet → Type 0
    ComesWhole number set = IsReceived sendings (sent_set table number set)

    ahead : IsAhead 0 slots
    ahead = slots_rise loads (length loads) (pace_of compiling.script.origin profile) table compiled.schedule

    same : length pieces ≡ length slots
    same = sym (count_pieces loads compiled.units compiled.sized) ∙ sym compiled.schedule.packets

    are_pieces : AllByRecursion IsPiece pieces
    are_pieces = pieces_are coded units known.units

    flags : List Bool
    flags = there_at sendings 0 slots

    come : List Bool
    come = come_whole coded (only compiling.page) units flags

    arrivals : List Arrival
    arrivals = flow coded compiling.pid (only compiling.page) [] (received_of sendings)

    deliveries : List (Delivery (List ℕ))
    deliveries = sets_in coded true (runs_of arrivals)

    sound : AllByRecursion (λ packet. packet_fault compiling.pid packet ≡ None) (received_of sendings)
    sound =
        received_sound compiling.pid sendings
        (subst (AllByRecursion (λ packet. packet_fault compiling.pid packet ≡ None)) cut.sent
        (none_refused compiling.pid 0 0 pieces slots free are_pieces))

    sets_are : sets_of coded compiling.pid (only compiling.page) true received ≡ deliveries
    sets_are =
        ap (sets_of coded compiling.pid (only compiling.page) true) cut.rest
        ∙ sets_by_flow coded compiling.pid (only compiling.page) (received_of sendings) sound

    walking : Walking coded (only compiling.page) Fresh 0 pieces flags arrivals
    walking = record {
      last = last_counter compiling.pid [];
      hand = hand_after compiling.pid coded [];
      since = None;
      stands = (no_counter compiling.pid, no_hand compiling.pid coded, refl);
      near =
          near_from compiling.pid 0 0 pieces slots sendings sendings None free are_pieces same ahead cut.sent cut.short
          ([], refl);
      walk =
          walked compiling.pid coded (only compiling.page) 0 0 pieces slots sendings [] free are_pieces same ahead
          cut.sent;
    }

    arrive : Arrive Fresh (timed_units sent) come arrivals
    arrive =
        units_arrive coded (only compiling.page) Fresh 0 units (timed_units sent) flags arrivals known.units
        known.are.carry.each
        walking

    before : Before compiling.script profile anchor compiling.script.origin compiling.page sets ComesWhole Fresh [] []
        [] sets sent come deliveries
    before = record {
      parts = refl;
      bound = record { arrivals = arrivals; arrive = arrive; are = refl };
      read = tt;
      known = (new_receiver profile anchor).unknown;
      last = inl (no_time anchor);
      holds = holds_none compiling.script profile anchor sets ComesWhole;
      streak = λ come. absurd come;
      kept = tt;
    }

    many : length loads ≡ length sets
    many =
        as_many loads compiled.units compiled.sized
        ∙ (count_sets compiling.script compiling.page sets compiled.units sent known.are.are).1

    flags_are : (n : ℕ) → n < length sets
        → flags_at compiled.units flags n ≡ there_at sendings 0 (slots_of table n)
    flags_are n inside =
        let start =
        start_is loads (length loads) (pace_of compiling.script.origin profile) table compiled.schedule n
        (omega (arith, many, inside)) in
        let end =
        start_is loads (length loads) (pace_of compiling.script.origin profile) table compiled.schedule (suc n)
        (omega (arith, many, inside)) in
        let more = sum_below-suc (packets_of loads) n in
        let first : length (all_pieces (all_units (take n compiled.units))) ≡ start_of table n =
        sym (count_before n loads compiled.units (omega (arith, many, inside)) compiled.sized) ∙ sym start in
        let count = count_of_set n loads compiled.units (omega (arith, many, inside)) compiled.sized in
        let size : length (all_pieces (get_or compiled.units n [])) ≡ slice_index table.ends n - start_of table n =
        omega (arith, start, end, more, count) in
        (λ i. take (size i) (drop (first i) flags))
        ∙ ap (take (slice_index table.ends n - start_of table n)) (there-drop sendings (start_of table n) slots)
        ∙ there-take sendings (slice_index table.ends n - start_of table n) (drop (start_of table n) slots)

    told : AreTold compiling.script profile anchor compiling.script.origin compiling.page sets ComesWhole 0 sets
        compiled.units flags
    told = record {
      well = λ n set found. planned_well compiling.script profile sets n set compiled.planned.plan found;
      whole = λ n set found own.
          ap (λ all. list_all (λ b. b) all) (flags_are n (slice_get_within sets n set found))
          ∙ all_there sendings (slots_of table n)
          (recursion_from_All (λ place. is_received_at sendings place ≡ true) (slots_of table n)
          (subst (λ (k : ℕ). IsReceived sendings (sent_set table k set)) (omega arith) own));
      suits = λ n set found e none.
          first_received_suits anchor n sendings table sets set suits found
          (some_there sendings (slots_of table n)
          (ap (λ all. list_any (λ b. b) all) (sym (flags_are n (slice_get_within sets n set found))) ∙ e))
          (λ i one before. none i one (omega (arith, before)));
    }

    fits : AreFit compiling.script profile anchor compiling.script.origin compiling.page sets ComesWhole [] sets sent
        come
    fits =
        (let low = low_origin compiling.script in
        are_fit compiling.script profile anchor compiling.script.origin compiling.page sets ComesWhole 0 [] sets
        compiled.units sent flags
        (omega (arith, low)) refl known.are.are
        (all_come compiling.script profile sets sent compiled.planned.plan
        (λ number set found. planned_well compiling.script profile sets number set compiled.planned.plan found)
        (timed_as compiling.script compiling.page sets compiled.units sent known.are.are))
        known.are.carry.whole (have_units coded (only compiling.page) sent known.are.carry.whole) known.apart
        (times_in_span compiling.script profile sets compiled.planned.plan)
        (pts_rise compiling.script profile sets compiled.planned.plan) known.units
        (omega (arith, same, length-there sendings 0 slots)) told)

    ends : Ends compiling.script profile anchor compiling.script.origin compiling.page sets ComesWhole deliveries []
        (λ final. GoodFrom tick false sets sent come
        → Agrees (view_at profile anchor tick final) (authored_view compiling.script tick))
    ends =
        good_ends compiling.script profile anchor compiling.script.origin compiling.page sets ComesWhole tick false
        Fresh [] [] [] sets sent come
        deliveries compiled.planned.plan before fits (λ e. absurd (let no : false ≡ true = e in cc))

-- at each good tick what is shown agrees with what is authored
pub cut_shown : (compiling : Compiling) (bytes : List ℕ) → IsFree compiling.pid
    → IsCompiledFor compiling.profile → (compiled : IsCompiledTo compiling bytes)
    → (sendings : List Sending) (received : List (List ℕ))
    → IsCutTo compiling.pid (packets_in compiling bytes compiled) sendings received → (anchor : ℕ)
    → IsAnchorOf (first_times_received sendings (sent_sets compiled.table compiled.sets)) anchor → (tick : ℕ)
    → IsGoodTick (sent_sets compiled.table compiled.sets) sendings tick
    → Shows (received_by compiling anchor) received tick (authored_view compiling.script tick)
cut_shown compiling bytes free made compiled sendings received cut anchor suits tick good =
    let got = received_cut compiling bytes free made compiled sendings received cut anchor suits tick in
    record {
      shown = view_at (profile_of compiling.profile) anchor tick got.past;
      is_shown = record { past = got.past; received = got.has_received; is_view = refl };
      agrees = got.shows good;
    }

-- each set that comes whole is kept
pub cut_kept : (compiling : Compiling) (bytes : List ℕ) → IsFree compiling.pid
    → IsCompiledFor compiling.profile → (compiled : IsCompiledTo compiling bytes)
    → (sendings : List Sending) (received : List (List ℕ))
    → IsCutTo compiling.pid (packets_in compiling bytes compiled) sendings received → (anchor : ℕ)
    → IsAnchorOf (first_times_received sendings (sent_sets compiled.table compiled.sets)) anchor
    → (past : List (Delivery Reading)) → HasReceived (received_by compiling anchor) true received past
    → (number : ℕ) (set : PlannedSet) → slice_get compiled.sets number ≡ Some set
    → IsReceived sendings (sent_set compiled.table number set)
    → IsKept (profile_of compiling.profile) anchor (IsGoodTick (sent_sets compiled.table compiled.sets) sendings) past
    set
cut_kept compiling bytes free made compiled sendings received cut anchor suits past has_received number set
    found own =
    let got = received_cut compiling bytes free made compiled sendings received cut anchor suits 0 in
    let same =
    same_past (reverse (sets_of (profile_of compiling.profile).coded compiling.pid (only compiling.page) true received))
    got.past past
    got.has_received has_received in
    subst (λ (all : List (Delivery Reading)). IsKept (profile_of compiling.profile) anchor
    (IsGoodTick (sent_sets compiled.table compiled.sets) sendings) all set) same (got.kept number set found own)

-- and behind each of them whose epoch is known the page memory holds the script
pub cut_held : (compiling : Compiling) (bytes : List ℕ) → IsFree compiling.pid
    → IsCompiledFor compiling.profile → (compiled : IsCompiledTo compiling bytes)
    → (sendings : List Sending) (received : List (List ℕ))
    → IsCutTo compiling.pid (packets_in compiling bytes compiled) sendings received → (anchor : ℕ)
    → IsAnchorOf (first_times_received sendings (sent_sets compiled.table compiled.sets)) anchor
    → (past : List (Delivery Reading)) → HasReceived (received_by compiling anchor) true received past
    → HoldsWhole compiling.script (profile_of compiling.profile) anchor compiled.sets
    (λ number set. IsReceived sendings (sent_set compiled.table number set)) past
cut_held compiling bytes free made compiled sendings received cut anchor suits past has_received =
    let got = received_cut compiling bytes free made compiled sendings received cut anchor suits 0 in
    let same =
    same_past (reverse (sets_of (profile_of compiling.profile).coded compiling.pid (only compiling.page) true received))
    got.past past
    got.has_received has_received in
    subst (HoldsWhole compiling.script (profile_of compiling.profile) anchor compiled.sets
    (λ number set. IsReceived sendings (sent_set compiled.table number set))) same got.holds

-- so every compiled stream is shown rightly, whatever packets of it are lost, between two that come at most 14
pub compiled_cut : (compiling : Compiling) (bytes : List ℕ) → IsFree compiling.pid
    → IsCompiledFor compiling.profile → (compiled : IsCompiledTo compiling bytes)
    → (sendings : List Sending) (received : List (List ℕ))
    → IsCutTo compiling.pid (packets_in compiling bytes compiled) sendings received
    → IsCutRightly (sent_plan compiling compiled.sets compiled.table) sendings received
compiled_cut compiling bytes free made compiled sendings received cut = record {
  shown =
      λ anchor suits tick good. cut_shown compiling bytes free made compiled sendings received cut anchor
      suits tick good;
  kept =
      λ anchor suits past has_received number set found own. cut_kept compiling bytes free made compiled
      sendings received cut anchor suits past has_received number set found own;
  held =
      λ anchor suits past has_received. cut_held compiling bytes free made compiled sendings received cut
      anchor suits past has_received;
}
