-- Each set of a compiled stream that is received whole is a whole set for the buffers, at its own time, wherever it is
-- entered.
use Rattle.std.proofs.Common.{◌≡◌, ◌∙◌, ℕ, ◌-◌, ◌<◌, false, List, [], ◌∷◌, ◌++◌, length, map, take, drop, reverse, get_or, None, refl, sym, subst, arith}
use Rattle.std.specs.Prelude.{All}
use Rattle.std.specs.List.{AllZip}
use Rattle.std.proofs.lemmas.List.{reverse-append, length-reverse}
use Rattle.std.proofs.lemmas.List.{reverse-reverse}
use Rattle.sub_base.specs.Profile.{profile_of}
use Rattle.sub_base.specs.declared.profile.Profile.{Profile}
use Rattle.cue_list.specs.declared.script.Script.{Script}
use Rattle.page_epoch.specs.declared.planned_set.PlannedSet.{PlannedSet}
use Rattle.schedule.specs.Slots.{IsLoad}
use Rattle.decoder_model.specs.Frames.{only}
use Rattle.decoder_model.specs.Kept.{last_time}
use Rattle.decoder_model.specs.Readings.{Reading, IsDeliveryRead, AreDeliveriesRead}
use Rattle.decoder_model.specs.Received.{HasReceived}
use Rattle.decoder_model.specs.Sets.{Delivery, sets_of}
use Rattle.decoder_model.specs.Streams.{entered_at}
use Rattle.shown_stream.specs.Compiled.{IsCompiledTo, all_units, Compiling, received_by}
use Rattle.shown_stream.specs.SentSets.{sent_sets, first_times_from}
use Rattle.shown_stream.specs.Shows.{IsAnchorOf}
use Rattle.received_level_laws.specs.StreamCalls.{set_calls}
use Rattle.shown_stream.proofs.Calls.CompiledCalls.{compiled_stream, compiled_entry}
use Rattle.shown_stream.proofs.Sent.CompiledPackets.{packets_in, ArePackets}
use Rattle.shown_stream.proofs.Sent.CompiledSets.{AreSentAs}
use Rattle.shown_stream.proofs.Calls.CompiledTimes.{compiled_ahead, cut_units}
use Rattle.shown_stream.proofs.Calls.KeptCalls.{AreTimed, IsWholeAt, each_kept}
use Rattle.shown_stream.proofs.Late.LatePlaces.{same_many}
use Rattle.shown_stream.proofs.Sent.PlannedTimes.{pts_of}
use Rattle.slot_stream.proofs.SentPieces.{IsFree}
use Rattle.shown_stream.proofs.Calls.SetsUpTo.{sets_up_to, IsTimeOf, first_timed, HaveUnits, timed_from}
use Rattle.sent_sets.proofs.LateSets.{sets_behind}
use Rattle.sent_sets.proofs.SetEnds.{delivered}
use Rattle.sent_sets.proofs.Units.{TimedSet, size_of_units}

have_units : (script : Script) (page : ℕ) (sets : List PlannedSet) (units : List (List (List ℕ)))
    (sent : List TimedSet) → AreSentAs script page sets units sent → HaveUnits units sent
    × AllZip IsTimeOf sets sent
have_units script page [] [] [] are = (tt, tt)
have_units script page [] [] (one ∷ sent) are = absurd are
have_units script page [] (packets ∷ units) sent are = absurd are
have_units script page (set ∷ sets) [] sent are = absurd are
have_units script page (set ∷ sets) (packets ∷ units) [] are = absurd are
have_units script page (set ∷ sets) (packets ∷ units) (one ∷ sent) are =
    let more =
    have_units script page sets units sent are.1 in
    ((sym (same_many script page set packets one are.0), more.0), (are.0.time, more.1))

read_push : (deliveries : List (Delivery (List ℕ))) (past : List (Delivery Reading)) (delivery : Delivery (List ℕ))
    (one : Delivery Reading) → AreDeliveriesRead deliveries past → IsDeliveryRead delivery one
    → AreDeliveriesRead (deliveries ++ delivery ∷ []) (past ++ one ∷ [])
read_push [] [] delivery one h is = (is, tt)
read_push [] (first ∷ past) delivery one h is = absurd h
read_push (first ∷ deliveries) [] delivery one h is = absurd h
read_push (first ∷ deliveries) (next ∷ past) delivery one h is =
    (h.0, read_push deliveries past delivery one h.1 is)

pub read_turned : (deliveries : List (Delivery (List ℕ))) (past : List (Delivery Reading))
    → AreDeliveriesRead deliveries past → AreDeliveriesRead (reverse deliveries) (reverse past)
read_turned [] [] h = tt
read_turned [] (one ∷ past) h = absurd h
read_turned (delivery ∷ deliveries) [] h = absurd h
read_turned (delivery ∷ deliveries) (one ∷ past) h =
    subst (λ (found : List (Delivery (List ℕ))). AreDeliveriesRead found (reverse (one ∷ past)))
    (sym (reverse-append (delivery ∷ []) deliveries))
    (subst (AreDeliveriesRead (reverse deliveries ++ delivery ∷ [])) (sym (reverse-append (one ∷ []) past))
    (read_push (reverse deliveries) (reverse past) delivery one (read_turned deliveries past h.1) h.0))

none_before : (anchor : ℕ) → last_time {S = Reading} anchor [] ≡ None
unfolding last_time
none_before anchor = refl

-- the sets that are whole up to a packet: they are the first of those that come, and the calls of each are those of a
-- whole set, at the time of the planned one from the entry's on
pub record AreWholeUpTo (profile : Profile) (anchor : ℕ) (planned : List PlannedSet) (behind : List TimedSet)
    (past : List (Delivery Reading)) : Type 0 where
  pub count : ℕ
  pub read : AreDeliveriesRead (map delivered (take count behind)) (reverse past)
  pub each : (j : ℕ) → j < length past
      → IsWholeAt (set_calls profile anchor (reverse past)) j (get_or (pts_of planned) j 0)
      (get_or (map (λ (one : TimedSet). size_of_units one.units) (take count behind)) j 0)

-- up to any packet, by every anchor that suits
pub compiled_kept : (compiling : Compiling) (bytes : List ℕ) → IsFree compiling.pid
    → (compiled : IsCompiledTo compiling bytes) (known : ArePackets compiling bytes compiled)
    (loads_are : All IsLoad compiled.loads)
    → (anchor missed m : ℕ) → IsAnchorOf (first_times_from missed (sent_sets compiled.table compiled.sets)) anchor
    → (past : List (Delivery Reading))
    → HasReceived (received_by compiling anchor) false
    (take m (entered_at missed (packets_in compiling bytes compiled))) past
    → AreWholeUpTo (profile_of compiling.profile) anchor
    (drop (compiled_entry compiling bytes compiled known loads_are missed).set compiled.sets)
    (sets_behind (cut_units compiling bytes compiled known loads_are missed) known.sent) past
compiled_kept compiling bytes free compiled known loads_are anchor missed m suits past received =
    let coded = (profile_of compiling.profile).coded in
    let is = compiled_stream compiling bytes compiled known loads_are in
    let entry = compiled_entry compiling bytes compiled known loads_are missed in
    let n = cut_units compiling bytes compiled known loads_are missed in
    let up_to =
    sets_up_to coded compiling.pid (only compiling.page) missed m (all_units compiled.units) known.sent
    compiled.table.slots free
    is.whole known.are.carry known.apart is.pieces is.ahead in
    let sets = take up_to.0 (sets_behind n known.sent) in
    let own = have_units compiling.script compiling.page compiled.sets compiled.units known.sent known.are.are in
    let whole : entry.set - 0 ≡ entry.set = omega arith in
    let are_timed : AreTimed (drop entry.set compiled.sets) sets =
    subst (λ (k : ℕ). AreTimed (drop k compiled.sets) sets) whole
    (first_timed up_to.0 (drop (entry.set - 0) compiled.sets) (sets_behind n known.sent)
    (timed_from n 0 compiled.units compiled.sets known.sent own.0 own.1)) in
    let turned =
    read_turned
    (reverse (sets_of coded compiling.pid (only compiling.page) false
    (take m (entered_at missed (packets_in compiling bytes compiled))))) past received in
    let read : AreDeliveriesRead (map delivered sets) (reverse past) =
    subst (λ (found : List (Delivery (List ℕ))). AreDeliveriesRead found (reverse past))
    (reverse-reverse
    (sets_of coded compiling.pid (only compiling.page) false
    (take m (entered_at missed (packets_in compiling bytes compiled)))) ∙ up_to.1) turned in
    record {
      count = up_to.0;
      read = read;
      each =
          λ j inside. each_kept (profile_of compiling.profile) anchor None [] (drop entry.set compiled.sets) sets
          (reverse past)
          (none_before anchor)
          (compiled_ahead compiling bytes free compiled known loads_are missed anchor suits) are_timed read j
          (omega (arith, inside, length-reverse past));
    }
