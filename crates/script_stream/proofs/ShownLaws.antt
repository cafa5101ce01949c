-- What a script is compiled to is shown, and so is the stream that is made of it.
use Rattle.std.specs.List.{AllByRecursion, filter, list_any}
use Rattle.std.specs.Prelude.{nat_le}
use Rattle.std.proofs.Common.{◌≡◌, ◌∙◌, ℕ, ◌+◌, ◌<◌, ◌≤◌, Bool, List, [], ◌∷◌, map, sym, subst, arith}
use Rattle.std.proofs.lemmas.List.Elements.{All-filter, All-from_recursion, All-map}
use Rattle.cue_list.specs.Sound.{IsTick}
use Rattle.cue_records.specs.declared.limits.TheConstants.{LONGEST_SCRIPT}
use Rattle.cue_list.specs.declared.script.Script.{Script}
use Rattle.decoder_model.specs.Streams.{SentSet, Sending, is_received_at}
use Rattle.page_epoch.specs.Plan.{IsPlan}
use Rattle.page_epoch.specs.declared.planned_set.PlannedSet.{PlannedSet}
use Rattle.schedule.specs.Slots.{Timetable}
use Rattle.shown_stream.proofs.Calls.CheckedCalls.{checked_calls}
use Rattle.shown_stream.proofs.Calls.CompiledStays.{compiled_stays, compiled_scheduled}
use Rattle.shown_stream.proofs.Late.LateCuts.{late_is_cut}
use Rattle.shown_stream.proofs.Late.LateGood.{compiled_good, good_compiled}
use Rattle.shown_stream.proofs.Lost.LostShown.{compiled_cut}
use Rattle.shown_stream.proofs.Sent.CompiledPackets.{packets_in, are_packets}
use Rattle.shown_stream.proofs.Sent.PlannedTimes.{pts_of, times_in_span}
use Rattle.shown_stream.proofs.Shown.CompiledShown.{compiled_entered}
use Rattle.shown_stream.proofs.Shown.FirstTimes.{first_of_all_times}
use Rattle.shown_stream.specs.Compiled.{IsCompiledFor, IsCompiledTo, Compiling}
use Rattle.shown_stream.specs.SentSets.{sent_from, sent_sets, times_from, times_received}
use Rattle.shown_stream.specs.Shows.{IsAnchorOf, Suits}
use Rattle.sub_base.specs.Profile.{profile_of}
use Rattle.slot_stream.proofs.SentPieces.{IsFree}
use Rattle.stream_syntax.specs.declared.wire.TheConstants.{NULL_PID, TIME_ROUND}
use Rattle.sub_base.specs.declared.load.WriteLoad.{WriteLoad}
use Rattle.sub_base.specs.declared.profile.ProfileName.{ProfileName}
use Rattle.script_stream.specs.SentScripts.{IsSentFor, SentScript, stream_bytes}
use Rattle.script_stream.specs.ShownRightly.{IsShownRightly}

-- packets that are sent on a PID below that of null packets are no null packets
pub is_free : (pid : ℕ) → pid < NULL_PID → IsFree pid
is_free pid below = record { small = omega arith; no_null = λ same. omega (arith, same) }

-- bytes that are the same are compiled from the same sets
abbrev pub compiled_to : (compiling : Compiling) (bytes same : List ℕ)
    → bytes ≡ same → IsCompiledTo compiling bytes → IsCompiledTo compiling same
compiled_to compiling bytes same is compiled = record {
  sets = compiled.sets;
  loads = compiled.loads;
  planned = compiled.planned;
  each = compiled.each;
  units = compiled.units;
  carried = compiled.carried;
  sized = compiled.sized;
  table = compiled.table;
  schedule = compiled.schedule;
  on_time = compiled.on_time;
  sent = sym is ∙ compiled.sent;
}

-- ---- anchors

-- the time of each set is that of its place
times_early : (origin number : ℕ) (table : Timetable) (sets : List PlannedSet)
    → AllByRecursion (IsTick origin) (pts_of sets)
    → AllByRecursion (λ (set : SentSet). IsTick origin set.time) (sent_from table number sets)
times_early origin number table [] all = tt
times_early origin number table (set ∷ sets) all = (all.0, times_early origin (number + 1) table sets all.1)

-- lifted times may begin at an anchor that is no later than the script's origin, and near enough to its end, whatever
-- sets are asked about
any_suit : (name : ProfileName) (script : Script) (table : Timetable) (sets : List PlannedSet)
    (comes : SentSet → Bool) (anchor : ℕ) → IsPlan script (profile_of name) sets → anchor ≤ script.origin
    → script.origin + LONGEST_SCRIPT < anchor + TIME_ROUND
    → IsAnchorOf (map (λ (set : SentSet). set.time) (filter comes (sent_sets table sets))) anchor
any_suit name script table sets comes anchor plan early near =
    let own = λ (set : SentSet). Suits anchor set.time in
    let all =
    All-from_recursion (λ (set : SentSet). IsTick script.origin set.time) (sent_sets table sets)
    (times_early script.origin 0 table sets (times_in_span script (profile_of name) sets plan)) in
    All-map (Suits anchor) (λ (set : SentSet). set.time) (filter comes (sent_sets table sets))
    (All-filter comes own (sent_sets table sets)
    (λ k d inside. let tick = all k d inside in
    (omega (arith, tick.late, early), omega (arith, tick.early, near))))

-- those of which a packet comes
pub anchor_suits : (name : ProfileName) (script : Script) (table : Timetable) (sets : List PlannedSet)
    (missed anchor : ℕ) → IsPlan script (profile_of name) sets → anchor ≤ script.origin
    → script.origin + LONGEST_SCRIPT < anchor + TIME_ROUND
    → IsAnchorOf (times_from missed (sent_sets table sets)) anchor
anchor_suits name script table sets missed anchor plan early near =
    any_suit name script table sets (λ set. list_any (λ at. nat_le missed at) set.places) anchor plan early near

-- and those of which one is received
received_suits : (name : ProfileName) (script : Script) (table : Timetable) (sets : List PlannedSet)
    (sendings : List Sending) (anchor : ℕ) → IsPlan script (profile_of name) sets → anchor ≤ script.origin
    → script.origin + LONGEST_SCRIPT < anchor + TIME_ROUND
    → IsAnchorOf (times_received sendings (sent_sets table sets)) anchor
received_suits name script table sets sendings anchor plan early near =
    any_suit name script table sets (λ set. list_any (is_received_at sendings) set.places) anchor plan early near

-- ---- what is shown

-- the packets that a script is compiled to are shown
pub compiled_is_shown : (compiling : Compiling) (bytes : List ℕ)
    → compiling.pid < NULL_PID → IsCompiledFor compiling.profile → (compiled : IsCompiledTo compiling bytes)
    → IsShownRightly compiling compiled.sets compiled.loads compiled.table bytes
compiled_is_shown compiling bytes below made compiled =
    let free = is_free compiling.pid below in
    let known = are_packets compiling bytes free made compiled in
    record {
      packets = packets_in compiling bytes compiled;
      whole = known.whole;
      joined = known.joined;
      suits =
          λ missed anchor early near. anchor_suits compiling.profile compiling.script compiled.table compiled.sets
          missed anchor
          compiled.planned.plan early near;
      first_suits =
          λ missed anchor early near. first_of_all_times anchor missed (sent_sets compiled.table compiled.sets)
          (anchor_suits compiling.profile compiling.script compiled.table compiled.sets missed anchor
          compiled.planned.plan early near);
      received_suits =
          λ sendings anchor early near. received_suits compiling.profile compiling.script compiled.table compiled.sets
          sendings anchor
          compiled.planned.plan early near;
      entered = compiled_entered compiling bytes free made compiled;
      cut = compiled_cut compiling bytes free made compiled;
      good = λ missed. record {
        good = compiled_good compiling bytes compiled known missed;
        only = good_compiled compiling bytes compiled known missed;
      };
      late = λ missed. late_is_cut compiling.pid missed (packets_in compiling bytes compiled);
      stays =
          λ missed anchor suits. compiled_stays compiling bytes free compiled known missed anchor suits;
      checked = checked_calls compiling bytes free compiled known;
      scheduled = λ anchor suits. compiled_scheduled compiling bytes free compiled known anchor suits;
    }

-- the packets of a stream that is made of a script are shown
pub sent_is_shown : (compiling : Compiling) (sent : SentScript) → compiling.pid < NULL_PID
    → IsCompiledFor compiling.profile → IsSentFor compiling sent
    → IsShownRightly compiling sent.sets sent.loads sent.table (stream_bytes sent)
sent_is_shown compiling sent below made is =
    let compiled = is.compiled in
    let bytes = stream_bytes sent in
    subst (λ (table : Timetable). IsShownRightly compiling sent.sets sent.loads table bytes)
    is.same_table
    (subst
    (λ (loads : List WriteLoad). IsShownRightly compiling sent.sets loads compiled.table bytes)
    is.same_loads
    (subst
    (λ (sets : List PlannedSet). IsShownRightly compiling sets compiled.loads compiled.table bytes)
    is.same_sets (compiled_is_shown compiling bytes below made compiled)))

-- and so are its packets by what the script is compiled to
pub shown_of_sent : (compiling : Compiling) (sent : SentScript)
    → (is : IsSentFor compiling sent)
    → IsShownRightly compiling sent.sets sent.loads sent.table (stream_bytes sent)
    → IsShownRightly compiling is.compiled.sets is.compiled.loads is.compiled.table (stream_bytes sent)
shown_of_sent compiling sent is shown =
    let compiled = is.compiled in
    let bytes = stream_bytes sent in
    subst (λ (table : Timetable). IsShownRightly compiling compiled.sets compiled.loads table bytes)
    (sym is.same_table)
    (subst
    (λ (loads : List WriteLoad). IsShownRightly compiling compiled.sets loads sent.table bytes)
    (sym is.same_loads)
    (subst
    (λ (sets : List PlannedSet). IsShownRightly compiling sets sent.loads sent.table bytes)
    (sym is.same_sets) shown))
