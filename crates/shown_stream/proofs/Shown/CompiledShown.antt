-- A receiver that enters a compiled stream behind any number of its packets shows nothing before the time of the first
-- set that it gets whole and that is not normal, and from then on what the script authors.
use Rattle.std.proofs.Common.{◌≡◌, ◌∙◌, ℕ, ◌<◌, List, map, [], ◌∷◌, ap, refl, arith, subst}
use Rattle.std.proofs.lemmas.List.Elements.{All-from_recursion}
use Rattle.sub_base.specs.Profile.{profile_of}
use Rattle.sub_base.specs.declared.load.WriteLoad.{WriteLoad}
use Rattle.stream_syntax.specs.declared.wire.TheConstants.{NULL_PID}
use Rattle.cue_list.specs.declared.script.Script.{Script}
use Rattle.page_epoch.specs.declared.planned_set.PlannedSet.{PlannedSet}
use Rattle.decoder_model.specs.Frames.{only}
use Rattle.slot_stream.proofs.SentPieces.{IsFree}
use Rattle.sent_sets.specs.RawSets.{RawSet, IsSendable, EndsLast}
use Rattle.shown_stream.specs.Compiled.{IsCompiledFor, AreLoads, IsCompiledTo, Compiling}
use Rattle.shown_stream.specs.Entered.{IsEnteredRightly}
use Rattle.shown_stream.specs.SentPlan.{HasPageFirst, IsSentPlan, sent_plan}
use Rattle.shown_stream.proofs.Late.LateCompiled.{raw_sets, AreRawOf, raw_of, all_well}
use Rattle.shown_stream.proofs.Sent.CompiledPackets.{packets_in, ArePackets, are_packets}
use Rattle.shown_stream.proofs.Sent.PlannedTimes.{pts_of}
use Rattle.shown_stream.proofs.Sent.UnitSizes.{all_short}
use Rattle.shown_stream.proofs.Shown.PlannedRegions.{planned_well}
use Rattle.shown_stream.proofs.Shown.SentEntered.{sent_entered}

same_times : (script : Script) (sets : List PlannedSet) (loads : List WriteLoad) → AreLoads script sets loads
    → map (λ (load : WriteLoad). load.load.pts) loads ≡ pts_of sets
same_times script [] [] h = refl
same_times script [] (load ∷ loads) h = absurd h
same_times script (set ∷ sets) [] h = absurd h
same_times script (set ∷ sets) (load ∷ loads) h =
    ap (λ time. time ∷ map (λ (load : WriteLoad). load.load.pts) loads) h.0.time
    ∙ ap (λ rest. set.pts ∷ rest) (same_times script sets loads h.1)

-- the sets of the plan are sent in a compiled stream, for a receiver of its page
pub compiled_is_sent : (compiling : Compiling) (bytes : List ℕ)
    → (compiled : IsCompiledTo compiling bytes)
    → (known : ArePackets compiling bytes compiled)
    → IsSentPlan (sent_plan compiling compiled.sets compiled.table) bytes
compiled_is_sent compiling bytes compiled known = record {
  plan = compiled.planned.plan;
  raw = raw;
  loads = compiled.loads;
  sendable = All-from_recursion IsSendable raw are.sendable;
  ends = All-from_recursion (EndsLast (only compiling.page)) raw are.ends;
  sent = record {
    each = compiled.each;
    units = compiled.units;
    carried = are.carried;
    sized = compiled.sized;
    times = same_times compiling.script compiled.sets compiled.loads compiled.planned.asked ∙ are.times;
    schedule = compiled.schedule;
    on_time = compiled.on_time;
    sent = compiled.sent;
  };
  carries = are.carries;
  page_first = All-from_recursion (HasPageFirst (only compiling.page)) raw are.page_first;
}
  where
    raw : List RawSet
    raw = raw_sets compiling.script compiling.page compiled.sets compiled.units known.sent known.are.are

    are : AreRawOf compiling.script compiling.page compiled.sets compiled.units raw
    are =
        raw_of (profile_of compiling.profile).coded compiling.script compiling.page compiled.sets compiled.units
        known.sent known.are.are
        known.are.carry.whole
        (all_short compiling.script compiled.sets compiled.loads compiled.units compiled.planned.asked compiled.sized
        compiled.on_time.short)
        (all_well compiled.sets
        (λ number set found. planned_well compiling.script (profile_of compiling.profile) compiled.sets number set
        compiled.planned.plan
        found))

-- so every compiled stream is entered rightly, behind any number of its packets
pub compiled_entered : (compiling : Compiling) (bytes : List ℕ) → IsFree compiling.pid
    → IsCompiledFor compiling.profile → (compiled : IsCompiledTo compiling bytes) → (missed : ℕ)
    → IsEnteredRightly (sent_plan compiling compiled.sets compiled.table)
    (packets_in compiling bytes compiled) missed
compiled_entered compiling bytes free made compiled missed =
    let known = are_packets compiling bytes free made compiled in
    sent_entered (sent_plan compiling compiled.sets compiled.table)
    (packets_in compiling bytes compiled) missed (below_null compiling.pid free) known.whole
    (subst (IsSentPlan (sent_plan compiling compiled.sets compiled.table)) known.joined
    (compiled_is_sent compiling bytes compiled known))
  where
    below_null : (pid : ℕ) → IsFree pid → pid < NULL_PID
    below_null pid free = omega (arith, free.small, free.no_null)
