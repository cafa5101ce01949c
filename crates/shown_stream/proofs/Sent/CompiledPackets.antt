-- The packets that a script is compiled to, one by one: they carry the PES packets of the script's sets, and these sets
-- are received.
use Rattle.std.proofs.Common.{◌≡◌, ◌∙◌, ℕ, true, List, length, map, All}
use Rattle.std.specs.List.{AllByRecursion, concat}
use Rattle.std.proofs.lemmas.List.Elements.{All-from_recursion}
use Rattle.sub_base.specs.Pace.{pace_of}
use Rattle.sub_base.specs.Profile.{profile_of}
use Rattle.stream_syntax.specs.Cutting.{IsUnit}
use Rattle.decoder_model.specs.Frames.{only}
use Rattle.decoder_model.specs.Sets.{sets_of}
use Rattle.decoder_model.proofs.SentUnits.{ComeWhole}
use Rattle.shown_stream.specs.Compiled.{IsCompiledFor, all_units, IsCompiledTo, Compiling}
use Rattle.slot_stream.specs.SlotStream.{all_pieces}
use Rattle.slot_stream.proofs.LaidPackets.{laid}
use Rattle.shown_stream.proofs.Sent.PlannedTimes.{different_times}
use Rattle.slot_stream.proofs.SentPieces.{IsFree}
use Rattle.shown_stream.proofs.Sent.CompiledSets.{sent_of, AreAllPackets, all_packets}
use Rattle.shown_stream.proofs.Sent.UnitSizes.{all_short}
use Rattle.sent_sets.proofs.Runs.{HaveDifferentTimes}
use Rattle.sent_sets.proofs.SentPackets.{all_room, stream_packets, AreSentPackets, sent_packets}
use Rattle.sent_sets.proofs.SetEnds.{delivered}
use Rattle.sent_sets.proofs.SetsCome.{sets_come_whole}
use Rattle.sent_sets.proofs.Units.{TimedSet, AreUnitsOf}

-- ---- the packets

-- the packets, one by one
abbrev pub packets_in : (compiling : Compiling) (bytes : List ℕ)
    → IsCompiledTo compiling bytes → List (List ℕ)
packets_in compiling bytes compiled =
    laid compiling.pid 0 0 (all_pieces (all_units compiled.units)) compiled.table.slots

-- what is known of them
pub record ArePackets (compiling : Compiling) (bytes : List ℕ)
    (compiled : IsCompiledTo compiling bytes) : Type 0 where
  pub joined : bytes ≡ concat (packets_in compiling bytes compiled)
  pub whole : All (λ packet. length packet ≡ 188) (packets_in compiling bytes compiled)
  pub units : AllByRecursion (IsUnit (profile_of compiling.profile).coded) (all_units compiled.units)
  pub stream : AreSentPackets (profile_of compiling.profile).coded compiling.pid compiled.units compiled.table
  pub handed_out : ComeWhole compiling.pid (profile_of compiling.profile).coded (packets_in compiling bytes compiled)
      (all_units compiled.units)
  pub received : (timed : List TimedSet)
      → AreUnitsOf (profile_of compiling.profile).coded (only compiling.page) (all_units compiled.units) timed
      → HaveDifferentTimes timed
      → sets_of (profile_of compiling.profile).coded compiling.pid (only compiling.page) true
      (packets_in compiling bytes compiled)
      ≡ map delivered timed
  pub sent : List TimedSet
  pub are : AreAllPackets (profile_of compiling.profile).coded compiling.script compiling.page compiled.sets
      compiled.units sent
  pub apart : HaveDifferentTimes sent
  pub sets : sets_of (profile_of compiling.profile).coded compiling.pid (only compiling.page) true
      (packets_in compiling bytes compiled)
      ≡ map delivered sent

-- joined they are the bytes, each has 188 bytes, and a demultiplexer hands out all units of all sets, each whole. Where
-- their units are those of sets, these sets are received. So the sets of the plan are, each whole with the segments of
-- all of its units
pub are_packets : (compiling : Compiling) (bytes : List ℕ) → IsFree compiling.pid
    → IsCompiledFor compiling.profile
    → (compiled : IsCompiledTo compiling bytes) → ArePackets compiling bytes compiled
are_packets compiling bytes free made compiled =
    let coded = (profile_of compiling.profile).coded in
    let loads = compiled.loads in
    let units = all_units compiled.units in
    let packets = stream_packets compiling.pid compiled.units compiled.table in
    let room = all_room coded loads compiled.units compiled.sized compiled.on_time.fits in
    let short =
    all_short compiling.script compiled.sets loads compiled.units compiled.planned.asked compiled.sized
    compiled.on_time.short in
    let all =
    all_packets coded compiling.script compiling.page compiled.sets compiled.units compiled.carried room short in
    let sent = sent_of compiling.script compiling.page compiled.sets compiled.units compiled.carried in
    let apart =
    different_times compiling.script (profile_of compiling.profile) compiling.page compiled.sets compiled.units sent
    compiled.planned.plan
    all.are in
    let stream =
    sent_packets coded compiling.pid (pace_of compiling.script.origin (profile_of compiling.profile)) loads
    compiled.units compiled.table free
    all.units_are compiled.sized compiled.schedule in
    record {
      joined = compiled.sent ∙ stream.joined;
      whole = All-from_recursion (λ packet. length packet ≡ 188) packets stream.whole;
      units = all.units_are;
      stream = stream;
      handed_out = stream.handed_out;
      received =
          λ timed are apart. sets_come_whole coded compiling.pid (only compiling.page) true packets units timed
          stream.handed_out
          are apart;
      sent = sent;
      are = all;
      apart = apart;
      sets =
          sets_come_whole coded compiling.pid (only compiling.page) true packets units sent stream.handed_out all.carry
          apart;
    }
