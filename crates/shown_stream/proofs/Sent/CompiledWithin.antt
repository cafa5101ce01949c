-- The schedule of a compiled stream holds, and the stream is entered in one of its sets.
use Rattle.std.proofs.Common.{◌≡◌, ℕ, ◌+◌, ◌<◌, ◌≤◌, List, ◌∷◌, length, map, take, drop, refl, ap, arith, length-append, length-drop}
use Rattle.std.specs.Prelude.{All}
use Rattle.std.proofs.lemmas.List.{length-map}
use Rattle.sub_base.specs.Pace.{pace_of}
use Rattle.sub_base.specs.Profile.{profile_of}
use Rattle.sub_base.specs.declared.load.WriteLoad.{WriteLoad}
use Rattle.schedule.specs.Packets.{load_of, units_of, packets_of, first_packet, payloads_of}
use Rattle.schedule.specs.Slots.{IsLoad}
use Rattle.scheduled_level_laws.specs.EnteredCalls.{Entry}
use Rattle.scheduled_level_laws.proofs.EnteredLevels.{IsEntry}
use Rattle.scheduled_level_laws.proofs.EnteredWithin.{Holds}
use Rattle.shown_stream.specs.Compiled.{IsCompiledTo, Compiling}
use Rattle.slot_stream.specs.SlotStream.{Piece, all_pieces, pieces_of}
use Rattle.shown_stream.proofs.Calls.CallsOfPieces.{units_in, unit_has_bytes}
use Rattle.shown_stream.proofs.Calls.CompiledCalls.{compiled_stream, compiled_entry}
use Rattle.shown_stream.proofs.Sent.CompiledPackets.{ArePackets}
use Rattle.shown_stream.proofs.Calls.EarlyPackets.{Behind, nothing_behind, begins}
use Rattle.shown_stream.proofs.Calls.LateCalls.{units_missed, behind_units}
use Rattle.shown_stream.proofs.Sent.ScheduledLevels.{schedule_holds}
use Rattle.slot_stream.proofs.SentStream.{its_pieces}
use Rattle.shown_stream.proofs.Sent.SetPackets.{bytes_in}
use Rattle.decoder_model.specs.declared.pages.Pages.{Pages}
use Rattle.decoder_model.specs.Frames.{only}

-- the schedule of a compiled stream holds
pub compiled_holds : (compiling : Compiling) (bytes : List ℕ)
    (compiled : IsCompiledTo compiling bytes) (known : ArePackets compiling bytes compiled)
    → All IsLoad compiled.loads
    → Holds compiled.loads (pace_of compiling.script.origin (profile_of compiling.profile)) compiled.table
compiled_holds compiling bytes compiled known loads_are =
    schedule_holds compiled.loads (pace_of compiling.script.origin (profile_of compiling.profile)) compiled.table
    loads_are compiled.schedule
    compiled.on_time

-- an entry before which a unit begins lies in its set
within_set : (coded : ℕ) (pages : Pages) (loads : List WriteLoad) (entry : Entry) (first : ℕ)
    (behind : List Piece) → Behind coded pages loads entry first behind → entry.set < length loads
    → entry.packet < packets_of loads entry.set
within_set coded pages loads entry first behind (nothing_behind none) inside = absurd (omega arith)
within_set coded pages loads entry first behind (begins unit) inside =
    let some = unit_has_bytes coded unit.unit unit.whole.0 in
    let many : length (drop entry.packet (payloads_of (units_of loads entry.set)))
    ≡ length (map bytes_in (all_pieces (unit.unit ∷ unit.units))) = ap length unit.own in
    let pieces : 1 ≤ length (all_pieces (unit.unit ∷ unit.units)) =
    omega (
      arith,
      length-append (pieces_of unit.unit) (all_pieces unit.units),
      ap length
          (its_pieces unit.unit some),
    ) in
    omega (
      arith,
      many,
      pieces,
      length-map (all_pieces (unit.unit ∷ unit.units)) bytes_in,
      length-drop entry.packet
          (payloads_of (units_of loads entry.set)),
    )

-- a compiled stream is entered in one of its sets; no set asks more painting than is planned
pub compiled_is_entry : (compiling : Compiling) (bytes : List ℕ)
    (compiled : IsCompiledTo compiling bytes) (known : ArePackets compiling bytes compiled)
    (loads_are : All IsLoad compiled.loads) (painted : ℕ → ℕ) (missed : ℕ)
    → ((i : ℕ) → i < length compiled.loads → painted i ≤ (load_of compiled.loads i).painted)
    → IsEntry compiled.loads compiled.table.slots painted
    (compiled_entry compiling bytes compiled known loads_are missed)
compiled_is_entry compiling bytes compiled known loads_are painted missed most =
    let coded = (profile_of compiling.profile).coded in
    let loads = compiled.loads in
    let is = compiled_stream compiling bytes compiled known loads_are in
    let n = units_missed coded missed (units_in compiled.units) compiled.table.slots is.whole in
    let first = first_packet loads 0 + length (all_pieces (take n (units_in compiled.units))) in
    let behind =
    behind_units coded (only compiling.page) loads n 0 first compiled.units known.sent is.sent is.apart
    (let many = is.many in omega arith) refl in
    record {
      are = is.are;
      within =
          within_set coded (only compiling.page) loads (compiled_entry compiling bytes compiled known loads_are missed)
          first (all_pieces (drop n (units_in compiled.units))) behind;
      most = most;
    }
