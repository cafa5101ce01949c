-- The sets of a compiled stream from its entry on are ahead of each other, by every anchor that suits those of which
-- packets come up to the first that comes whole.
use Rattle.std.proofs.Common.{◌≡◌, ◌∙◌, ℕ, ◌+◌, ◌<◌, true, false, List, ◌++◌, length, drop, None, Some, sym, ap, arith, length-append, length-drop}
use Rattle.std.proofs.lemmas.List.{length-map}
use Rattle.std.specs.Prelude.{All, nat_le, slice_get}
use Rattle.std.specs.List.{list_any}
use Rattle.std.proofs.lemmas.Option.{slice_get_within}
use Rattle.sub_base.specs.Pace.{pace_of}
use Rattle.sub_base.specs.Profile.{profile_of}
use Rattle.cue_list.specs.Sound.{IsTick}
use Rattle.schedule.specs.Packets.{first_packet, packets_of}
use Rattle.schedule.specs.Slots.{IsLoad, slots_of}
use Rattle.schedule.proofs.SumLaws.{sum_below-suc}
use Rattle.shown_stream.specs.Compiled.{IsCompiledTo, all_units, Compiling}
use Rattle.shown_stream.specs.SentSets.{sent_set, sent_sets, first_times_from}
use Rattle.shown_stream.specs.Shows.{IsAnchorOf}
use Rattle.shown_stream.proofs.Calls.CompiledCalls.{compiled_stream, compiled_entry}
use Rattle.shown_stream.proofs.Sent.CompiledPackets.{ArePackets}
use Rattle.shown_stream.proofs.Shown.SentShown.{low_origin}
use Rattle.shown_stream.proofs.Shown.EnteredTimes.{near_first, drop_within, drop_rises, found_drop}
use Rattle.shown_stream.proofs.Calls.LateCalls.{entry_not_begun, units_missed}
use Rattle.shown_stream.proofs.Calls.EntrySizes.{count_behind}
use Rattle.shown_stream.proofs.Late.LateCompiled.{IsEnteredLate, compiled_late}
use Rattle.shown_stream.proofs.Late.LatePlaces.{count_sets}
use Rattle.shown_stream.proofs.Shown.FirstTimes.{first_suits}
use Rattle.page_epoch.specs.declared.planned_set.PlannedSet.{PlannedSet}
use Rattle.decoder_model.specs.Streams.{is_from}
use Rattle.slot_stream.proofs.SentPieces.{IsFree}
use Rattle.sent_sets.proofs.LateSets.{sets_behind, late_sets}
use Rattle.sent_sets.proofs.SetEnds.{delivered}
use Rattle.shown_stream.proofs.Sent.PlannedTimes.{times_in_span, pts_rise}
use Rattle.shown_stream.proofs.Shown.ShownSets.{AreAheadOf}
use Rattle.decoder_model.specs.Frames.{only}
use Rattle.sent_sets.proofs.PacketCounts.{as_many}
use Rattle.sent_sets.proofs.SlotPlaces.{some_from}

-- a packet of the entry's set comes
entry_comes : (compiling : Compiling) (bytes : List ℕ)
    (compiled : IsCompiledTo compiling bytes) (known : ArePackets compiling bytes compiled)
    (loads_are : All IsLoad compiled.loads) (missed : ℕ)
    → (compiled_entry compiling bytes compiled known loads_are missed).set < length compiled.loads
    → list_any (λ at. nat_le missed at)
    (slots_of compiled.table (compiled_entry compiling bytes compiled known loads_are missed).set)
    ≡ true
entry_comes compiling bytes compiled known loads_are missed inside =
    let loads = compiled.loads in
    let is = compiled_stream compiling bytes compiled known loads_are in
    let entry = compiled_entry compiling bytes compiled known loads_are missed in
    let begun =
    entry_not_begun (profile_of compiling.profile).coded (only compiling.page) loads compiled.table.slots compiled.units
    known.sent missed
    is inside in
    let within = begun.0 in
    some_from loads (length loads) (pace_of compiling.script.origin (profile_of compiling.profile)) compiled.table
    compiled.schedule missed
    entry.set (first_packet loads entry.set + entry.packet) inside (omega arith)
    (omega (arith, within, sum_below-suc (packets_of loads) entry.set)) begun.1

-- how many units of a compiled stream do not come whole behind so many packets
abbrev pub cut_units : (compiling : Compiling) (bytes : List ℕ)
    (compiled : IsCompiledTo compiling bytes) (known : ArePackets compiling bytes compiled)
    → All IsLoad compiled.loads → ℕ → ℕ
cut_units compiling bytes compiled known loads_are missed =
    units_missed (profile_of compiling.profile).coded missed (all_units compiled.units) compiled.table.slots
    (compiled_stream compiling bytes compiled known loads_are).whole

-- at most one set is cut, and it stands before the sets that come whole
pub entry_before : (compiling : Compiling) (bytes : List ℕ) → IsFree compiling.pid
    → (compiled : IsCompiledTo compiling bytes) (known : ArePackets compiling bytes compiled)
    (loads_are : All IsLoad compiled.loads) (missed : ℕ)
    → (late : IsEnteredLate compiling bytes compiled known.sent missed)
    → (compiled_entry compiling bytes compiled known loads_are missed).set + length late.rest
    ≡ late.first
entry_before compiling bytes free compiled known loads_are missed late =
    let coded = (profile_of compiling.profile).coded in
    let is = compiled_stream compiling bytes compiled known loads_are in
    let n = cut_units compiling bytes compiled known loads_are missed in
    let same =
    late_sets coded compiling.pid (only compiling.page) missed (all_units compiled.units) known.sent
    compiled.table.slots free is.whole
    known.are.carry known.apart is.pieces is.ahead in
    omega (
      arith,
      count_behind coded (only compiling.page) compiled.loads n 0 compiled.units known.sent is.sent,
      late.few,
      late.most,
      length-map (sets_behind n known.sent) delivered,
      length-map (late.rest ++ drop late.first known.sent) delivered,
      ap length (sym same ∙ late.come),
      length-append late.rest (drop late.first known.sent),
      length-drop late.first known.sent,
    )

-- no set before the entry's comes whole
none_before : (compiling : Compiling) (bytes : List ℕ) → IsFree compiling.pid
    → (compiled : IsCompiledTo compiling bytes) (known : ArePackets compiling bytes compiled)
    (loads_are : All IsLoad compiled.loads) (missed i : ℕ) (set : PlannedSet)
    → i < (compiled_entry compiling bytes compiled known loads_are missed).set
    → slice_get compiled.sets i ≡ Some set → is_from missed (sent_set compiled.table i set) ≡ false
none_before compiling bytes free compiled known loads_are missed i set before found =
    let late = compiled_late compiling bytes free compiled known missed in
    let first = entry_before compiling bytes free compiled known loads_are missed late in
    (late.whole i set (slice_get_within compiled.sets i set found)).0 (omega (arith, before, first))

-- the sets from the entry's on are each ahead of the one before
pub compiled_ahead : (compiling : Compiling) (bytes : List ℕ) → IsFree compiling.pid
    → (compiled : IsCompiledTo compiling bytes) (known : ArePackets compiling bytes compiled)
    (loads_are : All IsLoad compiled.loads) (missed anchor : ℕ)
    → IsAnchorOf (first_times_from missed (sent_sets compiled.table compiled.sets)) anchor
    → AreAheadOf anchor None
    (drop (compiled_entry compiling bytes compiled known loads_are missed).set compiled.sets)
compiled_ahead compiling bytes free compiled known loads_are missed anchor suits =
    let sets = compiled.sets in
    let plan = compiled.planned.plan in
    let first = (compiled_entry compiling bytes compiled known loads_are missed).set in
    let low = low_origin compiling.script in
    let many =
    as_many compiled.loads compiled.units compiled.sized
    ∙ (count_sets compiling.script compiling.page sets compiled.units known.sent known.are.are).1 in
    near_first anchor compiling.script.origin (drop first sets) (omega arith)
    (drop_within (IsTick compiling.script.origin) first sets
    (times_in_span compiling.script (profile_of compiling.profile) sets plan))
    (drop_rises first sets (pts_rise compiling.script (profile_of compiling.profile) sets plan))
    (λ set found. let there = found_drop first sets set found in
    first_suits anchor missed first compiled.table sets set suits there
    (entry_comes compiling bytes compiled known loads_are missed
    (omega (arith, many, slice_get_within sets first set there)))
    (λ i one before stands. none_before compiling bytes free compiled known loads_are missed i one before
    stands))
