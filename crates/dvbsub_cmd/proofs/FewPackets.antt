-- A compiled stream has no more packets than a script of ten hours has ticks.
use Rattle.std.proofs.Common.{◌≡◌, ◌∙◌, ℕ, zero, suc, ◌+◌, ◌*◌, ◌-◌, ◌<◌, ◌≤◌, List, [], ◌∷◌, length, get_or, replicate, sym, ap, subst, refl, arith, length-append}
use Rattle.std.specs.List.{AllByRecursion, AllZip}
use Rattle.std.proofs.Math.Nat.{le-max_left}
use Rattle.std.proofs.lemmas.List.{length-replicate}
use Rattle.std.proofs.lemmas.List.Elements.{All-from_recursion}
use Rattle.sub_base.specs.Pace.{pace_of, tick_of}
use Rattle.sub_base.specs.Profile.{profile_of}
use Rattle.sub_base.specs.declared.load.WriteLoad.{WriteLoad}
use Rattle.sub_base.specs.declared.pace.Pace.{Pace}
use Rattle.sub_base.specs.declared.profile.ProfileName.{ProfileName}
use Rattle.sub_base.specs.declared.profile.ProfileName.TheVariants.{Sd, Hd, Wide, Large}
use Rattle.stream_syntax.specs.TransportPackets.{null_packet}
use Rattle.cue_list.specs.Sound.{IsTick}
use Rattle.cue_list.specs.declared.script.Script.{Script}
use Rattle.page_epoch.specs.declared.planned_set.PlannedSet.{PlannedSet}
use Rattle.schedule.specs.Packets.{first_packet, no_load, packets_of, load_of}
use Rattle.schedule.specs.Slots.{Timetable, IsSchedule, IsOnTime, shown_before}
use Rattle.schedule.proofs.PacketLaws.{some_bytes, some_packets}
use Rattle.schedule.proofs.SumLaws.{sum_below-suc, sum_below-zero}
use Rattle.set_coder.specs.SetSizes.{IsSetLoad}
use Rattle.shown_stream.specs.Compiled.{all_units, IsCompiledFor, IsCompiledTo, Compiling}
use Rattle.slot_stream.specs.SlotStream.{Piece, packet_of, all_pieces}
use Rattle.shown_stream.proofs.Sent.CompiledPackets.{packets_in}
use Rattle.slot_stream.proofs.LaidPackets.{laid, behind, IsAhead}
use Rattle.shown_stream.proofs.Sent.PlannedTimes.{pts_of, times_in_span}
use Rattle.std.proofs.lemmas.Bool.{false≢true}
use Rattle.std.proofs.lemmas.Nat.{mul-le}
use Rattle.sent_sets.proofs.PacketCounts.{count_pieces}
use Rattle.sent_sets.proofs.RisingSlots.{slots_rise}

-- ---- the last slot

-- packets stand up to the last slot
laid_behind : (pid from number : ℕ) (pieces : List Piece) (slots : List ℕ) → IsAhead from slots
    → length pieces ≡ length slots → from + length (laid pid from number pieces slots) ≡ behind from slots
laid_behind pid from number [] [] ahead same = omega arith
laid_behind pid from number [] (slot ∷ slots) ahead same = absurd (omega arith)
laid_behind pid from number (piece ∷ pieces) [] ahead same = absurd (omega arith)
laid_behind pid from number (piece ∷ pieces) (slot ∷ slots) ahead same =
    let least = ahead.0 in
    let rest = laid pid (slot + 1) (number + 1) pieces slots in
    omega (
      arith,
      laid_behind pid (slot + 1) (number + 1) pieces slots ahead.1 (omega arith),
      length-append (replicate (slot - from) null_packet) (packet_of pid number piece ∷ rest),
      length-replicate {A = List ℕ} (slot - from) null_packet,
    )

behind_last : (from slot : ℕ) (slots : List ℕ)
    → behind from (slot ∷ slots) ≡ get_or (slot ∷ slots) (length slots) 0 + 1
behind_last from slot [] = refl
behind_last from slot (next ∷ slots) = behind_last (slot + 1) next slots

behind_early : (most : ℕ) (slots : List ℕ)
    → ((last : ℕ) → last + 1 ≡ length slots → get_or slots last 0 ≤ most) → behind 0 slots ≤ most + 1
behind_early most [] early = omega arith
behind_early most (slot ∷ slots) early = omega (arith, behind_last 0 slot slots, early (length slots) (omega arith))

-- ---- the last set

load_times : (P : ℕ → Type 0) (script : Script) (sets : List PlannedSet) (loads : List WriteLoad)
    → AllZip (IsSetLoad script) sets loads → AllByRecursion P (pts_of sets)
    → AllByRecursion (λ (load : WriteLoad). P load.load.pts) loads
load_times P script [] [] asked all = tt
load_times P script [] (load ∷ loads) asked all = absurd asked
load_times P script (set ∷ sets) [] asked all = tt
load_times P script (set ∷ sets) (load ∷ loads) asked all =
    (subst P (sym asked.0.time) all.0, load_times P script sets loads asked.1 all.1)

-- the last slot comes before the last set is shown
last_early : (loads : List WriteLoad) (n : ℕ) (pace : Pace) (table : Timetable) (most : ℕ)
    → IsSchedule loads n pace table → IsOnTime loads n pace table → 1 ≤ pace.step
    → ((i : ℕ) → i < n → 1 ≤ packets_of loads i)
    → ((i : ℕ) → i < n → (load_of loads i).pts ≤ pace.origin + most) → (last : ℕ)
    → last + 1 ≡ length table.slots → get_or table.slots last 0 ≤ most
last_early loads zero pace table most schedule on_time step some early last is =
    absurd (omega (arith, is, schedule.packets, sum_below-zero (packets_of loads)))
last_early loads (suc m) pace table most schedule on_time step some early last is =
    let own : 1 ≤ packets_of loads m = some m (omega arith) in
    let place : last ≡ first_packet loads m + (packets_of loads m - 1) =
    omega (arith, is, schedule.packets, sum_below-suc (packets_of loads) m, own) in
    let slot : ℕ = get_or table.slots last 0 in
    let same : get_or table.slots (first_packet loads m + (packets_of loads m - 1)) 0 ≡ slot =
    ap (λ (p : ℕ). get_or table.slots p 0) (sym place) in
    let done = schedule.dones m (omega arith) in
    let shown : ℕ = shown_before loads m in
    let tick : ℕ = tick_of pace (get_or table.slots (first_packet loads m + (packets_of loads m - 1)) 0) in
    let in_time : tick_of pace slot ≤ pace.origin + most =
    subst (λ (s : ℕ). tick_of pace s ≤ pace.origin + most) same
    (omega (arith, le-max_left tick shown, done, on_time.ready m (omega arith), early m (omega arith))) in
    let more : slot * 1 ≤ slot * pace.step = mul-le slot 1 slot pace.step (omega arith) step in
    let wide : slot ≤ slot * pace.step = omega (arith, more) in
    omega (arith, in_time, wide)

-- ---- the packets

has_step : (name : ProfileName) → IsCompiledFor name → 1 ≤ (pace_of 0 (profile_of name)).step
has_step Sd made = omega arith
has_step Hd made = omega arith
has_step Wide made = absurd (false≢true made)
has_step Large made = omega arith

-- how many packets a script is compiled to at most
pub packets_few : (compiling : Compiling) (bytes : List ℕ) → IsCompiledFor compiling.profile
    → (compiled : IsCompiledTo compiling bytes)
    → length (packets_in compiling bytes compiled) ≤ 3240000001
packets_few compiling bytes made compiled =
    let loads = compiled.loads in
    let slots = compiled.table.slots in
    let pieces = all_pieces (all_units compiled.units) in
    let pace = pace_of compiling.script.origin (profile_of compiling.profile) in
    let ahead = slots_rise loads (length loads) pace compiled.table compiled.schedule in
    let same : length pieces ≡ length slots =
    sym (count_pieces loads compiled.units compiled.sized) ∙ sym compiled.schedule.packets in
    let times = All-from_recursion (λ (load : WriteLoad). IsTick compiling.script.origin load.load.pts) loads
    (load_times (IsTick compiling.script.origin) compiling.script compiled.sets loads compiled.planned.asked
    (times_in_span compiling.script (profile_of compiling.profile) compiled.sets compiled.planned.plan)) in
    let step : 1 ≤ pace.step = has_step compiling.profile made in
    let early = last_early loads (length loads) pace compiled.table 3240000000 compiled.schedule compiled.on_time step
    (λ i inside. some_packets loads i (some_bytes loads i compiled.each inside))
    (λ i inside. (times i no_load inside).early) in
    omega (arith, laid_behind compiling.pid 0 0 pieces slots ahead same, behind_early 3240000000 slots early)
