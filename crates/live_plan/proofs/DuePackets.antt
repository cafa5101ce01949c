-- The packets of a script that goes on above a tick's horizon: those that are due for the tick are the first ones of
-- the packets of the script that went on.
use Rattle.std.proofs.Common.{◌≡◌, ◌∙◌, sym, ap, subst, ℕ, ◌+◌, ◌*◌, ◌<◌, ◌≤◌, List, ◌++◌, length, map, take, drop, All, arith}
use Rattle.std.specs.List.{AllZip}
use Rattle.std.proofs.lemmas.Grind.{flat_map-append}
use Rattle.std.proofs.lemmas.List.{length-take-le, take-append-drop}
use Rattle.std.proofs.lemmas.List.Elements.{All-append}
use Rattle.sub_base.specs.Lists.{all_of}
use Rattle.sub_base.specs.Pace.{pace_of}
use Rattle.sub_base.specs.Profile.{profile_of}
use Rattle.sub_base.specs.declared.load.WriteLoad.{WriteLoad}
use Rattle.sub_base.specs.declared.pace.Pace.{Pace}
use Rattle.sub_base.specs.declared.profile.ProfileName.{ProfileName}
use Rattle.cue_list.specs.declared.script.Script.{Script}
use Rattle.grown_script_laws.specs.Growth.{Grows}
use Rattle.page_epoch.specs.declared.instants.TheConstants.{REFRESH_ROOM}
use Rattle.page_epoch.specs.declared.planned_set.PlannedSet.{PlannedSet}
use Rattle.grown_script_laws.proofs.GrownPlans.{HasGrown, sets_have_grown, sets_stay}
use Rattle.schedule.specs.Packets.{first_packet}
use Rattle.schedule.specs.Slots.{IsLoad, IsSchedule, Timetable}
use Rattle.schedule.specs.declared.limits.TheConstants.{SEND_WINDOW}
use Rattle.schedule.proofs.FrontLaws.{slots_stay}
use Rattle.sent_sets.proofs.PacketCounts.{count_pieces}
use Rattle.set_coder.specs.SetSegments.{AreSetPackets}
use Rattle.set_coder.specs.SetSizes.{IsSetLoad}
use Rattle.grown_script_laws.proofs.GrownPackets.{load_stays, packets_stay}
use Rattle.set_coder.proofs.OnePackets.{one_packets}
use Rattle.set_coder.proofs.SetSizeLaws.{one_load}
use Rattle.shown_stream.specs.Compiled.{Compiling, IsCompiledTo, compiling_for, sent_pace}
use Rattle.sent_sets.specs.SentStream.{AreSizedAs}
use Rattle.slot_stream.specs.SlotStream.{IsPiece, Piece, all_pieces, pieces_of, stream_of}
use Rattle.slot_stream.proofs.FrontPackets.{all_are_pieces, front_stays}
use Rattle.live_plan.specs.LiveRows.{slots_by}
use Rattle.live_plan.specs.declared.limits.TheConstants.{AHEAD}
use Rattle.live_plan.proofs.LateSlots.{first_slots, late_slots, more_slots, some_more}
use Rattle.live_plan.proofs.ZippedLists.{all_first, as_long, beside_all, first_parts, same_beside, split}

-- ---- a stream in two parts

-- the sets of a stream, what sending them takes, their units and slots, in two parts
record Parts (pace : Pace) (sets behind : List PlannedSet) (R : PlannedSet → WriteLoad → Type 0)
    (S : PlannedSet → List (List ℕ) → Type 0) : Type 0 where
  front : List WriteLoad
  rest : List WriteLoad
  loads : AllZip R sets front
  more_loads : AllZip R behind rest
  each : All IsLoad (front ++ rest)
  units : List (List (List ℕ))
  more : List (List (List ℕ))
  carried : AllZip S sets units
  sized : AreSizedAs front units
  table : Timetable
  schedule : IsSchedule (front ++ rest) (length (front ++ rest)) pace table

-- the packets of such a stream
abbrev packets_of_parts : {pace : Pace} {sets behind : List PlannedSet} {R : PlannedSet → WriteLoad → Type 0}
    {S : PlannedSet → List (List ℕ) → Type 0} → ℕ → Parts pace sets behind R S → List ℕ
packets_of_parts pid parts =
    stream_of pid (all_pieces (all_of parts.units) ++ all_pieces (all_of parts.more)) parts.table.slots

-- a compiled stream, whose sets stand in two parts
parts_of : (compiling : Compiling) (packets : List ℕ) (sets behind : List PlannedSet)
    → (compiled : IsCompiledTo compiling packets) → compiled.sets ≡ sets ++ behind
    → (parts : Parts (sent_pace compiling.profile compiling.script) sets behind (IsSetLoad compiling.script)
    (AreSetPackets compiling.script compiling.page))
    × (packets ≡ packets_of_parts compiling.pid parts)
parts_of compiling packets sets behind compiled parted =
    let pace = sent_pace compiling.profile compiling.script in
    let R = IsSetLoad compiling.script in
    let S = AreSetPackets compiling.script compiling.page in
    let loads = split R sets behind compiled.loads
    (subst (λ (all : List PlannedSet). AllZip R all compiled.loads) parted compiled.planned.asked) in
    let units = split S sets behind compiled.units
    (subst (λ (all : List PlannedSet). AllZip S all compiled.units) parted compiled.carried) in
    let Sized : List WriteLoad → Type 0 = λ all. AreSizedAs all (units.front ++ units.rest) in
    let sized = subst Sized loads.whole (subst (AreSizedAs compiled.loads) units.whole compiled.sized) in
    let long = sym (as_long R sets loads.front loads.first) ∙ as_long S sets units.front units.first in
    let Each : List WriteLoad → Type 0 = λ all. All IsLoad all in
    let Schedule : List WriteLoad → Type 0 = λ all. IsSchedule all (length all) pace compiled.table in
    let pieces : all_pieces (all_of compiled.units)
    ≡ all_pieces (all_of units.front) ++ all_pieces (all_of units.rest) =
    ap (λ (all : List (List (List ℕ))). all_pieces (all_of all)) units.whole
    ∙ ap all_pieces (flat_map-append (λ (list : List (List ℕ)). list) units.front units.rest)
    ∙ flat_map-append pieces_of (all_of units.front) (all_of units.rest) in (
      record {
        front = loads.front;
        rest = loads.rest;
        loads = loads.first;
        more_loads = loads.second;
        each = subst Each loads.whole compiled.each;
        units = units.front;
        more = units.rest;
        carried = units.first;
        sized = first_parts (λ load set_units. map length set_units ≡ load.units) loads.front loads.rest units.front
            units.rest long sized;
        table = compiled.table;
        schedule = subst Schedule loads.whole compiled.schedule;
      },
      compiled.sent ∙ ap (λ (all : List Piece). stream_of compiling.pid all compiled.table.slots) pieces,
    )

-- ---- two streams that begin alike

-- loads of later sets
late_loads : (script : Script) (tick : ℕ) (sets : List PlannedSet) (loads : List WriteLoad)
    → All (λ (set : PlannedSet). tick + AHEAD < set.pts + REFRESH_ROOM) sets → AllZip (IsSetLoad script) sets loads
    → All (λ (load : WriteLoad). tick + SEND_WINDOW < load.load.pts) loads
late_loads script tick sets loads late are =
    beside_all (IsSetLoad script) (λ (set : PlannedSet). tick + AHEAD < set.pts + REFRESH_ROOM)
    (λ (load : WriteLoad). tick + SEND_WINDOW < load.load.pts) sets loads
    (λ set load after is. omega (arith, after, is.time)) late are

-- the first sets of both have grown
first_grown : (horizon : ℕ) (old new : Script) (sets front rest : List PlannedSet) → sets ≡ front ++ rest
    → All (λ (set : PlannedSet). set.pts ≤ horizon → HasGrown horizon old new set) sets
    → All (λ (set : PlannedSet). set.pts + REFRESH_ROOM ≤ horizon) front → All (HasGrown horizon old new) front
first_grown horizon old new sets front rest parted each low k d within =
    let P : PlannedSet → Type 0 = λ set. set.pts ≤ horizon → HasGrown horizon old new set in
    let below = low k d within in
    all_first P front rest (subst (All P) parted each) k d within (omega (arith, below))

-- the first packets of a stream stay, where the first loads and units are the same
same_front : (pid tick : ℕ) (pace : Pace) (sets behind others : List PlannedSet)
    (R R' : PlannedSet → WriteLoad → Type 0) (S S' : PlannedSet → List (List ℕ) → Type 0)
    (first : Parts pace sets behind R S) (second : Parts pace sets others R' S')
    → first.front ≡ second.front → first.units ≡ second.units
    → All (λ (load : WriteLoad). tick + SEND_WINDOW < load.load.pts) first.rest
    → All (λ (load : WriteLoad). tick + SEND_WINDOW < load.load.pts) second.rest
    → (1 ≤ length behind → 1 ≤ length others)
    → (more : List ℕ)
    × (packets_of_parts pid second
    ≡ take (188 * slots_by pace.origin pace.step tick) (packets_of_parts pid first) ++ more)
same_front pid tick pace sets behind others R R' S S' first second loads units late later goes_on =
    let front = first.front in
    let q = first_packet front (length front) in
    let slots = take q first.table.slots in
    let behind_slots = drop q first.table.slots in
    let other_slots = drop q second.table.slots in
    let until = slots_by pace.origin pace.step tick in
    let Schedule : List WriteLoad → Type 0 =
    λ all. IsSchedule (all ++ second.rest) (length (all ++ second.rest)) pace second.table in
    let Each : List WriteLoad → Type 0 = λ all. All IsLoad (all ++ second.rest) in
    let schedule = subst Schedule (sym loads) second.schedule in
    let each = subst Each (sym loads) second.each in
    let same : slots ≡ take q second.table.slots =
    ap (λ (table : Timetable). table.slots)
    (slots_stay pace front first.rest second.rest first.table second.table
    (all_first IsLoad front first.rest first.each)
    first.schedule schedule) in
    let pieces = all_pieces (all_of first.units) in
    let many : length pieces ≡ length slots =
    sym (count_pieces front first.units first.sized)
    ∙ sym (length-take-le q first.table.slots (first_slots front first.rest pace first.table first.schedule)) in
    let known : All IsPiece (pieces ++ all_pieces (all_of first.more)) =
    All-append IsPiece pieces (all_pieces (all_of first.more)) (all_are_pieces (all_of first.units))
    (all_are_pieces (all_of first.more)) in
    let reach : 1 ≤ length behind_slots → 1 ≤ length other_slots =
    λ some. more_slots front second.rest pace second.table each schedule
    (omega (
      arith,
      goes_on (omega (
        arith,
        some_more front first.rest pace first.table first.schedule some,
        as_long R behind first.rest first.more_loads,
      )),
      as_long R' others second.rest second.more_loads,
    )) in
    let stays = front_stays pid pieces (all_pieces (all_of first.more)) (all_pieces (all_of second.more)) slots
    behind_slots other_slots until known many (late_slots front first.rest pace first.table tick first.schedule late)
    (late_slots front second.rest pace second.table tick schedule later) reach in
    let its_slots : first.table.slots ≡ slots ++ behind_slots = sym (take-append-drop q first.table.slots) in
    let their_slots : second.table.slots ≡ slots ++ other_slots =
    sym (ap (λ (xs : List ℕ). xs ++ other_slots) same ∙ take-append-drop q second.table.slots) in (
      stays.0,
      ap (stream_of pid (all_pieces (all_of second.units) ++ all_pieces (all_of second.more))) their_slots
          ∙ ap (λ (all : List (List (List ℕ))). stream_of pid (all_pieces (all_of all)
          ++ all_pieces (all_of second.more)) (slots ++ other_slots)) (sym units)
          ∙ stays.1
          ∙ ap (λ (all : List ℕ). take (188 * until) (stream_of pid (pieces ++ all_pieces (all_of first.more)) all)
          ++ stays.0) (sym its_slots),
    )

-- What is due for a tick of a script's packets is the front of those of a script that goes on above the horizon
pub due_goes_on : (profile : ProfileName) (pid page : ℕ) (old new : Script) (tick : ℕ) (packets now : List ℕ)
    → Grows (tick + AHEAD) old new → IsCompiledTo (compiling_for profile pid page old) packets
    → IsCompiledTo (compiling_for profile pid page new) now
    → (more : List ℕ)
    × (now ≡ take (188 * slots_by old.origin (sent_pace profile old).step tick) packets ++ more)
due_goes_on profile pid page old new tick packets now grows was is =
    let horizon = tick + AHEAD in
    let pace = sent_pace profile old in
    let alike =
    sets_stay horizon old new (profile_of profile) was.sets is.sets grows was.planned.plan is.planned.plan in
    let grown = first_grown horizon old new was.sets alike.front alike.rest alike.was
    (sets_have_grown horizon old new (profile_of profile) was.sets grows was.planned.plan) alike.low in
    let first = parts_of (compiling_for profile pid page old) packets alike.front alike.rest was alike.was in
    let Second : Pace → Type 0 = λ one. (parts : Parts one alike.front alike.others (IsSetLoad new)
    (AreSetPackets new page)) × (now ≡ packets_of_parts pid parts) in
    let same_pace : sent_pace profile new ≡ pace =
    ap (λ (origin : ℕ). pace_of origin (profile_of profile)) grows.origin in
    let second = subst Second same_pace
    (parts_of (compiling_for profile pid page new) now alike.front alike.others is alike.is) in
    let loads : first.0.front ≡ second.0.front =
    same_beside (IsSetLoad old) (IsSetLoad new) (HasGrown horizon old new) alike.front first.0.front second.0.front
    (λ set load other has was is. one_load new set load other (load_stays horizon old new set load grows has was) is)
    grown first.0.loads second.0.loads in
    let units : first.0.units ≡ second.0.units =
    same_beside (AreSetPackets old page) (AreSetPackets new page) (HasGrown horizon old new) alike.front
    first.0.units second.0.units
    (λ set own other has was is. one_packets new page set own other
    (packets_stay horizon page old new set own grows has was) is)
    grown first.0.carried second.0.carried in
    let stays = same_front pid tick pace alike.front alike.rest alike.others (IsSetLoad old) (IsSetLoad new)
    (AreSetPackets old page) (AreSetPackets new page) first.0 second.0 loads units
    (late_loads old tick alike.rest first.0.rest alike.high first.0.more_loads)
    (late_loads new tick alike.others second.0.rest alike.higher second.0.more_loads) alike.goes_on in (
      stays.0,
      second.1 ∙ stays.1
          ∙ ap (λ (bytes : List ℕ). take (188 * slots_by pace.origin pace.step tick) bytes ++ stays.0) (sym first.1),
    )
