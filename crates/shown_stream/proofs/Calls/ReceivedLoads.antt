-- What the sets of a compiled stream ask of a receiver that enters it behind any number of packets: each its own time,
-- the bytes that come of it, and the painting of the plan, but for a set of which the first packets do not come, which
-- is not painted.
use Rattle.std.proofs.Common.{◌≡◌, ◌∙◌, inl, inr, ℕ, zero, suc, ◌+◌, ◌-◌, ◌<◌, ◌≤◌, Bool, true, false, cond, List, [], ◌∷◌, ◌++◌, length, map, take, drop, reverse, get_or, Some, refl, sym, ap, subst, arith, append-nil, length-append}
use Rattle.std.specs.Prelude.{All, nat_le, slice_index_or}
use Rattle.std.specs.List.{AllZip, take-map, sum_by}
use Rattle.std.proofs.Math.ListN.{get_or-append}
use Rattle.std.proofs.Math.Seq.{drop-append_seam}
use Rattle.std.proofs.lemmas.Bool.{cases_lt}
use Rattle.std.proofs.lemmas.Bool.Decides.{nat_tests}
use Rattle.std.proofs.lemmas.List.{get_or-drop, reverse-append, reverse-reverse}
use Rattle.sub_base.specs.Profile.{profile_of}
use Rattle.sub_base.specs.declared.load.WriteLoad.{WriteLoad}
use Rattle.sub_base.specs.declared.profile.Profile.{Profile}
use Rattle.cue_list.specs.declared.epoch.Epoch.{Epoch}
use Rattle.cue_list.specs.declared.script.Script.{Script}
use Rattle.page_epoch.specs.declared.planned_set.PlannedSet.{PlannedSet}
use Rattle.buffer_model.specs.Calls.{Call}
use Rattle.schedule.specs.Packets.{no_load, load_of}
use Rattle.schedule.specs.Slots.{IsLoad}
use Rattle.set_coder.specs.SetSizes.{sent_painting, IsPaintedIn, IsSetLoad}
use Rattle.decoder_model.specs.Frames.{only}
use Rattle.decoder_model.specs.Readings.{Reading, AreDeliveriesRead}
use Rattle.decoder_model.specs.Sets.{Delivery, sets_of}
use Rattle.decoder_model.specs.Streams.{entered_at}
use Rattle.scheduled_level_laws.specs.EnteredCalls.{Entry, planned_painting}
use Rattle.shown_stream.specs.Compiled.{IsCompiledTo, all_units, Compiling}
use Rattle.shown_stream.specs.SentSets.{sent_sets, first_times_from}
use Rattle.shown_stream.specs.Shows.{IsAnchorOf}
use Rattle.received_level_laws.specs.StreamCalls.{set_call, set_calls}
use Rattle.shown_stream.proofs.Calls.CompiledCalls.{compiled_stream, compiled_entry}
use Rattle.shown_stream.proofs.Calls.CompiledKept.{AreWholeUpTo, read_turned}
use Rattle.shown_stream.proofs.Calls.CompiledTimes.{cut_units, entry_before}
use Rattle.shown_stream.proofs.Sent.CompiledPackets.{packets_in, ArePackets}
use Rattle.shown_stream.proofs.Shown.SentShown.{all_turned, ComesInParts, comes_in_parts}
use Rattle.shown_stream.proofs.Shown.EnteredRuns.{turned, turned_is}
use Rattle.shown_stream.proofs.Late.LateCompiled.{IsEnteredLate, compiled_plan}
use Rattle.reading_laws.proofs.OneReading.{same_past}
use Rattle.shown_stream.proofs.Sent.PlannedTimes.{pts_of}
use Rattle.slot_stream.proofs.SentPieces.{IsFree}
use Rattle.shown_stream.proofs.Shown.SetPaintings.{painting_in, calls_behind, IsPaintedAs}
use Rattle.sent_sets.proofs.LateSets.{sets_behind, late_sets, zip_behind}
use Rattle.sent_sets.proofs.SetEnds.{delivered}
use Rattle.sent_sets.proofs.Units.{TimedSet}

-- ---- paintings

-- the painting that the sets ask of which all packets come, from one on
abbrev pub heard_painting : List WriteLoad → ℕ → ℕ → ℕ
heard_painting loads first i = cond (nat_le first i) (planned_painting loads i) 0

pub heard_from : (loads : List WriteLoad) (first i : ℕ) → first ≤ i
    → heard_painting loads first i ≡ planned_painting loads i
heard_from loads first i from =
    ap (λ b. cond b (planned_painting loads i) 0) (let t : nat_le first i ≡ true = grind (arith, nat_tests) in t)

heard_before : (loads : List WriteLoad) (first i : ℕ) → i < first → heard_painting loads first i ≡ 0
heard_before loads first i before =
    ap (λ b. cond b (planned_painting loads i) 0) (let t : nat_le first i ≡ false = grind (arith, nat_tests) in t)

pub heard_most : (loads : List WriteLoad) (first i : ℕ) → heard_painting loads first i ≤ (load_of loads i).painted
heard_most loads first i = by (nat_le first i)
  where
    by : (b : Bool) → cond b (planned_painting loads i) 0 ≤ (load_of loads i).painted
    by true = omega arith
    by false = omega arith

-- a set is painted in one number of ticks
one_painting : (script : Script) (set : PlannedSet) (a b : ℕ) → IsPaintedIn script set a
    → IsPaintedIn script set b → a ≡ b
one_painting script set a b first second =
    let same : first.epoch ≡ second.epoch =
    (let both : Some first.epoch ≡ Some second.epoch = sym first.found ∙ second.found in cc) in
    first.sum ∙ ap (λ (epoch : Epoch). sum_by (sent_painting epoch) set.regions) same ∙ sym second.sum

-- sets that are painted as the plan says ask what their loads say
loads_painted : (script : Script) (sets : List PlannedSet) (calls : List (List Call)) (loads : List WriteLoad)
    → AllZip (IsPaintedAs script) sets calls → AllZip (IsSetLoad script) sets loads → (j : ℕ)
    → j < length calls
    → painting_in (get_or calls j []) ≡ (slice_index_or loads j no_load).load.painted
loads_painted script [] [] loads painted asked j inside = absurd (omega arith)
loads_painted script [] (call ∷ calls) loads painted asked j inside = absurd painted
loads_painted script (set ∷ sets) [] loads painted asked j inside = absurd painted
loads_painted script (set ∷ sets) (call ∷ calls) [] painted asked j inside = absurd asked
loads_painted script (set ∷ sets) (call ∷ calls) (load ∷ loads) painted asked zero inside =
    one_painting script set (painting_in call) load.load.painted painted.0 asked.0.painted
loads_painted script (set ∷ sets) (call ∷ calls) (load ∷ loads) painted asked (suc j) inside =
    loads_painted script sets calls loads painted.1 asked.1 j (omega arith)

none_painted : (rest : List TimedSet) (calls : List (List Call))
    → AllZip (λ (one : TimedSet) found. painting_in found ≡ 0) rest calls → (j : ℕ)
    → j < length calls → painting_in (get_or calls j []) ≡ 0
none_painted [] [] painted j inside = absurd (omega arith)
none_painted [] (call ∷ calls) painted j inside = absurd painted
none_painted (one ∷ rest) [] painted j inside = absurd painted
none_painted (one ∷ rest) (call ∷ calls) painted zero inside = painted.0
none_painted (one ∷ rest) (call ∷ calls) painted (suc j) inside = none_painted rest calls painted.1 j (omega arith)

zip_length : {A B : Type 0} (R : A → B → Type 0) (xs : List A) (ys : List B) → AllZip R xs ys
    → length ys ≡ length xs
zip_length R [] [] h = refl
zip_length R [] (y ∷ ys) h = absurd h
zip_length R (x ∷ xs) [] h = absurd h
zip_length R (x ∷ xs) (y ∷ ys) h = ap suc (zip_length R xs ys h.1)

-- ---- the calls of sets

-- the calls of sets one after another
calls_in_parts : (profile : Profile) (anchor : ℕ) (older front back : List (Delivery Reading))
    → calls_behind profile anchor older (front ++ back) ≡ calls_behind profile anchor older front
    ++ calls_behind profile anchor (turned front older) back
calls_in_parts profile anchor older [] back = refl
calls_in_parts profile anchor older (one ∷ front) back =
    ap (λ rest. set_call profile anchor older one ∷ rest) (calls_in_parts profile anchor (one ∷ older) front back)

pub calls_of_first : (profile : Profile) (anchor n : ℕ) (older received : List (Delivery Reading))
    → calls_behind profile anchor older (take n received) ≡ take n (calls_behind profile anchor older received)
calls_of_first profile anchor zero older received = refl
calls_of_first profile anchor (suc n) older [] = refl
calls_of_first profile anchor (suc n) older (one ∷ received) =
    ap (λ rest. set_call profile anchor older one ∷ rest) (calls_of_first profile anchor n (one ∷ older) received)

pub count_calls : (profile : Profile) (anchor : ℕ) (older received : List (Delivery Reading))
    → length (calls_behind profile anchor older received) ≡ length received
count_calls profile anchor older [] = refl
count_calls profile anchor older (one ∷ received) = ap suc (count_calls profile anchor (one ∷ older) received)

pub read_first : (n : ℕ) (deliveries : List (Delivery (List ℕ))) (past : List (Delivery Reading))
    → AreDeliveriesRead deliveries past
    → AreDeliveriesRead (take n deliveries) (take n past)
read_first zero deliveries past h = tt
read_first (suc n) [] [] h = tt
read_first (suc n) [] (one ∷ past) h = absurd h
read_first (suc n) (delivery ∷ deliveries) [] h = absurd h
read_first (suc n) (delivery ∷ deliveries) (one ∷ past) h = (h.0, read_first n deliveries past h.1)

-- ---- all sets that come

-- what a receiver has got in the end of a compiled stream, in order, and how long its sets are painted
pub record AreAllHeard (compiling : Compiling) (bytes : List ℕ)
    (compiled : IsCompiledTo compiling bytes) (known : ArePackets compiling bytes compiled)
    (loads_are : All IsLoad compiled.loads) (missed anchor first : ℕ) : Type 0 where
  pub received : List (Delivery Reading)
  pub read : AreDeliveriesRead
      (map delivered (sets_behind (cut_units compiling bytes compiled known loads_are missed) known.sent))
      received
  pub painted : (j : ℕ) → j < length received
      → painting_in (get_or (set_calls (profile_of compiling.profile) anchor received) j [])
      ≡ heard_painting compiled.loads first
      ((compiled_entry compiling bytes compiled known loads_are missed).set + j)

pub all_heard : (compiling : Compiling) (bytes : List ℕ) → IsFree compiling.pid
    → (compiled : IsCompiledTo compiling bytes) (known : ArePackets compiling bytes compiled)
    (loads_are : All IsLoad compiled.loads)
    → (missed anchor : ℕ) → IsAnchorOf (first_times_from missed (sent_sets compiled.table compiled.sets)) anchor
    → (late : IsEnteredLate compiling bytes compiled known.sent missed)
    → AreAllHeard compiling bytes compiled known loads_are missed anchor late.first
all_heard compiling bytes free compiled known loads_are missed anchor suits late = record {
  received = reverse past;
  read =
      subst (λ (found : List (Delivery (List ℕ))). AreDeliveriesRead found (reverse past)) (sym late.come ∙ same)
      (subst (λ (found : List (Delivery (List ℕ))). AreDeliveriesRead found (reverse past))
      (ap reverse (all_turned late.rest (drop late.first known.sent))
      ∙ reverse-reverse (map delivered (late.rest ++ drop late.first known.sent)))
      (read_turned (turned (map delivered (drop late.first known.sent)) (turned (map delivered late.rest) [])) past
      parts.come.read));
  painted =
      λ j inside. ap (λ found. painting_in (get_or found j [])) in_parts
      ∙ by j (omega (arith, inside, ap length in_parts, count_calls profile anchor [] (reverse past)));
}
  where
    profile : Profile
    profile = profile_of compiling.profile

    loads : List WriteLoad
    loads = compiled.loads

    entry : Entry
    entry = compiled_entry compiling bytes compiled known loads_are missed

    parts : ComesInParts profile compiling.script compiled.table compiled.sets known.sent late.rest late.first missed
        anchor
    parts =
        comes_in_parts profile compiling.pid (only compiling.page) compiling.script compiled.table compiled.sets
        (packets_in compiling bytes compiled) known.sent
        (compiled_plan compiling bytes free compiled known) missed anchor
        suits late

    past : List (Delivery Reading)
    past = parts.come.past

    begun : List (Delivery Reading)
    begun = parts.begun.past

    same : sets_of profile.coded compiling.pid (only compiling.page) true
        (entered_at missed (packets_in compiling bytes compiled))
        ≡ map delivered
        (sets_behind (cut_units compiling bytes compiled known loads_are missed) known.sent)
    same =
        let is = compiled_stream compiling bytes compiled known loads_are in
        late_sets profile.coded compiling.pid (only compiling.page) missed (all_units compiled.units) known.sent
        compiled.table.slots free
        is.whole known.are.carry known.apart is.pieces is.ahead

    cut_calls : List (List Call)
    cut_calls = calls_behind profile anchor [] (reverse begun)

    more_calls : List (List Call)
    more_calls = calls_behind profile anchor begun (reverse parts.come.more)

    in_parts : set_calls profile anchor (reverse past) ≡ cut_calls ++ more_calls
    in_parts =
        ap (set_calls profile anchor) (ap reverse parts.come.over ∙ reverse-append parts.come.more begun)
        ∙ calls_in_parts profile anchor [] (reverse begun) (reverse parts.come.more)
        ∙ ap (λ older. cut_calls ++ calls_behind profile anchor older (reverse parts.come.more))
        (turned_is (reverse begun) [] ∙ append-nil (reverse (reverse begun)) ∙ reverse-reverse begun)

    cut : length cut_calls ≡ length late.rest
    cut = zip_length (λ (one : TimedSet) found. painting_in found ≡ 0) late.rest cut_calls parts.begun.painted

    entered : entry.set + length late.rest ≡ late.first
    entered = entry_before compiling bytes free compiled known loads_are missed late

    by : (j : ℕ) → j < length (cut_calls ++ more_calls)
        → painting_in (get_or (cut_calls ++ more_calls) j []) ≡ heard_painting loads late.first (entry.set + j)
    by j inside =
        elim (cases_lt j (length cut_calls)) [
          | inl early ↦
              ap painting_in (get_or-append cut_calls more_calls [] j early)
              ∙ none_painted late.rest cut_calls parts.begun.painted j early
              ∙ sym (heard_before loads late.first (entry.set + j) (omega (arith, early, cut, entered)))
          | inr later ↦
              let k = j - length cut_calls in
              let split : j ≡ length cut_calls + k = omega (arith, later) in
              let within : k < length more_calls = omega (arith, inside, split, length-append cut_calls more_calls) in
              let place : late.first + k ≡ entry.set + j = omega (arith, split, cut, entered) in
              ap (λ n. painting_in (get_or (cut_calls ++ more_calls) n [])) split
              ∙ ap painting_in
              (sym (get_or-drop (length cut_calls) (cut_calls ++ more_calls) k [])
              ∙ ap (λ found. get_or found k []) (drop-append_seam cut_calls more_calls))
              ∙ loads_painted compiling.script (drop late.first compiled.sets) more_calls (drop late.first loads)
              parts.come.painted
              (zip_behind (IsSetLoad compiling.script) late.first compiled.sets loads compiled.planned.asked) k within
              ∙ ap (λ (load : WriteLoad). load.load.painted) (get_or-drop late.first loads k no_load)
              ∙ ap (planned_painting loads) place
              ∙ sym (heard_from loads late.first (entry.set + j) (omega (arith, place)))
        ]

-- ---- the sets up to a packet

-- the times of planned sets are those of their loads
pub planned_times : (script : Script) (sets : List PlannedSet) (loads : List WriteLoad)
    → AllZip (IsSetLoad script) sets loads → (i : ℕ)
    → i < length sets → get_or (pts_of sets) i 0 ≡ (load_of loads i).pts
planned_times script [] loads asked i inside = absurd (omega arith)
planned_times script (set ∷ sets) [] asked i inside = absurd asked
planned_times script (set ∷ sets) (load ∷ loads) asked zero inside = sym asked.0.time
planned_times script (set ∷ sets) (load ∷ loads) asked (suc i) inside =
    planned_times script sets loads asked.1 i (omega arith)

pub drop_times : (first : ℕ) (sets : List PlannedSet) (j : ℕ)
    → get_or (pts_of (drop first sets)) j 0 ≡ get_or (pts_of sets) (first + j) 0
drop_times zero sets j = let same : j ≡ 0 + j = omega arith in ap (λ n. get_or (pts_of sets) n 0) same
drop_times (suc first) [] j = refl
drop_times (suc first) (set ∷ sets) j =
    let same : suc (first + j) ≡ suc first + j = omega arith in drop_times first sets j
    ∙ ap (λ n. get_or (pts_of (set ∷ sets)) n 0) same

-- what is received up to a packet comes first of all that is received
pub first_of_all : (compiling : Compiling) (bytes : List ℕ)
    (compiled : IsCompiledTo compiling bytes) (known : ArePackets compiling bytes compiled)
    (loads_are : All IsLoad compiled.loads)
    → (missed anchor first : ℕ) (planned : List PlannedSet) (past : List (Delivery Reading))
    (all : AreAllHeard compiling bytes compiled known loads_are missed anchor first)
    → (some : AreWholeUpTo (profile_of compiling.profile) anchor planned
    (sets_behind (cut_units compiling bytes compiled known loads_are missed) known.sent) past)
    → reverse past ≡ take some.count all.received
first_of_all compiling bytes compiled known loads_are missed anchor first planned past all some =
    let behind = sets_behind (cut_units compiling bytes compiled known loads_are missed) known.sent in
    same_past (map delivered (take some.count behind)) (reverse past) (take some.count all.received) some.read
    (subst (λ (found : List (Delivery (List ℕ))). AreDeliveriesRead found (take some.count all.received))
    (take-map delivered some.count behind) (read_first some.count (map delivered behind) all.received all.read))
