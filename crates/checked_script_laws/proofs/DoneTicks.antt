-- The sets that `check` tells of all packets of a script are those of its plan, each done at its tick of the schedule.
use Rattle.std.proofs.Common.{◌≡◌, ◌∙◌, ℕ, ◌++◌, true, List, [], ◌∷◌, length, map, reverse, Option, refl, sym, ap, subst, arith, append-nil, append_assoc}
use Rattle.std.specs.List.{AllByRecursion, cons_option}
use Rattle.std.specs.Option.{option_map}
use Rattle.std.proofs.lemmas.List.{map-append, reverse-append, reverse-reverse}
use Rattle.std.proofs.lemmas.List.Elements.{recursion_from_All}
use Rattle.sub_base.specs.Profile.{profile_of}
use Rattle.sub_base.specs.declared.load.WriteLoad.{WriteLoad}
use Rattle.sub_base.specs.declared.pace.Pace.{Pace}
use Rattle.buffer_model.specs.Calls.{Call, Arrived, SetWhole, Dropped, greatest}
use Rattle.buffer_model.proofs.LevelLaws.{no_breach}
use Rattle.check_text.specs.CheckText.{IsCheckText, breach_line, peak_line, sets_text}
use Rattle.decoder_model.specs.Frames.{only}
use Rattle.decoder_model.specs.Arrivals.{packets_taken}
use Rattle.page_epoch.specs.declared.planned_set.PlannedSet.{PlannedSet}
use Rattle.received_level_laws.specs.ToldSets as told
use Rattle.received_level_laws.specs.ToldSets.{ToldSet, ToldCall, calls_told, done_by, told_behind, told_sets, told_sets_behind}
use Rattle.received_level_laws.proofs.ToldLaws.{are_calls}
use Rattle.schedule.specs.Slots.{Timetable}
use Rattle.scheduled_level_laws.specs.DoneSets.{DoneSet, done_sets}
use Rattle.script_stream.specs.ShownRightly.{IsShownRightly}
use Rattle.shown_stream.specs.Compiled.{sent_pace, Compiling, received_by}
use Rattle.shown_stream.specs.SentPlan.{sent_plan}
use Rattle.shown_stream.specs.SentSets.{first_times_from, sent_sets}
use Rattle.shown_stream.specs.Shows.{IsAnchorOf}
use Rattle.shown_stream.specs.StaysWithin.{AreCallsBefore, IsAsScheduled, IsKeptCall, StaysWithin}
use Rattle.checked_script_laws.specs.Scheduled.{TellsSchedule}
use Rattle.checked_script_laws.proofs.ToldRightly.{IsToldSo, IsToldRightly, packets_told, sets_told}

abbrev calls_in : List ToldCall → List Call
calls_in told = map (λ (one : ToldCall). one.call) told

-- a set that is told, by its time and its tick
abbrev as_done : told.ToldDoneSet → DoneSet
as_done one = record { time = one.set.load.pts; done = one.done }

-- ---- lists

onto : {X : Type 0} (x : X) (xs ys : List X) → reverse (x ∷ xs) ++ ys ≡ reverse xs ++ x ∷ ys
onto x xs ys = ap (λ all. all ++ ys) (reverse-append (x ∷ []) xs) ∙ append_assoc (reverse xs) (x ∷ []) ys

all_turned : {X : Type 0} (P : X → Type 0) (xs ys : List X) → AllByRecursion P (reverse xs ++ ys)
    → AllByRecursion P xs
all_turned P [] ys h = tt
all_turned P (x ∷ xs) ys h =
    let more = subst (AllByRecursion P) (onto x xs ys) h in
    (first (reverse xs) more, all_turned P xs (x ∷ ys) more)
  where
    first : (front : List _) → AllByRecursion P (front ++ x ∷ ys) → P x
    first [] all = all.0
    first (one ∷ front) all = first front all.1

mapped_turned : {X Y : Type 0} (f : X → Y) (xs : List X) → map f (reverse xs) ≡ reverse (map f xs)
mapped_turned f [] = refl
mapped_turned f (x ∷ xs) =
    ap (map f) (reverse-append (x ∷ []) xs)
    ∙ map-append f (reverse xs) (x ∷ [])
    ∙ ap (λ all. all ++ f x ∷ []) (mapped_turned f xs)
    ∙ sym (reverse-append (f x ∷ []) (map f xs))

map_twice : {X Y Z : Type 0} (f : X → Y) (g : Y → Z) (xs : List X) → map g (map f xs) ≡ map (λ x. g (f x)) xs
map_twice f g [] = refl
map_twice f g (x ∷ xs) = ap (λ rest. g (f x) ∷ rest) (map_twice f g xs)

-- ---- sets among calls

-- a call more: its set is done behind the calls before it
head_told : (pace : Pace) (earlier : List Call) (call : Call) (set : Option ToldSet) (more : List told.ToldDoneSet)
    → IsToldSo call set → IsKeptCall call
    → reverse (map as_done
    (cons_option (option_map (λ (one : ToldSet). record { set = one; done = done_by pace earlier call }) set) more))
    ++ done_sets pace earlier
    ≡ reverse (map as_done more) ++ done_sets pace (call ∷ earlier)
head_told pace earlier (Arrived slot bytes) set more is kept =
    ap (λ found. reverse (map as_done (cons_option (option_map
    (λ (one : ToldSet). record { set = one; done = done_by pace earlier (Arrived slot bytes) }) found) more))
    ++ done_sets pace earlier) is
head_told pace earlier (SetWhole load) set more (end, is) kept =
    ap (λ found. reverse (map as_done (cons_option (option_map
    (λ (one : ToldSet). record { set = one; done = done_by pace earlier (SetWhole load) }) found) more))
    ++ done_sets pace earlier) is
    ∙ onto (record { time = load.pts; done = done_by pace earlier (SetWhole load) }) (map as_done more)
    (done_sets pace earlier)
head_told pace earlier Dropped set more is kept = absurd (kept refl)

-- the sets of told calls are those of the calls
sets_done : (pace : Pace) (earlier told : List ToldCall) → AllByRecursion IsToldRightly told
    → AllByRecursion IsKeptCall (calls_in told)
    → done_sets pace (reverse (calls_in told) ++ calls_in earlier)
    ≡ reverse (map as_done (told_sets_behind pace earlier told)) ++ done_sets pace (calls_in earlier)
sets_done pace earlier [] right kept = refl
sets_done pace earlier (one ∷ told) right kept =
    ap (done_sets pace) (onto one.call (calls_in told) (calls_in earlier))
    ∙ sets_done pace (one ∷ earlier) told right.1 kept.1
    ∙ sym (head_told pace (calls_in earlier) one.call one.set (told_sets_behind pace (one ∷ earlier) told) right.0
    kept.0)

-- ---- the text

pub schedule_told : (compiling : Compiling) (sets : List PlannedSet)
    (loads : List WriteLoad) (table : Timetable) (bytes : List ℕ) (text : List ℕ)
    → (shown : IsShownRightly compiling sets loads table bytes)
    → IsCheckText (received_by compiling compiling.script.origin) true shown.packets text
    → TellsSchedule (profile_of compiling.profile).coded sets table text
schedule_told compiling sets loads table bytes text shown is = record {
  told = done;
  times =
      back (λ (one : DoneSet). one.time) (map (λ (set : PlannedSet). set.pts) sets) (scheduled.times calls given);
  dones = back (λ (one : DoneSet). one.done) table.dones (scheduled.dones calls given);
  peak = greatest pace calls;
  held = (no_breach pace calls (stays.within (length shown.packets) calls given)).1;
  whole =
      is.whole
      ∙ ap (λ found. sets_text pace is.told ++ (peak_line (greatest pace calls) ++ breach_line found))
      (no_breach pace calls (stays.within (length shown.packets) calls given)).0;
}
  where
    pace : Pace
    pace = sent_pace compiling.profile compiling.script

    calls : List Call
    calls = calls_told is.told

    done : List told.ToldDoneSet
    done = told_sets pace is.told

    suits : IsAnchorOf (first_times_from 0 (sent_sets table sets)) compiling.script.origin
    suits = shown.first_suits 0 compiling.script.origin (omega arith) (omega arith)

    stays : StaysWithin (sent_plan compiling sets table) shown.packets 0 compiling.script.origin
    stays = shown.stays 0 compiling.script.origin suits

    scheduled : IsAsScheduled (sent_plan compiling sets table) loads shown.packets compiling.script.origin
    scheduled = shown.scheduled compiling.script.origin suits

    given : AreCallsBefore (length shown.packets) (received_by compiling compiling.script.origin) 0 shown.packets calls
    given =
        stays.ended calls
        (are_calls (received_by compiling compiling.script.origin) 0 true shown.packets is.told is.are)

    right : AllByRecursion IsToldRightly is.told
    right =
        subst (AllByRecursion IsToldRightly) (sym is.are.are)
        (packets_told (profile_of compiling.profile).coded compiling.pid (only compiling.page) 0 []
        (packets_taken compiling.pid shown.packets)
        (told_behind (profile_of compiling.profile) compiling.script.origin [] (reverse is.are.past))
        (sets_told (profile_of compiling.profile) compiling.script.origin [] (reverse is.are.past)))

    kept : AllByRecursion IsKeptCall (calls_in is.told)
    kept =
        all_turned IsKeptCall (calls_in is.told) []
        (subst (AllByRecursion IsKeptCall) (sym (append-nil calls))
        (recursion_from_All IsKeptCall calls (scheduled.kept calls given)))

    turned : done_sets pace calls ≡ reverse (map as_done done)
    turned =
        ap (done_sets pace) (sym (append-nil calls)) ∙ sets_done pace [] is.told right kept
        ∙ append-nil (reverse (map as_done done))

    back : {X : Type 0} (f : DoneSet → X) (wanted : List X) → map f (done_sets pace calls) ≡ reverse wanted
        → map (λ (one : told.ToldDoneSet). f (as_done one)) done ≡ wanted
    back f wanted same =
        sym (map_twice as_done f done)
        ∙ sym (reverse-reverse (map f (map as_done done)))
        ∙ ap reverse (sym (mapped_turned f (map as_done done)) ∙ ap (map f) (sym turned) ∙ same)
        ∙ reverse-reverse wanted
