-- Which sets are done of a stream of scheduled sets that is entered at one of its units, and when: no later than in the
-- whole stream, in which they are done when the schedule says.
use Rattle.std.proofs.Common.{◌≡◌, ◌∙◌, ◌⊎◌, inl, inr, ℕ, zero, suc, ◌+◌, ◌-◌, ◌<◌, ◌≤◌, ◌&&◌, nat_le, nat_lt, Bool, true, false, cond, List, [], ◌∷◌, length, map, take, reverse, refl, sym, ap, subst, arith}
use Rattle.std.specs.Prelude.{slice_index}
use Rattle.std.proofs.lemmas.Bool.{cases_lt}
use Rattle.std.proofs.lemmas.Bool.Decides.{nat_tests}
use Rattle.std.proofs.lemmas.List.{take_more, reverse-append}
use Rattle.sub_base.specs.declared.load.WriteLoad.{WriteLoad}
use Rattle.sub_base.specs.declared.pace.Pace.{Pace}
use Rattle.buffer_model.specs.Calls.{Call, Arrived, SetWhole}
use Rattle.schedule.specs.Packets.{load_of, packets_of, payload_of}
use Rattle.schedule.specs.Slots.{Timetable, slot_of}
use Rattle.scheduled_level_laws.specs.DoneSets.{DoneSet, done_sets, AreDoneNoLater, IsDecodedBy}
use Rattle.scheduled_level_laws.specs.EnteredCalls.{Entry, from_of, counts, packet_calls, heard_load, is_whole, calls_of_set, entered_calls, whole_entry, planned_painting}
use Rattle.scheduled_level_laws.proofs.EnteredLess.{done_no_later}
use Rattle.scheduled_level_laws.proofs.EnteredLevels.{IsEntry, heard_done, set_done}
use Rattle.scheduled_level_laws.proofs.EnteredSums.{AreSlots, last_packet}
use Rattle.scheduled_level_laws.proofs.EnteredWithin.{Holds}
use Rattle.scheduled_level_laws.proofs.WholeLevels.{whole_is, one_done}

-- ---- set by set

-- packets make no set whole
packets_done : (pace : Pace) (loads : List WriteLoad) (slots : List ℕ) (bound : ℕ) (entry : Entry) (i k : ℕ)
    (past : List Call)
    → done_sets pace (packet_calls loads slots bound entry i k past) ≡ done_sets pace past
packets_done pace loads slots bound entry i zero past = refl
packets_done pace loads slots bound entry i (suc k) past =
    by (counts loads slots bound entry i k) ∙ packets_done pace loads slots bound entry i k past
  where
    by : (b : Bool)
        → done_sets pace
        (cond b (Arrived (slot_of loads slots i k) (payload_of loads i k)
        ∷ packet_calls loads slots bound entry i k past) (packet_calls loads slots bound entry i k past))
        ≡ done_sets pace (packet_calls loads slots bound entry i k past)
    by true = refl
    by false = refl

-- a set as it is done
abbrev heard_set : List WriteLoad → Pace → List ℕ → (ℕ → ℕ) → Entry → ℕ → DoneSet
heard_set loads pace slots painted entry i =
    record { time = (load_of loads i).pts; done = heard_done loads pace slots painted entry i }

-- a set that is whole is done, and no other one
set_more : (loads : List WriteLoad) (pace : Pace) (slots : List ℕ) (bound : ℕ) (painted : ℕ → ℕ)
    (entry : Entry) (i : ℕ)
    → IsEntry loads slots painted entry → i < length loads
    → done_sets pace
    (calls_of_set loads slots bound painted entry i (entered_calls loads slots bound painted entry i))
    ≡ cond (is_whole loads slots bound i)
    (heard_set loads pace slots painted entry i
    ∷ done_sets pace (entered_calls loads slots bound painted entry i))
    (done_sets pace (entered_calls loads slots bound painted entry i))
set_more loads pace slots bound painted entry i is inside = by (is_whole loads slots bound i) refl
  where
    past : List Call
    past = entered_calls loads slots bound painted entry i

    packets : List Call
    packets = packet_calls loads slots bound entry i (packets_of loads i) past

    Are : Bool → Type 0
    Are b =
        done_sets pace (cond b (SetWhole (heard_load loads painted entry i) ∷ packets) packets)
        ≡ cond b (heard_set loads pace slots painted entry i ∷ done_sets pace past) (done_sets pace past)

    by : (b : Bool) → is_whole loads slots bound i ≡ b → Are (is_whole loads slots bound i)
    by false e = subst Are (sym e) (packets_done pace loads slots bound entry i (packets_of loads i) past)
    by true e = subst Are (sym e)
        (λ n. record {
          time = (load_of loads i).pts;
          done = set_done loads pace slots bound painted entry i is inside e
              n;
        } ∷ packets_done pace loads slots bound entry i (packets_of loads i) past n)

-- the first sets and one more
done_more : (loads : List WriteLoad) (pace : Pace) (slots : List ℕ) (bound : ℕ) (painted : ℕ → ℕ)
    (entry : Entry) (i : ℕ)
    → IsEntry loads slots painted entry → i < length loads
    → done_sets pace (entered_calls loads slots bound painted entry (suc i))
    ≡ cond (nat_le entry.set i)
    (cond (is_whole loads slots bound i)
    (heard_set loads pace slots painted entry i
    ∷ done_sets pace (entered_calls loads slots bound painted entry i))
    (done_sets pace (entered_calls loads slots bound painted entry i))) []
done_more loads pace slots bound painted entry i is inside = by (nat_le entry.set i)
  where
    by : (b : Bool)
        → done_sets pace
        (cond b (calls_of_set loads slots bound painted entry i (entered_calls loads slots bound painted entry i)) [])
        ≡ cond b (cond (is_whole loads slots bound i)
        (heard_set loads pace slots painted entry i
        ∷ done_sets pace (entered_calls loads slots bound painted entry i))
        (done_sets pace (entered_calls loads slots bound painted entry i))) []
    by true = set_more loads pace slots bound painted entry i is inside
    by false = refl

-- the whole stream begins with its first set
whole_more : (loads : List WriteLoad) (pace : Pace) (slots : List ℕ) (bound i : ℕ) → AreSlots loads slots
    → i < length loads
    → done_sets pace (entered_calls loads slots bound (planned_painting loads) whole_entry (suc i))
    ≡ cond (is_whole loads slots bound i)
    (heard_set loads pace slots (planned_painting loads) whole_entry i
    ∷ done_sets pace (entered_calls loads slots bound (planned_painting loads) whole_entry i))
    (done_sets pace (entered_calls loads slots bound (planned_painting loads) whole_entry i))
whole_more loads pace slots bound i are inside =
    done_more loads pace slots bound (planned_painting loads) whole_entry i (whole_is loads slots are) inside
    ∙ ap (λ b. cond b
    (cond (is_whole loads slots bound i)
    (heard_set loads pace slots (planned_painting loads) whole_entry i
    ∷ done_sets pace (entered_calls loads slots bound (planned_painting loads) whole_entry i))
    (done_sets pace (entered_calls loads slots bound (planned_painting loads) whole_entry i))) [])
    (let t : nat_le 0 i ≡ true = grind (arith, nat_tests) in t)

-- ---- no set is done later than in the whole stream

pub dones_no_later : (loads : List WriteLoad) (pace : Pace) (slots : List ℕ) (bound : ℕ) (painted : ℕ → ℕ)
    (entry : Entry) (n : ℕ)
    → IsEntry loads slots painted entry → n ≤ length loads
    → AreDoneNoLater (done_sets pace (entered_calls loads slots bound painted entry n))
    (done_sets pace (entered_calls loads slots bound (planned_painting loads) whole_entry n))
dones_no_later loads pace slots bound painted entry zero is inside = tt
dones_no_later loads pace slots bound painted entry (suc i) is inside =
    subst (λ (sets : List DoneSet). AreDoneNoLater sets
    (done_sets pace (entered_calls loads slots bound (planned_painting loads) whole_entry (suc i))))
    (sym (done_more loads pace slots bound painted entry i is (omega (arith, inside))))
    (subst (AreDoneNoLater
    (cond (nat_le entry.set i)
    (cond (is_whole loads slots bound i) (heard_set loads pace slots painted entry i ∷ some) some) []))
    (sym (whole_more loads pace slots bound i is.are (omega (arith, inside))))
    (by (nat_le entry.set i) (is_whole loads slots bound i)
    (dones_no_later loads pace slots bound painted entry i is (omega (arith, inside)))))
  where
    some : List DoneSet
    some = done_sets pace (entered_calls loads slots bound painted entry i)

    all : List DoneSet
    all = done_sets pace (entered_calls loads slots bound (planned_painting loads) whole_entry i)

    sooner : heard_done loads pace slots painted entry i
        ≤ heard_done loads pace slots (planned_painting loads) whole_entry i
    sooner =
        omega (
          arith,
          done_no_later loads pace slots painted entry i is (omega (arith, inside)),
          one_done loads pace
              slots i is.are (omega (arith, inside)),
        )

    by : (from whole : Bool) → AreDoneNoLater some all
        → AreDoneNoLater (cond from (cond whole (heard_set loads pace slots painted entry i ∷ some) some) [])
        (cond whole (heard_set loads pace slots (planned_painting loads) whole_entry i ∷ all) all)
    by false whole again = tt
    by true true again = (refl, sooner, again)
    by true false again = again

-- ---- which sets are done

-- a set that is whole is decoded in time
pub set_decoded : (loads : List WriteLoad) (pace : Pace) (table : Timetable) (bound : ℕ) (painted : ℕ → ℕ)
    (entry : Entry) (n i : ℕ)
    → Holds loads pace table → IsEntry loads table.slots painted entry → n ≤ length loads → entry.set ≤ i
    → i < n
    → is_whole loads table.slots bound i ≡ true
    → IsDecodedBy (done_sets pace (entered_calls loads table.slots bound painted entry n)) (load_of loads i).pts
set_decoded loads pace table bound painted entry zero i holds is within from inside whole =
    absurd (omega (arith, inside))
set_decoded loads pace table bound painted entry (suc m) i holds is within from inside whole =
    subst (λ (sets : List DoneSet). IsDecodedBy sets (load_of loads i).pts)
    (sym (done_more loads pace table.slots bound painted entry m is (omega (arith, within)) ∙ here))
    (by (cases_lt i m)
    (λ before. set_decoded loads pace table bound painted entry m i holds is (omega (arith, within)) from before
    whole))
  where
    some : List DoneSet
    some = done_sets pace (entered_calls loads table.slots bound painted entry m)

    here : cond (nat_le entry.set m)
        (cond (is_whole loads table.slots bound m) (heard_set loads pace table.slots painted entry m ∷ some) some)
        [] ≡ cond (is_whole loads table.slots bound m) (heard_set loads pace table.slots painted entry m ∷ some)
        some
    here =
        ap (λ b. cond b
        (cond (is_whole loads table.slots bound m) (heard_set loads pace table.slots painted entry m ∷ some) some) [])
        (let t : nat_le entry.set m ≡ true = grind (arith, nat_tests) in t)

    in_time : heard_done loads pace table.slots painted entry i ≤ (load_of loads i).pts
    in_time =
        let there : i < length loads = omega (arith, inside, within) in
        omega (
          arith,
          done_no_later loads pace table.slots painted entry i is there,
          holds.dones i there,
          holds.ready i
              there,
        )

    later : (b : Bool) → IsDecodedBy some (load_of loads i).pts
        → IsDecodedBy (cond b (heard_set loads pace table.slots painted entry m ∷ some) some) (load_of loads i).pts
    later false was = was
    later true was =
        record { place = suc was.place; set = was.set; found = was.found; shown = was.shown; in_time = was.in_time }

    by : (i < m) ⊎ (m ≤ i) → (i < m → IsDecodedBy some (load_of loads i).pts)
        → IsDecodedBy
        (cond (is_whole loads table.slots bound m) (heard_set loads pace table.slots painted entry m ∷ some) some)
        (load_of loads i).pts
    by (inl before) again = later (is_whole loads table.slots bound m) (again before)
    by (inr last) again =
        let same : i ≡ m = omega (arith, last, inside) in
        subst (λ (k : ℕ). IsDecodedBy
        (cond (is_whole loads table.slots bound k) (heard_set loads pace table.slots painted entry k ∷ some) some)
        (load_of loads i).pts) same
        (subst (λ (b : Bool). IsDecodedBy (cond b (heard_set loads pace table.slots painted entry i ∷ some) some)
        (load_of loads i).pts) (sym whole)
        (record {
          place = 0;
          set = heard_set loads pace table.slots painted entry i;
          found = refl;
          shown = refl;
          in_time = in_time;
        }))

-- ---- the whole stream

-- one more at the end of a list stands at the front of the list turned
turned_more : (xs : List ℕ) (k : ℕ) → k < length xs
    → reverse (take (suc k) xs) ≡ slice_index xs k ∷ reverse (take k xs)
turned_more xs k inside =
    let next : k + 1 ≡ suc k = omega arith in
    ap (λ n. reverse (take n xs)) (sym next) ∙ ap reverse (take_more xs k 0 inside)
    ∙ reverse-append (take k xs) (slice_index xs k ∷ [])

-- all sets of the first n are whole below a bound
abbrev AreWhole : List WriteLoad → List ℕ → ℕ → ℕ → Type 0
AreWhole loads slots bound n = (i : ℕ) → i < n → is_whole loads slots bound i ≡ true

all_done : (loads : List WriteLoad) (pace : Pace) (slots : List ℕ) (bound i : ℕ) → AreSlots loads slots
    → i < length loads
    → is_whole loads slots bound i ≡ true
    → done_sets pace (entered_calls loads slots bound (planned_painting loads) whole_entry (suc i))
    ≡ heard_set loads pace slots (planned_painting loads) whole_entry i
    ∷ done_sets pace (entered_calls loads slots bound (planned_painting loads) whole_entry i)
all_done loads pace slots bound i are inside whole =
    let some = done_sets pace (entered_calls loads slots bound (planned_painting loads) whole_entry i) in
    whole_more loads pace slots bound i are inside
    ∙ ap (λ b. cond b (heard_set loads pace slots (planned_painting loads) whole_entry i ∷ some) some) whole

-- the sets of the whole stream are done when the schedule says
pub all_dones : (loads : List WriteLoad) (pace : Pace) (table : Timetable) (bound n : ℕ) → Holds loads pace table
    → length table.dones ≡ length loads
    → n ≤ length loads → AreWhole loads table.slots bound n
    → map (λ (set : DoneSet). set.done)
    (done_sets pace (entered_calls loads table.slots bound (planned_painting loads) whole_entry n))
    ≡ reverse (take n table.dones)
all_dones loads pace table bound zero holds many within whole = refl
all_dones loads pace table bound (suc i) holds many within whole =
    let inside : i < length loads = omega (arith, within) in
    ap (map (λ (set : DoneSet). set.done))
    (all_done loads pace table.slots bound i holds.are inside (whole i (omega arith)))
    ∙ (λ k. (one_done loads pace table.slots i holds.are inside ∙ sym (holds.dones i inside)) k
    ∷ all_dones loads pace table bound i holds many (omega (arith, within))
    (λ j before. whole j (omega (arith, before))) k)
    ∙ sym (turned_more table.dones i (omega (arith, many, within)))

-- and they have the times of their loads
pub all_times : (loads : List WriteLoad) (pace : Pace) (table : Timetable) (bound n : ℕ) (times : List ℕ)
    → Holds loads pace table
    → length times ≡ length loads
    → ((i : ℕ) → i < length loads → (load_of loads i).pts ≡ slice_index times i) → n ≤ length loads
    → AreWhole loads table.slots bound n
    → map (λ (set : DoneSet). set.time)
    (done_sets pace (entered_calls loads table.slots bound (planned_painting loads) whole_entry n))
    ≡ reverse (take n times)
all_times loads pace table bound zero times holds many are within whole = refl
all_times loads pace table bound (suc i) times holds many are within whole =
    let inside : i < length loads = omega (arith, within) in
    ap (map (λ (set : DoneSet). set.time))
    (all_done loads pace table.slots bound i holds.are inside (whole i (omega arith)))
    ∙ (λ k. are i inside k
    ∷ all_times loads pace table bound i times holds many are (omega (arith, within))
    (λ j before. whole j (omega (arith, before))) k)
    ∙ sym (turned_more times i (omega (arith, many, within)))

-- ---- bounds that mean the same

-- where all packets stand on the same side of two bounds, the calls are the same
packets_bound : (loads : List WriteLoad) (slots : List ℕ) (bound other : ℕ) (entry : Entry) (i k : ℕ)
    (past : List Call) → k ≤ packets_of loads i
    → ((m : ℕ) → m < packets_of loads i
    → nat_lt (slot_of loads slots i m) bound ≡ nat_lt (slot_of loads slots i m) other)
    → packet_calls loads slots bound entry i k past ≡ packet_calls loads slots other entry i k past
packets_bound loads slots bound other entry i zero past within same = refl
packets_bound loads slots bound other entry i (suc k) past within same =
    λ n. cond (nat_le (from_of entry i) k && same k (omega (arith, within)) n)
    (Arrived (slot_of loads slots i k) (payload_of loads i k)
    ∷ packets_bound loads slots bound other entry i k past (omega (arith, within)) same n)
    (packets_bound loads slots bound other entry i k past (omega (arith, within)) same n)

pub same_bound : (loads : List WriteLoad) (slots : List ℕ) (bound other : ℕ) (painted : ℕ → ℕ)
    (entry : Entry) (n : ℕ) → AreSlots loads slots
    → n ≤ length loads
    → ((i m : ℕ) → i < n → m < packets_of loads i
    → nat_lt (slot_of loads slots i m) bound ≡ nat_lt (slot_of loads slots i m) other)
    → entered_calls loads slots bound painted entry n ≡ entered_calls loads slots other painted entry n
same_bound loads slots bound other painted entry zero are within same = refl
same_bound loads slots bound other painted entry (suc i) are within same =
    let before =
    same_bound loads slots bound other painted entry i are (omega (arith, within))
    (λ j m earlier part. same j m (omega (arith, earlier)) part) in
    let packets : packet_calls loads slots bound entry i (packets_of loads i)
    (entered_calls loads slots bound painted entry i)
    ≡ packet_calls loads slots other entry i (packets_of loads i)
    (entered_calls loads slots other painted entry i) =
    ap (packet_calls loads slots bound entry i (packets_of loads i)) before
    ∙ packets_bound loads slots bound other entry i (packets_of loads i)
    (entered_calls loads slots other painted entry i) (omega arith) (λ m part. same i m (omega arith) part) in
    λ n. cond (nat_le entry.set i)
    (cond (same i (packets_of loads i - 1) (omega arith) (last_packet loads slots i are (omega (arith, within))) n)
    (SetWhole (heard_load loads painted entry i) ∷ packets n) (packets n)) []
