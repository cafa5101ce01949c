-- A receiver of a compiled stream of which some packets are lost shows at each good tick what the script authors, and
-- its page memory holds the script behind each set that comes whole and whose epoch is known.
use Rattle.std.proofs.Common.{◌≡◌, ◌∙◌, ℕ, zero, suc, ◌+◌, ◌-◌, ◌<◌, ◌≤◌, ◌⊎◌, inl, inr, Bool, true, false, ◌&&◌, ◌||◌, cond, List, [], ◌∷◌, ◌++◌, length, map, filter, take, drop, reverse, None, refl, sym, ap, subst, arith, length-append}
use Rattle.std.specs.Prelude.{nat_le}
use Rattle.std.specs.List.{AllByRecursion, list_all, list_any}
use Rattle.std.specs.Option.{is_none}
use Rattle.std.proofs.lemmas.Bool.{cases_lt}
use Rattle.std.proofs.lemmas.Bool.Decides.{nat_tests}
use Rattle.std.proofs.lemmas.List.{reverse-append}
use Rattle.sub_base.specs.declared.profile.Profile.{Profile}
use Rattle.stream_syntax.specs.TransportPackets.{packet_fault}
use Rattle.cue_list.specs.declared.script.Script.{Script}
use Rattle.page_epoch.specs.declared.planned_set.PlannedSet.{PlannedSet}
use Rattle.schedule.specs.Slots.{Timetable}
use Rattle.decoder_model.specs.declared.pages.Pages.{Pages}
use Rattle.decoder_model.specs.Arrivals.{arrivals_of}
use Rattle.decoder_model.specs.Sets.{has_ended, runs_of, sets_in, sets_of}
use Rattle.decoder_model.specs.Streams.{Sending, received_of, SentSet, IsReceived, is_received_at}
use Rattle.decoder_model.proofs.SentUnits.{all_taken}
use Rattle.shown_stream.specs.SentSets.{sent_set, sent_from}
use Rattle.shown_stream.proofs.Late.LateTicks.{at_seam}
use Rattle.shown_stream.proofs.Lost.LostPieces.{there_at, flow}
use Rattle.shown_stream.proofs.Lost.LostPlaces.{all_of, some_of}
use Rattle.shown_stream.proofs.Lost.LostStretches.{all_come}
use Rattle.shown_stream.proofs.Lost.LostViews.{GoodFrom, AreFit}
use Rattle.shown_stream.proofs.Sent.PlannedTimes.{pts_of}
use Rattle.stream_syntax.specs.Segments.{is_entry_state}
use Rattle.sent_sets.proofs.Units.{TimedSet}

-- ---- flags and places

pub all_there : (sendings : List Sending) (places : List ℕ)
    → AllByRecursion (λ place. is_received_at sendings place ≡ true) places
    → all_of (there_at sendings 0 places) ≡ true
all_there sendings [] h = refl
all_there sendings (place ∷ places) h =
    let same : place - 0 ≡ place = omega arith in
    ap (λ b. b && all_of (there_at sendings 0 places)) (ap (is_received_at sendings) same ∙ h.0)
    ∙ all_there sendings places h.1

pub some_there : (sendings : List Sending) (places : List ℕ) → some_of (there_at sendings 0 places) ≡ true
    → list_any (is_received_at sendings) places ≡ true
some_there sendings [] e = absurd (cc)
some_there sendings (place ∷ places) e =
    let same : place - 0 ≡ place = omega arith in
    by (is_received_at sendings (place - 0)) refl e (some_there sendings places) (ap (is_received_at sendings) same)
  where
    by : (b : Bool) → is_received_at sendings (place - 0) ≡ b
        → (is_received_at sendings (place - 0) || some_of (there_at sendings 0 places)) ≡ true
        → (some_of (there_at sendings 0 places) ≡ true → list_any (is_received_at sendings) places ≡ true)
        → is_received_at sendings (place - 0) ≡ is_received_at sendings place
        → (is_received_at sendings place || list_any (is_received_at sendings) places) ≡ true
    by true is e more same = ap (λ b. b || list_any (is_received_at sendings) places) (sym same ∙ is)
    by false is e more same =
        ap (λ b. b || list_any (is_received_at sendings) places) (sym same ∙ is)
        ∙ more (sym (ap (λ b. b || some_of (there_at sendings 0 places)) is) ∙ e)

pub there-take : (sendings : List Sending) (n : ℕ) (slots : List ℕ)
    → take n (there_at sendings 0 slots) ≡ there_at sendings 0 (take n slots)
there-take sendings zero slots = refl
there-take sendings (suc n) [] = refl
there-take sendings (suc n) (slot ∷ slots) =
    ap (λ rest. is_received_at sendings (slot - 0) ∷ rest) (there-take sendings n slots)

pub there-drop : (sendings : List Sending) (n : ℕ) (slots : List ℕ)
    → drop n (there_at sendings 0 slots) ≡ there_at sendings 0 (drop n slots)
there-drop sendings zero slots = refl
there-drop sendings (suc n) [] = refl
there-drop sendings (suc n) (slot ∷ slots) = there-drop sendings n slots

pub length-there : (sendings : List Sending) (from : ℕ) (slots : List ℕ)
    → length (there_at sendings from slots) ≡ length slots
length-there sendings from [] = refl
length-there sendings from (slot ∷ slots) = ap suc (length-there sendings from slots)

-- ---- good ticks

-- sets that are later are sent with later times
pub later_times : (table : Timetable) (time number : ℕ) (left : List PlannedSet)
    → AllByRecursion (λ later. time < later) (pts_of left)
    → AllByRecursion (λ (set : SentSet). time < set.time) (sent_from table number left)
later_times table time number [] h = tt
later_times table time number (set ∷ left) h = (h.0, later_times table time (number + 1) left h.1)

-- the number of a set is how many are before it
pub turned_more_count : (plan : List PlannedSet) (set : PlannedSet) (number : ℕ) → length (reverse plan) ≡ number
    → length (reverse (set ∷ plan)) ≡ number + 1
turned_more_count plan set number many =
    ap length (reverse-append (set ∷ []) plan) ∙ omega (arith, length-append (reverse plan) (set ∷ []), many)

pub comes_so : (sendings : List Sending) (table : Timetable) (plan : List PlannedSet) (set : PlannedSet) (number : ℕ)
    → length (reverse plan) ≡ number → IsReceived sendings (sent_set table number set)
    → IsReceived sendings (sent_set table (length (reverse plan)) set)
comes_so sendings table plan set number many =
    subst (λ (n : ℕ). IsReceived sendings (sent_set table n set)) (sym many)

module _ (script : Script) (profile : Profile) (anchor origin page tick : ℕ) (sets : List PlannedSet)
    (sendings : List Sending) (table : Timetable) where
  abbrev ComesWhole : ℕ → PlannedSet → Type 0
  ComesWhole number set = IsReceived sendings (sent_set table number set)

  abbrev Fit : List PlannedSet → List PlannedSet → List TimedSet → List Bool → Type 0
  Fit = AreFit script profile anchor origin page sets ComesWhole

  -- from a set on all that have come are received
  good_on : (number : ℕ) (plan left : List PlannedSet) (sent : List TimedSet) (come : List Bool)
      → Fit plan left sent come → length (reverse plan) ≡ number
      → AllByRecursion (λ (set : SentSet). set.time ≤ tick → IsReceived sendings set)
      (sent_from table number left) → GoodFrom tick true left sent come
  good_on number plan [] [] come fit many whole = refl
  good_on number plan [] (one ∷ sent) come fit many whole = absurd fit
  good_on number plan (set ∷ left) [] come fit many whole = absurd fit
  good_on number plan (set ∷ left) (one ∷ sent) come fit many whole =
      by (cases_lt tick set.pts)
      (good_on (number + 1) (set ∷ plan) left sent (drop (length one.units) come) fit.1
      (turned_more_count plan set number many) whole.1)
    where
      Good : Bool → Type 0
      Good b =
          cond b (GoodFrom tick (all_come (length one.units) come && (true || is_entry_state set.state)) left sent
          (drop (length one.units) come)) (true ≡ true)

      by : (tick < set.pts) ⊎ (set.pts ≤ tick) → GoodFrom tick true left sent (drop (length one.units) come)
          → Good (nat_le set.pts tick)
      by (inl early) more =
          let test : nat_le set.pts tick ≡ false = grind (arith, nat_tests) in subst Good (sym test) refl
      by (inr here) more =
          let test : nat_le set.pts tick ≡ true = grind (arith, nat_tests) in
          let all = fit.0.told (comes_so sendings table plan set number many (whole.0 here)) in
          subst Good (sym test)
          (subst (λ (b : Bool). GoodFrom tick (b && (true || is_entry_state set.state)) left sent
          (drop (length one.units) come)) (sym all) more)

  -- a good tick is good from some set on
  pub good_from : (streak : Bool) (number : ℕ) (plan left : List PlannedSet) (sent : List TimedSet) (come : List Bool)
      (before : List SentSet) (entry : SentSet) (after : List SentSet) → Fit plan left sent come
      → length (reverse plan) ≡ number
      → sent_from table number left ≡ before ++ entry ∷ after → entry.is_entry ≡ true
      → entry.time ≤ tick
      → AllByRecursion (λ (set : SentSet). set.time ≤ tick → IsReceived sendings set) (entry ∷ after)
      → GoodFrom tick streak left sent come
  good_from streak number plan [] [] come before entry after fit many placed entered come_now whole =
      absurd (omega (arith, ap length placed, length-append before (entry ∷ after)))
  good_from streak number plan [] (one ∷ sent) come before entry after fit many placed entered come_now whole =
      absurd fit
  good_from streak number plan (set ∷ left) [] come before entry after fit many placed entered come_now whole =
      absurd fit
  good_from streak number plan (set ∷ left) (one ∷ sent) come [] entry after fit many placed entered come_now
      whole =
      let head : sent_set table number set ≡ entry = cc in
      let tail : sent_from table (number + 1) left ≡ after = cc in
      let here : set.pts ≤ tick = subst (λ (found : SentSet). found.time ≤ tick) (sym head) come_now in
      let test : nat_le set.pts tick ≡ true = grind (arith, nat_tests) in
      let received : IsReceived sendings (sent_set table number set) =
      subst (IsReceived sendings) (sym head) (whole.0 come_now) in
      let all = fit.0.told (comes_so sendings table plan set number many received) in
      let begins : is_entry_state set.state ≡ true = ap (λ (found : SentSet). found.is_entry) head ∙ entered in
      let more =
      good_on (number + 1) (set ∷ plan) left sent (drop (length one.units) come) fit.1
      (turned_more_count plan set number many)
      (subst (AllByRecursion (λ (other : SentSet). other.time ≤ tick → IsReceived sendings other)) (sym tail)
      whole.1) in
      subst (λ (b : Bool). cond b
      (GoodFrom tick (all_come (length one.units) come && (streak || is_entry_state set.state)) left sent
      (drop (length one.units) come)) (streak ≡ true)) (sym test)
      (subst (λ (b : Bool). GoodFrom tick b left sent (drop (length one.units) come))
      (sym (both_true (all_come (length one.units) come) streak (is_entry_state set.state) all begins)) more)
    where
      both_true : (a b c : Bool) → a ≡ true → c ≡ true → (a && (b || c)) ≡ true
      both_true true true true e f = refl
      both_true true false true e f = refl
      both_true true true false e f = absurd (cc)
      both_true true false false e f = absurd (cc)
      both_true false b c e f = absurd (cc)
  good_from streak number plan (set ∷ left) (one ∷ sent) come (first ∷ before) entry after fit many placed normal
      come_now whole =
      let tail : sent_from table (number + 1) left ≡ before ++ entry ∷ after = cc in
      let above =
      at_seam (λ (other : SentSet). set.pts < other.time) before entry after
      (subst (AllByRecursion (λ (other : SentSet). set.pts < other.time)) tail
      (later_times table set.pts (number + 1) left fit.0.above)) in
      let here : set.pts ≤ tick = omega (arith, above, come_now) in
      let test : nat_le set.pts tick ≡ true = grind (arith, nat_tests) in
      let more =
      good_from (all_come (length one.units) come && (streak || is_entry_state set.state)) (number + 1)
      (set ∷ plan) left sent (drop (length one.units) come) before entry after fit.1
      (turned_more_count plan set number many) tail normal come_now whole in
      subst (λ (b : Bool). cond b
      (GoodFrom tick (all_come (length one.units) come && (streak || is_entry_state set.state)) left sent
      (drop (length one.units) come)) (streak ≡ true)) (sym test) more

-- ---- packets that are taken

pub received_sound : (pid : ℕ) (sendings : List Sending)
    → AllByRecursion (λ packet. packet_fault pid packet ≡ None)
    (map (λ (sending : Sending). sending.packet) sendings)
    → AllByRecursion (λ packet. packet_fault pid packet ≡ None) (received_of sendings)
received_sound pid [] h = tt
received_sound pid (one ∷ sendings) h = by one.received (received_sound pid sendings h.1)
  where
    by : (b : Bool) → AllByRecursion (λ packet. packet_fault pid packet ≡ None) (received_of sendings)
        → AllByRecursion (λ packet. packet_fault pid packet ≡ None)
        (map (λ (sending : Sending). sending.packet)
        (cond b (one ∷ filter (λ (sending : Sending). sending.received) sendings)
        (filter (λ (sending : Sending). sending.received) sendings)))
    by true more = (h.0, more)
    by false more = more

none_faulty : (pid : ℕ) (packets : List (List ℕ))
    → AllByRecursion (λ packet. packet_fault pid packet ≡ None) packets
    → list_all (λ packet. is_none (packet_fault pid packet)) packets ≡ true
none_faulty pid [] h = refl
none_faulty pid (packet ∷ packets) h =
    ap (λ found. is_none found && list_all (λ packet. is_none (packet_fault pid packet)) packets) h.0
    ∙ none_faulty pid packets h.1

pub sets_by_flow : (coded pid : ℕ) (pages : Pages) (packets : List (List ℕ))
    → AllByRecursion (λ packet. packet_fault pid packet ≡ None) packets
    → sets_of coded pid pages true packets ≡ sets_in coded true (runs_of (flow coded pid pages [] packets))
unfolding sets_of has_ended arrivals_of
sets_by_flow coded pid pages packets sound =
    ap (λ taken. sets_in coded (true && list_all (λ packet. is_none (packet_fault pid packet)) packets)
    (runs_of (flow coded pid pages [] taken))) (all_taken pid packets sound)
    ∙ ap (λ ended. sets_in coded ended (runs_of (flow coded pid pages [] packets))) (none_faulty pid packets sound)
