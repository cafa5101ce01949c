-- What a receiver's two pictures show with one more set or loss.
use Rattle.std.proofs.Common.{◌≡◌, ◌∙◌, ℕ, ◌<◌, ◌≤◌, Bool, true, false, cond, nat_le, List, [], ◌∷◌, ◌++◌, reverse, Option, Some, None, refl, sym, ap, subst, arith}
use Rattle.std.specs.Prelude.{option_and_then, unwrap_or}
use Rattle.std.specs.Option.{is_some, option_or}
use Rattle.std.proofs.lemmas.Bool.Decides.{nat_tests}
use Rattle.sub_base.specs.declared.profile.Profile.{Profile}
use Rattle.decoder_model.specs.Faults.{contents_in}
use Rattle.decoder_model.specs.Kept.{ahead_of, lifted_behind, lifted_time, last_time, time_of}
use Rattle.decoder_model.specs.Readings.{AreDeliveriesRead, Content, IsDeliveryRead, Reading}
use Rattle.decoder_model.specs.Sets.{Delivery, lost, whole, refused}
use Rattle.decoder_model.specs.Shown.{Plane, Standing, nothing, plane, is_over_at, plane_of, standing_after, standing_with, until_of, view_at, view_of}
use Rattle.decoder_model.specs.Verdict.{if_kept, sets_since, verdict_of, verdict_on_kept}
use Rattle.decoder_model.specs.declared.set_end.SetEnd.{SetEnd}
use Rattle.decoder_model.specs.declared.set_end.SetEnd.TheVariants.{Shown, Waiting, Broken, NotLater}
use Rattle.decoder_model.specs.declared.set_fault.SetFault.{SetFault}
use Rattle.decoder_model.proofs.Later.{lift_above}
use Rattle.decoder_model.proofs.Views.{view_without, view_before, view_with}
use Rattle.decoder_model.specs.Received.{Reception}
use Rattle.page_core.specs.Memory as cores
use Rattle.page_core.specs.Memory.{Memory}
use Rattle.page_core.specs.Scenes.{ShowsStanding, until_in}
use Rattle.page_core.proofs.Handed.Standings.{WaitsOrShows, waits_or_shows}
use Rattle.set_receiver.specs.Receiving.{HoldsReceived, IsSameReception, SetReceiving}
use Rattle.set_receiver.proofs.TakenSets.{one_more, read_more}
use Rattle.receiver.specs.Showing.{ArePictures, Slot, plane_in, time_before_last, view_in, view_until}

-- ---- before the first set

none_handed : (anchor : ℕ) → last_time {S = Reading} anchor [] ≡ None
unfolding last_time
none_handed anchor = refl

-- nothing is shown
pub pictures_nothing : (profile : Profile) (anchor : ℕ) (pending current : Slot)
    → pending ≡ record { time = 0; until = None; plane = None }
    → current ≡ record { time = 0; until = None; plane = None } → ArePictures profile anchor [] pending current
unfolding view_at time_before_last
pictures_nothing profile anchor pending current first other = record {
  order = omega (arith, ap (λ (slot : Slot). slot.time) first, ap (λ (slot : Slot). slot.time) other);
  latest = ap (λ (slot : Slot). slot.time) first ∙ ap (λ last. unwrap_or last 0) (sym (none_handed anchor));
  earlier = ap (λ (slot : Slot). slot.time) other;
  shows = λ tick from. both tick (nat_le pending.time tick);
}
  where
    both : (tick : ℕ) (due : Bool) → cond due (view_in pending tick) (view_in current tick) ≡ nothing
    both tick true = ap (λ (slot : Slot). view_in slot tick) first
    both tick false = ap (λ (slot : Slot). view_in slot tick) other

-- ---- what is not kept

-- where it is not kept, or is a loss, the pictures stay
pub pictures_on : (profile : Profile) (anchor : ℕ) (past : List (Delivery Reading)) (delivery : Delivery Reading)
    (pending current : Slot) → ArePictures profile anchor past pending current
    → lifted_time anchor past delivery ≡ None → ArePictures profile anchor (delivery ∷ past) pending current
unfolding last_time time_before_last
pictures_on profile anchor past delivery pending current are late = record {
  order = are.order;
  latest = are.latest ∙ ap (λ found. unwrap_or (option_or found (last_time anchor past)) 0) (sym late);
  earlier =
      are.earlier
      ∙ ap (λ found. unwrap_or (cond (is_some found) (last_time anchor past) (time_before_last anchor past)) 0)
      (sym late);
  shows = λ tick from. are.shows tick from ∙ sym (view_without profile anchor tick past delivery late);
}

-- ---- a kept set

above : (anchor at : ℕ) (last time : Option ℕ) → option_and_then (lifted_behind anchor last) time ≡ Some at
    → unwrap_or last 0 ≤ at
above anchor at last None is = absurd (cc)
above anchor at None (Some time) is = omega arith
above anchor at (Some last) (Some time) is = (let less = lift_above last (ahead_of last time) at is in omega arith)

-- from its time on it decides what is shown, and before that time the picture that was pending does
pub pictures_turned : (profile : Profile) (anchor : ℕ) (past : List (Delivery Reading)) (delivery : Delivery Reading)
    (at : ℕ) (before after pending current : Slot) → ArePictures profile anchor past before after
    → lifted_time anchor past delivery ≡ Some at → pending.time ≡ at → current ≡ before
    → ((tick : ℕ) → view_in pending tick ≡ view_of tick (standing_after profile anchor (delivery ∷ past)))
    → ArePictures profile anchor (delivery ∷ past) pending current
unfolding last_time time_before_last
pictures_turned profile anchor past delivery at before after pending current are lifted time was shows =
    let last : unwrap_or (last_time anchor past) 0 ≤ at =
    above anchor at (last_time anchor past) (time_of delivery) lifted in
    let order = are.order in
    let latest = are.latest in
    let now : current.time ≡ before.time = ap (λ (slot : Slot). slot.time) was in
    record {
      order = omega (arith, now, time, latest, last);
      latest = time ∙ ap (λ found. unwrap_or (option_or found (last_time anchor past)) 0) (sym lifted);
      earlier =
          now ∙ latest
          ∙ ap (λ found. unwrap_or (cond (is_some found) (last_time anchor past) (time_before_last anchor past)) 0)
          (sym lifted);
      shows = λ tick from. by tick (omega (arith, from, now)) (nat_le at tick) refl;
    }
  where
    early : (tick : ℕ) → before.time ≤ tick → view_in current tick ≡ view_at profile anchor tick past
    early tick from =
        ap (λ (slot : Slot). view_in slot tick) was
        ∙ sym (ap (λ b. cond b (view_in before tick) (view_in after tick))
        (let has : nat_le before.time tick ≡ true = grind (arith, nat_tests) in has))
        ∙ are.shows tick (let order = are.order in omega (arith, from, order))

    by : (tick : ℕ) → before.time ≤ tick → (due : Bool) → nat_le at tick ≡ due
        → cond (nat_le pending.time tick) (view_in pending tick) (view_in current tick)
        ≡ view_at profile anchor tick (delivery ∷ past)
    by tick from true is =
        ap (λ b. cond b (view_in pending tick) (view_in current tick)) (ap (λ n. nat_le n tick) time ∙ is)
        ∙ shows tick
        ∙ sym (view_with profile anchor tick at past delivery lifted
        (let come : at ≤ tick = grind (arith, nat_tests) in come))
    by tick from false is =
        ap (λ b. cond b (view_in pending tick) (view_in current tick)) (ap (λ n. nat_le n tick) time ∙ is)
        ∙ early tick from
        ∙ sym (view_before profile anchor tick at past delivery lifted
        (let sooner : tick < at = grind (arith, nat_tests) in sooner))

-- ---- answers

-- what is no number is none
pub none_given : (found : Option ℕ) → ((at : ℕ) → found ≡ Some at → ⊥) → found ≡ None
none_given None not = refl
none_given (Some at) not = absurd (not at refl)

-- ---- what is seen of it

-- a set that is not shown leaves nothing standing
nothing_stands : (sets : List (List Content)) (at pts size : ℕ) (readings : List Reading) (end : SetEnd)
    (before : Option Standing) → WaitsOrShows sets (contents_in readings) end → (end ≡ Shown → ⊥)
    → standing_with sets (Some at) (whole pts size readings) (Some end) before ≡ None
nothing_stands sets at pts size readings Shown before is other = absurd (other refl)
nothing_stands sets at pts size readings Waiting before is other = refl
nothing_stands sets at pts size readings (Broken fault) before is other = refl
nothing_stands sets at pts size readings (NotLater last) before is other = absurd is

pub clear_where_not_shown : (profile : Profile) (anchor at : ℕ) (past : List (Delivery Reading)) (pts size : ℕ)
    (readings : List Reading) (end : SetEnd) → lifted_time anchor past (whole pts size readings) ≡ Some at
    → Some end ≡ verdict_of profile anchor past (whole pts size readings) → (end ≡ Shown → ⊥)
    → standing_after profile anchor (whole pts size readings ∷ past) ≡ None
unfolding standing_after
clear_where_not_shown profile anchor at past pts size readings end lifted answer other =
    let sets = sets_since profile anchor past in
    let kept : Some (verdict_on_kept profile sets readings) ≡ Some end =
    ap (λ found. Some (if_kept found (last_time anchor past) (verdict_on_kept profile sets readings))) (sym lifted)
    ∙ sym answer in
    let same : verdict_on_kept profile sets readings ≡ end = cc in
    ap (λ found. standing_with sets found (whole pts size readings)
    (verdict_of profile anchor past (whole pts size readings)) (standing_after profile anchor past)) lifted
    ∙ ap (λ verdict. standing_with sets (Some at) (whole pts size readings) verdict
    (standing_after profile anchor past)) (sym answer)
    ∙ nothing_stands sets at pts size readings end (standing_after profile anchor past)
    (subst (WaitsOrShows sets (contents_in readings)) same (waits_or_shows profile sets readings)) other

-- nor does one that was refused
pub clear_where_refused : (profile : Profile) (anchor at : ℕ) (past : List (Delivery Reading)) (pts size : ℕ)
    (fault : SetFault) → lifted_time {S = Reading} anchor past (refused pts size fault) ≡ Some at
    → standing_after profile anchor (refused pts size fault ∷ past) ≡ None
unfolding standing_after
clear_where_refused profile anchor at past pts size fault lifted =
    let sets = sets_since profile anchor past in
    ap (λ found. standing_with sets found (refused pts size fault)
    (verdict_of profile anchor past (refused pts size fault)) (standing_after profile anchor past)) lifted
    ∙ ap (λ found. standing_with sets (Some at) (refused pts size fault)
    (Some (if_kept found (last_time anchor past) (Broken fault))) (standing_after profile anchor past)) lifted

-- so none that is kept and not shown does
pub clear_unless_shown : (profile : Profile) (anchor at : ℕ) (past : List (Delivery Reading)) (one : Delivery Reading)
    (end : SetEnd) → lifted_time anchor past one ≡ Some at → Some end ≡ verdict_of profile anchor past one
    → (end ≡ Shown → ⊥) → standing_after profile anchor (one ∷ past) ≡ None
clear_unless_shown profile anchor at past lost end lifted answer other = absurd (cc)
clear_unless_shown profile anchor at past (whole pts size readings) end lifted answer other =
    clear_where_not_shown profile anchor at past pts size readings end lifted answer other
clear_unless_shown profile anchor at past (refused pts size fault) end lifted answer other =
    clear_where_refused profile anchor at past pts size fault lifted

-- an empty picture is what nothing shows
pub shows_nothing : (slot : Slot) (profile : Profile) (anchor : ℕ) (past : List (Delivery Reading))
    → slot.plane ≡ None → standing_after profile anchor past ≡ None → (tick : ℕ)
    → view_in slot tick ≡ view_of tick (standing_after profile anchor past)
shows_nothing slot profile anchor past none stands tick =
    ap (view_until slot.until tick) none ∙ ap (view_of tick) (sym stands)

-- and the picture of a page memory is what its page shows
pub shows_page : (slot : Slot) (memory : Memory) (past : List (Delivery Reading)) (standing : Standing)
    → slot.until ≡ until_in memory → slot.plane ≡ Some (plane_in memory)
    → standing_after memory.profile memory.anchor past ≡ Some standing → ShowsStanding standing memory → (tick : ℕ)
    → view_in slot tick ≡ view_of tick (standing_after memory.profile memory.anchor past)
shows_page slot memory past standing until is stands shows tick =
    ap (λ found. view_until found tick slot.plane) (until ∙ shows.until)
    ∙ ap (view_until (until_of standing) tick) is
    ∙ ap (λ (shown : Plane). cond (is_over_at tick (until_of standing)) nothing (plane shown)) same
    ∙ ap (view_of tick) (sym stands)
  where
    same : plane_in memory ≡ plane_of standing.scene
    same i = record { width = (shows.display i).width; height = (shows.display i).height; colours = shows.picture i }

-- ---- sets that are taken

-- with a set that a page memory has taken, which has that lifted time and end, these two pictures become those
abbrev pub TurnsTo : Option ℕ → SetEnd → Slot → Slot → Slot → Slot → Memory → Type 0
TurnsTo lifted end before after pending current core = (past : List (Delivery Reading)) (one : Delivery Reading)
    → cores.IsMemoryAfter (one ∷ past) core → lifted ≡ lifted_time core.anchor past one
    → Some end ≡ verdict_of core.profile core.anchor past one
    → ArePictures core.profile core.anchor past before after
    → ArePictures core.profile core.anchor (one ∷ past) pending current

-- so they are those after it
pub taken_shows : (old new : SetReceiving) (given : List (Delivery (List ℕ))) (delivery : Delivery (List ℕ))
    (lifted : Option ℕ) (end : SetEnd) (before after pending current : Slot) → IsSameReception old new
    → ((past : List (Delivery Reading)) → AreDeliveriesRead (reverse given) past
    → ArePictures old.core.profile old.core.anchor past before after)
    → HoldsReceived (given ++ delivery ∷ []) new.core
    → ((past : List (Delivery Reading)) (one : Delivery Reading) → AreDeliveriesRead (reverse given) past
    → IsDeliveryRead delivery one → lifted ≡ lifted_time old.core.anchor past one)
    → ((past : List (Delivery Reading)) (one : Delivery Reading) → AreDeliveriesRead (reverse given) past
    → IsDeliveryRead delivery one → Some end ≡ verdict_of old.core.profile old.core.anchor past one)
    → TurnsTo lifted end before after pending current new.core
    → (past : List (Delivery Reading)) → AreDeliveriesRead (reverse (given ++ delivery ∷ [])) past
    → ArePictures new.core.profile new.core.anchor past pending current
taken_shows old new given delivery lifted end before after pending current same shows holds lifts answers step =
    one_more (λ past. ArePictures old.core.profile old.core.anchor past before after)
    (λ past. ArePictures new.core.profile new.core.anchor past pending current) given delivery shows
    (λ past one are read pictures.
    step past one (holds (one ∷ past) (read_more given delivery past one are read))
    (lifts past one are read ∙ (λ i. lifted_time (sym same i).anchor past one))
    (answers past one are read ∙ (λ i. verdict_of (sym same i).profile (sym same i).anchor past one))
    (subst (λ (made : Reception). ArePictures made.profile made.anchor past before after) (sym same) pictures))
