-- What the picture of the last kept set shows, drawn or not, with one more set or loss.
use Rattle.std.proofs.Common.{◌≡◌, ◌∙◌, ℕ, ◌≤◌, Bool, true, false, cond, List, [], ◌∷◌, ◌++◌, reverse, Option, Some, None, refl, sym, ap, subst}
use Rattle.std.specs.Prelude.{unwrap_or}
use Rattle.std.specs.Option.{option_or}
use Rattle.sub_base.specs.declared.profile.Profile.{Profile}
use Rattle.decoder_model.specs.Kept.{lifted_behind, lifted_time, last_time}
use Rattle.decoder_model.specs.Faults.{contents_in}
use Rattle.decoder_model.specs.Readings.{AreDeliveriesRead, IsDeliveryRead, Content, Reading}
use Rattle.decoder_model.specs.Received.{Reception}
use Rattle.decoder_model.specs.Sets.{Delivery, lost, whole, refused}
use Rattle.decoder_model.specs.Shown.{Standing, is_over_at, nothing, plane, plane_of, standing_after, standing_with, view_at, view_of}
use Rattle.decoder_model.specs.Verdict.{if_kept, sets_since, verdict_of, verdict_on_kept}
use Rattle.decoder_model.specs.declared.set_end.SetEnd.{SetEnd}
use Rattle.decoder_model.specs.declared.set_end.SetEnd.TheVariants.{Shown, Waiting, Broken, NotLater}
use Rattle.decoder_model.specs.declared.set_fault.SetFault.{SetFault}
use Rattle.decoder_model.proofs.Views.{view_with, view_without}
use Rattle.page_core.specs.Memory.{IsMemoryAfter, Memory}
use Rattle.page_core.specs.Scenes.{ShowsStanding, until_in}
use Rattle.page_core.proofs.Handed.Standings.{WaitsOrShows, waits_or_shows}
use Rattle.set_reader.specs.Collecting.{losses}
use Rattle.set_receiver.specs.Receiving.{HoldsReceived, IsSameReception, SetReceiving}
use Rattle.set_receiver.proofs.TakenSets.{all_lost, are_losses, one_more}
use Rattle.receiver.specs.LastShown.{IsLastShown, IsStillKnown, seen_at}
use Rattle.receiver.specs.Showing.{Slot, plane_in, view_in, view_until}
use Rattle.receiver.proofs.Turns.{clear_unless_shown, shows_nothing, shows_page}

-- ---- whether a set is kept

-- a set that is not later has no lifted time
abbrev IsKeptBy : Option ℕ → SetEnd → Type 0
IsKeptBy lifted Shown = (at : ℕ) × (lifted ≡ Some at)
IsKeptBy lifted Waiting = (at : ℕ) × (lifted ≡ Some at)
IsKeptBy lifted (Broken fault) = (at : ℕ) × (lifted ≡ Some at)
IsKeptBy lifted (NotLater last) = lifted ≡ None

kept_later : (sets : List (List Content)) (set : List Content) (lifted : Option ℕ) (at : ℕ) (end : SetEnd)
    → WaitsOrShows sets set end → lifted ≡ Some at → IsKeptBy lifted end
kept_later sets set lifted at Shown is later = (at, later)
kept_later sets set lifted at Waiting is later = (at, later)
kept_later sets set lifted at (Broken fault) is later = (at, later)
kept_later sets set lifted at (NotLater last) is later = absurd is

kept_whole : (profile : Profile) (sets : List (List Content)) (readings : List Reading) (lifted last : Option ℕ)
    → IsKeptBy lifted (if_kept lifted last (verdict_on_kept profile sets readings))
kept_whole profile sets readings None last = refl
kept_whole profile sets readings (Some at) last =
    kept_later sets (contents_in readings) (Some at) at (verdict_on_kept profile sets readings)
    (waits_or_shows profile sets readings) refl

kept_refused : (fault : SetFault) (lifted last : Option ℕ) → IsKeptBy lifted (if_kept lifted last (Broken fault))
kept_refused fault None last = refl
kept_refused fault (Some at) last = (at, refl)

-- by its verdict
kept_by : (profile : Profile) (anchor : ℕ) (past : List (Delivery Reading)) (one : Delivery Reading) (end : SetEnd)
    → Some end ≡ verdict_of profile anchor past one → IsKeptBy (lifted_time anchor past one) end
kept_by profile anchor past lost end answer = absurd (cc)
kept_by profile anchor past (whole pts size readings) end answer =
    let lifted = lifted_behind anchor (last_time anchor past) pts in
    let sets = sets_since profile anchor past in
    let same : if_kept lifted (last_time anchor past) (verdict_on_kept profile sets readings) ≡ end = cc in
    subst (IsKeptBy lifted) same (kept_whole profile sets readings lifted (last_time anchor past))
kept_by profile anchor past (refused pts size fault) end answer =
    let lifted = lifted_behind anchor (last_time anchor past) pts in
    let same : if_kept lifted (last_time anchor past) (Broken fault) ≡ end = cc in
    subst (IsKeptBy lifted) same (kept_refused fault lifted (last_time anchor past))

-- ---- before the first set

-- nothing is shown
pub last_nothing : (profile : Profile) (anchor : ℕ) (picture : Slot) (drawn : Bool) → picture.plane ≡ None
    → IsLastShown profile anchor [] picture drawn
unfolding view_at standing_after
last_nothing profile anchor picture drawn none = record { shows = λ tick from. by tick drawn }
  where
    by : (tick : ℕ) (drawn : Bool) → seen_at picture drawn None tick ≡ nothing
    by tick true = ap (view_until picture.until tick) none
    by tick false = refl

-- ---- what is not kept

module _ (profile : Profile) (anchor : ℕ) (past : List (Delivery Reading)) (one : Delivery Reading)
    (picture : Slot) (drawn : Bool) where
  last_same : lifted_time anchor past one ≡ None → last_time anchor (one ∷ past) ≡ last_time anchor past
  unfolding last_time
  last_same late = ap (λ (found : Option ℕ). option_or found (last_time anchor past)) late

  -- it changes nothing that is shown, where what is seen stays
  last_on : lifted_time anchor past one ≡ None
      → ((tick : ℕ) → seen_at picture drawn (standing_after profile anchor (one ∷ past)) tick
      ≡ seen_at picture drawn (standing_after profile anchor past) tick)
      → IsLastShown profile anchor past picture drawn → IsLastShown profile anchor (one ∷ past) picture drawn
  last_on late seen is = record {
    shows = λ tick from.
        seen tick
        ∙ is.shows tick
        (subst (λ (last : Option ℕ). unwrap_or last 0 ≤ tick) (last_same late) from)
        ∙ sym (view_without profile anchor tick past one late);
  }

  -- a picture that is drawn stays
  pub last_drawn : drawn ≡ true → lifted_time anchor past one ≡ None
      → IsLastShown profile anchor past picture drawn → IsLastShown profile anchor (one ∷ past) picture drawn
  last_drawn is_drawn late is =
      last_on late
      (λ tick. ap (λ (b : Bool). seen_at picture b (standing_after profile anchor (one ∷ past)) tick) is_drawn
      ∙ ap (λ (b : Bool). seen_at picture b (standing_after profile anchor past) tick) (sym is_drawn)) is

  -- and so does the page that stands, behind a set that is not later
  standing_same : (last : ℕ) → lifted_time anchor past one ≡ None
      → Some (NotLater last) ≡ verdict_of profile anchor past one
      → standing_after profile anchor (one ∷ past) ≡ standing_after profile anchor past
  unfolding standing_after
  standing_same last late answer =
      ap (λ (lifted : Option ℕ). standing_with (sets_since profile anchor past) lifted one
      (verdict_of profile anchor past one) (standing_after profile anchor past)) late
      ∙ ap (λ (verdict : Option SetEnd). standing_with (sets_since profile anchor past) None one verdict
      (standing_after profile anchor past)) (sym answer)

  pub last_not_later : (last : ℕ) → Some (NotLater last) ≡ verdict_of profile anchor past one
      → IsLastShown profile anchor past picture drawn → IsLastShown profile anchor (one ∷ past) picture drawn
  last_not_later last answer =
      let late : lifted_time anchor past one ≡ None = kept_by profile anchor past one (NotLater last) answer in
      last_on late (λ tick. ap (λ (standing : Option Standing). seen_at picture drawn standing tick)
      (standing_same last late answer))

-- ---- a kept set

-- from its time on, what is seen is what is shown
module _ (profile : Profile) (anchor at : ℕ) (past : List (Delivery Reading)) (one : Delivery Reading)
    (lifted : lifted_time anchor past one ≡ Some at) (picture : Slot) where
  kept_last : last_time anchor (one ∷ past) ≡ Some at
  unfolding last_time
  kept_last = ap (λ (found : Option ℕ). option_or found (last_time anchor past)) lifted

  last_turned : (drawn : Bool)
      → ((tick : ℕ) → seen_at picture drawn (standing_after profile anchor (one ∷ past)) tick
      ≡ view_of tick (standing_after profile anchor (one ∷ past)))
      → IsLastShown profile anchor (one ∷ past) picture drawn
  last_turned drawn seen = record {
    shows = λ tick from.
        seen tick
        ∙ sym (view_with profile anchor tick at past one lifted
        (subst (λ (last : Option ℕ). unwrap_or last 0 ≤ tick) kept_last from));
  }

  -- it is yet to be drawn
  pub last_undrawn : (drawn : Bool) → drawn ≡ false → IsLastShown profile anchor (one ∷ past) picture drawn
  last_undrawn drawn not =
      last_turned drawn
      (λ tick. ap (λ (b : Bool). seen_at picture b (standing_after profile anchor (one ∷ past)) tick) not)

  -- or nothing is shown
  pub last_clear : (drawn : Bool) → drawn ≡ true → picture.plane ≡ None
      → standing_after profile anchor (one ∷ past) ≡ None → IsLastShown profile anchor (one ∷ past) picture drawn
  last_clear drawn is_drawn none stands =
      last_turned drawn
      (λ tick. ap (λ (b : Bool). seen_at picture b (standing_after profile anchor (one ∷ past)) tick) is_drawn
      ∙ shows_nothing picture profile anchor (one ∷ past) none stands tick)

-- a set that is shown is yet to be drawn
pub last_of_shown : (profile : Profile) (anchor : ℕ) (past : List (Delivery Reading)) (one : Delivery Reading)
    (picture : Slot) (drawn : Bool) → Some Shown ≡ verdict_of profile anchor past one → drawn ≡ false
    → IsLastShown profile anchor (one ∷ past) picture drawn
last_of_shown profile anchor past one picture drawn answer not =
    let kept = kept_by profile anchor past one Shown answer in
    last_undrawn profile anchor kept.0 past one kept.1 picture drawn not

-- of one that waits, or is broken, nothing is
pub last_of_waiting : (profile : Profile) (anchor : ℕ) (past : List (Delivery Reading)) (one : Delivery Reading)
    (picture : Slot) (drawn : Bool) → Some Waiting ≡ verdict_of profile anchor past one → drawn ≡ true
    → picture.plane ≡ None → IsLastShown profile anchor (one ∷ past) picture drawn
last_of_waiting profile anchor past one picture drawn answer is none =
    let kept = kept_by profile anchor past one Waiting answer in
    last_clear profile anchor kept.0 past one kept.1 picture drawn is none
    (clear_unless_shown profile anchor kept.0 past one Waiting kept.1 answer (λ other. absurd (cc)))

pub last_of_broken : (profile : Profile) (anchor : ℕ) (past : List (Delivery Reading)) (one : Delivery Reading)
    (fault : SetFault) (picture : Slot) (drawn : Bool) → Some (Broken fault) ≡ verdict_of profile anchor past one
    → drawn ≡ true → picture.plane ≡ None → IsLastShown profile anchor (one ∷ past) picture drawn
last_of_broken profile anchor past one fault picture drawn answer is none =
    let kept = kept_by profile anchor past one (Broken fault) answer in
    last_clear profile anchor kept.0 past one kept.1 picture drawn is none
    (clear_unless_shown profile anchor kept.0 past one (Broken fault) kept.1 answer (λ other. absurd (cc)))

-- ---- it is drawn

-- what is drawn of the page memory is what its page shows
pub last_shown : (memory : Memory) (past : List (Delivery Reading)) (standing : Standing) (before now : Slot)
    (was is : Bool)
    → was ≡ false → is ≡ true → now.until ≡ until_in memory → now.plane ≡ Some (plane_in memory)
    → standing_after memory.profile memory.anchor past ≡ Some standing → ShowsStanding standing memory
    → IsLastShown memory.profile memory.anchor past before was
    → IsLastShown memory.profile memory.anchor past now is
last_shown memory past standing before now was is was_not is_now until picture stands shows last = record {
  shows = λ tick from.
      ap (λ (b : Bool). seen_at now b (standing_after memory.profile memory.anchor past) tick) is_now
      ∙ shows_page now memory past standing until picture stands shows tick
      ∙ sym (ap (λ (b : Bool). seen_at before b (standing_after memory.profile memory.anchor past) tick) was_not)
      ∙ last.shows tick from;
}

-- where it is drawn, it is what is shown
pub drawn_shows : (profile : Profile) (anchor tick : ℕ) (past : List (Delivery Reading)) (picture : Slot)
    (drawn : Bool) → drawn ≡ true → IsLastShown profile anchor past picture drawn
    → unwrap_or (last_time anchor past) 0 ≤ tick → view_in picture tick ≡ view_at profile anchor tick past
drawn_shows profile anchor tick past picture drawn is last from =
    sym (ap (λ (b : Bool). seen_at picture b (standing_after profile anchor past) tick) is) ∙ last.shows tick from

-- and where it is not drawn and the page is timed out, nothing is
pub over_shows : (memory : Memory) (tick : ℕ) (past : List (Delivery Reading)) (standing : Standing)
    (picture : Slot) (drawn : Bool) → drawn ≡ false → picture.plane ≡ None
    → is_over_at tick (until_in memory) ≡ true
    → standing_after memory.profile memory.anchor past ≡ Some standing → ShowsStanding standing memory
    → IsLastShown memory.profile memory.anchor past picture drawn
    → unwrap_or (last_time memory.anchor past) 0 ≤ tick
    → view_in picture tick ≡ view_at memory.profile memory.anchor tick past
over_shows memory tick past standing picture drawn not none over stands shows last from =
    ap (view_until picture.until tick) none
    ∙ sym (ap (λ (b : Bool). cond b nothing (plane (plane_of standing.scene)))
    (ap (is_over_at tick) (sym shows.until) ∙ over))
    ∙ sym (ap (view_of tick) stands)
    ∙ sym (ap (λ (b : Bool). seen_at picture b (standing_after memory.profile memory.anchor past) tick) not)
    ∙ last.shows tick from

-- ---- sets that are taken

-- with a set of that end this picture becomes that one
abbrev pub LastTurnsTo : SetEnd → Slot → Bool → Slot → Bool → Type 0
LastTurnsTo end before was picture drawn = (profile : Profile) (anchor : ℕ) (past : List (Delivery Reading))
    (one : Delivery Reading) → Some end ≡ verdict_of profile anchor past one
    → IsLastShown profile anchor past before was → IsLastShown profile anchor (one ∷ past) picture drawn

-- so it is that after it
pub taken_last : (old new : SetReceiving) (given : List (Delivery (List ℕ))) (delivery : Delivery (List ℕ))
    (end : SetEnd) (before picture : Slot) (was drawn : Bool) → IsSameReception old new
    → ((past : List (Delivery Reading)) → AreDeliveriesRead (reverse given) past
    → IsLastShown old.core.profile old.core.anchor past before was)
    → ((past : List (Delivery Reading)) (one : Delivery Reading) → AreDeliveriesRead (reverse given) past
    → IsDeliveryRead delivery one → Some end ≡ verdict_of old.core.profile old.core.anchor past one)
    → LastTurnsTo end before was picture drawn
    → (past : List (Delivery Reading)) → AreDeliveriesRead (reverse (given ++ delivery ∷ [])) past
    → IsLastShown new.core.profile new.core.anchor past picture drawn
taken_last old new given delivery end before picture was drawn same shows answers step =
    one_more (λ past. IsLastShown old.core.profile old.core.anchor past before was)
    (λ past. IsLastShown new.core.profile new.core.anchor past picture drawn) given delivery shows
    (λ past one are read last.
    subst (λ (made : Reception). IsLastShown made.profile made.anchor (one ∷ past) picture drawn) (sym same)
    (step old.core.profile old.core.anchor past one (answers past one are read) last))

-- ---- losses

-- what a page memory shows from the time of the last kept set on, this picture shows as well
abbrev pub LastStays : Slot → Bool → Slot → Bool → Memory → Type 0
LastStays before was picture drawn core = (past : List (Delivery Reading)) → IsMemoryAfter past core
    → IsLastShown core.profile core.anchor past before was → IsLastShown core.profile core.anchor past picture drawn

-- what was drawn before losses stays behind them
pub lost_last : (old new : SetReceiving) (given : List (Delivery (List ℕ))) (count : ℕ) (before picture : Slot)
    (was drawn : Bool) → IsSameReception old new → drawn ≡ true → HoldsReceived given old.core
    → ((past : List (Delivery Reading)) → AreDeliveriesRead (reverse given) past
    → IsLastShown old.core.profile old.core.anchor past before was)
    → LastStays before was picture drawn old.core
    → (past : List (Delivery Reading)) → AreDeliveriesRead (reverse (given ++ losses count)) past
    → IsLastShown new.core.profile new.core.anchor past picture drawn
lost_last old new given count before picture was drawn same is holds shows stays past read =
    subst (λ (made : Reception). IsLastShown made.profile made.anchor past picture drawn) (sym same)
    (all_lost (λ past. IsLastShown old.core.profile old.core.anchor past picture drawn) (losses count) given
    (are_losses count)
    (λ past last. last_drawn old.core.profile old.core.anchor past lost picture drawn is refl last)
    (λ past are. stays past (holds past are) (shows past are)) past read)

-- ---- the page memory

-- it has the page of a picture that is yet to be drawn
pub still_known : (end : SetEnd) (was : Bool) (old new : Memory) → (end ≡ Shown → new.known ≡ true)
    → ((last : ℕ) → end ≡ NotLater last → new ≡ old) → (was ≡ false → old.known ≡ true) → IsStillKnown was end
    → new.known ≡ true
still_known Shown was old new shown late known is = shown refl
still_known Waiting was old new shown late known is = absurd is
still_known (Broken fault) was old new shown late known is = absurd is
still_known (NotLater last) was old new shown late known is =
    ap (λ (memory : Memory). memory.known) (late last refl) ∙ known is
