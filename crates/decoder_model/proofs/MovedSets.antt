-- Sets that two receivers get, the second so many ticks later or earlier than the first: where their epochs are the
-- same they are shown in both, and from their first time on both show the same views.
use Rattle.std.proofs.Common.{◌≡◌, ◌∙◌, ℕ, ◌+◌, ◌*◌, ◌<◌, ◌≤◌, ◌==◌, ◌⊎◌, inl, inr, Bool, true, false, List, [], ◌∷◌, ◌++◌, Option, Some, None, refl, sym, ap, subst, arith}
use Rattle.std.specs.Prelude.{nat_le}
use Rattle.std.specs.Bool.{if◌then◌else◌}
use Rattle.std.proofs.lemmas.Bool.{cases_lt}
use Rattle.std.proofs.lemmas.Bool.Decides.{nat_tests}
use Rattle.sub_base.specs.declared.pace.TheConstants.{SECOND}
use Rattle.sub_base.specs.declared.profile.Profile.{Profile}
use Rattle.stream_syntax.specs.Segments.{Page}
use Rattle.stream_syntax.specs.declared.page.State.TheVariants.{ModeChange}
use Rattle.decoder_model.specs.Contents.{has_state, page_in_set}
use Rattle.decoder_model.specs.Faults.{contents_in, segment_fault}
use Rattle.decoder_model.specs.Kept.{lifted_behind, lifted_time, last_time, epoch_of}
use Rattle.decoder_model.specs.Readings.{Content, Reading}
use Rattle.decoder_model.specs.Sets.{Delivery, lost, whole, refused}
use Rattle.decoder_model.specs.Shown.{nothing, plane, plane_of, scene_in, standing_in, standing_with, standing_after, is_over_at, view_of, view_at}
use Rattle.decoder_model.specs.Verdict.{verdict_in_epoch, verdict_with_page, verdict_on_segments, verdict_on_kept, if_kept, verdict_of, sets_with, sets_since}
use Rattle.decoder_model.specs.declared.set_end.SetEnd.TheVariants.{Shown, Broken}
use Rattle.decoder_model.specs.declared.set_fault.SetFault.{SetFault}
use Rattle.decoder_model.proofs.SameEpochs.{contents_of, contents_of_all, HaveSameEpochs, same_behind_same, same_from_mode_change}
use Rattle.decoder_model.proofs.Views.{view_before, view_with}

-- ---- what is shown

-- each of these sets is shown behind what came before; the latest first
abbrev pub AreShownBehind : Profile → ℕ → List (Delivery Reading) → List (Delivery Reading) → Type 0
AreShownBehind profile anchor before [] = Unit {0}
AreShownBehind profile anchor before (set ∷ sets) =
    (verdict_of profile anchor (sets ++ before) set ≡ Some Shown) × AreShownBehind profile anchor before sets

some_is : {X : Type 0} {a b : X} → Some a ≡ Some b → a ≡ b
some_is e = cc

pub broken_is_not_shown : (fault : SetFault) (lifted last : Option ℕ)
    → Some (if_kept lifted last (Broken fault)) ≡ Some Shown → ⊥
broken_is_not_shown fault None last e = let same = some_is e in absurd (cc)
broken_is_not_shown fault (Some at) last e = let same = some_is e in absurd (cc)

-- a set that is shown is there with the kept ones
pub set_since : (profile : Profile) (anchor : ℕ) (past : List (Delivery Reading)) (set : Delivery Reading)
    → verdict_of profile anchor past set ≡ Some Shown
    → sets_since profile anchor (set ∷ past) ≡ contents_of set ∷ sets_since profile anchor past
unfolding sets_since
set_since profile anchor past lost is = absurd (cc)
set_since profile anchor past (whole time size readings) is =
    ap (sets_with (sets_since profile anchor past) (whole time size readings)) is
set_since profile anchor past (refused time size fault) is =
    absurd (broken_is_not_shown fault (lifted_behind anchor (last_time anchor past) time) (last_time anchor past) is)

-- and so are all of them
pub sets_since_shown : (profile : Profile) (anchor : ℕ) (before sets : List (Delivery Reading))
    → AreShownBehind profile anchor before sets
    → sets_since profile anchor (sets ++ before) ≡ contents_of_all sets ++ sets_since profile anchor before
sets_since_shown profile anchor before [] shown = refl
sets_since_shown profile anchor before (set ∷ sets) shown =
    set_since profile anchor (sets ++ before) set shown.0
    ∙ ap (λ all. contents_of set ∷ all) (sets_since_shown profile anchor before sets shown.1)

-- ---- two receivers

-- a receiver that stands somewhere: its anchor, and what it has got so far, the latest first
pub record Got : Type 0 where
  pub anchor : ℕ
  pub past : List (Delivery Reading)

-- a tick of one receiver, and the tick of another at which the same comes
pub record Shift : Type 0 where
  pub from : ℕ
  pub to : ℕ

-- these two ticks are as far behind, or ahead, as those of the shift
abbrev pub IsSameMoment : Shift → ℕ → ℕ → Type 0
IsSameMoment shift tick other = tick + shift.to ≡ other + shift.from

-- two sets with the same readings, both kept, at the same moment. Their times as they are read and the sizes of their
-- units may differ
pub record IsMovedSet (shift : Shift) (one two : Got) (set moved : Delivery Reading) : Type 0 where
  pub readings : List Reading
  pub time : ℕ
  pub size : ℕ
  pub is : set ≡ whole time size readings
  pub other_time : ℕ
  pub other_size : ℕ
  pub is_too : moved ≡ whole other_time other_size readings
  pub lifted : ℕ
  pub kept : lifted_time one.anchor one.past set ≡ Some lifted
  pub later : ℕ
  pub kept_too : lifted_time two.anchor two.past moved ≡ Some later
  pub same_moment : IsSameMoment shift lifted later

-- what a receiver has got with more sets
abbrev pub with_sets : Got → List (Delivery Reading) → Got
with_sets got sets = record { anchor = got.anchor; past = sets ++ got.past }

-- the second receiver gets the sets that the first one gets, in the same order, each at the same moment; the latest
-- first
abbrev pub AreMoved : Shift → Got → Got → List (Delivery Reading) → List (Delivery Reading) → Type 0
AreMoved shift one two [] [] = Unit {0}
AreMoved shift one two [] (other ∷ moved) = ⊥
AreMoved shift one two (set ∷ sets) [] = ⊥
AreMoved shift one two (set ∷ sets) (other ∷ moved) =
    IsMovedSet shift (with_sets one sets) (with_sets two moved) set other × AreMoved shift one two sets moved

same_contents : (shift : Shift) (one two : Got) (set moved : Delivery Reading) → IsMovedSet shift one two set moved
    → contents_of moved ≡ contents_of set
same_contents shift one two set moved is = ap contents_of is.is_too ∙ sym (ap contents_of is.is)

pub same_contents_of_all : (shift : Shift) (one two : Got) (sets moved : List (Delivery Reading))
    → AreMoved shift one two sets moved → contents_of_all moved ≡ contents_of_all sets
same_contents_of_all shift one two [] [] are = refl
same_contents_of_all shift one two [] (other ∷ moved) are = absurd are
same_contents_of_all shift one two (set ∷ sets) [] are = absurd are
same_contents_of_all shift one two (set ∷ sets) (other ∷ moved) are =
    ap (λ first. first ∷ contents_of_all moved)
    (same_contents shift (with_sets one sets) (with_sets two moved) set other are.0)
    ∙ ap (λ rest. contents_of set ∷ rest) (same_contents_of_all shift one two sets moved are.1)

-- ---- verdicts

same_with_page : (profile : Profile) (sets others : List (List Content)) (set : List Content) (page : Option Page)
    → epoch_of (set ∷ sets) ≡ epoch_of (set ∷ others)
    → verdict_with_page profile sets set page ≡ verdict_with_page profile others set page
same_with_page profile sets others set None same = refl
same_with_page profile sets others set (Some page) same = ap (verdict_in_epoch profile page) same

same_on_segments : (profile : Profile) (sets others : List (List Content)) (set : List Content)
    (fault : Option SetFault) → epoch_of (set ∷ sets) ≡ epoch_of (set ∷ others)
    → verdict_on_segments profile sets set fault ≡ verdict_on_segments profile others set fault
same_on_segments profile sets others set (Some fault) same = refl
same_on_segments profile sets others set None same =
    same_with_page profile sets others set (page_in_set set) same

-- the verdict on a kept set, by those before it
kept_verdict : (profile : Profile) (anchor lifted : ℕ) (past : List (Delivery Reading)) (time size : ℕ)
    (readings : List Reading) → lifted_time anchor past (whole time size readings) ≡ Some lifted
    → verdict_of profile anchor past (whole time size readings)
    ≡ Some (verdict_on_kept profile (sets_since profile anchor past) readings)
kept_verdict profile anchor lifted past time size readings kept =
    ap (λ found. Some
    (if_kept found (last_time anchor past) (verdict_on_kept profile (sets_since profile anchor past) readings))) kept

-- where the epoch is the same, a moved set is shown where the first one is
shown_too : (profile : Profile) (shift : Shift) (one two : Got) (set moved : Delivery Reading)
    → IsMovedSet shift one two set moved
    → epoch_of (contents_of set ∷ sets_since profile one.anchor one.past)
    ≡ epoch_of (contents_of set ∷ sets_since profile two.anchor two.past)
    → verdict_of profile one.anchor one.past set ≡ Some Shown
    → verdict_of profile two.anchor two.past moved ≡ Some Shown
shown_too profile shift one two set moved is same shown =
    ap (verdict_of profile two.anchor two.past) is.is_too
    ∙ kept_verdict profile two.anchor is.later two.past is.other_time is.other_size is.readings
    (ap (lifted_time two.anchor two.past) (sym is.is_too) ∙ is.kept_too)
    ∙ ap (λ verdict. Some verdict)
    (same_on_segments profile (sets_since profile two.anchor two.past) (sets_since profile one.anchor one.past)
    (contents_in is.readings) (segment_fault is.readings) (sym epochs))
    ∙ sym (kept_verdict profile one.anchor is.lifted one.past is.time is.size is.readings
    (ap (lifted_time one.anchor one.past) (sym is.is) ∙ is.kept))
    ∙ ap (verdict_of profile one.anchor one.past) (sym is.is)
    ∙ shown
  where
    epochs : epoch_of (contents_in is.readings ∷ sets_since profile one.anchor one.past)
        ≡ epoch_of (contents_in is.readings ∷ sets_since profile two.anchor two.past)
    epochs =
        subst (λ contents. epoch_of (contents ∷ sets_since profile one.anchor one.past)
        ≡ epoch_of (contents ∷ sets_since profile two.anchor two.past)) (ap contents_of is.is) same

-- what two receivers have got before: the epochs of the sets behind it are the same in both
abbrev pub GiveSameEpochs : Profile → Got → Got → List (Delivery Reading) → Type 0
GiveSameEpochs profile one two sets =
    HaveSameEpochs (sets_since profile one.anchor one.past) (sets_since profile two.anchor two.past) sets

-- the epoch of a set behind others in both receivers, from that behind the contents
epoch_too : (profile : Profile) (shift : Shift) (one two : Got) (set : Delivery Reading)
    (sets moved : List (Delivery Reading)) → AreMoved shift one two sets moved
    → AreShownBehind profile one.anchor one.past sets → AreShownBehind profile two.anchor two.past moved
    → GiveSameEpochs profile one two (set ∷ sets)
    → epoch_of (contents_of set ∷ sets_since profile one.anchor (sets ++ one.past))
    ≡ epoch_of (contents_of set ∷ sets_since profile two.anchor (moved ++ two.past))
epoch_too profile shift one two set sets moved are shown shown_moved same =
    ap (λ all. epoch_of (contents_of set ∷ all)) (sets_since_shown profile one.anchor one.past sets shown)
    ∙ same.0
    ∙ sym (ap (λ all. epoch_of (contents_of set ∷ all))
    (sets_since_shown profile two.anchor two.past moved shown_moved
    ∙ ap (λ all. all ++ sets_since profile two.anchor two.past) (same_contents_of_all shift one two sets moved are)))

-- all of them are
pub moved_are_shown : (profile : Profile) (shift : Shift) (one two : Got) (sets moved : List (Delivery Reading))
    → AreMoved shift one two sets moved → GiveSameEpochs profile one two sets
    → AreShownBehind profile one.anchor one.past sets → AreShownBehind profile two.anchor two.past moved
moved_are_shown profile shift one two [] [] are same shown = tt
moved_are_shown profile shift one two [] (other ∷ moved) are same shown = absurd are
moved_are_shown profile shift one two (set ∷ sets) [] are same shown = absurd are
moved_are_shown profile shift one two (set ∷ sets) (other ∷ moved) are same shown =
    let rest = moved_are_shown profile shift one two sets moved are.1 same.1 shown.1 in (
      shown_too profile shift (with_sets one sets) (with_sets two moved) set other are.0
          (epoch_too profile shift one two set sets moved are.1 shown.1 rest same) shown.0,
      rest,
    )

-- ---- views

-- what stands with a set that is shown
stands_with : (profile : Profile) (anchor lifted : ℕ) (past : List (Delivery Reading)) (time size : ℕ)
    (readings : List Reading) → lifted_time anchor past (whole time size readings) ≡ Some lifted
    → verdict_of profile anchor past (whole time size readings) ≡ Some Shown
    → standing_after profile anchor (whole time size readings ∷ past)
    ≡ standing_in lifted (page_in_set (contents_in readings))
    (epoch_of (contents_in readings ∷ sets_since profile anchor past))
unfolding standing_after
stands_with profile anchor lifted past time size readings kept shown =
    ap (λ found. standing_with (sets_since profile anchor past) found (whole time size readings)
    (verdict_of profile anchor past (whole time size readings)) (standing_after profile anchor past)) kept
    ∙ ap (λ verdict. standing_with (sets_since profile anchor past) (Some lifted) (whole time size readings) verdict
    (standing_after profile anchor past)) shown

-- a page is timed out at the same moment
over_too : (shift : Shift) (lifted later tick other time_out : ℕ) → IsSameMoment shift lifted later
    → IsSameMoment shift tick other
    → is_over_at other (if time_out == 0 then None else Some (later + SECOND * time_out))
    ≡ is_over_at tick (if time_out == 0 then None else Some (lifted + SECOND * time_out))
over_too shift lifted later tick other time_out same now = by (time_out == 0)
  where
    ends : nat_le (later + SECOND * time_out) other ≡ nat_le (lifted + SECOND * time_out) tick
    ends = grind (arith, nat_tests)

    by : (never : Bool)
        → is_over_at other (if never then None else Some (later + SECOND * time_out))
        ≡ is_over_at tick (if never then None else Some (lifted + SECOND * time_out))
    by true = refl
    by false = ends

-- and is seen as the same picture until then
view_too : (shift : Shift) (lifted later tick other : ℕ) (page : Option Page) (epoch : Option (List (List Content)))
    → IsSameMoment shift lifted later → IsSameMoment shift tick other
    → view_of other (standing_in later page epoch) ≡ view_of tick (standing_in lifted page epoch)
view_too shift lifted later tick other None epoch same now = refl
view_too shift lifted later tick other (Some page) None same now = refl
view_too shift lifted later tick other (Some page) (Some epoch) same now =
    ap (λ over. if over then nothing else plane (plane_of (scene_in epoch page)))
    (over_too shift lifted later tick other page.time_out same now)

-- a moved set's view is that of the first one, at the same moment
seen_too : (profile : Profile) (shift : Shift) (one two : Got) (set moved : Delivery Reading) (tick other : ℕ)
    → (is : IsMovedSet shift one two set moved) → IsSameMoment shift tick other
    → epoch_of (contents_of set ∷ sets_since profile one.anchor one.past)
    ≡ epoch_of (contents_of set ∷ sets_since profile two.anchor two.past)
    → verdict_of profile one.anchor one.past set ≡ Some Shown
    → verdict_of profile two.anchor two.past moved ≡ Some Shown
    → view_of other (standing_after profile two.anchor (moved ∷ two.past))
    ≡ view_of tick (standing_after profile one.anchor (set ∷ one.past))
seen_too profile shift one two set moved tick other is now same shown shown_moved =
    ap (λ last. view_of other (standing_after profile two.anchor (last ∷ two.past))) is.is_too
    ∙ ap (view_of other)
    (stands_with profile two.anchor is.later two.past is.other_time is.other_size is.readings
    (ap (lifted_time two.anchor two.past) (sym is.is_too) ∙ is.kept_too)
    (ap (verdict_of profile two.anchor two.past) (sym is.is_too) ∙ shown_moved))
    ∙ ap (λ epoch. view_of other (standing_in is.later (page_in_set (contents_in is.readings)) epoch))
    (sym epochs)
    ∙ view_too shift is.lifted is.later tick other (page_in_set (contents_in is.readings))
    (epoch_of (contents_in is.readings ∷ sets_since profile one.anchor one.past)) is.same_moment now
    ∙ sym (ap (view_of tick)
    (stands_with profile one.anchor is.lifted one.past is.time is.size is.readings
    (ap (lifted_time one.anchor one.past) (sym is.is) ∙ is.kept)
    (ap (verdict_of profile one.anchor one.past) (sym is.is) ∙ shown)))
    ∙ ap (λ last. view_of tick (standing_after profile one.anchor (last ∷ one.past))) (sym is.is)
  where
    epochs : epoch_of (contents_in is.readings ∷ sets_since profile one.anchor one.past)
        ≡ epoch_of (contents_in is.readings ∷ sets_since profile two.anchor two.past)
    epochs =
        subst (λ contents. epoch_of (contents ∷ sets_since profile one.anchor one.past)
        ≡ epoch_of (contents ∷ sets_since profile two.anchor two.past)) (ap contents_of is.is) same

-- with one set more: its own view where its time has come, and else that before it
view_step : (profile : Profile) (shift : Shift) (one two : Got) (set moved : Delivery Reading) (tick other : ℕ)
    → (is : IsMovedSet shift one two set moved) → IsSameMoment shift tick other
    → epoch_of (contents_of set ∷ sets_since profile one.anchor one.past)
    ≡ epoch_of (contents_of set ∷ sets_since profile two.anchor two.past)
    → verdict_of profile one.anchor one.past set ≡ Some Shown
    → verdict_of profile two.anchor two.past moved ≡ Some Shown
    → (tick < is.lifted → view_at profile two.anchor other two.past ≡ view_at profile one.anchor tick one.past)
    → view_at profile two.anchor other (moved ∷ two.past) ≡ view_at profile one.anchor tick (set ∷ one.past)
view_step profile shift one two set moved tick other is now same shown shown_moved before =
    by (cases_lt tick is.lifted)
  where
    moment : IsSameMoment shift is.lifted is.later
    moment = is.same_moment

    by : (tick < is.lifted) ⊎ (is.lifted ≤ tick)
        → view_at profile two.anchor other (moved ∷ two.past) ≡ view_at profile one.anchor tick (set ∷ one.past)
    by (inl early) =
        view_before profile two.anchor other is.later two.past moved is.kept_too (omega (arith, moment, now))
        ∙ before early
        ∙ sym (view_before profile one.anchor tick is.lifted one.past set is.kept early)
    by (inr come) =
        view_with profile two.anchor other is.later two.past moved is.kept_too (omega (arith, moment, now))
        ∙ seen_too profile shift one two set moved tick other is now same shown shown_moved
        ∙ sym (view_with profile one.anchor tick is.lifted one.past set is.kept come)

-- where both receivers show the same before the sets, they do with them
pub same_views : (profile : Profile) (shift : Shift) (one two : Got) (sets moved : List (Delivery Reading))
    (tick other : ℕ) → AreMoved shift one two sets moved → GiveSameEpochs profile one two sets
    → AreShownBehind profile one.anchor one.past sets → IsSameMoment shift tick other
    → view_at profile two.anchor other two.past ≡ view_at profile one.anchor tick one.past
    → view_at profile two.anchor other (moved ++ two.past) ≡ view_at profile one.anchor tick (sets ++ one.past)
same_views profile shift one two [] [] tick other are same shown now before = before
same_views profile shift one two [] (next ∷ moved) tick other are same shown now before = absurd are
same_views profile shift one two (set ∷ sets) [] tick other are same shown now before = absurd are
same_views profile shift one two (set ∷ sets) (next ∷ moved) tick other are same shown now before =
    let shown_moved = moved_are_shown profile shift one two (set ∷ sets) (next ∷ moved) are same shown in
    view_step profile shift (with_sets one sets) (with_sets two moved) set next tick other are.0 now
    (epoch_too profile shift one two set sets moved are.1 shown.1 shown_moved.1 same) shown.0 shown_moved.0
    (λ early. same_views profile shift one two sets moved tick other are.1 same.1 shown.1 now before)

-- ---- behind another stream

-- sets that begin with a mode change are shown behind whatever came before, where they are shown by themselves, and
-- each at the same moment
pub moved_is_shown : (profile : Profile) (shift : Shift) (one two : Got) (later moved : List (Delivery Reading))
    (first : Delivery Reading) → AreMoved shift one two (later ++ first ∷ []) moved
    → has_state ModeChange (contents_of first) ≡ true
    → AreShownBehind profile one.anchor one.past (later ++ first ∷ [])
    → AreShownBehind profile two.anchor two.past moved
moved_is_shown profile shift one two later moved first are begins shown =
    moved_are_shown profile shift one two (later ++ first ∷ []) moved are
    (same_from_mode_change (sets_since profile one.anchor one.past) (sets_since profile two.anchor two.past) later
    first begins) shown

-- what came before is not seen from the first time of these sets on: their views are the same, at the same moments
pub moved_view : (profile : Profile) (shift : Shift) (one two : Got) (later moved : List (Delivery Reading))
    (first : Delivery Reading) (begin tick other : ℕ) → AreMoved shift one two (later ++ first ∷ []) moved
    → has_state ModeChange (contents_of first) ≡ true
    → AreShownBehind profile one.anchor one.past (later ++ first ∷ [])
    → lifted_time one.anchor one.past first ≡ Some begin → begin ≤ tick → IsSameMoment shift tick other
    → view_at profile two.anchor other (moved ++ two.past)
    ≡ view_at profile one.anchor tick ((later ++ first ∷ []) ++ one.past)
moved_view profile shift one two [] [] first begin tick other are begins shown is_begin come now = absurd are
moved_view profile shift one two [] (next ∷ []) first begin tick other are begins shown is_begin come now =
    let same = same_from_mode_change (sets_since profile one.anchor one.past)
    (sets_since profile two.anchor two.past) [] first begins in
    let shown_moved = moved_are_shown profile shift one two (first ∷ []) (next ∷ []) are same shown in
    let there : are.0.lifted ≡ begin = some_is (sym are.0.kept ∙ is_begin) in
    view_step profile shift one two first next tick other are.0 now
    (epoch_too profile shift one two first [] [] tt tt tt same) shown.0 shown_moved.0
    (λ early. absurd (omega (arith, early, there, come)))
moved_view profile shift one two [] (next ∷ more ∷ moved) first begin tick other are begins shown is_begin come now =
    absurd are.1
moved_view profile shift one two (set ∷ later) [] first begin tick other are begins shown is_begin come now = absurd are
moved_view profile shift one two (set ∷ later) (next ∷ moved) first begin tick other are begins shown is_begin come
    now =
    let sets = later ++ first ∷ [] in
    let same = same_from_mode_change (sets_since profile one.anchor one.past)
    (sets_since profile two.anchor two.past) (set ∷ later) first begins in
    let shown_moved = moved_are_shown profile shift one two (set ∷ sets) (next ∷ moved) are same shown in
    view_step profile shift (with_sets one sets) (with_sets two moved) set next tick other are.0 now
    (epoch_too profile shift one two set sets moved are.1 shown.1 shown_moved.1 same) shown.0 shown_moved.0
    (λ early. moved_view profile shift one two later moved first begin tick other are.1 begins shown.1 is_begin come
    now)

-- the same sets at the same times, in two receivers that had got nothing: they show the same
pub same_alone : (profile : Profile) (anchor other_anchor : ℕ) (sets others : List (Delivery Reading)) (tick : ℕ)
    → AreMoved (record { from = 0; to = 0 }) (record { anchor = anchor; past = [] })
    (record { anchor = other_anchor; past = [] }) sets others
    → AreShownBehind profile anchor [] sets
    → view_at profile other_anchor tick (others ++ []) ≡ view_at profile anchor tick (sets ++ [])
unfolding sets_since view_at
same_alone profile anchor other_anchor sets others tick are shown =
    same_views profile (record { from = 0; to = 0 }) (record { anchor = anchor; past = [] })
    (record { anchor = other_anchor; past = [] }) sets others tick tick are (same_behind_same [] [] sets refl) shown
    refl
    refl
