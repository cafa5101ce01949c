-- The page that stands after a past, and the epoch that is known: both are there, or neither is.
use Rattle.std.proofs.Common.{◌≡◌, ℕ, Bool, true, false, cond, List, [], ◌∷◌, Option, Some, None, option_map, refl, sym, ap, subst}
use Rattle.std.specs.Prelude.{MatchOption}
use Rattle.std.specs.Option.{option_or}
use Rattle.sub_base.specs.Lists.{up_to_first, up_to_last}
use Rattle.sub_base.specs.declared.profile.Profile.{Profile}
use Rattle.stream_syntax.specs.Segments.{Page}
use Rattle.stream_syntax.specs.declared.page.State.TheVariants.{Acquisition, ModeChange}
use Rattle.decoder_model.specs.Contents.{has_state, page_in_set}
use Rattle.decoder_model.specs.Faults.{contents_in, segment_fault, epoch_fault}
use Rattle.decoder_model.specs.Kept.{lifted_behind, last_time, epoch_of}
use Rattle.decoder_model.specs.Readings.{Content, Reading}
use Rattle.decoder_model.specs.Sets.{Delivery, lost, whole, refused}
use Rattle.decoder_model.specs.Shown.{Standing, scene_in, standing_in, standing_with, standing_after}
use Rattle.decoder_model.specs.Verdict.{shown_unless, verdict_in_epoch, verdict_with_page, verdict_on_segments, verdict_on_kept, if_kept, sets_with, sets_since, known_epoch}
use Rattle.decoder_model.specs.declared.set_end.SetEnd.{SetEnd}
use Rattle.decoder_model.specs.declared.set_end.SetEnd.TheVariants.{Shown, Waiting, Broken, NotLater}
use Rattle.decoder_model.specs.declared.set_fault.SetFault.{SetFault}

-- an epoch is known, and this is the page of its last set, at the greatest lifted time
pub record IsKnown (last : Option ℕ) (epoch : Option (List (List Content))) (standing : Standing) : Type 0 where
  pub set : List Content
  pub before : List (List Content)
  pub known : epoch ≡ Some (set ∷ before)
  pub page : page_in_set set ≡ Some standing.page
  pub scene : standing.scene ≡ scene_in (set ∷ before) standing.page
  pub time : last ≡ Some standing.time

abbrev pub AreBoth : Option ℕ → Option (List (List Content)) → Option Standing → Type 0
AreBoth last epoch standing = MatchOption standing (epoch ≡ None) (IsKnown last epoch)

-- ---- the first set of an epoch

-- the last set of an epoch is the last set
epoch_begins : (set : List Content) (sets epoch : List (List Content)) → epoch_of (set ∷ sets) ≡ Some epoch
    → (before : List (List Content)) × (epoch ≡ set ∷ before)
unfolding epoch_of
epoch_begins set sets epoch is =
    either (up_to_first (has_state ModeChange) (set ∷ sets)) (up_to_last (has_state Acquisition) (set ∷ sets))
    (first (has_state ModeChange set)) (last (has_state Acquisition set) (up_to_last (has_state Acquisition) sets)) is
  where
    first : (b : Bool) → (e : List (List Content))
        → cond b (Some (set ∷ []))
        (option_map (λ prefix. set ∷ prefix) (up_to_first (has_state ModeChange) sets)) ≡ Some e
        → (before : List (List Content)) × (e ≡ set ∷ before)
    first true e is = ([], (let same : set ∷ [] ≡ e = cc in sym same))
    first false e is = mapped (up_to_first (has_state ModeChange) sets) e is
      where
        mapped : (found : Option (List (List Content))) (e : List (List Content))
            → option_map (λ prefix. set ∷ prefix) found ≡ Some e → (before : List (List Content))
            × (e ≡ set ∷ before)
        mapped None e is = absurd (cc)
        mapped (Some before) e is = (before, (let same : set ∷ before ≡ e = cc in sym same))

    last : (b : Bool) (found : Option (List (List Content))) (e : List (List Content))
        → option_or (option_map (λ prefix. set ∷ prefix) found) (cond b (Some (set ∷ [])) None) ≡ Some e
        → (before : List (List Content)) × (e ≡ set ∷ before)
    last b (Some before) e is = (before, (let same : set ∷ before ≡ e = cc in sym same))
    last true None e is = ([], (let same : set ∷ [] ≡ e = cc in sym same))
    last false None e is = absurd (cc)

    either : (a b : Option (List (List Content)))
        → ((e : List (List Content)) → a ≡ Some e → (before : List (List Content)) × (e ≡ set ∷ before))
        → ((e : List (List Content)) → b ≡ Some e → (before : List (List Content)) × (e ≡ set ∷ before))
        → option_or a b ≡ Some epoch → (before : List (List Content)) × (epoch ≡ set ∷ before)
    either (Some e) b one other is = one epoch is
    either None b one other is = other epoch is

-- ---- by the verdict on a set

-- a set that waits leaves no epoch known, and one that is shown has a page
abbrev pub WaitsOrShows : List (List Content) → List Content → SetEnd → Type 0
WaitsOrShows sets set Shown = (page : Page) × (page_in_set set ≡ Some page) × (epoch : List (List Content))
    × (epoch_of (set ∷ sets) ≡ Some epoch)
WaitsOrShows sets set Waiting = epoch_of (set ∷ sets) ≡ None
WaitsOrShows sets set (Broken fault) = Unit {0}
WaitsOrShows sets set (NotLater last) = ⊥

by_epoch : (profile : Profile) (sets : List (List Content)) (set : List Content) (page : Page)
    (epoch : Option (List (List Content))) → page_in_set set ≡ Some page → epoch_of (set ∷ sets) ≡ epoch
    → WaitsOrShows sets set (verdict_in_epoch profile page epoch)
by_epoch profile sets set page None is known = known
by_epoch profile sets set page (Some []) is known =
    absurd (let begins = epoch_begins set sets [] known in let e = begins.1 in cc)
by_epoch profile sets set page (Some (other ∷ before)) is known = by (epoch_fault profile before other page)
  where
    by : (fault : Option SetFault) → WaitsOrShows sets set (shown_unless fault)
    by None = (page, is, (other ∷ before), known)
    by (Some fault) = tt

pub waits_or_shows : (profile : Profile) (sets : List (List Content)) (readings : List Reading)
    → WaitsOrShows sets (contents_in readings) (verdict_on_kept profile sets readings)
waits_or_shows profile sets readings = by_fault (segment_fault readings)
  where
    by_page : (page : Option Page) → page_in_set (contents_in readings) ≡ page
        → WaitsOrShows sets (contents_in readings) (verdict_with_page profile sets (contents_in readings) page)
    by_page None is = tt
    by_page (Some page) is =
        by_epoch profile sets (contents_in readings) page (epoch_of (contents_in readings ∷ sets)) is refl

    by_fault : (fault : Option SetFault)
        → WaitsOrShows sets (contents_in readings) (verdict_on_segments profile sets (contents_in readings) fault)
    by_fault (Some fault) = tt
    by_fault None = by_page (page_in_set (contents_in readings)) refl

pub no_epoch : epoch_of [] ≡ None
unfolding epoch_of
no_epoch = refl

-- what stands and what is known with a kept set
kept_both : (sets : List (List Content)) (last : Option ℕ) (time pts size : ℕ) (readings : List Reading)
    (verdict : SetEnd) (before : Option Standing) → last ≡ Some time
    → WaitsOrShows sets (contents_in readings) verdict
    → AreBoth last (epoch_of (sets_with sets (whole pts size readings) (Some verdict)))
    (standing_with sets (Some time) (whole pts size readings) (Some verdict) before)
kept_both sets last time pts size readings Shown before is (page, found, epoch, known) =
    let begins = epoch_begins (contents_in readings) sets epoch known in
    subst (λ (p : Option Page). MatchOption (standing_in time p (epoch_of (contents_in readings ∷ sets)))
    (epoch_of (contents_in readings ∷ sets) ≡ None) (IsKnown last (epoch_of (contents_in readings ∷ sets))))
    (sym found)
    (subst (λ (e : Option (List (List Content))). MatchOption (standing_in time (Some page) e) (e ≡ None)
    (IsKnown last e)) (sym known)
    (record {
      set = contents_in readings;
      before = begins.0;
      known = ap Some begins.1;
      page = found;
      scene = ap (λ (e : List (List Content)). scene_in e page) begins.1;
      time = is;
    }))
kept_both sets last time pts size readings Waiting before is none = none
kept_both sets last time pts size readings (Broken fault) before is none = no_epoch
kept_both sets last time pts size readings (NotLater other) before is none = absurd none

-- ---- over a past

-- after each past both are there, or neither
pub both_known : (profile : Profile) (anchor : ℕ) (past : List (Delivery Reading))
    → AreBoth (last_time anchor past) (known_epoch profile anchor past) (standing_after profile anchor past)
unfolding standing_after sets_since last_time
both_known profile anchor [] = no_epoch
both_known profile anchor (lost ∷ past) = no_epoch
both_known profile anchor (refused pts size fault ∷ past) =
    by (both_known profile anchor past) (lifted_behind anchor (last_time anchor past) pts)
  where
    by : AreBoth (last_time anchor past) (known_epoch profile anchor past) (standing_after profile anchor past)
        → (lifted : Option ℕ)
        → AreBoth (option_or lifted (last_time anchor past))
        (epoch_of
        (sets_with (sets_since profile anchor past) (refused pts size fault)
        (Some (if_kept lifted (last_time anchor past) (Broken fault)))))
        (standing_with (sets_since profile anchor past) lifted (refused pts size fault)
        (Some (if_kept lifted (last_time anchor past) (Broken fault))) (standing_after profile anchor past))
    by rest None = rest
    by rest (Some time) = no_epoch
both_known profile anchor (whole pts size readings ∷ past) =
    by (both_known profile anchor past) (lifted_behind anchor (last_time anchor past) pts)
  where
    by : AreBoth (last_time anchor past) (known_epoch profile anchor past) (standing_after profile anchor past)
        → (lifted : Option ℕ)
        → AreBoth (option_or lifted (last_time anchor past))
        (epoch_of
        (sets_with (sets_since profile anchor past) (whole pts size readings)
        (Some (if_kept lifted (last_time anchor past)
        (verdict_on_kept profile (sets_since profile anchor past) readings)))))
        (standing_with (sets_since profile anchor past) lifted (whole pts size readings)
        (Some (if_kept lifted (last_time anchor past)
        (verdict_on_kept profile (sets_since profile anchor past) readings))) (standing_after profile anchor past))
    by rest None = rest
    by rest (Some time) =
        kept_both (sets_since profile anchor past) (Some time) time pts size readings
        (verdict_on_kept profile (sets_since profile anchor past) readings) (standing_after profile anchor past)
        refl
        (waits_or_shows profile (sets_since profile anchor past) readings)
