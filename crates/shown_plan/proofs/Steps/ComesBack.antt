-- A region that was left empty and has cues again is drawn anew by whatever set shows it, with a version that every
-- receiver takes, whatever it has in the region.
use Rattle.std.proofs.Common.{◌≡◌, ◌≢◌, ◌∙◌, ℕ, ◌+◌, ◌%◌, Bool, true, false, not, ◌&&◌, cond, eqb, List, [], ◌∷◌, Some, refl, ap, arith}
use Rattle.std.proofs.lemmas.Bool.Decides.{nat_tests}
use Rattle.cue_list.specs.declared.epoch.Cue.{Cue}
use Rattle.cue_list.specs.declared.epoch.Epoch.{Epoch}
use Rattle.cue_records.specs.declared.region.Region.{Region}
use Rattle.page_epoch.proofs.RegionLaws.{version-more}
use Rattle.page_epoch.specs.Live.{live_places}
use Rattle.page_epoch.specs.SentRegions.{is_redrawn, region_version, filled, region_from, sent_region}
use Rattle.decoder_model.specs.Taken.{Taken, has_new_version, version_of_region as known_version}
use Rattle.shown_plan.specs.HiddenRegions.{IsDrawnAnew}
use Rattle.shown_plan.specs.HoldsScript.{IsKnownRegion}
use Rattle.sub_base.specs.Lists.{has_some}

-- the next listing of a region that had no live cue comes with a fill and all live cues, and with the next version
pub comes_back : (cues : List Cue) (whole : Bool) (id tick before : ℕ) (earlier : List ℕ)
    → live_places cues id before ≡ [] → has_some (live_places cues id tick) ≡ true
    → sent_region cues whole (tick ∷ before ∷ earlier) id
    ≡ filled id ((region_version cues id (before ∷ earlier) + 1) % 16) (live_places cues id tick) ∷ []
comes_back cues whole id tick before earlier empty some =
    ap (λ (old : List ℕ). region_from id (region_version cues id (tick ∷ before ∷ earlier)) whole old
    (live_places cues id tick)) empty
    ∙ by whole (live_places cues id tick) some
    ∙ ap (λ (version : ℕ). filled id version (live_places cues id tick) ∷ [])
    (version-more cues id tick (before ∷ earlier) ∙ next (live_places cues id tick) some)
  where
    by : (w : Bool) (new : List ℕ) → has_some new ≡ true
        → region_from id (region_version cues id (tick ∷ before ∷ earlier)) w [] new
        ≡ filled id (region_version cues id (tick ∷ before ∷ earlier)) new ∷ []
    by true new has = refl
    by false [] has = absurd (let no : false ≡ true = has in cc)
    by false (place ∷ new) has = refl

    next : (new : List ℕ) → has_some new ≡ true
        → cond (not false && is_redrawn (live_places cues id before) new)
        ((region_version cues id (before ∷ earlier) + 1) % 16) (region_version cues id (before ∷ earlier))
        ≡ (region_version cues id (before ∷ earlier) + 1) % 16
    next [] has = absurd (let no : false ≡ true = has in cc)
    next (place ∷ new) has =
        ap (λ (old : List ℕ). cond (not false && is_redrawn old (place ∷ new))
        ((region_version cues id (before ∷ earlier) + 1) % 16) (region_version cues id (before ∷ earlier))) empty

next_version_differs : (version : ℕ) → has_new_version ((version + 1) % 16) (Some version) ≡ true
next_version_differs version =
    let differ : version ≢ (version + 1) % 16 = (λ e. omega (arith, e)) in
    ap not (let other : eqb version ((version + 1) % 16) ≡ false = grind (arith, nat_tests) in other)

-- whoever knows a region that has no live cue, as it does where its page memory holds the script, takes it anew once it
-- has one
pub taken_anew : (epoch : Epoch) (whole : Bool) (tick before : ℕ) (earlier : List ℕ) (taken : Taken)
    (region : Region) → IsKnownRegion epoch (before ∷ earlier) taken region
    → live_places epoch.cues region.id before ≡ [] → has_some (live_places epoch.cues region.id tick) ≡ true
    → IsDrawnAnew epoch whole (before ∷ earlier) tick taken region
taken_anew epoch whole tick before earlier taken region known empty some = record {
  version = (version + 1) % 16;
  sent = comes_back epoch.cues whole region.id tick before earlier empty some;
  takes = ap (λ last. has_new_version ((version + 1) % 16) (known_version last)) known.known
      ∙ ap (λ last. has_new_version ((version + 1) % 16) (Some last)) known.version
      ∙ next_version_differs version;
}
  where
    version : ℕ
    version = region_version epoch.cues region.id (before ∷ earlier)
