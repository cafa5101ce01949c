-- Each region of an epoch behind one set of the plan more, whatever the set sends of it.
use Rattle.std.proofs.Common.{◌≡◌, ◌≢◌, ◌∙◌, ℕ, zero, suc, ◌+◌, ◌%◌, ◌<◌, Bool, true, false, not, ◌&&◌, cond, eqb, List, [], ◌∷◌, ◌++◌, length, filter, reverse, get_or, drop, take, Some, None, refl, sym, ap, subst, arith}
use Rattle.std.specs.Prelude.{All, nat_lt, nat_eq}
use Rattle.std.specs.List.{AllZip, starts_with}
use Rattle.std.proofs.lemmas.Slice.Eq.{bytes_eq-Decides}
use Rattle.std.proofs.lemmas.Bool.Decides.{nat_tests}
use Rattle.std.proofs.lemmas.List.{append_assoc, take-append-drop}
use Rattle.std.proofs.lemmas.List.Elements.{All-append}
use Rattle.std.proofs.lemmas.List.Kept.{AllPairs-from_increasing}
use Rattle.sub_base.specs.Picture.{Picture, IsPicture}
use Rattle.stream_syntax.specs.Segments.{Object}
use Rattle.cue_list.specs.declared.epoch.Epoch.{Epoch}
use Rattle.cue_records.specs.declared.region.Region.{Region as AuthoredRegion}
use Rattle.page_epoch.proofs.LiveLaws.{live_rise}
use Rattle.page_epoch.proofs.RegionLaws.{version-more}
use Rattle.page_epoch.specs.Live.{live_places}
use Rattle.page_epoch.specs.SentRegions.{is_redrawn, is_extended, region_version, sent_region}
use Rattle.page_epoch.specs.declared.planned_set.SentRegion.{SentRegion}
use Rattle.set_coder.specs.SetSegments.{picture_of_cue}
use Rattle.decoder_model.specs.Contents.{object_of}
use Rattle.decoder_model.specs.Readings.{Content}
use Rattle.decoder_model.specs.Taken.{has_new_version, version_of_region as known_version, last_region}
use Rattle.decoder_model.proofs.IdleSegments.{IsIdle}
use Rattle.shown_plan.specs.NamedSets.{Names, AreNames}
use Rattle.shown_plan.proofs.Steps.Keeps.{AreRising, KeepsRegion}
use Rattle.shown_plan.proofs.Steps.ObjectsPaint.{is_own, DrawsListed}
use Rattle.shown_plan.proofs.Segments.Ordered.{region_content}
use Rattle.shown_plan.proofs.Segments.ReadSets.{IsDrawnObject, IsObject, are_objects}
use Rattle.shown_plan.proofs.Steps.RegionOn.{HasVersionZero, HaveHadAll, have_had, idle_object, anew_at, onward_at, IsJoined, drawn_anew, drawn_on, left_still}
use Rattle.shown_plan.proofs.Steps.RegionSteps.{region_taken, all_idle, objects_no_regions}
use Rattle.shown_plan.proofs.Segments.RegionViews.{IsRegionView}
use Rattle.shown_plan.proofs.Segments.SetView.{reversed_all, kept_of}
use Rattle.sub_base.specs.Lists.{has_some}

-- what the objects of a set are, and which of its cues a region lists, where the set sends the region
pub record IsDrawnFor (names : Names) (pictures : List Picture) (epoch : Epoch) (id : ℕ) (own : List SentRegion)
    (objects : List Content) : Type 0 where
  pub cues : List ℕ
  pub apart : AreNames names cues
  pub drawn : AllZip (IsDrawnObject names pictures epoch) cues objects
  pub are : All (λ place. IsPicture (picture_of_cue pictures epoch place)) cues
  pub listed : (sent : SentRegion) → own ≡ sent ∷ [] → filter (is_own epoch id) cues ≡ sent.cues

-- the region is sent so
draws_listed : {names : Names} {pictures : List Picture} {epoch : Epoch} {id : ℕ} {own : List SentRegion}
    {objects : List Content} → IsDrawnFor names pictures epoch id own objects → (sent : SentRegion)
    → own ≡ sent ∷ []
    → AreRising sent.cues → DrawsListed names pictures epoch id sent.cues objects
draws_listed draws sent is rise =
    record {
      cues = draws.cues;
      apart = draws.apart;
      drawn = draws.drawn;
      are = draws.are;
      own = draws.listed sent is;
      rise = rise;
    }

pub live_rising : (epoch : Epoch) (id tick : ℕ) → AreRising (live_places epoch.cues id tick)
live_rising epoch id tick = AllPairs-from_increasing (live_places epoch.cues id tick) (live_rise epoch.cues id tick)

pub rising_drop : (n : ℕ) (places : List ℕ) → AreRising places → AreRising (drop n places)
rising_drop n [] rise = by n
  where
    by : (n : ℕ) → AreRising (drop n [])
    by zero = rise
    by (suc n) = rise
rising_drop zero (place ∷ places) rise = rise
rising_drop (suc n) (place ∷ places) rise =
    rising_drop n places (λ i j d before within. rise (suc i) (suc j) d (omega arith) (omega arith))

-- ---- objects change nothing else

pub object_zero : (content : Content) → IsObject content → HasVersionZero content
object_zero content one object is =
    let both : Some one.object ≡ Some object = sym of_value ∙ is in
    let same : one.object ≡ object = cc in
    sym (ap (λ (o : Object). o.version) same) ∙ one.version
  where
    of_value : object_of content ≡ Some one.object
    of_value = rw one.is refl

-- all of a set is idle for a region whose segment is not taken
idle_set : {names : Names} {epoch : Epoch} {id : ℕ} {own : List SentRegion} {objects taken now : List Content}
    (view : IsRegionView names epoch id own objects taken now) → All IsObject objects → HaveHadAll id taken
    → All (IsIdle id taken) (reverse objects ++ (view.above ++ view.below))
idle_set {id = id} {objects = objects} {taken = taken} view are all =
    All-append (IsIdle id taken) (reverse objects) (view.above ++ view.below)
    (reversed_all (IsIdle id taken) objects
    (λ k d within. idle_object all (get_or objects k d) (object_zero (get_or objects k d) (are k d within))
    (objects_no_regions id objects are k d within)))
    (All-append (IsIdle id taken) view.above view.below (all_idle id taken view.above view.aside_above)
    (all_idle id taken view.below view.aside_below))

-- ---- whether the region's segment is taken

taken_own : (names : Names) (epoch : Epoch) (taken : List Content) (sent : SentRegion)
    → has_new_version sent.version (known_version (last_region sent.id taken)) ≡ true
    → kept_of (region_content names epoch) taken (sent ∷ []) ≡ region_content names epoch sent ∷ []
taken_own names epoch taken sent new = ap (λ b. cond b (region_content names epoch sent ∷ []) []) new

held_own : (names : Names) (epoch : Epoch) (taken : List Content) (sent : SentRegion)
    → has_new_version sent.version (known_version (last_region sent.id taken)) ≡ false
    → kept_of (region_content names epoch) taken (sent ∷ []) ≡ []
held_own names epoch taken sent new = ap (λ b. cond b (region_content names epoch sent ∷ []) []) new

-- ---- the first set that a receiver has of the epoch

pub region_first : {names : Names} {pictures : List Picture} {epoch : Epoch} {objects taken now : List Content}
    (region : AuthoredRegion) (tick : ℕ) (earlier : List ℕ)
    → IsRegionView names epoch region.id (sent_region epoch.cues true (tick ∷ earlier) region.id) objects taken now
    → IsDrawnFor names pictures epoch region.id (sent_region epoch.cues true (tick ∷ earlier) region.id) objects
    → last_region region.id taken ≡ None → KeepsRegion pictures epoch tick earlier now region
region_first {names} {pictures} {epoch} {objects} {taken} {now} region tick earlier view draws unknown =
    drawn_anew region tick earlier
    (region_taken sent (draws_listed draws sent refl (live_rising epoch region.id tick)) view
    (taken_own names epoch taken sent (ap (λ found. has_new_version sent.version (known_version found)) unknown)))
  where
    sent : SentRegion
    sent = anew_at epoch region.id tick earlier

-- ---- one set more

-- the version of a region that rises is another one
new_version : {pictures : List Picture} {epoch : Epoch} {before : ℕ} {more : List ℕ} {taken : List Content}
    {region : AuthoredRegion} (tick : ℕ) → KeepsRegion pictures epoch before more taken region
    → is_redrawn (live_places epoch.cues region.id before) (live_places epoch.cues region.id tick) ≡ true
    → has_new_version (region_version epoch.cues region.id (tick ∷ before ∷ more))
    (known_version (last_region region.id taken)) ≡ true
new_version {epoch = epoch} {before = before} {more = more} {region = region} tick kept risen =
    ap (λ f. has_new_version now (known_version f)) kept.known
    ∙ (let next : now ≡ (then_version + 1) % 16 =
    version-more epoch.cues region.id tick (before ∷ more) ∙ rw risen refl in
    let small : then_version < 16 = omega arith in
    let same = kept.version in
    let differ : kept.last.head.version ≢ now = (λ e. omega (arith, e, next, small, same)) in
    ap not (let other : eqb kept.last.head.version now ≡ false = grind (arith, nat_tests) in other))
  where
    now : ℕ
    now = region_version epoch.cues region.id (tick ∷ before ∷ more)

    then_version : ℕ
    then_version = region_version epoch.cues region.id (before ∷ more)

same_version : {pictures : List Picture} {epoch : Epoch} {before : ℕ} {more : List ℕ} {taken : List Content}
    {region : AuthoredRegion} (tick : ℕ) → KeepsRegion pictures epoch before more taken region
    → is_redrawn (live_places epoch.cues region.id before) (live_places epoch.cues region.id tick) ≡ false
    → has_new_version (region_version epoch.cues region.id (tick ∷ before ∷ more))
    (known_version (last_region region.id taken)) ≡ false
same_version {epoch = epoch} {before = before} {more = more} {region = region} tick kept still =
    ap (λ f. has_new_version now (known_version f)) kept.known
    ∙ (let same : kept.last.head.version ≡ now =
    kept.version ∙ sym (version-more epoch.cues region.id tick (before ∷ more) ∙ rw still refl) in
    ap not (let alike : eqb kept.last.head.version now ≡ true = grind (arith, nat_tests) in alike))
  where
    now : ℕ
    now = region_version epoch.cues region.id (tick ∷ before ∷ more)

-- new cues behind old ones
joined_cues : (old new : List ℕ) → is_extended old new ≡ true → IsJoined old new
joined_cues old new extends =
    by (has_some old) (nat_lt (length old) (length new)) (starts_with nat_eq new old) refl refl refl extends
  where
    by : (a b c : Bool) → has_some old ≡ a → nat_lt (length old) (length new) ≡ b
        → starts_with nat_eq new old ≡ c → (a && b && c) ≡ true → (has_some old ≡ true)
        × (new ≡ old ++ drop (length old) new)
    by true true true ea eb ec e = (
      ea,
      sym (take-append-drop (length old) new)
          ∙ ap (λ front. front ++ drop (length old) new) (sym ((bytes_eq-Decides old (take (length old) new)).0 ec)),
    )
    by true true false ea eb ec e = absurd (cc)
    by true false c ea eb ec e = absurd (cc)
    by false b c ea eb ec e = absurd (cc)

pub region_next : {names : Names} {pictures : List Picture} {epoch : Epoch} {before : ℕ} {more : List ℕ}
    {objects taken now : List Content} {region : AuthoredRegion} (whole : Bool) (tick : ℕ)
    → IsRegionView names epoch region.id (sent_region epoch.cues whole (tick ∷ before ∷ more) region.id) objects
    taken now
    → IsDrawnFor names pictures epoch region.id (sent_region epoch.cues whole (tick ∷ before ∷ more) region.id)
    objects
    → All HasVersionZero taken → KeepsRegion pictures epoch before more taken region
    → KeepsRegion pictures epoch tick (before ∷ more) now region
region_next {names} {pictures} {epoch} {before} {more} {objects} {taken} {now} {region} whole tick view draws zeros
    kept =
    by whole (is_redrawn old new) (is_extended old new) refl refl refl
  where
    old : List ℕ
    old = live_places epoch.cues region.id before

    new : List ℕ
    new = live_places epoch.cues region.id tick

    anew : SentRegion
    anew = anew_at epoch region.id tick (before ∷ more)

    onward : SentRegion
    onward = onward_at epoch region.id tick before more

    own : List SentRegion
    own = sent_region epoch.cues whole (tick ∷ before ∷ more) region.id

    kept_own : List SentRegion → List Content
    kept_own sent = kept_of (region_content names epoch) taken sent

    by_new : is_redrawn old new ≡ true → own ≡ anew ∷ []
        → KeepsRegion pictures epoch tick (before ∷ more) now region
    by_new risen is =
        drawn_anew region tick (before ∷ more)
        (region_taken anew (draws_listed draws anew is (live_rising epoch region.id tick)) view
        (ap kept_own is ∙ taken_own names epoch taken anew
        (new_version tick kept risen)))

    by_more : is_redrawn old new ≡ true → is_extended old new ≡ true → own ≡ onward ∷ []
        → KeepsRegion pictures epoch tick (before ∷ more) now region
    by_more risen extends is =
        drawn_on tick (joined_cues old new extends) kept
        (region_taken onward
        (draws_listed draws onward is (rising_drop (length old) new (live_rising epoch region.id tick))) view
        (ap kept_own is ∙ taken_own names epoch taken onward
        (new_version tick kept risen)))

    by_still : is_redrawn old new ≡ false → kept_own own ≡ []
        → KeepsRegion pictures epoch tick (before ∷ more) now region
    by_still still none =
        subst (λ (all : List Content). KeepsRegion pictures epoch tick (before ∷ more) all region)
        (sym (view.whole ∙ ap (λ mine. reverse objects ++ (view.above ++ (mine ++ (view.below ++ taken)))) none
        ∙ sym (append_assoc (reverse objects) (view.above ++ view.below) taken
        ∙ ap (λ rest. reverse objects ++ rest) (append_assoc view.above view.below taken))))
        (left_still tick (reverse objects ++ (view.above ++ view.below))
        (idle_set view (are_objects names pictures epoch draws.cues objects draws.drawn) (have_had zeros kept)) still
        kept)

    by : (w r x : Bool) → whole ≡ w → is_redrawn old new ≡ r → is_extended old new ≡ x
        → KeepsRegion pictures epoch tick (before ∷ more) now region
    by true true x ew er ex = by_new er (rw ew refl)
    by false true false ew er ex = by_new er (rw (ew, er, ex) refl)
    by false true true ew er ex = by_more er ex (rw (ew, er, ex) refl)
    by false false x ew er ex = by_still er (ap kept_own (let none : own ≡ [] = rw (ew, er) refl in none))
    by true false x ew er ex =
        by_still er
        (ap kept_own (let one : own ≡ anew ∷ [] = rw ew refl in one)
        ∙ held_own names epoch taken anew (same_version tick kept er))
