-- A region behind one set of the plan more is as the plan counts it.
use Rattle.std.proofs.Common.{◌≡◌, ◌∙◌, inl, inr, ℕ, ◌==◌, ◌≤◌, Bool, true, false, not, ◌&&◌, cond, eqb, List, [], ◌∷◌, ◌++◌, length, map, get_or, drop, Option, Some, None, unwrap_or, refl, sym, ap, subst, arith}
use Rattle.std.specs.Prelude.{All, IsSome}
use Rattle.std.specs.List.{list_any}
use Rattle.std.specs.Option.{option_or}
use Rattle.std.proofs.lemmas.Slice.Eq.{bytes_eq-Decides}
use Rattle.std.proofs.lemmas.Bool.Decides.{nat_tests}
use Rattle.std.proofs.lemmas.List.{length-map, length-drop}
use Rattle.std.proofs.lemmas.List.Elements.{All-head, All-tail, All-take}
use Rattle.sub_base.specs.Lists.{first_given, last_given, has_some}
use Rattle.sub_base.specs.Picture.{Picture}
use Rattle.sub_base.specs.declared.depth.Depth.{Depth}
use Rattle.sub_base.specs.declared.depth.Depth.TheVariants.{Two, Four, Eight}
use Rattle.stream_syntax.specs.Segments.{Region, Object}
use Rattle.stream_syntax.specs.declared.region.Listing.{Listing}
use Rattle.cue_list.specs.Authored.{authored_code}
use Rattle.cue_list.specs.declared.epoch.Epoch.{Epoch}
use Rattle.cue_records.specs.declared.region.Region.{Region as AuthoredRegion}
use Rattle.page_epoch.proofs.RegionLaws.{version-more, drawn_count-more}
use Rattle.page_epoch.specs.Live.{cue_at, are_same_places, live_places}
use Rattle.page_epoch.specs.SentRegions.{is_redrawn, region_version, drawn_count, filled, extended}
use Rattle.page_epoch.specs.declared.planned_set.SentRegion.{SentRegion}
use Rattle.decoder_model.specs.Contents.{where_passes, region_named, object_named, object_of}
use Rattle.decoder_model.specs.Pixels.{since_region, last_code, code_by_fill, fill_code}
use Rattle.decoder_model.specs.Readings.{Content}
use Rattle.decoder_model.specs.Taken.{last_region}
use Rattle.decoder_model.proofs.IdleSegments.{HasHad, IsUsedUp, IsIdle, idle_code}
use Rattle.decoder_model.proofs.Searches.{first_given-append, last_given-append}
use Rattle.decoder_model.proofs.TakenSets.{since_behind, last_behind}
use Rattle.shown_plan.specs.NamedSets.{Names, named_listing}
use Rattle.shown_plan.proofs.Steps.Keeps.{HasObject, KeepsRegion}
use Rattle.shown_plan.proofs.Pictures.Painted.{code_by_cue, live_are, authored_last}
use Rattle.shown_plan.proofs.Steps.RegionSteps.{IsTakenRegion, sent_value, some_or_second}

-- ---- objects that a region has had

-- all objects have version 0
abbrev pub HasVersionZero : Content → Type 0
HasVersionZero content = (object : Object) → object_of content ≡ Some object → object.version ≡ 0

pub given_all : {X Y : Type 0} (f : X → Option Y) (P : Y → Type 0) (xs : List X) (y : Y)
    → All (λ x. (y : Y) → f x ≡ Some y → P y) xs → first_given f xs ≡ Some y → P y
given_all f P [] y all is = absurd (cc)
given_all {X} {Y} f P (x ∷ xs) y all is =
    by (f x) refl is (given_all f P xs y (All-tail (λ x. (y : Y) → f x ≡ Some y → P y) x xs all))
  where
    by : (found : Option Y) → f x ≡ found → option_or found (first_given f xs) ≡ Some y
        → (first_given f xs ≡ Some y → P y) → P y
    by None e is again = again is
    by (Some z) e is again = All-head (λ x. (y : Y) → f x ≡ Some y → P y) x xs all y (e ∙ is)

named_object : (number : ℕ) (content : Content) (object : Object) → object_named number content ≡ Some object
    → object_of content ≡ Some object
named_object number content object is = by (object_of content) refl
  where
    by : (found : Option Object) → object_of content ≡ found → object_of content ≡ Some object
    by None e =
        absurd (let no : None ≡ Some object = sym (ap (where_passes (λ (o : Object). o.object == number)) e)
        ∙ is in cc)
    by (Some o) e =
        one (eqb o.object number) (sym (ap (where_passes (λ (o : Object). o.object == number)) e) ∙ is) refl
      where
        one : (b : Bool) → cond (eqb o.object number) (Some o) None ≡ Some object → eqb o.object number ≡ b
            → object_of content ≡ Some object
        one true found t = e ∙ (let same : Some o ≡ Some object = rw t at found in same)
        one false found t = absurd (let no : None ≡ Some object = rw t at found in cc)

-- an object that came since a region's segment came with version 0
had_from : (id number : ℕ) (taken : List Content) → All HasVersionZero taken → HasObject id taken number
    → HasHad id taken number
had_from id number taken zeros there = by (first_given (object_named number) since) refl there
  where
    since : List Content
    since = since_region id (record { segments = taken })

    by : (found : Option Object) → first_given (object_named number) since ≡ found → IsSome found
        → HasHad id taken number
    by None e some = absurd (let no : false ≡ true = some in cc)
    by (Some had) e some = (
      had,
      e,
      given_all (object_named number) (λ (o : Object). o.version ≡ 0) since had
          (λ k d within o is. All-take HasVersionZero _ taken zeros k d within o
          (named_object number (get_or since k d) o is)) e,
    )

-- all objects have version 0, and a region has had those of all listings of its last segment
pub record HaveHadAll (id : ℕ) (taken : List Content) : Type 0 where
  pub zeros : All HasVersionZero taken
  pub had : (last : Region) → last_region id taken ≡ Some last
      → All (λ (listing : Listing). HasObject id taken listing.object) last.listings

-- as a region has that is as the plan counts it
pub have_had : {pictures : List Picture} {epoch : Epoch} {tick : ℕ} {earlier : List ℕ} {taken : List Content}
    {region : AuthoredRegion} → All HasVersionZero taken → KeepsRegion pictures epoch tick earlier taken region
    → HaveHadAll region.id taken
have_had {taken = taken} {region = region} zeros kept =
    record {
      zeros = zeros;
      had = λ last known.
          (let both : Some kept.last ≡ Some last = sym kept.known ∙ known in
          let same : kept.last ≡ last = cc in
          subst (λ (r : Region). All (λ (listing : Listing). HasObject region.id taken listing.object) r.listings)
          same
          kept.painted);
    }

-- an object of version 0 changes nothing in such a region
pub idle_object : {id : ℕ} {taken : List Content} → HaveHadAll id taken → (content : Content)
    → HasVersionZero content → region_named id content ≡ None → IsIdle id taken content
idle_object {id} {taken} all content own other =
    record {
      other = other;
      version = own;
      object = λ object is region found. by object.object region
          (list_any (λ (listing : Listing). listing.object == object.object) region.listings) refl
          (all.had region found);
    }
  where
    listed : (number : ℕ) (listings : List Listing)
        → list_any (λ (listing : Listing). listing.object == number) listings ≡ true
        → All (λ (listing : Listing). HasObject id taken listing.object) listings → HasObject id taken number
    listed number [] e have = absurd (let no : false ≡ true = e in cc)
    listed number (listing ∷ listings) e have = one (eqb listing.object number) refl e (listed number listings)
      where
        one : (b : Bool) → eqb listing.object number ≡ b
            → list_any (λ (listing : Listing). listing.object == number) (listing ∷ listings) ≡ true
            → (list_any (λ (listing : Listing). listing.object == number) listings ≡ true
            → All (λ (listing : Listing). HasObject id taken listing.object) listings
            → HasObject id taken number) → HasObject id taken number
        one true t e again =
            (let same : listing.object ≡ number = grind (arith, nat_tests) in
            subst (HasObject id taken) same
            (All-head (λ (listing : Listing). HasObject id taken listing.object) listing listings have))
        one false t e again =
            again (let rest : list_any (λ (listing : Listing). listing.object == number) listings ≡ true =
            rw t at e in rest)
            (All-tail (λ (listing : Listing). HasObject id taken listing.object) listing listings have)

    by : (number : ℕ) (region : Region) (b : Bool)
        → list_any (λ (listing : Listing). listing.object == number) region.listings ≡ b
        → All (λ (listing : Listing). HasObject id taken listing.object) region.listings
        → IsUsedUp id taken number region
    by number region false e have = inl e
    by number region true e have = inr (had_from id number taken all.zeros (listed number region.listings e have))

-- ---- versions and listings

-- a region is drawn by as many listings at least as it lists
few_listed : (names : Names) (epoch : Epoch) (id tick : ℕ) (earlier places : List ℕ)
    → length places ≤ length (live_places epoch.cues id tick)
    → length (map (named_listing names epoch) places) ≤ drawn_count epoch.cues id (tick ∷ earlier)
few_listed names epoch id tick earlier places few = by (live_places epoch.cues id tick) refl few
  where
    listings : length (map (named_listing names epoch) places) ≡ length places
    listings = length-map places (named_listing names epoch)

    by : (new : List ℕ) → live_places epoch.cues id tick ≡ new
        → length places ≤ length (live_places epoch.cues id tick)
        → length (map (named_listing names epoch) places) ≤ drawn_count epoch.cues id (tick ∷ earlier)
    by [] e few =
        let none : length (live_places epoch.cues id tick) ≡ 0 = ap length e in omega (arith, listings, few, none)
    by (place ∷ new) e few =
        let all : drawn_count epoch.cues id (tick ∷ earlier) ≡ length (live_places epoch.cues id tick) =
        drawn_count-more epoch.cues id tick earlier ∙ rw e refl in
        omega (arith, listings, few, all)

-- the code that a fill leaves
fill_zero : (names : Names) (epoch : Epoch) (sent : SentRegion) → sent.fill ≡ true
    → code_by_fill sent.id (sent_value names epoch sent).head ≡ Some 0
fill_zero names epoch sent fills =
    let mine : eqb sent.id sent.id ≡ true = grind (arith, nat_tests) in
    let both : (eqb sent.id sent.id && sent.fill) ≡ true = rw (mine, fills) refl in
    ap (λ b. cond b (Some (fill_code (sent_value names epoch sent).head.depth (sent_value names epoch sent).head))
    None)
    both ∙ by (sent_value names epoch sent).head.depth
  where
    by : (depth : Depth) → Some (fill_code depth (sent_value names epoch sent).head) ≡ Some 0
    by Two = refl
    by Four = refl
    by Eight = refl

fill_none : (names : Names) (epoch : Epoch) (sent : SentRegion) → sent.fill ≡ false
    → code_by_fill sent.id (sent_value names epoch sent).head ≡ None
fill_none names epoch sent fills =
    let mine : eqb sent.id sent.id ≡ true = grind (arith, nat_tests) in
    rw (mine, fills) refl

upon_zero : (found : Option ℕ) → unwrap_or (option_or found (Some 0)) 0 ≡ unwrap_or found 0
upon_zero None = refl
upon_zero (Some code) = refl

upon_same : (found below other : Option ℕ) → unwrap_or below 0 ≡ unwrap_or other 0
    → unwrap_or (option_or found below) 0 ≡ unwrap_or (option_or found other) 0
upon_same None below other same = same
upon_same (Some code) below other same = refl

-- ---- drawn anew

-- a region as it is sent with all of its live cues
abbrev pub anew_at : Epoch → ℕ → ℕ → List ℕ → SentRegion
anew_at epoch id tick earlier =
    filled id (region_version epoch.cues id (tick ∷ earlier)) (live_places epoch.cues id tick)

pub drawn_anew : {names : Names} {pictures : List Picture} {epoch : Epoch} {taken now : List Content}
    (region : AuthoredRegion) (tick : ℕ) (earlier : List ℕ)
    → IsTakenRegion names pictures epoch (anew_at epoch region.id tick earlier) taken now
    → KeepsRegion pictures epoch tick earlier now region
drawn_anew {names} {pictures} {epoch} {taken} {now} region tick earlier has =
    record {
      last = sent_value names epoch sent;
      known = has.known;
      version = refl;
      few = few_listed names epoch region.id tick earlier live (omega arith);
      painted = has.painted;
      codes = λ some x y.
          ap (λ code. unwrap_or code 0) (has.codes x y)
          ∙ ap (λ below_it. unwrap_or
          (option_or (last_given (code_by_cue pictures epoch x y) live)
          (option_or below_it (last_code taken region.id x y))) 0)
          (fill_zero names epoch sent refl)
          ∙ upon_zero (last_given (code_by_cue pictures epoch x y) live)
          ∙ sym (authored_last pictures epoch region.id tick x y);
    }
  where
    sent : SentRegion
    sent = anew_at epoch region.id tick earlier

    live : List ℕ
    live = live_places epoch.cues region.id tick

-- ---- drawn on

-- some cues were live, and new ones come behind them
abbrev pub IsJoined : List ℕ → List ℕ → Type 0
IsJoined old new = (has_some old ≡ true) × (new ≡ old ++ drop (length old) new)

-- a region as it is sent with its new cues alone
abbrev pub onward_at : Epoch → ℕ → ℕ → ℕ → List ℕ → SentRegion
onward_at epoch id tick before more =
    extended id (region_version epoch.cues id (tick ∷ before ∷ more)) (live_places epoch.cues id before)
    (live_places epoch.cues id tick)

pub drawn_on : {names : Names} {pictures : List Picture} {epoch : Epoch} {taken now : List Content}
    {region : AuthoredRegion} {before : ℕ} {more : List ℕ} (tick : ℕ)
    → IsJoined (live_places epoch.cues region.id before) (live_places epoch.cues region.id tick)
    → KeepsRegion pictures epoch before more taken region
    → IsTakenRegion names pictures epoch (onward_at epoch region.id tick before more) taken now
    → KeepsRegion pictures epoch tick (before ∷ more) now region
drawn_on {names} {pictures} {epoch} {taken} {now} {region} {before} {more} tick joined kept has =
    record {
      last = sent_value names epoch sent;
      known = has.known;
      version = refl;
      few =
          few_listed names epoch region.id tick (before ∷ more) sent.cues
          (omega (arith, length-drop (length old) live));
      painted = has.painted;
      codes = λ some x y.
          ap (λ code. unwrap_or code 0) (has.codes x y)
          ∙ ap (λ below_it. unwrap_or
          (option_or (last_given (code_by_cue pictures epoch x y) sent.cues)
          (option_or below_it (last_code taken region.id x y))) 0)
          (fill_none names epoch sent refl)
          ∙ upon_same (last_given (code_by_cue pictures epoch x y) sent.cues) (last_code taken region.id x y)
          (last_given (code_by_cue pictures epoch x y) old)
          (kept.codes joined.0 x y ∙ authored_last pictures epoch region.id before x y)
          ∙ ap (λ code. unwrap_or code 0)
          (sym (last_given-append (code_by_cue pictures epoch x y) old (drop (length old) live)))
          ∙ ap (λ places. unwrap_or (last_given (code_by_cue pictures epoch x y) places) 0) (sym joined.1)
          ∙ sym (authored_last pictures epoch region.id tick x y);
    }
  where
    sent : SentRegion
    sent = onward_at epoch region.id tick before more

    old : List ℕ
    old = live_places epoch.cues region.id before

    live : List ℕ
    live = live_places epoch.cues region.id tick

-- ---- left as it was

pub left_still : {pictures : List Picture} {epoch : Epoch} {before : ℕ} {more : List ℕ} {taken : List Content}
    {region : AuthoredRegion} (tick : ℕ) (new : List Content) → All (IsIdle region.id taken) new
    → is_redrawn (live_places epoch.cues region.id before) (live_places epoch.cues region.id tick) ≡ false
    → KeepsRegion pictures epoch before more taken region
    → KeepsRegion pictures epoch tick (before ∷ more) (new ++ taken) region
left_still {pictures} {epoch} {before} {more} {taken} {region} tick new idle still kept =
    record {
      last = kept.last;
      known = last_behind region.id new taken no_region ∙ kept.known;
      version = kept.version ∙ sym (version-more epoch.cues region.id tick (before ∷ more) ∙ rw still refl);
      few = by (live_places epoch.cues region.id tick) refl;
      painted = λ k d within.
          subst (λ (all : List Content). IsSome
          (first_given (object_named (get_or kept.last.listings k d).object) all))
          (sym (since_behind region.id new taken no_region))
          (subst IsSome
          (sym (first_given-append (object_named (get_or kept.last.listings k d).object) new
          (since_region region.id (record { segments = taken }))))
          (some_or_second (first_given (object_named (get_or kept.last.listings k d).object) new)
          (first_given (object_named (get_or kept.last.listings k d).object)
          (since_region region.id (record { segments = taken }))) (kept.painted k d within)));
      codes = λ some x y.
          (let same = unchanged some in
          ap (λ code. unwrap_or code 0) (idle_code region.id x y new taken idle)
          ∙ kept.codes (subst (λ (places : List ℕ). has_some places ≡ true) (sym same) some) x y
          ∙ ap (λ cues. authored_code pictures cues x y)
          (live_are epoch.cues region.id before ∙ ap (map (cue_at epoch.cues)) same
          ∙ sym (live_are epoch.cues region.id tick)));
    }
  where
    old : List ℕ
    old = live_places epoch.cues region.id before

    live : List ℕ
    live = live_places epoch.cues region.id tick

    no_region : All (λ c. region_named region.id c ≡ None) new
    no_region = λ k d within. (idle k d within).other

    unchanged : has_some live ≡ true → old ≡ live
    unchanged some =
        one (are_same_places old live) refl
        (let e : (not (are_same_places old live) && has_some live) ≡ false = still in e)
      where
        one : (b : Bool) → are_same_places old live ≡ b
            → (not (are_same_places old live) && has_some live) ≡ false → old ≡ live
        one true e no_rise = (bytes_eq-Decides old live).0 e
        one false e no_rise =
            absurd (let no : true ≡ false = sym some
            ∙ (let t : has_some live ≡ false = rw e at no_rise in t) in cc)

    by : (places : List ℕ) → live ≡ places
        → length kept.last.listings ≤ drawn_count epoch.cues region.id (tick ∷ before ∷ more)
    by [] e =
        subst (λ (n : ℕ). length kept.last.listings ≤ n)
        (sym (drawn_count-more epoch.cues region.id tick (before ∷ more) ∙ rw e refl)) kept.few
    by (place ∷ places) e =
        let some : has_some live ≡ true = ap has_some e in
        let same = unchanged some in
        let first : drawn_count epoch.cues region.id (before ∷ more) ≡ length old =
        drawn_count-more epoch.cues region.id before more
        ∙ ap (λ b. cond b (length old) (drawn_count epoch.cues region.id more)) (ap has_some same ∙ some) in
        let second : drawn_count epoch.cues region.id (tick ∷ before ∷ more) ≡ length live =
        drawn_count-more epoch.cues region.id tick (before ∷ more)
        ∙ ap (λ b. cond b (length live) (drawn_count epoch.cues region.id (before ∷ more))) some in
        let few = kept.few in
        omega (arith, few, first, second, ap length same)
