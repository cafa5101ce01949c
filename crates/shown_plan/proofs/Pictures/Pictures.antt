-- The picture that a receiver shows behind a run is the authored one, until the next named tick.
use Rattle.std.proofs.Common.{◌≡◌, ◌≢◌, ◌∙◌, ◌⊎◌, inl, inr, ℕ, zero, suc, ◌+◌, ◌-◌, ◌*◌, ◌==◌, ◌<◌, ◌≤◌, Bool, true, false, cond, List, [], ◌∷◌, map, get_or, Option, Some, None, unwrap_or, refl, sym, ap, subst, arith}
use Rattle.std.specs.Prelude.{find}
use Rattle.std.specs.List.{Contains, flat_map, range_with_len}
use Rattle.std.proofs.lemmas.Bool.Decides.{nat_tests}
use Rattle.std.proofs.lemmas.List.Elements.{All-contains_itself}
use Rattle.sub_base.specs.Colour.{clear}
use Rattle.sub_base.specs.Lists.{last_given}
use Rattle.sub_base.specs.Picture.{Picture}
use Rattle.sub_base.specs.declared.colour.Colour.{Colour}
use Rattle.sub_base.specs.declared.profile.Profile.{Profile}
use Rattle.stream_syntax.specs.Segments.{Page}
use Rattle.stream_syntax.specs.declared.page.PageEntry.{PageEntry}
use Rattle.cue_list.specs.Authored.{live_cues, authored_code, lies_in, colour_with, colour_in as authored_in, colour_in_epoch, authored_at, authored_picture}
use Rattle.cue_list.specs.Sound.{ticks_of}
use Rattle.cue_list.specs.declared.epoch.Cue.{Cue}
use Rattle.cue_list.specs.declared.epoch.Epoch.{Epoch}
use Rattle.cue_records.specs.declared.region.Region.{Region}
use Rattle.cue_list.specs.declared.script.Script.{Script}
use Rattle.page_epoch.specs.Instants.{named_ticks}
use Rattle.page_epoch.specs.declared.planned_set.PlannedSet.{PlannedSet}
use Rattle.set_coder.specs.SetSegments.{time_out_of, page_entry_of, display_of_script}
use Rattle.decoder_model.specs.Contents.{page_in_set}
use Rattle.decoder_model.specs.Faults.{display_or_default, display_in_force}
use Rattle.decoder_model.specs.Readings.{Content}
use Rattle.decoder_model.specs.Shown.{Plane, nothing, plane, IsClear, Agrees, Scene, scene_in, window_of, is_in_window, colour_by_entry, colour_at, plane_of, Standing, until_of, is_over_at, view_of}
use Rattle.decoder_model.specs.Taken.{segments_of, taken_of}
use Rattle.decoder_model.proofs.Planes.{same_rows, all_clear}
use Rattle.decoder_model.proofs.TakenSets.{taken_display}
use Rattle.shown_plan.proofs.Pictures.Colours.{entries_give, last_mapped_entries}
use Rattle.shown_plan.proofs.Steps.FaultFree.{page_value, page_is}
use Rattle.shown_plan.proofs.Segments.Lists.{all_at, piece_there}
use Rattle.shown_plan.proofs.Segments.PlannedSets.{there_at}
use Rattle.shown_plan.proofs.Pictures.Runs.{RunKeeps}
use Rattle.shown_plan.proofs.Pictures.StillPictures.{AreStill, live_still, colour_still, epoch_is, epoch_still}

-- ---- the authored picture stays

still_in : (epochs : List Epoch) (epoch : Epoch) (from tick : ℕ) → Contains epochs epoch
    → AreStill from tick (named_ticks epochs) → AreStill from tick (ticks_of epoch)
still_in epochs epoch from tick there still =
    λ k d within. all_at (λ time. (time ≤ from) ⊎ (tick < time)) (named_ticks epochs)
    (get_or (ticks_of epoch) k d) still
    (piece_there ticks_of epochs epoch (get_or (ticks_of epoch) k d) there
    (All-contains_itself (ticks_of epoch) k d within))

region_still : (pictures : List Picture) (epoch : Epoch) (from tick x y : ℕ) (found : Option Region)
    → from ≤ tick → AreStill from tick (ticks_of epoch)
    → authored_in pictures epoch tick x y found ≡ authored_in pictures epoch from x y found
region_still pictures epoch from tick x y None order still = refl
region_still pictures epoch from tick x y (Some region) order still =
    ap (λ live. colour_with pictures epoch.colours region tick live x y)
    (live_still epoch region.id from tick order still) ∙ by (live_cues epoch.cues region.id from)
  where
    by : (live : List Cue)
        → colour_with pictures epoch.colours region tick live x y
        ≡ colour_with pictures epoch.colours region from live x y
    by [] = refl
    by (cue ∷ live) =
        colour_still epoch region.clut region.depth
        (authored_code pictures (cue ∷ live) (x - region.x) (y - region.y)) from tick order still

-- ---- one place

-- at a tick from a set's time on, before the next named one, with the page of the set
record IsSeenAt (script : Script) (set : PlannedSet) (latest : List Content) (page : Page) (tick : ℕ) : Type 0 where
  found : page_in_set latest ≡ Some page
  order : set.pts ≤ tick
  still : AreStill set.pts tick (named_ticks script.epochs)

-- the colour of a place of the receiver's picture is that of the script
colour_is : {script : Script} {profile : Profile} {past : List PlannedSet} {set : PlannedSet} {latest : List Content}
    {before : List (List Content)} {page : Page} {tick : ℕ}
    (kept : RunKeeps script profile past set latest before) → IsSeenAt script set latest page tick → (x y : ℕ)
    → x < script.width → y < script.height
    → colour_at (scene_in (latest ∷ kept.older) page) x y ≡ authored_at script.epochs script.pictures tick x y
unfolding colour_at
colour_is {script} {profile} {past} {set} {latest} {before} {page} {tick} kept seen x y narrow low =
    (λ i. cond (is_in_window (window_of (display i)) x y)
    (unwrap_or (last_given (colour_by_entry (taken_of segments) (window_of (display i)) x y) (entries i)) clear)
    clear)
    ∙ ap (λ b. cond b
    (unwrap_or
    (last_given (colour_by_entry (taken_of segments) (window_of (display_of_script script)) x y)
    (map (page_entry_of epoch) set.shown)) clear) clear) inside
    ∙ ap (λ colour. unwrap_or colour clear)
    (last_mapped_entries (colour_by_entry (taken_of segments) (window_of (display_of_script script)) x y) epoch
    set.shown)
    ∙ entries_give script epoch set.pts kept.place.earlier segments set.shown x y kept.place.fair kept.keeps
    kept.place.planned.carried.shown kept.place.planned.sendable.shown
    ∙ sym (region_still script.pictures epoch set.pts tick x y (find (lies_in x y) epoch.regions) seen.order
    (still_in script.epochs epoch set.pts tick (there_at script.epochs set.epoch epoch kept.place.place.found)
    seen.still))
    ∙ sym (ap (colour_in_epoch script.pictures tick x y)
    (epoch_is script.epochs tick set.epoch epoch
    (epoch_still script.epochs set.pts tick set.epoch epoch seen.order seen.still kept.place.place)))
  where
    epoch : Epoch
    epoch = kept.place.epoch

    segments : List Content
    segments = segments_of (latest ∷ kept.older)

    display : display_in_force segments ≡ display_of_script script
    display = ap display_or_default (sym (taken_display segments) ∙ kept.keeps.display)

    entries : page.entries ≡ map (page_entry_of epoch) set.shown
    entries =
        ap (λ (p : Page). p.entries)
        (let both : Some page ≡ Some (page_value script epoch set) = sym seen.found
        ∙ page_is script epoch set latest kept.read in let same : page ≡ page_value script epoch set = cc in same)

    inside : is_in_window (window_of (display_of_script script)) x y ≡ true
    inside = grind (arith, nat_tests)

-- ---- the picture

row_same : (f g : ℕ → Colour) (from count : ℕ) → ((i : ℕ) → i < count → f (from + i) ≡ g (from + i))
    → map f (range_with_len from count) ≡ map g (range_with_len from count)
row_same f g from zero same = refl
row_same f g from (suc count) same =
    (λ i. here i
    ∷ row_same f g (from + 1) count
    (λ i within. ap f (omega arith) ∙ same (suc i) (omega arith) ∙ ap g (omega arith)) i)
  where
    here : f from ≡ g from
    here = ap f (omega arith) ∙ same 0 (omega arith) ∙ ap g (omega arith)

-- the authored picture of a script at a tick
abbrev pub authored_plane : Script → ℕ → Plane
authored_plane script tick =
    record {
      width = script.width;
      height = script.height;
      colours = authored_picture script.width script.height
          script.epochs script.pictures tick;
    }

plane_is : {script : Script} {profile : Profile} {past : List PlannedSet} {set : PlannedSet} {latest : List Content}
    {before : List (List Content)} {page : Page} {tick : ℕ}
    (kept : RunKeeps script profile past set latest before) → IsSeenAt script set latest page tick
    → plane_of (scene_in (latest ∷ kept.older) page) ≡ authored_plane script tick
plane_is {script} {profile} {past} {set} {latest} {before} {page} {tick} kept seen =
    (λ i. record {
      width = (display i).width;
      height = (display i).height;
      colours = flat_map
          (λ y. map (λ x. colour_at scene x y) (range_with_len 0 (display i).width))
          (range_with_len 0 (display i).height);
    })
    ∙ ap (λ (colours : List Colour). record { width = script.width; height = script.height; colours = colours })
    (same_rows (λ y. map (λ x. colour_at scene x y) (range_with_len 0 script.width))
    (λ y. map (λ x. authored_at script.epochs script.pictures tick x y) (range_with_len 0 script.width)) 0
    script.height
    (λ j low. row_same (λ x. colour_at scene x (0 + j))
    (λ x. authored_at script.epochs script.pictures tick x (0 + j)) 0 script.width
    (λ i narrow. colour_is kept seen (0 + i) (0 + j) (omega arith) (omega arith))))
  where
    scene : Scene
    scene = scene_in (latest ∷ kept.older) page

    display : display_in_force (segments_of (latest ∷ kept.older)) ≡ display_of_script script
    display = ap display_or_default (sym (taken_display (segments_of (latest ∷ kept.older))) ∙ kept.keeps.display)

-- a page without regions is clear
no_entries : (scene : Scene) (x y : ℕ) → scene.entries ≡ [] → colour_at scene x y ≡ clear
unfolding colour_at
no_entries scene x y none =
    ap (λ (entries : List PageEntry). cond (is_in_window (window_of scene.display) x y)
    (unwrap_or (last_given (colour_by_entry scene.taken (window_of scene.display) x y) entries) clear) clear) none
    ∙ either (is_in_window (window_of scene.display) x y)
  where
    either : (b : Bool) → cond b clear clear ≡ clear
    either true = refl
    either false = refl

-- ---- the view

-- what stands behind a run
abbrev pub standing_of : ℕ → List (List Content) → Page → Standing
standing_of time sets page = record { time = time; page = page; scene = scene_in sets page }

-- from the set's time on, and until the next named tick, the view is the authored picture: until its time-out, or for
-- ever where the page has no regions
pub view_of_run : (script : Script) (profile : Profile) (past : List PlannedSet) (set : PlannedSet)
    (latest : List Content) (before : List (List Content)) (kept : RunKeeps script profile past set latest before)
    (page : Page) (tick : ℕ)
    → page_in_set latest ≡ Some page → set.pts ≤ tick → AreStill set.pts tick (named_ticks script.epochs)
    → (set.shown ≢ [] → tick < set.pts + 90000 * time_out_of script)
    → Agrees (view_of tick (Some (standing_of set.pts (latest ∷ kept.older) page)))
    (plane (authored_plane script tick))
view_of_run script profile past set latest before kept page tick found order still in_time =
    by (is_over_at tick (until_of (standing_of set.pts (latest ∷ kept.older) page))) refl
  where
    page_of_set : page ≡ page_value script kept.place.epoch set
    page_of_set =
        (let both : Some page ≡ Some (page_value script kept.place.epoch set) = sym found
        ∙ page_is script kept.place.epoch set latest kept.read in cc)

    until : until_of (standing_of set.pts (latest ∷ kept.older) page) ≡ Some (set.pts + 90000 * time_out_of script)
    until =
        ap (λ (p : Page). cond (p.time_out == 0) None (Some (set.pts + 90000 * p.time_out))) page_of_set
        ∙ ap (λ b. cond b None (Some (set.pts + 90000 * time_out_of script)))
        (let some : (time_out_of script == 0)
        ≡ false = (let n : time_out_of script ≢ 0 = (λ z. omega (arith, z)) in grind (arith, nat_tests)) in some)

    same : plane_of (scene_in (latest ∷ kept.older) page) ≡ authored_plane script tick
    same = plane_is kept (record { found = found; order = order; still = still })

    over : (shown : List ℕ) → set.shown ≡ shown
        → is_over_at tick (Some (set.pts + 90000 * time_out_of script)) ≡ true → page.entries ≡ []
    over [] is late = ap (λ (p : Page). p.entries) page_of_set ∙ ap (map (page_entry_of kept.place.epoch)) is
    over (id ∷ shown) is late =
        absurd (let early = in_time (λ none. (let no : id ∷ shown ≡ [] = sym is ∙ none in absurd (cc))) in
        let past_it : set.pts + 90000 * time_out_of script
        ≤ tick = grind (arith, nat_tests) in omega (arith, early, past_it))

    by : (b : Bool) → is_over_at tick (until_of (standing_of set.pts (latest ∷ kept.older) page)) ≡ b
        → Agrees (view_of tick (Some (standing_of set.pts (latest ∷ kept.older) page)))
        (plane (authored_plane script tick))
    by false e =
        inl (ap (λ b. cond b nothing (plane (plane_of (scene_in (latest ∷ kept.older) page)))) e ∙ ap plane same)
    by true e =
        (let none = over set.shown refl (sym (ap (is_over_at tick) until) ∙ e) in
        let scene : Scene = scene_in (latest ∷ kept.older) page in
        let all : IsClear (plane (plane_of scene)) =
        all_clear (colour_at scene) (λ x y. no_entries scene x y none) (range_with_len 0 scene.display.width)
        (range_with_len 0 scene.display.height) in
        inr (
          subst IsClear (sym (ap (λ b. cond b nothing (plane (plane_of scene))) e)) tt,
          subst
              (λ (p : Plane). IsClear (plane p)) same all,
        ))
