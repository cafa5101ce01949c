-- Behind a run the page memory of a receiver holds the script.
use Rattle.std.proofs.Common.{◌≡◌, ◌∙◌, ℕ, zero, suc, ◌<◌, true, List, [], ◌∷◌, length, map, filter, get_or, Some, refl, sym, ap, subst, arith, unwrap_or}
use Rattle.std.specs.Prelude.{All}
use Rattle.std.specs.List.{Contains}
use Rattle.std.proofs.lemmas.List.Elements.{All-contains_itself}
use Rattle.sub_base.specs.Colour.{default_of}
use Rattle.sub_base.specs.Depth.{code_count}
use Rattle.sub_base.specs.declared.depth.Depth.{Depth}
use Rattle.sub_base.specs.declared.depth.Depth.TheVariants.{Two}
use Rattle.sub_base.specs.declared.profile.Profile.{Profile}
use Rattle.stream_syntax.specs.Segments.{Page, of_page}
use Rattle.cue_list.specs.Authored.{authored_code, authored_colour, live_cues}
use Rattle.cue_list.specs.declared.epoch.Epoch.{Epoch}
use Rattle.cue_records.specs.declared.region.Region.{Region}
use Rattle.cue_list.specs.declared.script.Script.{Script}
use Rattle.page_epoch.specs.Live.{live_places}
use Rattle.page_epoch.specs.SentRegions.{AreShown}
use Rattle.page_epoch.specs.declared.planned_set.PlannedSet.{PlannedSet}
use Rattle.set_coder.specs.SetSegments.{epoch_region}
use Rattle.decoder_model.specs.Contents.{page_in_set}
use Rattle.decoder_model.specs.Free.{nodes_with_page}
use Rattle.decoder_model.specs.Ink.{ink_of}
use Rattle.decoder_model.specs.Nodes.{region_ids}
use Rattle.decoder_model.specs.Pixels.{pixel_of}
use Rattle.decoder_model.specs.Readings.{Content}
use Rattle.decoder_model.specs.Taken.{segments_of, taken_among, taken_of}
use Rattle.decoder_model.proofs.TakenSets.{taken_all}
use Rattle.shown_plan.proofs.Pictures.ColourRows.{authored_by_place}
use Rattle.shown_plan.proofs.Steps.FaultFree.{page_value, page_is, nodes_within}
use Rattle.shown_plan.proofs.Steps.Keeps.{IsSent, KeepsRegion, KeepsClut}
use Rattle.shown_plan.proofs.Segments.Lists.{all_at, kept_pass}
use Rattle.shown_plan.proofs.Pictures.Runs.{RunKeeps}
use Rattle.shown_plan.proofs.Steps.SetFits.{last_sent}
use Rattle.shown_plan.proofs.Steps.SetPixels.{pixels_within, authored_itself, known_ids, known_contains}
use Rattle.shown_plan.specs.HoldsScript.{IsKnownRegion, HoldsScript}
use Rattle.shown_plan.specs.WithinNeed.{IsWithinNeed}
use Rattle.sub_base.specs.Lists.{has_some}

-- the colour of an entry is the authored one
pub ink_is : (epoch : Epoch) (tick : ℕ) (earlier : List ℕ) (taken : List Content) (clut : ℕ) (depth : Depth)
    (entry : ℕ) → KeepsClut epoch.colours tick earlier taken clut → entry < code_count depth
    → ink_of (record { segments = taken }) clut depth entry ≡ authored_colour epoch.colours clut depth entry tick
unfolding ink_of
ink_is epoch tick earlier taken clut depth entry kept small =
    ap (λ found. unwrap_or found (default_of depth entry)) (kept.inks depth entry small)
    ∙ sym (authored_by_place epoch.colours clut tick depth entry)

-- the code of a place of a region with live cues is the authored one
pub pixel_is : (script : Script) (epoch : Epoch) (tick : ℕ) (earlier : List ℕ) (taken : List Content)
    (region : Region) → KeepsRegion script.pictures epoch tick earlier taken region
    → has_some (live_places epoch.cues region.id tick) ≡ true
    → (x y : ℕ)
    → pixel_of (record { segments = taken }) region.id x y
    ≡ authored_code script.pictures (live_cues epoch.cues region.id tick) x y
unfolding pixel_of
pixel_is script epoch tick earlier taken region kept some x y = kept.codes some x y

-- a region that a page shows has live cues
pub shown_live : (epoch : Epoch) (tick : ℕ) (shown : List ℕ) (id : ℕ)
    → AreShown epoch.cues epoch.regions tick shown → Contains shown id
    → has_some (live_places epoch.cues id tick) ≡ true
shown_live epoch tick shown id are there =
    subst (λ (n : ℕ). has_some (live_places epoch.cues n tick) ≡ true) (sym place.2 ∙ refl)
    (kept_pass (λ (region : Region). has_some (live_places epoch.cues region.id tick)) are.by_y place.0 none place.1)
  where
    none : Region
    none = record { id = 0; x = 0; y = 0; width = 0; height = 0; depth = Two; clut = 0 }

    kept : List Region
    kept = filter (λ (region : Region). has_some (live_places epoch.cues region.id tick)) are.by_y

    from_map : (regions : List Region) (id : ℕ) → Contains (map (λ (region : Region). region.id) regions) id
        → (k : ℕ) × (k < length regions) × (id ≡ (get_or regions k none).id)
    from_map [] id there = absurd (omega (arith, there.1))
    from_map (first ∷ regions) id (zero, within, is) = (0, omega arith, sym is)
    from_map (first ∷ regions) id (suc k, within, is) =
        (let rest = from_map regions id (k, omega (arith, within), is) in (suc rest.0, omega (arith, rest.1), rest.2))

    place : (k : ℕ) × (k < length kept) × (id ≡ (get_or kept k none).id)
    place = from_map kept id (subst (λ (ids : List ℕ). Contains ids id) are.is there)

-- what a receiver has behind a run
pub keeps_holds : (script : Script) (profile : Profile) (past : List PlannedSet) (set : PlannedSet)
    (latest : List Content) (before : List (List Content)) (kept : RunKeeps script profile past set latest before)
    (page : Page) → page_in_set latest ≡ Some page
    → HoldsScript script kept.place.epoch (set.pts ∷ kept.place.earlier) set page
    (taken_of (segments_of (latest ∷ kept.older)))
keeps_holds script profile past set latest before kept page found =
    record {
      display = kept.keeps.display;
      page_is =
          ap of_page
          (let both : Some page ≡ Some (page_value script epoch set) = sym found
          ∙ page_is script epoch set latest kept.read in cc);
      regions = λ k d within. known (get_or epoch.regions k d) (All-contains_itself epoch.regions k d within);
      only =
          λ k d within. known_contains epoch taken (get_or (region_ids (taken_of segments)) k d)
          ((known_ids epoch set.pts taken sent).known k d within);
      cluts = λ clut. (kept.keeps.cluts clut).version;
      ink =
          λ clut depth entry small. ink_is epoch set.pts kept.place.earlier taken clut depth entry
          (kept.keeps.cluts clut) small;
      pixel = λ region x y there listed narrow low.
          pixel_is script epoch set.pts kept.place.earlier taken region
          (all_at (KeepsRegion script.pictures epoch set.pts kept.place.earlier taken) epoch.regions region
          kept.keeps.regions there)
          (shown_live epoch set.pts set.shown region.id kept.place.planned.carried.shown listed) x y;
    }
  where
    epoch : Epoch
    epoch = kept.place.epoch

    segments : List Content
    segments = segments_of (latest ∷ kept.older)

    taken : List Content
    taken = taken_among segments

    sent : All (IsSent epoch set.pts) taken
    sent = taken_all (IsSent epoch set.pts) segments kept.keeps.each

    known : (region : Region) → Contains epoch.regions region
        → IsKnownRegion epoch (set.pts ∷ kept.place.earlier) (taken_of segments) region
    known region there =
        (let has = all_at (KeepsRegion script.pictures epoch set.pts kept.place.earlier taken) epoch.regions region
        kept.keeps.regions there in
        let mine = last_sent epoch set.pts region.id taken has.last sent has.known in
        let itself =
        ap (λ (id : ℕ). epoch_region epoch id) mine.1
        ∙ authored_itself epoch region kept.place.fair.apart there in
        record {
          last = has.last;
          known = has.known;
          width = mine.0.width ∙ ap (λ (r : Region). r.width) itself;
          height = mine.0.height ∙ ap (λ (r : Region). r.height) itself;
          depth = mine.0.depth ∙ ap (λ (r : Region). r.depth) itself;
          clut = mine.0.clut ∙ ap (λ (r : Region). r.clut) itself;
          version = has.version;
        })

-- ---- memory

-- the bytes and nodes that a receiver holds behind a run are at most what the plan needs for its last set
pub memory_within : (script : Script) (profile : Profile) (past : List PlannedSet) (set : PlannedSet)
    (latest : List Content) (before : List (List Content)) (kept : RunKeeps script profile past set latest before)
    → IsWithinNeed kept.place.epoch (set.pts ∷ kept.place.earlier) set (latest ∷ kept.older)
memory_within script profile past set latest before kept =
    record {
      pixels = pixels_within kept.place.epoch (taken_among (segments_of (latest ∷ kept.older))) kept.place.fair.apart
          (known_ids kept.place.epoch set.pts (taken_among (segments_of (latest ∷ kept.older)))
          (taken_all (IsSent kept.place.epoch set.pts) (segments_of (latest ∷ kept.older)) kept.keeps.each));
      nodes =
          (let within = nodes_within kept.place.fair kept.place.planned kept.keeps in
          let page =
          ap (nodes_with_page (taken_of (segments_of (latest ∷ kept.older))))
          (page_is script kept.place.epoch set latest kept.read) in omega (arith, within, page));
    }
