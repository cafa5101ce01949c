use Rattle.std.proofs.Common.{◌≡◌, ◌∙◌, true, false, List, [], sym, subst}
use Rattle.sub_base.specs.declared.colour.Colour.{Colour}
use Rattle.cue_records.specs.declared.row_values.ColourRow.{ColourRow}
use Rattle.cue_list.specs.declared.epoch.Cue.{Cue}
use Rattle.cue_list.specs.Authored.{live_cues}
use Rattle.cue_list.specs.Planes.{HasLive, AreEntriesBy, FillsRows}
use Rattle.cue_list.proofs.RegionLaws.{HasLive-none}
use Rattle.cue_list.proofs.SceneLaws.{PaintsRegion-live, PaintsRegion-none, empty_from}
use Rattle.cue_list.proofs.painting.paint_region.Goals as goal

pub returns : goal.returns
returns c =
    let script = c.args.script.now in
    let region = c.args.region in
    let IsNone : List Cue → Type 0 = λ cues. live_cues cues region.id c.args.tick ≡ [] → ⊥ in
    let Live : List Cue
    → Type 0 = λ cues. HasLive script.pictures c.entries_at-entries.result region
    (live_cues cues region.id c.args.tick) script.width script.height c.args.plane.now c.paint_live_cues.new.plane
    in
    let Entries : List ColourRow → Type 0 =
    λ colours. AreEntriesBy colours region.clut region.depth c.args.tick c.entries_at-entries.result in
    let filled =
    subst (λ (colour : Colour). FillsRows colour region script.width script.height region.height c.args.plane.now
    c.fill_rows.new.plane)
    c.background.ensures (c.fill_rows.ensures script.height) in
    PaintsRegion-live script.pictures c.entries_at-entries.result c.args.epoch.now region c.args.tick script.width
    script.height c.args.plane.now c.paint_live_cues.new.plane
    (subst IsNone c.as_slice-cues.ensures (c.has_live_cue.ensures.0 c.if-not-has_live_cue.false))
    c.requires.cues
    (subst Entries c.as_slice.ensures c.entries_at-entries.ensures)
    (subst Live c.as_slice-cues.ensures
    (c.paint_live_cues.ensures c.args.plane.now
    (HasLive-none script.pictures c.entries_at-entries.result region script.width script.height c.args.plane.now
    c.fill_rows.new.plane filled)))

pub returns-then-not-has_live_cue : goal.returns-then-not-has_live_cue
returns-then-not-has_live_cue c =
    let IsNone : List Cue → Type 0 = λ cues. live_cues cues c.args.region.id c.args.tick ≡ [] in
    PaintsRegion-none c.args.script.now.pictures c.args.epoch.now c.args.region c.args.tick c.args.script.now.width
    c.args.script.now.height c.args.plane.now
    (subst IsNone c.as_slice-cues.ensures
    (empty_from (live_cues c.as_slice-cues.result.now c.args.region.id c.args.tick)
    (λ some. let is_true = c.has_live_cue.ensures.1 some in let never : false
    ≡ true = sym c.if-not-has_live_cue.true ∙ is_true in absurd cc)))
