use Rattle.std.proofs.Common.{◌∙◌, false, List, get_or, take, sym, subst}
use Rattle.cue_list.specs.declared.epoch.Cue.{Cue}
use Rattle.cue_list.specs.Authored.{live_cues}
use Rattle.cue_list.specs.Planes.{HasLive}
use Rattle.cue_list.proofs.EntryLaws.{filter-passed, filter-taken}
use Rattle.cue_list.proofs.RegionLaws.{HasLive-more, live_names}
use Rattle.cue_list.proofs.painting.paint_live_cues.Goals as goal
use Rattle.cue_list.proofs.painting.paint_live_cues.Goals.{then-is_live_in, else-is_live_in}

abbrev no_cue : Cue
no_cue = record { start = 0; end = 0; row = 0; region = 0; x = 0; y = 0; picture = 0; see_through = false }

pub loop-cue-preserved : goal.loop-cue-preserved
loop-cue-preserved c before filled =
    let Live : List Cue
    → Type 0 = λ live. HasLive c.args.script.now.pictures c.args.entries.now c.args.region live
    c.args.script.now.width c.args.script.now.height before c.if-is_live_in.plane in
    elim c.if-is_live_in.branch [
      | then-is_live_in w ↦
          let passes = sym c.is_live_in.ensures ∙ w.if-is_live_in.true in
          let fits =
          c.requires.cues c.loop-cue.cue-index no_cue c.loop-cue-test.true
          (live_names (get_or c.args.cues.now c.loop-cue.cue-index no_cue) c.args.region.id c.args.tick passes) in
          subst Live (sym (filter-taken _ c.args.cues.now c.loop-cue.cue-index no_cue c.loop-cue-test.true passes))
          (rw w.plane-is
          (HasLive-more c.args.script.now.pictures c.args.entries.now c.args.region
          (live_cues (take c.loop-cue.cue-index c.args.cues.now) c.args.region.id c.args.tick)
          c.args.script.now.width c.args.script.now.height before c.loop-cue.plane w.paint_cue.new.plane
          (get_or c.args.cues.now c.loop-cue.cue-index no_cue)
          fits (c.loop-cue.invariant before filled) w.paint_cue.ensures))
      | else-is_live_in w ↦
          subst Live
          (sym (filter-passed _ c.args.cues.now c.loop-cue.cue-index no_cue c.loop-cue-test.true
          (sym c.is_live_in.ensures ∙ w.if-is_live_in.false)))
          (rw w.plane-is (c.loop-cue.invariant before filled))
    ]
