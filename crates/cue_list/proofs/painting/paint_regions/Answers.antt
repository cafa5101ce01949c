use Rattle.sub_base.specs.declared.depth.Depth.TheVariants.{Two}
use Rattle.cue_records.specs.declared.region.Region.{Region}
use Rattle.cue_list.proofs.SceneLaws.{ShowsRegions-more}
use Rattle.cue_list.proofs.painting.paint_regions.Goals as goal

abbrev no_region : Region
no_region = record { id = 0; x = 0; y = 0; width = 0; height = 0; depth = Two; clut = 0 }

pub paint_region-requires-clause-cues : goal.paint_region-requires-clause-cues
paint_region-requires-clause-cues c =
    c.requires.regions.fit c.loop-region.region-index no_region c.loop-region-test.true

pub loop-region-preserved : goal.loop-region-preserved
loop-region-preserved c =
    ShowsRegions-more c.args.script.now.pictures c.args.epoch.now c.args.regions.now c.args.tick c.args.script.now.width
    c.args.script.now.height c.loop-region.region-index no_region
    c.loop-region.plane c.paint_region.new.plane c.requires.regions c.loop-region-test.true c.loop-region.invariant
    c.paint_region.ensures
