use Rattle.std.proofs.lemmas.Result.{on_ok_weaker}
use Rattle.set_coder.specs.SetSegments.{object_segment}
use Rattle.set_coder.proofs.ObjectLaws.{object_named, object_is}
use Rattle.set_coder.proofs.set_objects.append_object.Goals as goal

pub returns-clause-object : goal.returns-clause-object
returns-clause-object c =
    let pictures = c.args.script.now.pictures in
    let epoch = c.args.epoch.now in
    let named =
    object_named pictures c.as_slice.result.now epoch c.args.place c.cue_at-cue.result c.index-as_slice-cue.result
    c.epoch_region-region.result c.requires.drawable c.requires.cue c.cue_at-cue.ensures c.as_slice.ensures
    c.index-as_slice-cue.is c.epoch_region-region.ensures in
    on_ok_weaker c.append_blocks.result
    (λ h. (
      object_segment c.args.place c.cue_at-cue.result.see_through c.fields_of.result.0.now c.fields_of.result.1.now,
      object_is pictures epoch c.args.place c.cue_at-cue.result c.index-as_slice-cue.result
          c.epoch_region-region.result.depth c.fields_of.result.0.now c.fields_of.result.1.now
          c.cue_at-cue.ensures named.0 named.1 c.fields_of.ensures.fields c.fields_of.ensures.drawn,
      c.append_blocks.ensures.fits,
      h,
    ))
    c.append_blocks.ensures.bytes
