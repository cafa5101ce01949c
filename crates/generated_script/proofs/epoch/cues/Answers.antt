use Rattle.cue_list.specs.declared.epoch.Cue.{Cue}
use Rattle.generated_script.specs.Generated.{IsGeneratedCue}
use Rattle.generated_script.proofs.ListLaws.{item_more, number_more}
use Rattle.generated_script.proofs.epoch.cues.Goals as goal

pub loop-place-preserved : goal.loop-place-preserved
loop-place-preserved c =
    record {
      each =
          item_more IsGeneratedCue c.args.first c.loop-place.place c.loop-place.cues.items c.push.new.self.items
          c.cue.result c.loop-place.invariant.each c.cue.ensures.generated c.in_ok-push.ensures.items;
      rows =
          number_more (λ (cue : Cue). cue.row) c.args.row c.loop-place.place c.loop-place.cues.items
          c.push.new.self.items c.cue.result c.loop-place.invariant.rows c.cue.ensures.row
          c.in_ok-push.ensures.items;
    }
