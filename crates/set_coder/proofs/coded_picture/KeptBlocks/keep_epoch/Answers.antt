use Rattle.std.proofs.Common.{◌<◌, ◌≤◌, length, ap, arith}
use Rattle.set_coder.specs.KeptBlocks.{IsCueKept}
use Rattle.set_coder.proofs.GrownBlockLaws.{stays_on}
use Rattle.set_coder.proofs.KeptLaws.{front_stays, next_cue, all_taken}
use Rattle.set_coder.proofs.coded_picture.KeptBlocks.keep_epoch.Goals as goal

pub loop-cue-preserved : goal.loop-cue-preserved
loop-cue-preserved c =
    let next = c.keep_cue.ensures in
    let before = c.loop-cue.invariant in
    let lt : c.loop-cue.cue-index < length c.args.epoch.now.cues =
    omega (arith, ap length c.as_slice-cue-items.ensures) in
    record {
      blocks = next.blocks;
      kept =
          next_cue c.args.pictures.now c.args.epoch.now c.args.epoch.now.cues c.as_slice-cue-items.result.now
          c.loop-cue.cue-index _ c.loop-cue.self.coded.items c.keep_cue.new.self.coded.items lt
          c.as_slice-cue-items.ensures
          (front_stays c.loop-cue.self.coded.items c.keep_cue.new.self.coded.items next.front)
          before.kept c.in_ok-keep_cue.ensures.kept;
      front =
          stays_on c.args.self.now.coded.items c.loop-cue.self.coded.items c.keep_cue.new.self.coded.items
          before.front next.front;
    }

pub returns-clause-kept : goal.returns-clause-kept
returns-clause-kept c =
    let end : length c.args.epoch.now.cues ≤ c.loop-cue.cue-index =
    omega (arith, ap length c.as_slice-cue-items.ensures) in
    all_taken (IsCueKept c.args.pictures.now c.loop-cue.self.coded.items c.args.epoch.now) c.loop-cue.cue-index
    c.args.epoch.now.cues end c.loop-cue.invariant.kept
