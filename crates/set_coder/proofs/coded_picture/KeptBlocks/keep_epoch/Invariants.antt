use Rattle.std.proofs.Common.{take, All}
use Rattle.set_coder.specs.KeptBlocks.{IsCueKept}
use Rattle.set_coder.specs.GrownBlocks.{AreBlocksOf}
use Rattle.set_coder.specs.Private.Keeping.{StaysInFront}
use Rattle.set_coder.proofs.coded_picture.KeptBlocks.keep_epoch.Given as goal

abbrev pub invariant-loop-cue : goal.invariant-loop-cue
invariant-loop-cue l = record {
  blocks : AreBlocksOf l.pictures l.self;
  kept : All (IsCueKept l.pictures l.self.coded.items l.epoch) (take l.cue-index l.epoch.cues);
  front : StaysInFront l.fn.self.coded.items l.self.coded.items;
}
