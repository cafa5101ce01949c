use Rattle.std.proofs.Common.{List, All, ◌<◌, ◌≤◌, ◌≡◌, length, get_or, ap, subst, ◌∙◌, arith}
use Rattle.sub_base.specs.Picture.{Picture}
use Rattle.cue_list.specs.declared.epoch.Epoch.{Epoch}
use Rattle.set_coder.specs.KeptBlocks.{IsCueKept}
use Rattle.set_coder.specs.GrownBlocks.{AreBlocksOf}
use Rattle.set_coder.proofs.GrownBlockLaws.{stays_on}
use Rattle.set_coder.proofs.KeptLaws.{front_stays, next_epoch, all_taken}
use Rattle.set_coder.proofs.coded_picture.KeptBlocks.keep_epochs.Goals as goal

pub loop-epoch-preserved : goal.loop-epoch-preserved
loop-epoch-preserved c =
    let next = c.keep_epoch.ensures in
    let before = c.loop-epoch.invariant in
    let epoch = c.epoch-item.result in
    let more = c.keep_epoch.new.self.coded.items in
    let lt : c.loop-epoch.epoch-index < length c.args.script.now.epochs =
    omega (arith, ap length c.as_slice-epoch-items.ensures) in
    let is : epoch ≡ get_or c.args.script.now.epochs c.loop-epoch.epoch-index epoch =
    c.epoch-item.is
    ∙ ap (λ (es : List Epoch). get_or es c.loop-epoch.epoch-index epoch) c.as_slice-epoch-items.ensures in
    record {
      blocks = subst (λ (ps : List Picture). AreBlocksOf ps c.keep_epoch.new.self) c.as_slice.ensures next.blocks;
      kept =
          next_epoch c.args.script.now.pictures c.args.script.now.epochs c.loop-epoch.epoch-index epoch
          c.loop-epoch.self.coded.items more lt is (front_stays c.loop-epoch.self.coded.items more next.front)
          before.kept
          (subst (λ (ps : List Picture). All (IsCueKept ps more epoch) epoch.cues) c.as_slice.ensures
          c.in_ok-keep_epoch.ensures.kept);
      front = stays_on c.args.self.now.coded.items c.loop-epoch.self.coded.items more before.front next.front;
    }

pub returns-clause-kept : goal.returns-clause-kept
returns-clause-kept c =
    let end : length c.args.script.now.epochs ≤ c.loop-epoch.epoch-index =
    omega (arith, ap length c.as_slice-epoch-items.ensures) in
    all_taken
    (λ (epoch : Epoch). All (IsCueKept c.args.script.now.pictures c.loop-epoch.self.coded.items epoch) epoch.cues)
    c.loop-epoch.epoch-index c.args.script.now.epochs end c.loop-epoch.invariant.kept
