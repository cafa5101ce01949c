use Rattle.std.proofs.Common.{subst}
use Rattle.cue_list.specs.declared.epoch.Epoch.{Epoch}
use Rattle.page_epoch.specs.Sendable.{IsSendableIn}
use Rattle.set_coder.proofs.UsableLaws.{usable, found_once}
use Rattle.set_coder.proofs.named.epoch_of.Goals as goal

pub returns-clause-usable : goal.returns-clause-usable
returns-clause-usable c =
    let s = c.args.script.now in
    (usable s.origin s.width s.height s.refresh c.args.set.now.epoch s.epochs s.pictures c.index-as_slice-set.result
    s.sound (found_once s.epochs c.args.set.now.epoch c.requires.epoch c.index-as_slice-set.result
    c.as_slice.result.now c.requires.found c.as_slice.ensures c.index-as_slice-set.is).0).0

pub returns-clause-carried : goal.returns-clause-carried
returns-clause-carried c =
    let s = c.args.script.now in
    subst (λ (epoch : Epoch). IsSendableIn epoch c.args.set.now)
    (found_once s.epochs c.args.set.now.epoch c.requires.epoch c.index-as_slice-set.result c.as_slice.result.now
    c.requires.found c.as_slice.ensures c.index-as_slice-set.is).1 c.requires.carried

pub returns-clause-drawable : goal.returns-clause-drawable
returns-clause-drawable c =
    let s = c.args.script.now in
    (usable s.origin s.width s.height s.refresh c.args.set.now.epoch s.epochs s.pictures c.index-as_slice-set.result
    s.sound (found_once s.epochs c.args.set.now.epoch c.requires.epoch c.index-as_slice-set.result
    c.as_slice.result.now c.requires.found c.as_slice.ensures c.index-as_slice-set.is).0).1
