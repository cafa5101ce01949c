use Rattle.std.proofs.Common.{ℕ, List, subst}
use Rattle.page_pair.specs.Private.Objects.{AreAt}
use Rattle.page_pair.proofs.ObjectLaws.{side_ready}
use Rattle.page_pair.proofs.set_object.Language.of.Goals as goal

pub returns-clause-ready : goal.returns-clause-ready
returns-clause-ready c =
    let script = c.args.script.now in
    let epoch = c.epoch_of-epoch.result.now in
    let objects = c.in_ok-objects.objects.items in
    side_ready script c.args.set.now epoch objects c.epoch_of-epoch.ensures.found c.epoch_of-epoch.ensures.usable
    c.epoch_of-epoch.ensures.carried
    (subst (λ (cues : List ℕ). AreAt script.pictures epoch cues objects) c.as_slice.ensures c.in_ok-objects.ensures)
