use Rattle.std.proofs.Common.{ap}
use Rattle.page_pair.specs.PairSets.{CueObject}
use Rattle.page_pair.proofs.SharingLaws.{shares_pushed}
use Rattle.page_pair.proofs.sharing.share_one.Goals as goal

pub returns-in_ok-push-in-Some-clause-shares : goal.returns-in_ok-push-in-Some-clause-shares
returns-in_ok-push-in-Some-clause-shares c =
    shares_pushed c.args.object.now c.args.one.now c.split_at.result.1.now c.args.pairs.now.items c.push.new.self.items
    c.args.from c.in-Some.at c.index-rest-at.result c.other.inside.cue c.object.inside.cue c.split_at.ensures.back
    c.in-Some.ensures c.index-rest-at.is (ap (λ (o : CueObject). o.cue) c.other.view_is)
    (ap (λ (o : CueObject). o.cue) c.object.view_is) c.in_ok-push-in-Some.ensures.items
