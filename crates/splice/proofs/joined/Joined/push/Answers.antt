-- One set more is kept.
use Rattle.std.proofs.Common.{refl}
use Rattle.splice.proofs.JoinedLaws.{joined_more}
use Rattle.splice.proofs.joined.Joined.push.Goals as goal

pub returns : goal.returns
returns c sets set so is at early paints few =
    joined_more c.args.self.now _ sets set c.args.sending _ _ c.args.time c.args.painted so is at early paints few
    refl refl refl refl c.new.ensures c.new-2.ensures c.in_ok-push.ensures.items c.in_ok-push-2.ensures.items
