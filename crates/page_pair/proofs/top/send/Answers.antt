use Rattle.page_pair.proofs.EndLaws.{sent_whole}
use Rattle.page_pair.specs.Private.Sending.{pair_bytes}
use Rattle.page_pair.proofs.top.send.Goals as goal

pub returns-in-Ok-write : goal.returns-in-Ok-write
returns-in-Ok-write g c =
    sent_whole c.args.pairing c.args.first.now c.args.second.now
    (pair_bytes c.in-Ok.stream) (g.K.Sink.received c.args.out.now) (g.K.Sink.received c.write.new.out)
    c.requires.pairing.free c.requires.pairing.apart c.in-Ok.ensures.paired c.in-Ok-write.ensures.all
