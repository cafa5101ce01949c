use Rattle.splice.proofs.PreparedLaws.{prepared_whole, within_of}
use Rattle.splice.proofs.prepared.prepare.Goals as goal

pub prepare_whole-requires-clause-within : goal.prepare_whole-requires-clause-within
prepare_whole-requires-clause-within c =
    within_of c.args.ready c.in-Some.set c.in-Ok.bytes c.in-Some.is c.in-Ok.is c.requires.within

pub returns-in-Ok : goal.returns-in-Ok
returns-in-Ok c =
    prepared_whole c.args.part c.args.begin c.args.lifted c.args.ready c.in-Some.set c.in-Ok.bytes c.in-Some.is
    c.in-Ok.is
    c.prepare_whole.result c.prepare_whole.ensures
