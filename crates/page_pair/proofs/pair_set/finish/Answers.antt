use Rattle.std.proofs.Common.{◌+◌, arith, refl}
use Rattle.page_pair.proofs.PairSetLaws.{too_long, whole_short}
use Rattle.page_pair.proofs.pair_set.finish.Goals as goal

pub returns-then-size-gt-UNIT_ROOM-clause-stop : goal.returns-then-size-gt-UNIT_ROOM-clause-stop
returns-then-size-gt-UNIT_ROOM-clause-stop c =
    too_long c.args.pages c.args.objects.now c.size_with-size.result (c.size_with-size.result + 17) c.args.written.now
    c.size_with-size.ensures.size (omega (arith, c.if-size-gt-UNIT_ROOM.true)) refl

pub returns-in-Ok-clause-short : goal.returns-in-Ok-clause-short
returns-in-Ok-clause-short c =
    whole_short c.args.pages c.args.objects.now c.size_with-size.result c.args.written.now c.put_behind.new.written
    c.size_with-size.ensures.size (omega (arith, c.if-size-gt-UNIT_ROOM.false)) c.in-Ok.ensures
