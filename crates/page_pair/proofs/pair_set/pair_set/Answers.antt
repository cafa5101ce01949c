use Rattle.std.proofs.Common.{◌∙◌}
use Rattle.page_pair.proofs.PairSetLaws.{pair_stop, pair_written}
use Rattle.page_pair.proofs.pair_set.pair_set.Goals as goal

pub returns-in-Ok-finish-clause-written : goal.returns-in-Ok-finish-clause-written
returns-in-Ok-finish-clause-written c =
    pair_written c.args.pages c.args.one.now c.args.two.now c.as_slice.result.now c.in-Ok.written
    (c.as_slice.ensures.value ∙ c.in-Ok.ensures.objects) c.in-Ok.ensures.leading c.finish.new.written
    c.in-Ok-finish.ensures.written

pub returns-in-Err-finish-clause-stop : goal.returns-in-Err-finish-clause-stop
returns-in-Err-finish-clause-stop c =
    pair_stop c.args.pages c.args.one.now c.args.two.now c.as_slice.result.now c.in-Ok.written
    (c.as_slice.ensures.value ∙ c.in-Ok.ensures.objects) c.in-Ok.ensures.leading c.in-Err-finish.stop
    c.in-Err-finish.ensures.stop
