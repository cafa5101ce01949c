use Rattle.std.proofs.lemmas.Result.{on_ok_weaker}
use Rattle.page_pair.proofs.PairSetLaws.{behind_more}
use Rattle.page_pair.proofs.pair_set.put_behind.Goals as goal

pub returns : goal.returns
returns c =
    on_ok_weaker c.put_end-2.result
    (behind_more c.args.pages c.args.objects.now c.args.written.now c.put_objects.new.self c.put_end.new.self
    c.put_end-2.new.self c.in_ok-put_objects.ensures c.in_ok-put_end.ensures)
    c.put_end-2.ensures
