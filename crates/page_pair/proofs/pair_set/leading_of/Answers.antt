use Rattle.std.proofs.Common.{◌∙◌}
use Rattle.page_pair.specs.PairSets.{names_of}
use Rattle.page_pair.proofs.PairSetLaws.{leading_is}
use Rattle.page_pair.proofs.pair_set.leading_of.Goals as goal

pub returns : goal.returns
returns c =
    leading_is c.args.pages (names_of c.args.shared.now.first.now) (names_of c.args.shared.now.second.now)
    c.args.one.now c.args.two.now c.as_slice-own.result.now c.as_slice-other.result.now c.new-written.result
    c.put_head.new.self c.put_head-2.new.self c.put_language.new.written c.put_language-2.new.written
    c.put_language-3.new.written (c.as_slice-own.ensures.value ∙ c.in_ok-cluts.ensures)
    (c.as_slice-other.ensures.value ∙ c.in_ok-others.ensures) c.new-written.ensures c.in_ok-put_head.ensures
    c.in_ok-put_head-2.ensures c.in_ok-put_language.ensures c.in_ok-put_language-2.ensures
    c.in_ok-put_language-3.ensures
