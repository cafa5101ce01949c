use Rattle.std.proofs.Common.{nat_lt, rules}
use Rattle.std.proofs.lemmas.Fn.{filter_same}
use Rattle.buffer_model.proofs.waiting.forget_done.Goals as goal

pub returns-clause-items : goal.returns-clause-items
returns-clause-items c =
    filter_same _ (λ set. nat_lt c.args.tick set.done) _ (λ x b f' says. search rules) _ _ c.retain.ensures.filtered
