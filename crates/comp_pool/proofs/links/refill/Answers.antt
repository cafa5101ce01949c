use Rattle.std.proofs.Common.{◌∙◌, ◌<◌, length, arith}
use Rattle.comp_pool.specs.Private.Links.{lists_of}
use Rattle.comp_pool.proofs.Closing.{each_end, free_forward, free_backward}
use Rattle.comp_pool.proofs.links.refill.Goals as goal

pub returns-clause-forward : goal.returns-clause-forward
returns-clause-forward c k short =
    let N = c.args.nexts.now in
    let within : k < length N = omega (arith, short) in
    free_forward c.args.count c.write_free.new.nexts k (c.write_free.ensures.forward k)
    (λ above. c.write_free.ensures.forward_rest k above ∙ (c.close_lists.ensures k (omega (arith, above)) within
    (each_end c.args.count N c.args.backs.now (lists_of c.args.count N) c.requires.linked k (omega (arith, above))
    within)).0)

pub returns-clause-backward : goal.returns-clause-backward
returns-clause-backward c k short =
    let N = c.args.nexts.now in
    let within : k < length N = omega (arith, short, c.requires.linked.both) in
    free_backward c.args.count c.write_free.new.backs k (c.write_free.ensures.backward k)
    (λ above. c.write_free.ensures.backward_rest k above ∙ (c.close_lists.ensures k (omega (arith, above)) within
    (each_end c.args.count N c.args.backs.now (lists_of c.args.count N) c.requires.linked k (omega (arith, above))
    within)).1)
