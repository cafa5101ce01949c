use Rattle.comp_pool.proofs.NodeLaws.{in_list_first}
use Rattle.comp_pool.proofs.WalkLaws.{walk_start}
use Rattle.page_core.proofs.composition.walk.Walk.start.Goals as goal

pub invariant_of-result : goal.invariant_of-result
invariant_of-result c =
    record {
      distinct = c.first.ensures.distinct;
      listed = λ node is. in_list_first c.args.pool.now c.args.list node
          c.first.result c.first.ensures.first is;
    }

pub returns : goal.returns
returns c = walk_start c.args.pool.now c.args.list c.first.result c.first.ensures.first
