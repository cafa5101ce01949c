-- A node was free, or none was.
use Rattle.std.proofs.Common.{refl}
use Rattle.page_core.proofs.ColourTables.ClutNodes.{pushed_is, room_for_push}
use Rattle.page_core.proofs.composition.cluts.push.Goals as goal

pub push_back-requires : goal.push_back-requires
push_back-requires c = c.requires

pub returns-in-Ok : goal.returns-in-Ok
returns-in-Ok c = (
  room_for_push c.args.pool.now.free c.in-Ok.node c.push_back.result c.in-Ok.is c.push_back.ensures.full,
  pushed_is
      c.args.list (c.in-Ok.node, c.args.item) c.args.pool.now c.push_back.new.self c.in-Ok.ensures.pushed c.requires
      c.push_back.ensures.nodes,
)

pub returns-in-Err : goal.returns-in-Err
returns-in-Err c = (c.in-Err.ensures.full.0 refl, c.in-Err.ensures.unchanged)
