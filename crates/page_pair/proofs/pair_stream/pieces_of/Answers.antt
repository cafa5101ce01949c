use Rattle.std.proofs.Common.{◌∷◌, []}
use Rattle.page_pair.proofs.SendingLaws.{one_cut, pieces_more}
use Rattle.page_pair.proofs.pair_stream.pieces_of.Goals as goal

pub push_units-requires-clause-units : goal.push_units-requires-clause-units
push_units-requires-clause-units c = (
  c.unit-item.result ∷ [],
  one_cut c.unit-item.result c.as_slice.result.now c.len.result c.as_slice.ensures c.len.ensures,
)

pub loop-unit-preserved : goal.loop-unit-preserved
loop-unit-preserved c = record {
  pieces =
      pieces_more c.args.units.now c.loop-unit.unit-index c.unit-item.result c.as_slice.result.now c.len.result
      c.loop-unit.pieces.items c.push_units.new.pieces.items c.loop-unit-test.true c.unit-item.is c.as_slice.ensures
      c.len.ensures c.loop-unit.invariant.pieces c.in_ok-push_units.ensures.pieces;
  each = c.in_ok-push_units.ensures.each;
}
