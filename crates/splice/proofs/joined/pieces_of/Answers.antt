use Rattle.std.proofs.Common.{◌<◌, ◌++◌, [], List, length, get_or, sym, ap, ◌∙◌, arith}
use Rattle.slot_stream.specs.SlotStream.{Piece, all_pieces}
use Rattle.splice.proofs.JoinedLaws.{all_pieces-more, cut_many, lent_units, units_at}
use Rattle.splice.proofs.joined.pieces_of.Goals as goal

pub push_units-requires-clause-units : goal.push_units-requires-clause-units
push_units-requires-clause-units c =
    let cut = c.requires.cut in
    let units = get_or cut.0 c.loop-i.i [] in
    let own =
    units_at c.args.loads.now c.args.written.now cut.0 c.loop-i.i c.index-loads-i.result c.index-written-i.result
    c.loop-i-test.true c.index-written-i.is cut.1 in (
      units,
      lent_units (get_or c.args.loads.now c.loop-i.i c.index-loads-i.result).units c.as_slice.result.now
          c.index-written-i.result c.as_slice-in-loop-i.result.now units c.as_slice.ensures c.as_slice-in-loop-i.ensures
          own,
    )

pub loop-i-preserved : goal.loop-i-preserved
loop-i-preserved c = record {
  pieces = λ units cut.
      let here = get_or units c.loop-i.i [] in
      let own =
      units_at c.args.loads.now c.args.written.now units c.loop-i.i c.index-loads-i.result c.index-written-i.result
      c.loop-i-test.true c.index-written-i.is cut in
      let lent =
      lent_units (get_or c.args.loads.now c.loop-i.i c.index-loads-i.result).units c.as_slice.result.now
      c.index-written-i.result c.as_slice-in-loop-i.result.now here c.as_slice.ensures c.as_slice-in-loop-i.ensures
      own in
      let many : c.loop-i.i < length units =
      omega (arith, (cut_many c.args.loads.now c.args.written.now units cut).1, c.loop-i-test.true) in
      c.in_ok-push_units.ensures.pieces here lent
      ∙ ap (λ (ps : List Piece). ps ++ all_pieces here) (c.loop-i.invariant.pieces units cut)
      ∙ sym (all_pieces-more units c.loop-i.i many);
  each = c.in_ok-push_units.ensures.each;
}
