use Rattle.std.proofs.Common.{◌∷◌, [], ◌++◌}
use Rattle.script_stream.proofs.UnitLaws.{written_more}
use Rattle.script_stream.proofs.units.units_of.Goals as goal

pub loop-set-preserved : goal.loop-set-preserved
loop-set-preserved c =
    let so_far = c.loop-set.invariant in
    let one = c.in_ok-set_units.ensures in (
      so_far.0 ++ one.0 ∷ [],
      written_more c.args.script.now c.args.page c.args.sets.now c.loop-set.set-index c.set-item.result
          c.in_ok-set_units.field-0 one.0 c.loop-set.written.items c.push.new.self.items so_far.0 c.loop-set-test.true
          c.set-item.is so_far.1 one.1 one.2 one.3 c.in_ok-push.ensures.items,
    )
