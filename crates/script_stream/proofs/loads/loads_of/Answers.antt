use Rattle.schedule.specs.Slots.{IsLoad}
use Rattle.set_coder.specs.SetSizes.{IsSetLoad}
use Rattle.script_stream.proofs.LoadLaws.{is_load}
use Rattle.script_stream.proofs.UnitLaws.{AllZip-step, All-step}
use Rattle.script_stream.proofs.loads.loads_of.Goals as goal

pub loop-set-preserved : goal.loop-set-preserved
loop-set-preserved c =
    let asked = c.in_ok-load_of.ensures in
    let load = c.in_ok-load_of.field-0 in (
      AllZip-step (IsSetLoad c.args.script.now) c.args.sets.now c.loop-set.loads.items c.push.new.self.items
          c.loop-set.set-index c.set-item.result load c.loop-set-test.true
          c.loop-set.invariant.0 c.set-item.is c.in_ok-push.ensures.items asked.load,
      All-step IsLoad c.loop-set.loads.items c.push.new.self.items load c.loop-set.invariant.1
          c.in_ok-push.ensures.items
          (is_load c.args.script.now c.set-item.result load asked.load asked.some asked.early asked.short),
    )
