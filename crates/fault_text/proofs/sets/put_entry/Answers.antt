use Rattle.std.proofs.Common.{◌∙◌, sym}
use Rattle.fault_text.proofs.LineLaws.{entry_inside, entry_outside}
use Rattle.fault_text.proofs.sets.put_entry.Goals as goal

pub returns-then-is_outside : goal.returns-then-is_outside
returns-then-is_outside g c =
    entry_outside c.args.number c.args.pts c.args.scene.now c.args.stands c.args.entry _ _ c.args.buffer.now
    c.put_outside.new.buffer (sym c.is_outside.ensures ∙ c.if-is_outside.true) c.put_outside.ensures

pub returns-else-is_outside : goal.returns-else-is_outside
returns-else-is_outside g c =
    entry_inside c.args.number c.args.pts c.args.scene.now c.args.stands c.args.entry _ c.args.buffer.now
    (sym c.is_outside.ensures ∙ c.if-is_outside.false)
