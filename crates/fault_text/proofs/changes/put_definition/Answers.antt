use Rattle.std.proofs.Common.{◌∙◌, sym}
use Rattle.fault_text.proofs.ChangeLaws.{change_told, change_untold}
use Rattle.fault_text.proofs.changes.put_definition.Goals as goal

pub returns-then-says_else : goal.returns-then-says_else
returns-then-says_else g c =
    change_told c.args.number c.args.pts c.args.stands c.args.one _ _ c.args.known.now c.learn.new.self
    c.args.buffer.now c.put_changed.new.buffer c.last-last.result c.requires c.last-last.ensures c.learn.ensures
    (sym c.says_else.ensures ∙ c.if-says_else.true) c.put_changed.ensures

pub returns-else-says_else : goal.returns-else-says_else
returns-else-says_else g c =
    change_untold c.args.number c.args.pts c.args.stands c.args.one _ c.args.known.now c.learn.new.self
    c.args.buffer.now c.last-last.result c.requires c.last-last.ensures c.learn.ensures
    (sym c.says_else.ensures ∙ c.if-says_else.false)
