use Rattle.std.proofs.Common.{chars}
use Rattle.cue_list.specs.Private.State.{past_of}
use Rattle.cue_list.proofs.SettingLaws.{missing-none, text_head-set, set-refused-as}
use Rattle.cue_list.proofs.reader.Reader.set_text.Goals as goal

pub returns-in-Ok-clause-glyphs : goal.returns-in-Ok-clause-glyphs
returns-in-Ok-clause-glyphs c = missing-none c.args.font.now (chars c.args.text.now) c.in-Ok.ensures.glyphs

pub returns-in-Ok-clause-head : goal.returns-in-Ok-clause-head
returns-in-Ok-clause-head c =
    text_head-set c.args.font.now (chars c.args.text.now) c.args.cue.ink c.args.cue.paper c.args.region.depth
    c.in-Ok.picture c.in-Ok.ensures.set

pub returns-in-Err-clause-refused : goal.returns-in-Err-clause-refused
returns-in-Err-clause-refused c =
    set-refused-as c.args.font.now (chars c.args.text.now) c.in-Err.fault (past_of c.args.self.now) c.args.cue.placing
    c.args.region c.record_fault_of.result c.record_fault_of.ensures c.in-Err.ensures.refused
