use Rattle.std.proofs.Common.{List, [], take}
use Rattle.sub_base.specs.declared.colour.Colour.{Colour}
use Rattle.cue_list.specs.Authored.{live_cues}
use Rattle.cue_list.specs.Planes.{HasLive}
use Rattle.cue_list.proofs.painting.paint_live_cues.Given as goal

abbrev pub invariant-loop-cue : goal.invariant-loop-cue
invariant-loop-cue l = (before : List Colour)
    → HasLive l.script.pictures l.entries l.region [] l.script.width l.script.height before l.initial.plane →
    HasLive l.script.pictures l.entries l.region (live_cues (take l.cue-index l.cues) l.region.id l.tick) l.script.width
    l.script.height before l.plane
