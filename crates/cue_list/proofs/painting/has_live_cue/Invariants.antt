use Rattle.std.proofs.Common.{◌≡◌, [], take}
use Rattle.cue_list.specs.Authored.{live_cues}
use Rattle.cue_list.proofs.painting.has_live_cue.Given as goal

abbrev pub invariant-loop-cue : goal.invariant-loop-cue
invariant-loop-cue l = live_cues (take l.cue-index l.cues) l.region l.tick ≡ []
