use Rattle.cue_list.proofs.RegionLaws.{get_or-zeros}
use Rattle.cue_list.proofs.painting.no_ticks.Goals as goal

pub returns : goal.returns
returns c entry = get_or-zeros 256 entry
