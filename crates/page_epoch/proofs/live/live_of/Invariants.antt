use Rattle.std.proofs.Common.{◌≡◌, filter, take}
use Rattle.cue_list.specs.Authored.{is_live}
use Rattle.page_epoch.specs.Live.{cue_at}
use Rattle.page_epoch.proofs.live.live_of.Given as goal

abbrev pub invariant-loop-place : goal.invariant-loop-place
invariant-loop-place l =
    l.live.items ≡ filter (λ place. is_live l.tick (cue_at l.cues place)) (take l.place-index l.places)
