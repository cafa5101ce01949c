use Rattle.std.proofs.Common.{◌≡◌, map, take}
use Rattle.page_epoch.specs.SentCluts.{row_at}
use Rattle.page_epoch.proofs.clut_changes.ticks_of.Given as goal

abbrev pub invariant-loop-place : goal.invariant-loop-place
invariant-loop-place l = l.ticks.items ≡ map (λ place. (row_at l.colours place).tick) (take l.place-index l.own)
