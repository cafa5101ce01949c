use Rattle.std.proofs.Common.{◌≡◌, ◌==◌, filter, take}
use Rattle.page_epoch.specs.SentCluts.{row_at}
use Rattle.page_epoch.proofs.clut_rows.rows_of_tick.Given as goal

abbrev pub invariant-loop-place : goal.invariant-loop-place
invariant-loop-place l =
    l.found.items ≡ filter (λ place. (row_at l.colours place).tick == l.tick) (take l.place-index l.rows)
