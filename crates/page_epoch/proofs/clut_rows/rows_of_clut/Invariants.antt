use Rattle.std.proofs.Common.{◌≡◌, ◌==◌, filter}
use Rattle.page_epoch.specs.Live.{places_below}
use Rattle.page_epoch.specs.SentCluts.{row_at}
use Rattle.page_epoch.proofs.clut_rows.rows_of_clut.Given as goal

abbrev pub invariant-loop-place : goal.invariant-loop-place
invariant-loop-place l =
    l.own.items ≡ filter (λ place. (row_at l.colours place).clut == l.clut) (places_below l.place)
