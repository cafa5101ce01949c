use Rattle.std.proofs.Common.{◌≡◌, ◌≤◌, ◌*◌, take, sum_by}
use Rattle.page_epoch.proofs.layout.drawn_count.Given as goal

abbrev pub invariant-loop-current : goal.invariant-loop-current
invariant-loop-current l = (l.sum ≡ sum_by (λ current. current.drawn_count) (take l.current-index l.states))
    × (l.sum ≤ 4096 * l.current-index)
