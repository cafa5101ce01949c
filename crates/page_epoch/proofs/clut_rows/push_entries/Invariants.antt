use Rattle.std.proofs.Common.{◌≡◌, ◌++◌, map}
use Rattle.std.specs.List.{range_with_len}
use Rattle.page_epoch.proofs.clut_rows.push_entries.Given as goal

abbrev pub invariant-loop-number : goal.invariant-loop-number
invariant-loop-number l =
    l.entries.items ≡ l.initial.entries.items
    ++ map (λ number. record { depth = l.depth; number = number }) (range_with_len 0 l.number)
