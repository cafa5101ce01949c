use Rattle.std.proofs.Common.{◌≡◌, length}
use Rattle.std.specs.Prelude.{◌==◌}
use Rattle.std.specs.List.{list_any}
use Rattle.stream_syntax.specs.declared.page.PageEntry.{PageEntry}
use Rattle.page_core.proofs.composition.CompositionMemory.is_listed.Given as goal

abbrev pub invariant-loop-entry : goal.invariant-loop-entry
invariant-loop-entry l =
    list_any (λ (entry : PageEntry). entry.region == l.id) l.fn.self.entries
    ≡ list_any (λ (entry : PageEntry). entry.region == l.id) l.entries

abbrev pub decreases-loop-entry : goal.decreases-loop-entry
decreases-loop-entry l = length l.entries
