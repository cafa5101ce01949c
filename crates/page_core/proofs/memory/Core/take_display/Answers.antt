-- The display of a set is in force.
use Rattle.std.proofs.Common.{◌∙◌, Some, None, ap, sym, subst, option_map}
use Rattle.stream_syntax.specs.Segments.{Display}
use Rattle.segments.specs.Contents.{display_value}
use Rattle.page_core.specs.Cores.{memory_of}
use Rattle.page_core.specs.Memory.{HoldsSegments, showing}
use Rattle.page_core.specs.Private.RegionTests.{before_regions}
use Rattle.page_core.proofs.Sets.DisplaySteps.{display_behind}
use Rattle.page_core.proofs.Sets.QuietSteps.{before_regions_hold}
use Rattle.page_core.proofs.memory.Core.take_display.Goals as goal

pub returns-in-Some-clause-holds : goal.returns-in-Some-clause-holds
returns-in-Some-clause-holds c older set holds is once =
    let shown =
    display_behind older set (Some (display_value c.in-Some.display))
    (is ∙ ap (option_map display_value) c.in-Some.is) once in
    let memory =
    memory_of c.self.inside.profile c.self.inside.page c.self.inside.anchor c.self.inside.last c.self.inside.known
    c.self.inside.time_out c.self.inside.display c.self.inside.composition c.self.inside.inks c.self.inside.store in
    subst (λ (display : Display). HoldsSegments (before_regions older set) (showing display memory)) shown
    (before_regions_hold older set memory (subst (HoldsSegments older) (sym c.self.view_is) holds))

pub returns-in_default-clause-holds : goal.returns-in_default-clause-holds
returns-in_default-clause-holds c older set holds is once =
    let shown = display_behind older set None (is ∙ ap (option_map display_value) c.in_default.is) once in
    subst (λ (display : Display). HoldsSegments (before_regions older set) (showing display c.args.self.now))
    (shown ∙ sym holds.display) (before_regions_hold older set c.args.self.now holds)
