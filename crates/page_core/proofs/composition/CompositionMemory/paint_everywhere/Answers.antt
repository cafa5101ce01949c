use Rattle.std.proofs.Common.{◌≡◌, ◌∙◌, None, ap, subst, sym}
use Rattle.page_core.proofs.Objects.EverywhereKept.{have_regions, no_faults, are_apart, all_written, regions_have, everywhere_composition, everywhere_kept}
use Rattle.segments.specs.Contents.{object_value}
use Rattle.page_core.specs.Private.Everywhere.{AreKeptWritten, with_all_painted}
use Rattle.page_core.specs.Private.Listings.{painter_of}
use Rattle.page_core.specs.Private.ObjectFaults.{fault_in_kept, least_of}
use Rattle.page_core.specs.declared.composition.listings.Painter.{Painter}
use Rattle.page_core.proofs.Objects.ObjectRegions.{fault_answered}
use Rattle.page_core.proofs.composition.CompositionMemory.paint_everywhere.Goals as goal

pub paint_regions-requires-clause-regions : goal.paint_regions-requires-clause-regions
paint_regions-requires-clause-regions c =
    have_regions c.self.inside.pool c.args.self.now c.args.store.now c.self.view_is c.requires.regions

pub invariant_of-self : goal.invariant_of-self
invariant_of-self c =
    everywhere_kept c.painter.result c.self.inside.pool c.paint_regions.new.pool c.paint_regions.ensures.nodes
    c.self.inside.regions c.self.inside.cluts c.self.invariant

pub returns-clause-composition : goal.returns-clause-composition
returns-clause-composition c =
    everywhere_composition c.painter.result c.self.inside.pool c.paint_regions.new.pool c.paint_regions.ensures.nodes
    c.args.self.now c.self.view_is
    ∙ ap (λ (p : Painter). with_all_painted p c.args.self.now) c.painter.ensures

pub returns-clause-regions : goal.returns-clause-regions
returns-clause-regions c =
    regions_have c.self.inside.pool c.args.self.now c.paint_regions.new.store c.self.view_is
    c.paint_regions.ensures.regions

pub returns-clause-written : goal.returns-clause-written
returns-clause-written c = λ content fields none apart.
    let object = object_value c.args.object.now in
    let none_by_painter =
    subst (λ (p : Painter). least_of (fault_in_kept p content object) c.args.self.now.regions ≡ None)
    (sym c.painter.ensures) none in
    subst (λ (p : Painter). AreKeptWritten p content c.args.self.now.regions c.args.store.now
    c.paint_regions.new.store) c.painter.ensures
    (all_written c.painter.result content c.self.inside.pool c.args.self.now c.args.store.now c.paint_regions.new.store
    c.self.view_is
    (c.paint_regions.ensures.written content fields
    (no_faults c.painter.result content object c.self.inside.pool c.args.self.now c.self.view_is none_by_painter)
    (are_apart c.self.inside.pool c.args.self.now c.self.view_is apart)))

pub returns-clause-fault : goal.returns-clause-fault
returns-clause-fault c content fields apart =
    fault_answered c.self.inside.pool c.args.self.now c.painter.result (painter_of c.args.object.now) content
    (object_value c.args.object.now) c.paint_regions.result c.fault_of.result c.self.view_is c.painter.ensures
    (c.paint_regions.ensures.fault content fields (are_apart c.self.inside.pool c.args.self.now c.self.view_is apart))
    c.fault_of.ensures
