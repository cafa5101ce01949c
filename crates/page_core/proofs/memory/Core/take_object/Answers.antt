-- An object is painted, or has a fault.
use Rattle.std.proofs.Common.{[], ◌∙◌, refl, subst, sym}
use Rattle.page_core.specs.Composition.{Composition}
use Rattle.page_core.specs.Private.Marks.{AreMarked}
use Rattle.stream_syntax.specs.Segments.{SegmentValue}
use Rattle.decoder_model.specs.Readings.{AreObjectFields}
use Rattle.segments.specs.Contents.{object_value}
use Rattle.page_core.specs.Private.Listings.{IsPainter, painter_of}
use Rattle.page_core.specs.Memory.{HoldsSegments}
use Rattle.page_core.proofs.Objects.ObjectMemory.{regions_there, still_whole, painted_holds, fault_is, no_fault_is}
use Rattle.page_core.proofs.memory.Core.take_object.Goals as goal

pub paint_everywhere-requires-clause-regions : goal.paint_everywhere-requires-clause-regions
paint_everywhere-requires-clause-regions c = regions_there _ c.self.invariant.whole

pub invariant_of-self : goal.invariant_of-self
invariant_of-self c = record {
  whole = still_whole (painter_of c.args.object.now) _ _
      (record {
        profile = refl;
        display = refl;
        composition = c.paint_everywhere.ensures.composition;
        inks = refl;
        room = c.paint_everywhere.ensures.room;
        regions = c.paint_everywhere.ensures.regions;
      })
      c.self.invariant.whole;
  anchored = c.self.invariant.anchored;
  timed = c.self.invariant.timed;
  marked =
      subst (λ (composition : Composition). AreMarked composition.set_entries [] c.self.inside.marks)
      (sym c.paint_everywhere.ensures.composition) c.self.invariant.marked;
  few = c.self.invariant.few;
  display = c.self.invariant.display;
}

pub returns-clause-fault : goal.returns-clause-fault
returns-clause-fault c older content holds is fields =
    let object = object_value c.args.object.now in
    let read = subst (λ (v : SegmentValue). AreObjectFields v content.top content.bottom) (sym is) fields in
    let before = subst (HoldsSegments older) (sym c.self.view_is) holds in
    let apart = c.self.invariant.whole.apart in
    c.in_segment.ensures
    ∙ fault_is older _ before (painter_of c.args.object.now) object content
    (record { object = refl; version = refl; see_through = refl }) is c.self.invariant.whole.ids
    c.paint_everywhere.result (c.paint_everywhere.ensures.fault content read apart)

pub returns-clause-taken : goal.returns-clause-taken
returns-clause-taken c older content holds is fields none =
    let object = object_value c.args.object.now in
    let read = subst (λ (v : SegmentValue). AreObjectFields v content.top content.bottom) (sym is) fields in
    let before = subst (HoldsSegments older) (sym c.self.view_is) holds in
    let apart = c.self.invariant.whole.apart in
    let by_painter : IsPainter (painter_of c.args.object.now) object =
    record { object = refl; version = refl; see_through = refl } in
    let no_fault =
    no_fault_is older _ before (painter_of c.args.object.now) object content by_painter is
    c.self.invariant.whole.ids
    (sym none ∙ c.in_segment.ensures ∙ c.paint_everywhere.ensures.fault content read apart) in
    painted_holds (painter_of c.args.object.now) _ _ object content older
    (record {
      profile = refl;
      display = refl;
      composition = c.paint_everywhere.ensures.composition;
      inks = refl;
      room = c.paint_everywhere.ensures.room;
      regions = c.paint_everywhere.ensures.regions;
    })
    c.self.invariant.whole by_painter is
    (c.paint_everywhere.ensures.written content read no_fault apart) before
