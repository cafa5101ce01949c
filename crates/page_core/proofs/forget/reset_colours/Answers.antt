-- One entry less is set.
use Rattle.std.proofs.Common.{[], ap, subst, sym, ◌∙◌, slice_set}
use Rattle.std.proofs.lemmas.List.Elements.{All-head}
use Rattle.page_core.specs.Composition.{Composition}
use Rattle.page_core.specs.Private.Marks.{AreMarked}
use Rattle.page_core.specs.Memory.{AreInks, IsInTable, ink_place}
use Rattle.page_core.specs.Private.Nodes.{place_kept}
use Rattle.page_core.proofs.ColourTables.InkTables.{set_no_more}
use Rattle.page_core.proofs.Counts.MarkTables.{unset_marked}
use Rattle.page_core.proofs.forget.reset_colours.Goals as goal

pub default_colour-colour-requires : goal.default_colour-colour-requires
default_colour-colour-requires c =
    let are = subst (λ set. AreInks set c.loop-place.inks) c.in-Some.ensures.taken.0 c.loop-place.invariant.0 in
    (All-head IsInTable (place_kept c.in-Some.place) c.take_colour.new.self.set_entries are.tables).1

pub loop-place-preserved : goal.loop-place-preserved
loop-place-preserved c =
    let are = subst (λ set. AreInks set c.loop-place.inks) c.in-Some.ensures.taken.0 c.loop-place.invariant.0 in
    let marked =
    subst (λ set. AreMarked set [] c.loop-place.marks) c.in-Some.ensures.taken.0 c.loop-place.invariant.1 in
    let inside = All-head IsInTable (place_kept c.in-Some.place) c.take_colour.new.self.set_entries are.tables in
    let reset = set_no_more (place_kept c.in-Some.place) c.take_colour.new.self.set_entries c.loop-place.inks are in (
      subst (AreInks c.take_colour.new.self.set_entries)
          (sym (c.set.ensures.set
          ∙ ap (slice_set c.loop-place.inks
          (ink_place c.in-Some.place.clut c.in-Some.place.depth c.in-Some.place.entry))
          c.default_colour-colour.ensures)) reset,
      subst (AreMarked c.take_colour.new.self.set_entries []) (sym c.put.ensures)
          (unset_marked (place_kept c.in-Some.place) c.take_colour.new.self.set_entries c.loop-place.marks inside
          marked),
      ap (λ (composition : Composition). composition.size) c.in-Some.ensures.taken.1 ∙ c.loop-place.invariant.2,
    )
