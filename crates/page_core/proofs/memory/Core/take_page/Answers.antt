-- The entries of a page have room.
use Rattle.std.proofs.Common.{◌∙◌, ◌≤◌, ◌-◌, ap, sym, subst, arith}
use Rattle.decoder_model.specs.Nodes.{nodes_of}
use Rattle.decoder_model.specs.Taken.{taken_of}
use Rattle.segments.specs.Contents.{page_value}
use Rattle.page_core.specs.Composition.{Composition}
use Rattle.page_core.specs.Memory.{HoldsSegments, Memory}
use Rattle.page_core.proofs.Counts.SetRoom.{room_for_page, free_after_page}
use Rattle.page_core.proofs.memory.Core.take_page.Goals as goal
use Rattle.page_core.proofs.memory.Core.take_page.Goals.{then-count-free, else-count-free}

pub returns-clause-entries : goal.returns-clause-entries
returns-clause-entries c segments holds empty enough =
    let page = page_value c.args.page.now in
    let held = subst (HoldsSegments segments) (sym c.self.view_is) holds in
    let none = ap (λ (m : Memory). m.composition.entries) c.self.view_is ∙ empty in
    let low =
    subst (λ (m : Memory). nodes_of (taken_of segments) page ≤ m.profile.nodes) (sym c.self.view_is) enough in
    let room = room_for_page segments _ c.self.invariant.whole held page none low in
    elim c.if-count-free.branch [
      | then-count-free w ↦ (λ i. (w.self-inside-is i).composition.entries)
          ∙ ap (λ (composition : Composition). composition.entries) w.set_entries.ensures
      | else-count-free w ↦ absurd
          (let over = w.if-count-free.false in omega (arith, over, room, c.count.ensures, c.free.ensures))
    ]

pub returns-clause-free : goal.returns-clause-free
returns-clause-free c segments holds empty enough =
    let page = page_value c.args.page.now in
    let held = subst (HoldsSegments segments) (sym c.self.view_is) holds in
    let none = ap (λ (m : Memory). m.composition.entries) c.self.view_is ∙ empty in
    let low =
    subst (λ (m : Memory). nodes_of (taken_of segments) page ≤ m.profile.nodes) (sym c.self.view_is) enough in
    let room = room_for_page segments _ c.self.invariant.whole held page none low in
    let free = free_after_page segments _ c.self.invariant.whole held page none low in
    elim c.if-count-free.branch [
      | then-count-free w ↦
          (λ i. (w.self-inside-is i).composition.free)
          ∙ ap (λ (composition : Composition). composition.free) w.set_entries.ensures ∙ free
          ∙ (λ i. (sym w.self-inside-is i).profile.nodes - nodes_of (taken_of segments) page)
      | else-count-free w ↦ absurd
          (let over = w.if-count-free.false in omega (arith, over, room, c.count.ensures, c.free.ensures))
    ]
