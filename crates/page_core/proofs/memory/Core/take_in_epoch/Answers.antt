-- A set of an epoch: the first fault, or the epoch with it.
use Rattle.std.proofs.Common.{◌≡◌, ◌∙◌, ◌-◌, ◌∷◌, List, None, sym, ap, subst}
use Rattle.sub_base.specs.declared.profile.Profile.{Profile}
use Rattle.decoder_model.specs.Faults.{composition_fault}
use Rattle.decoder_model.specs.Nodes.{nodes_of, pixels_used}
use Rattle.decoder_model.specs.Readings.{Content}
use Rattle.decoder_model.specs.Taken.{segments_of, taken_of}
use Rattle.segments.specs.Contents.{page_value}
use Rattle.page_core.specs.Private.Accepted.{IsBefore}
use Rattle.page_core.specs.Private.Judging.{fault_before_nodes}
use Rattle.page_core.specs.Memory.{Memory, IsWholeMemory, HoldsSegments}
use Rattle.page_core.specs.Private.SetSteps.{before_objects}
use Rattle.page_core.proofs.Sets.SetOrder.{objects_in_order, set_in_order}
use Rattle.page_core.proofs.Handed.SetVerdicts.{early_fault, fault_of_nodes, fault_of_objects}
use Rattle.page_core.proofs.Sets.SetsTaken.{regions_taken, page_taken}
use Rattle.page_core.proofs.memory.Core.take_in_epoch.Goals as goal

pub returns-in-Some-clause-fault : goal.returns-in-Some-clause-fault
returns-in-Some-clause-fault c set before is found sound page =
    early_fault c.args.self.now.profile before set (page_value c.args.accepted.now.page) c.in-Some.fault
    (c.in-Some.ensures.fault set before is found sound)

pub returns-in-Some-nodes_fault-clause-fault : goal.returns-in-Some-nodes_fault-clause-fault
returns-in-Some-nodes_fault-clause-fault c set before is found sound page =
    fault_of_nodes c.args.self.now.profile before set (page_value c.args.accepted.now.page) c.in-Some-nodes_fault.fault
    (c.in_default.ensures.fault set before is found sound)
    (c.in-Some-nodes_fault.ensures.answer before set is sound page)

pub returns-clause-fault : goal.returns-clause-fault
returns-clause-fault c set before is found sound page =
    let value = page_value c.args.accepted.now.page in
    let first = c.nodes_fault.new.self in
    let same = sym c.in_default-nodes_fault.ensures.same in
    let none = c.in_default.ensures.fault set before is found sound in
    let room = c.in_default-nodes_fault.ensures.answer before set is sound page in
    let is_before = subst (IsBefore before) same is in
    let regions =
    regions_taken set before value c.args.bytes.now sound first c.take_display.new.self c.clear_page.new.self
    c.take_regions.new.self is_before
    (subst (λ (m : Memory). None ≡ fault_before_nodes m.profile before set value) same none)
    (subst (λ (m : Memory). None ≡ composition_fault m.profile (taken_of (segments_of (set ∷ before))) value) same
    room)
    (c.take_display.ensures.holds (segments_of before) set is_before.holds found.display sound.one_display)
    c.take_display.ensures.rest c.clear_page.ensures.cleared c.clear_page.ensures.whole
    c.take_regions.ensures.holds c.take_regions.ensures.pixels c.take_regions.ensures.rest in
    let with_page =
    page_taken set before value c.args.bytes.now sound first c.take_regions.new.self c.take_cluts.new.self
    c.take_page.new.self regions (subst IsWholeMemory c.self.view_is c.self.invariant.whole)
    c.take_cluts.ensures.holds c.take_cluts.ensures.rest c.take_page.ensures.holds c.take_page.ensures.entries
    c.take_page.ensures.free c.take_page.ensures.rest in
    fault_of_objects c.args.self.now.profile before set value c.take_objects.result none room
    (c.take_objects.ensures.fault (before_objects (segments_of before) set) set with_page.holds sound.contents
    ∙ sym (objects_in_order (segments_of before) set))

pub returns-clause-taken : goal.returns-clause-taken
returns-clause-taken c set before is found sound page no_fault =
    let value = page_value c.args.accepted.now.page in
    let first = c.nodes_fault.new.self in
    let same = sym c.in_default-nodes_fault.ensures.same in
    let none = c.in_default.ensures.fault set before is found sound in
    let room = c.in_default-nodes_fault.ensures.answer before set is sound page in
    let is_before = subst (IsBefore before) same is in
    let regions =
    regions_taken set before value c.args.bytes.now sound first c.take_display.new.self c.clear_page.new.self
    c.take_regions.new.self is_before
    (subst (λ (m : Memory). None ≡ fault_before_nodes m.profile before set value) same none)
    (subst (λ (m : Memory). None ≡ composition_fault m.profile (taken_of (segments_of (set ∷ before))) value) same
    room)
    (c.take_display.ensures.holds (segments_of before) set is_before.holds found.display sound.one_display)
    c.take_display.ensures.rest c.clear_page.ensures.cleared c.clear_page.ensures.whole
    c.take_regions.ensures.holds c.take_regions.ensures.pixels c.take_regions.ensures.rest in
    let with_page =
    page_taken set before value c.args.bytes.now sound first c.take_regions.new.self c.take_cluts.new.self
    c.take_page.new.self regions (subst IsWholeMemory c.self.view_is c.self.invariant.whole)
    c.take_cluts.ensures.holds c.take_cluts.ensures.rest c.take_page.ensures.holds c.take_page.ensures.entries
    c.take_page.ensures.free c.take_page.ensures.rest in
    let rest = c.take_objects.ensures.rest in
    record {
      known = rest.known ∙ c.take_page.ensures.known;
      holds =
          subst (λ (segments : List Content). HoldsSegments segments c.take_objects.new.self)
          (sym (set_in_order set before))
          (c.take_objects.ensures.taken (before_objects (segments_of before) set) set with_page.holds sound.contents
          no_fault);
      time_out = rest.time_out ∙ c.take_page.ensures.time_out;
      entries = rest.entries ∙ with_page.entries;
      free_nodes =
          rest.free ∙ with_page.free
          ∙ ap (λ (p : Profile). p.nodes - nodes_of (taken_of (segments_of (set ∷ before))) value)
          (sym rest.profile);
      free_pixels =
          rest.store_free ∙ with_page.pixels
          ∙ ap (λ (p : Profile). p.pixels - pixels_used (taken_of (segments_of (set ∷ before))))
          (sym rest.profile);
    }
