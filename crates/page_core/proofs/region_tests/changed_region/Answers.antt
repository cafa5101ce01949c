-- The first region that is changed.
use Rattle.std.proofs.Common.{◌∙◌, ◌++◌, sym}
use Rattle.decoder_model.specs.Faults.{region_changed}
use Rattle.segments.specs.Contents.{region_value}
use Rattle.page_core.specs.Private.RegionTests.{before_regions}
use Rattle.page_core.proofs.Regions.RegionLaws.{starts, next_tested, passes, fails, ends, fault_by_head, changed_in_order}
use Rattle.page_core.proofs.region_tests.changed_region.Goals as goal

pub loop-next-init : goal.loop-next-init
loop-next-init c set older heads are apart = starts region_changed older set c.args.bytes.now are apart

pub returns-in-Some-change_fault : goal.returns-in-Some-change_fault
returns-in-Some-change_fault c set older heads are apart =
    let region = region_value c.in-Some.next.segment in
    let n =
    next_tested region_changed older set c.loop-next.rest.now c.in-Some.next.rest.now region c.in-Some.ensures.next
    (c.loop-next.invariant set older heads are apart) in
    sym (changed_in_order older set
    ∙ fails region_changed older set c.in-Some.next.rest.now region c.in-Some-change_fault.fault n
    (sym (fault_by_head older (n.mid ++ before_regions older set) n.content region c.args.composition.now heads n.is
    n.before) ∙ sym c.in-Some-change_fault.ensures))

pub loop-next-preserved : goal.loop-next-preserved
loop-next-preserved c set older heads are apart =
    let region = region_value c.in-Some.next.segment in
    let n =
    next_tested region_changed older set c.loop-next.rest.now c.in-Some.next.rest.now region c.in-Some.ensures.next
    (c.loop-next.invariant set older heads are apart) in
    passes region_changed older set c.in-Some.next.rest.now region n
    (sym (fault_by_head older (n.mid ++ before_regions older set) n.content region c.args.composition.now heads n.is
    n.before) ∙ sym c.in_default-change_fault.ensures)

pub returns : goal.returns
returns c set older heads are apart =
    sym (changed_in_order older set
    ∙ ends region_changed older set c.loop-next.rest.now c.in_default.ensures.next
    (c.loop-next.invariant set older heads are apart))
