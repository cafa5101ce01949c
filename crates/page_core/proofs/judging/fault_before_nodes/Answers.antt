-- The first fault of four tests.
use Rattle.std.proofs.Common.{◌≡◌, ◌∷◌, None, Some, option_map, sym}
use Rattle.std.specs.Prelude.{option_and_then}
use Rattle.decoder_model.specs.Contents.{display_in_set}
use Rattle.decoder_model.specs.Faults.{display_fault, page_fault, first_fault_by, region_changed, pixels_full}
use Rattle.decoder_model.specs.Taken.{segments_of}
use Rattle.segments.specs.Contents.{display_value, page_value}
use Rattle.page_core.proofs.Sets.TestsInOrder.{knows_by_heads, display_is, page_is, second_is, third_is, last_is}
use Rattle.page_core.proofs.judging.fault_before_nodes.Goals as goal

pub returns-in-Some-page_fault-clause-fault : goal.returns-in-Some-page_fault-clause-fault
returns-in-Some-page_fault-clause-fault c set before free heads found sound =
    let older = segments_of before in
    let knows = knows_by_heads older c.args.composition.now heads in
    sym (second_is (option_and_then (display_fault c.args.profile.now) (display_in_set set))
    (page_fault (segments_of (set ∷ before)) (page_value c.args.page.now))
    (first_fault_by region_changed older set) (first_fault_by (pixels_full c.args.profile.now) older set)
    c.in-Some-page_fault.fault
    (display_is c.args.profile.now set (option_map display_value c.args.found.now.display) None found.display
    c.in_default.ensures)
    (page_is set before (page_value c.args.page.now) (Some c.in-Some-page_fault.fault)
    (c.in-Some-page_fault.ensures set older knows found.regions)))

pub returns-in-Some-changed_region-clause-fault : goal.returns-in-Some-changed_region-clause-fault
returns-in-Some-changed_region-clause-fault c set before free heads found sound =
    let older = segments_of before in
    let knows = knows_by_heads older c.args.composition.now heads in
    sym (third_is (option_and_then (display_fault c.args.profile.now) (display_in_set set))
    (page_fault (segments_of (set ∷ before)) (page_value c.args.page.now))
    (first_fault_by region_changed older set) (first_fault_by (pixels_full c.args.profile.now) older set)
    c.in-Some-changed_region.fault
    (display_is c.args.profile.now set (option_map display_value c.args.found.now.display) None found.display
    c.in_default.ensures)
    (page_is set before (page_value c.args.page.now) None
    (c.in_default-page_fault.ensures set older knows found.regions))
    (sym (c.in-Some-changed_region.ensures set older heads sound.contents sound.apart)))

pub returns-clause-fault : goal.returns-clause-fault
returns-clause-fault c set before free heads found sound =
    let older = segments_of before in
    let knows = knows_by_heads older c.args.composition.now heads in
    let unchanged : first_fault_by region_changed older set ≡ None =
    sym (c.in_default-changed_region.ensures set older heads sound.contents sound.apart) in
    sym (
    last_is (option_and_then (display_fault c.args.profile.now) (display_in_set set))
    (page_fault (segments_of (set ∷ before)) (page_value c.args.page.now))
    (first_fault_by region_changed older set) (first_fault_by (pixels_full c.args.profile.now) older set)
    c.full_pixels.result
    (display_is c.args.profile.now set (option_map display_value c.args.found.now.display) None found.display
    c.in_default.ensures)
    (page_is set before (page_value c.args.page.now) None
    (c.in_default-page_fault.ensures set older knows found.regions))
    unchanged
    (sym (c.full_pixels.ensures c.args.profile.now set older free heads sound.contents sound.apart unchanged))
    )
