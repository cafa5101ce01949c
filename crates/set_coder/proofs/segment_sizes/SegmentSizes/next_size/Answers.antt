use Rattle.std.proofs.Common.{◌∙◌, sym}
use Rattle.set_coder.proofs.NextSizeLaws.{next_region, next_clut, next_object}
use Rattle.set_coder.proofs.segment_sizes.SegmentSizes.next_size.Goals as goal

pub returns-in-Some-split_first-clause-next : goal.returns-in-Some-split_first-clause-next
returns-in-Some-split_first-clause-next c =
    next_region c.args.self.now c.take.new.self c.take-2.new.self c.in-Some-split_first.sent.now
    c.in-Some-split_first.rest c.region_size.result c.requires c.take.ensures.after c.take-2.ensures.after
    (sym c.take.ensures.value ∙ c.in_default.is) (sym c.take-2.ensures.value ∙ c.in_default-take.is)
    c.in-Some-split_first.ensures.cases.0 c.region_size.ensures

pub returns-in-Some-split_first-2-clause-next : goal.returns-in-Some-split_first-2-clause-next
returns-in-Some-split_first-2-clause-next c =
    next_clut c.args.self.now c.take.new.self c.take-2.new.self c.in-Some-split_first-2.sent.now
    c.in-Some-split_first-2.rest c.clut_size.result c.requires c.take.ensures.after c.take-2.ensures.after
    (sym c.take.ensures.value ∙ c.in_default.is) (sym c.take-2.ensures.value ∙ c.in_default-take.is)
    c.in_default-split_first.ensures.cases c.in-Some-split_first-2.ensures.cases.0 c.clut_size.ensures

pub returns-in-Some-split_first-3-clause-next : goal.returns-in-Some-split_first-3-clause-next
returns-in-Some-split_first-3-clause-next c =
    next_object c.args.self.now c.take.new.self c.take-2.new.self c.in-Some-split_first-3.place.now
    c.in-Some-split_first-3.rest c.object_size.result c.requires c.take.ensures.after c.take-2.ensures.after
    (sym c.take.ensures.value ∙ c.in_default.is) (sym c.take-2.ensures.value ∙ c.in_default-take.is)
    c.in_default-split_first.ensures.cases c.in_default-split_first-2.ensures.cases
    c.in-Some-split_first-3.ensures.cases.0 c.object_size.ensures.size c.object_size.ensures.fits
