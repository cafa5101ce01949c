-- One more region is counted.
use Rattle.segments.specs.Contents.{region_value}
use Rattle.page_core.proofs.Counts.RegionWalks.{regions_begin, regions_end, regions_go_on}
use Rattle.page_core.proofs.counting.region_nodes.Goals as goal

pub loop-next-init : goal.loop-next-init
loop-next-init c = regions_begin c.args.composition.now c.args.bytes.now

pub loop-next-preserved : goal.loop-next-preserved
loop-next-preserved c =
    regions_go_on c.args.composition.now c.args.bytes.now c.loop-next.rest.now c.in-Some.next.rest.now
    (region_value c.in-Some.next.segment) c.loop-next.nodes.added c.loop-next.nodes.gone
    c.with_region-nodes.result.added c.with_region-nodes.result.gone
    c.in-Some.ensures.next c.with_region-nodes.ensures.added c.with_region-nodes.ensures.gone c.loop-next.invariant

pub returns : goal.returns
returns c older set kept are apart few =
    regions_end c.args.composition.now c.args.bytes.now c.loop-next.rest.now c.loop-next.nodes.added
    c.loop-next.nodes.gone older set c.in_default.ensures.next c.loop-next.invariant kept are apart few
