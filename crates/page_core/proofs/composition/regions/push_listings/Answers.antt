-- One more listing is put in.
use Rattle.std.proofs.Common.{◌<◌, length, arith}
use Rattle.segments.specs.Contents.{region_value}
use Rattle.page_core.proofs.Regions.ListingPushes.{none_yet, pushed_listing}
use Rattle.page_core.proofs.composition.regions.push_listings.Goals as goal

pub loop-i-init : goal.loop-i-init
loop-i-init c = none_yet c.args.list (region_value c.args.region.now).listings c.args.pool.now c.requires.list

pub loop-i-preserved : goal.loop-i-preserved
loop-i-preserved c =
    let listings = (region_value c.args.region.now).listings in
    let low : c.loop-i.i < length listings = omega (arith, c.loop-i-test.true, c.count-i-end.ensures) in
    pushed_listing c.args.list listings c.loop-i.i c.listing.result c.args.pool.now c.loop-i.pool c.push_back.new.self
    c.push_back.result c.listing.ensures low c.requires.room
    c.push_back.ensures.pushed c.push_back.ensures.full c.push_back.ensures.nodes c.loop-i.invariant
