-- One more entry is put in.
use Rattle.std.proofs.Common.{◌<◌, length, arith}
use Rattle.segments.specs.Contents.{page_value}
use Rattle.page_core.proofs.Pictures.PagePushes.{pushed_entry}
use Rattle.page_core.proofs.composition.page.push_entries.Goals as goal

pub loop-i-preserved : goal.loop-i-preserved
loop-i-preserved c =
    let entries = (page_value c.args.page.now).entries in
    let low : c.loop-i.i < length entries = omega (arith, c.loop-i-test.true, c.count-i-end.ensures) in
    pushed_entry entries c.loop-i.i c.entry.result c.args.pool.now c.loop-i.pool c.push_back.new.self c.push_back.result
    c.entry.ensures low c.requires.room
    c.push_back.ensures.pushed c.push_back.ensures.full c.push_back.ensures.nodes c.loop-i.invariant
