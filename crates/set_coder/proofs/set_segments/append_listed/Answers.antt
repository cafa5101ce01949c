use Rattle.std.proofs.Common.{arith}
use Rattle.set_coder.proofs.WritableLaws.{listed_writable}
use Rattle.set_coder.proofs.set_segments.append_listed.Goals as goal

pub write_segment-requires : goal.write_segment-requires
write_segment-requires c =
    (listed_writable c.args.epoch.now c.args.page c.args.sent.now c.epoch_region-region.result c.args.listings.now
    (omega arith) c.requires.usable c.requires.sent c.epoch_region-region.ensures c.requires.many c.requires.fit).0
