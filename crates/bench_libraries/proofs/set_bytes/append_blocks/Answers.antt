use Rattle.std.proofs.Common.{arith}
use Rattle.bench_libraries.proofs.SegmentLaws.{object_writable}
use Rattle.bench_libraries.proofs.set_bytes.append_blocks.Goals as goal

pub write_segment-requires : goal.write_segment-requires
write_segment-requires c =
    object_writable c.args.version c.args.top.now c.args.bottom.now c.requires
    (record {
      top_runs = _;
      top_is = c.in_ok-check_block.ensures.block;
      bottom_runs = _;
      bottom_is = c.in_ok-check_block-2.ensures.block;
    })
    (λ i. omega (arith, c.type_inv.top i)) (λ i. omega (arith, c.type_inv.bottom i)) (omega arith)
