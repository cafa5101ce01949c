use Rattle.std.proofs.Common.{◌≤◌, List, length, subst, sym}
use Rattle.std.specs.Prelude.{All}
use Rattle.stream_syntax.specs.declared.clut.ClutEntry.{ClutEntry}
use Rattle.bench_libraries.specs.Private.Sent.{IsSent}
use Rattle.bench_libraries.proofs.SegmentLaws.{clut_writable}
use Rattle.bench_libraries.proofs.set_bytes.append_clut.Goals as goal

pub write_segment-requires : goal.write_segment-requires
write_segment-requires c =
    let sent : All IsSent c.as_slice.result.now × (length c.as_slice.result.now ≤ 256) =
    subst (λ (entries : List ClutEntry). All IsSent entries × (length entries ≤ 256)) (sym c.as_slice.ensures.value)
    c.in_ok-entries.ensures in
    clut_writable c.args.version c.as_slice.result.now c.requires sent.0 sent.1
