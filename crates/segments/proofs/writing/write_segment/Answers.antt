use Rattle.std.proofs.Common.{arith}
use Rattle.segments.specs.Contents.{value_of}
use Rattle.segments.proofs.Sizes.{body_size}
use Rattle.segments.proofs.Spellings.{body_small, appended, written_segment, spelled_size, spelled_head}
use Rattle.segments.proofs.writing.write_segment.Goals as goal

pub segment_size-size-requires : goal.segment_size-size-requires
segment_size-size-requires c =
    omega (
      arith,
      body_size (value_of c.args.segment.now),
      body_small c.args.page (value_of c.args.segment.now)
          c.requires,
    )

pub overflow_cast-size : goal.overflow_cast-size
overflow_cast-size c =
    omega (
      arith,
      body_size (value_of c.args.segment.now),
      body_small c.args.page (value_of c.args.segment.now)
          c.requires,
      c.segment_size-size.ensures,
    )

pub put_body-requires-clause-room : goal.put_body-requires-clause-room
put_body-requires-clause-room c =
    omega (
      arith,
      body_size (value_of c.args.segment.now),
      c.segment_size-size.ensures,
      c.in_ok-reserve.ensures.ok,
      c.append.ensures.len,
      c.append.ensures.capacity,
    )

pub returns-clause-bytes : goal.returns-clause-bytes
returns-clause-bytes c =
    appended c.args.page (value_of c.args.segment.now) c.args.out.now.items _ _ _ _ _ _ c.requires
    c.reserve.ensures.items c.frame_bytes.ensures c.kind_of.ensures
    (omega (arith, body_size (value_of c.args.segment.now), c.segment_size-size.ensures)) c.append.ensures.items
    c.put_body.ensures

pub returns-clause-segment : goal.returns-clause-segment
returns-clause-segment c = written_segment c.args.page (value_of c.args.segment.now) c.requires

pub returns-clause-size : goal.returns-clause-size
returns-clause-size c = spelled_size c.args.page (value_of c.args.segment.now) c.requires

pub returns-clause-head : goal.returns-clause-head
returns-clause-head c = spelled_head c.args.page (value_of c.args.segment.now) c.requires
