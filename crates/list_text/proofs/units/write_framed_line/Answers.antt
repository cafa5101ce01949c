use Rattle.list_text.specs.ListText.{refused}
use Rattle.list_text.proofs.ListLaws.{valid_line}
use Rattle.list_text.proofs.units.write_framed_line.Goals as goal

pub returns-in-Ok-clause-line : goal.returns-in-Ok-clause-line
returns-in-Ok-clause-line c bytes framed exact =
    valid_line c.args.place c.args.frame.now bytes _ _ framed exact (c.in-Ok.ensures.segment bytes framed)
    c.write_segment_line.ensures.line

pub returns-in-Err-clause-line : goal.returns-in-Err-clause-line
returns-in-Err-clause-line c bytes framed exact =
    refused c.in-Err.fault (c.in-Err.ensures.fault bytes framed) c.fault_line.ensures.line
