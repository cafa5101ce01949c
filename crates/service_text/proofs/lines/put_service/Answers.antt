use Rattle.command_text.proofs.PutLaws.{PutsOut-both}
use Rattle.service_text.specs.ServiceText.{page_part, stream_part}
use Rattle.service_text.proofs.lines.put_service.Goals as goal

pub returns : goal.returns
returns g c =
    PutsOut-both _ _ _ _ _ _ (stream_part c.args.service) (page_part c.args.service)
    (rw (c.as_bytes.ensures, c.stream_line.ensures.line) at c.put.ensures)
    (rw (c.as_bytes-2.ensures, c.page_line.ensures.line) at c.put-2.ensures)
