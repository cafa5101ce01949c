use Rattle.std.proofs.Common.{◌∙◌, ap, sym}
use Rattle.command_text.specs.Putting.{Buffered}
use Rattle.command_text.proofs.PutLaws.{PutsOut-failed}
use Rattle.command_text.proofs.text_buffer.flush.Goals as goal

pub returns-in-Err-clause-puts : goal.returns-in-Err-clause-puts
returns-in-Err-clause-puts g c =
    PutsOut-failed _ _ c.args.buffer.now c.fail.new.self c.as_bytes.result.now
    (sym c.has_failed.ensures ∙ c.if-has_failed.false) c.as_bytes.ensures (c.in-Err.ensures.prefix)
    c.in-Err.ensures.cause c.in-Err.ensures.kept (ap (λ (b : Buffered). b.failed) c.fail.ensures)
