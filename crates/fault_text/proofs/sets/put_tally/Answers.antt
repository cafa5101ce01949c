use Rattle.std.proofs.Common.{◌∙◌}
use Rattle.fault_text.proofs.LineLaws.{tally_out}
use Rattle.fault_text.proofs.sets.put_tally.Goals as goal

pub returns : goal.returns
returns g c =
    tally_out c.args.tally c.sets.result _ _ _ _ _ c.args.buffer.now c.put.new.buffer c.put-2.new.buffer
    c.sets.ensures (c.as_bytes.ensures ∙ c.tally_front.ensures.line) (c.as_bytes-2.ensures ∙ c.tally_rest.ensures.line)
    c.put.ensures c.put-2.ensures
