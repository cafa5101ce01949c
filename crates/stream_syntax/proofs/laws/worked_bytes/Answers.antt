use Rattle.stream_syntax.proofs.WorkedBytes.{packet_is_read, head_is_read, codes_are_spelled, page_is_written}
use Rattle.stream_syntax.proofs.laws.worked_bytes.Goals as goal

pub returns-clause-packet : goal.returns-clause-packet
returns-clause-packet c = packet_is_read

pub returns-clause-head : goal.returns-clause-head
returns-clause-head c = head_is_read

pub returns-clause-codes : goal.returns-clause-codes
returns-clause-codes c = codes_are_spelled

pub returns-clause-page : goal.returns-clause-page
returns-clause-page c = page_is_written
