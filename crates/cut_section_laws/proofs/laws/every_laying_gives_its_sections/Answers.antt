use Rattle.cut_section_laws.proofs.EveryStreamLaid.{every_stream}
use Rattle.cut_section_laws.proofs.LaidPackets.{every_laying}
use Rattle.cut_section_laws.proofs.laws.every_laying_gives_its_sections.Goals as goal

pub returns-clause-come : goal.returns-clause-come
returns-clause-come c = every_laying

pub returns-clause-laid : goal.returns-clause-laid
returns-clause-laid c = every_stream
