use Rattle.cut_section_laws.proofs.WrittenPieces.{every_writing}
use Rattle.cut_section_laws.proofs.laws.written_sections_come.Goals as goal

pub returns : goal.returns
returns c = every_writing
