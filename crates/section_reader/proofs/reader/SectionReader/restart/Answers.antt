use Rattle.std.proofs.Common.{refl}
use Rattle.section_reader.specs.Sections.{hand_behind}
use Rattle.section_reader.proofs.reader.SectionReader.restart.Goals as goal

pub returns-clause-stands : goal.returns-clause-stands
unfolding hand_behind
returns-clause-stands c = record { last = refl; hand = refl }
