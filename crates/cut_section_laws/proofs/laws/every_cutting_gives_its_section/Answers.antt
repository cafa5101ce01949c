use Rattle.cut_section_laws.proofs.SectionsCome.{every_cutting, whole_in_one}
use Rattle.cut_section_laws.proofs.laws.every_cutting_gives_its_section.Goals as goal

pub returns-clause-whole : goal.returns-clause-whole
returns-clause-whole c = whole_in_one

pub returns-clause-cut : goal.returns-clause-cut
returns-clause-cut c = every_cutting
