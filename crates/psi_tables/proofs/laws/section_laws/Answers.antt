use Rattle.psi_tables.proofs.SectionRows.{laid_out, taken_again}
use Rattle.psi_tables.proofs.laws.section_laws.Goals as goal

pub returns-clause-laid_out : goal.returns-clause-laid_out
returns-clause-laid_out c = laid_out

pub returns-clause-taken : goal.returns-clause-taken
returns-clause-taken c = taken_again
