use Rattle.psi_tables.proofs.ReadAgain.{pat_again, pmt_again, whole_pat, whole_pmt}
use Rattle.psi_tables.proofs.laws.read_again.Goals as goal

pub returns-clause-pat : goal.returns-clause-pat
returns-clause-pat c = λ services more are few. pat_again services more few

pub returns-clause-pmt : goal.returns-clause-pmt
returns-clause-pmt c = pmt_again

pub returns-clause-whole_pat : goal.returns-clause-whole_pat
returns-clause-whole_pat c = λ services more are few. whole_pat services more few

pub returns-clause-whole_pmt : goal.returns-clause-whole_pmt
returns-clause-whole_pmt c = whole_pmt
