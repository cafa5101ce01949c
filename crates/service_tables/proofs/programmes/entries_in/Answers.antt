use Rattle.std.proofs.Common.{sym}
use Rattle.service_tables.proofs.StreamLaws.{entries_other, entries_refused}
use Rattle.service_tables.proofs.programmes.entries_in.Goals as goal

pub returns-in_default : goal.returns-in_default
returns-in_default c = sym (entries_refused c.args.section.now _ c.in_default.ensures.exact)

pub returns-in-Pmt : goal.returns-in-Pmt
returns-in-Pmt c = sym (entries_other c.args.section.now _ _ (rw c.in-Pmt.is at c.in-Ok.ensures.exact))
