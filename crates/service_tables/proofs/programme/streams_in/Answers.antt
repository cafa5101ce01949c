use Rattle.std.proofs.Common.{◌∙◌, sym}
use Rattle.service_tables.proofs.StreamLaws.{no_streams, streams_other, streams_refused}
use Rattle.service_tables.proofs.programme.streams_in.Goals as goal

pub returns-in_default : goal.returns-in_default
returns-in_default c = no_streams ∙ sym (streams_refused c.args.section.now _ c.in_default.ensures.exact)

pub returns-in-Pat : goal.returns-in-Pat
returns-in-Pat c =
    no_streams ∙ sym (streams_other c.args.section.now _ _ (rw c.in-Pat.is at c.in-Ok.ensures.exact))
