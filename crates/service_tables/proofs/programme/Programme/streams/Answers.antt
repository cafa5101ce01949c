use Rattle.std.proofs.Common.{◌∙◌, ap}
use Rattle.service_tables.specs.Reading.{ProgrammeReading}
use Rattle.service_tables.specs.Tables.{streams_at}
use Rattle.service_tables.proofs.StreamLaws.{no_streams}
use Rattle.service_tables.proofs.programme.Programme.streams.Goals as goal

pub returns-in-None : goal.returns-in-None
returns-in-None c =
    no_streams ∙ ap streams_at (rw c.in-None.is at c.section.ensures)
    ∙ ap (λ (p : ProgrammeReading). streams_at p.map.section) c.self.view_is
