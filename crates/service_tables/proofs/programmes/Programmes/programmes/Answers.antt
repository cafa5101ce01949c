use Rattle.std.proofs.Common.{◌∙◌, ap, map, sym}
use Rattle.service_tables.specs.Reading.{ProgrammesRead, map_of}
use Rattle.service_tables.proofs.PatLaws.{maps_are}
use Rattle.service_tables.proofs.programmes.Programmes.programmes.Goals as goal

pub returns : goal.returns
returns c = λ packets none. λ is.
    maps_are c.args.self.now packets none is
    ∙ sym (ap (map map_of) c.as_slice.ensures.value
    ∙ ap (λ (r : ProgrammesRead). map map_of r.programmes) c.self.view_is)
