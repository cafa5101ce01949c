use Rattle.std.proofs.Common.{◌∙◌, ◌+◌, ◌∷◌, List, ap, drop, map, sym}
use Rattle.std.specs.List.{flat_map}
use Rattle.std.proofs.lemmas.List.{drop_more}
use Rattle.service_tables.specs.Reading.{ProgrammeReading, map_of}
use Rattle.service_text.specs.Services.{services_at}
use Rattle.service_text.proofs.EntryLaws.{more_walked}
use Rattle.service_text.proofs.entries.list_programmes.Goals as goal

pub loop-programme-preserved : goal.loop-programme-preserved
loop-programme-preserved c =
    more_walked _ c.loop-programme.list _ _ _ (services_at (map_of c.programme-item.result)) _
    c.loop-programme.invariant
    (rw (c.number.ensures, c.streams.ensures) at c.list_streams.ensures)
    (ap (λ (ps : List ProgrammeReading). flat_map services_at (map map_of ps))
    (drop_more c.args.programmes.now c.loop-programme.programme-index c.programme-item.result
    c.loop-programme-test.true
    ∙ ap (λ (p : ProgrammeReading). p ∷ drop (c.loop-programme.programme-index + 1) c.args.programmes.now)
    (sym c.programme-item.is)))
