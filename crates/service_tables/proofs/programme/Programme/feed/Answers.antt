use Rattle.std.proofs.Common.{◌∙◌, ◌&&◌, ap, is_some, not, sym, subst}
use Rattle.service_tables.specs.Reading.{HasReadMap, ProgrammeReading, map_of}
use Rattle.service_tables.proofs.FirstLaws.{programme_fed, programme_same}
use Rattle.service_tables.proofs.programme.Programme.feed.Goals as goal

pub returns-clause-read : goal.returns-clause-read
returns-clause-read c = λ packets is.
    programme_fed (record {
      number = c.self.inside.number;
      sections = c.self.inside.sections;
      map = c.self.inside.map;
    })
    c.feed.new.self c.feed.new.taker c.args.packet.now c.feed.ensures.goes_on c.feed.ensures.taken packets
    (subst (λ (p : ProgrammeReading). HasReadMap p packets) (sym c.self.view_is) is)

pub returns-clause-came : goal.returns-clause-came
returns-clause-came c =
    c.has_come.ensures ∙ (λ i. not (c.is_found-was_found.ensures i) && c.is_found.ensures i)
    ∙ ap (λ (p : ProgrammeReading). not (is_some p.map.section) && is_some c.feed.new.taker.section) c.self.view_is

pub returns-clause-same : goal.returns-clause-same
returns-clause-same c = λ none packets is.
    let own : ProgrammeReading =
    record { number = c.self.inside.number; sections = c.self.inside.sections; map = c.self.inside.map } in
    programme_same own c.feed.new.self c.feed.new.taker c.args.packet.now c.feed.ensures.goes_on.pid
    c.feed.ensures.taken
    ((λ i. not (sym c.is_found-was_found.ensures i) && sym c.is_found.ensures i) ∙ sym c.has_come.ensures ∙ none)
    packets (subst (λ (p : ProgrammeReading). HasReadMap p packets) (sym c.self.view_is) is)
    ∙ ap map_of c.self.view_is
