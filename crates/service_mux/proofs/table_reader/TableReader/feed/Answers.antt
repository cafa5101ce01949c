use Rattle.std.proofs.Common.{◌≡◌, ◌∙◌, [], ap, refl, subst}
use Rattle.sub_base.specs.Lists.{first_given}
use Rattle.section_reader.specs.Reading.{IsReadingOf}
use Rattle.section_reader.specs.Sections.{sections_at}
use Rattle.service_mux.specs.Reading.{TableReading, named_in}
use Rattle.service_mux.specs.declared.sought.Sought.{Sought}
use Rattle.service_mux.proofs.table_reader.TableReader.feed.Goals as goal

pub returns-clause-named : goal.returns-clause-named
returns-clause-named c = λ before. subst
    (λ (r : TableReading). IsReadingOf r.sections before
    → c.feed.new.taker.pid
    ≡ first_given (named_in r.sought) (sections_at r.sections.pid before c.args.packet.now))
    c.self.view_is
    (λ stands.
    let takes = c.feed.ensures.taken before stands in
    takes.took [] refl
    ∙ ap (λ (s : Sought). first_given (named_in s)
    (sections_at c.self.inside.sections.pid before c.args.packet.now)) takes.same)
