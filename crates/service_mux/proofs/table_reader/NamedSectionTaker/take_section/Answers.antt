use Rattle.std.proofs.Common.{◌∙◌, ℕ, Option, ap, sym}
use Rattle.std.specs.Option.{option_or}
use Rattle.section_reader.proofs.FirstLaws.{given_more}
use Rattle.service_mux.specs.Reading.{named_in}
use Rattle.service_mux.proofs.table_reader.NamedSectionTaker.take_section.Goals as goal

pub returns-clause-taken : goal.returns-clause-taken
returns-clause-taken c = λ sections is.
    c.or-self.ensures
    ∙ ap (λ (o : Option ℕ). option_or c.args.self.now.pid o) c.named_in.ensures
    ∙ ap (λ (o : Option ℕ). option_or o (named_in c.args.self.now.sought c.args.section.now)) is
    ∙ sym (given_more (named_in c.args.self.now.sought) sections c.args.section.now)
