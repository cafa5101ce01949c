use Rattle.std.proofs.Common.{◌∙◌, ◌++◌, ◌∷◌, [], sym, subst}
use Rattle.service_tables.specs.First.{FirstFound, HasFirst}
use Rattle.service_tables.proofs.FirstLaws.{first_kept, first_other, first_taken}
use Rattle.service_tables.proofs.first_section.FirstSectionSectionTaker.take_section.Goals as goal

pub returns-then-is_found-clause-taken : goal.returns-then-is_found-clause-taken
returns-then-is_found-clause-taken c =
    first_kept c.args.self.now c.args.section.now (sym c.is_found.ensures ∙ c.if-is_found.true)

pub returns-then-is_sought-clause-taken : goal.returns-then-is_sought-clause-taken
returns-then-is_sought-clause-taken c = λ sections is.
    subst (λ (f : FirstFound). HasFirst f (sections ++ c.args.section.now ∷ [])) (sym c.keep.ensures)
    (first_taken c.args.self.now c.args.section.now (sym c.is_found.ensures ∙ c.if-is_found.false)
    (sym c.is_sought.ensures ∙ c.if-is_sought.true) sections is)

pub returns-else-is_sought-clause-taken : goal.returns-else-is_sought-clause-taken
returns-else-is_sought-clause-taken c =
    first_other c.args.self.now c.args.section.now (sym c.is_sought.ensures ∙ c.if-is_sought.false)
