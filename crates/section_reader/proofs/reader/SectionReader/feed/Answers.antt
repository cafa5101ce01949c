use Rattle.section_reader.proofs.StepLaws.{steps_goes_on, steps_taken}
use Rattle.section_reader.proofs.reader.SectionReader.feed.Goals as goal

pub returns-clause-goes_on : goal.returns-clause-goes_on
returns-clause-goes_on g c =
    steps_goes_on g.T.SectionTaker.stands g.T.SectionTaker.kept _ _ _ _ _ c.step.ensures

pub returns-clause-taken : goal.returns-clause-taken
returns-clause-taken g c =
    steps_taken g.T.SectionTaker.stands g.T.SectionTaker.kept _ _ _ _ _ c.step.ensures
