use Rattle.section_reader.proofs.StepLaws.{other_steps, broken_steps, empty_steps, payload_steps}
use Rattle.section_reader.proofs.reader.SectionReader.step.Goals as goal

pub returns-in-Other : goal.returns-in-Other
returns-in-Other g c =
    let kind = rw c.in-Other.is at c.kind_of.ensures in
    rw (← c.self.view_is) (other_steps g.T.SectionTaker.stands g.T.SectionTaker.kept _ _ _ kind)

pub returns-in-Broken : goal.returns-in-Broken
returns-in-Broken g c =
    let kind = rw c.in-Broken.is at c.kind_of.ensures in
    rw c.drop_section.ensures
    (broken_steps g.T.SectionTaker.stands g.T.SectionTaker.kept _ _ _ (rw (← c.self.view_is) kind.0) kind.1)

pub returns-in-Empty : goal.returns-in-Empty
returns-in-Empty g c =
    let kind = rw c.in-Empty.is at c.kind_of.ensures in
    rw (← c.self.view_is)
    (empty_steps g.T.SectionTaker.stands g.T.SectionTaker.kept _ _ _ kind.0 kind.1 kind.2)

pub returns-in-Payload : goal.returns-in-Payload
returns-in-Payload g c =
    let kind = rw c.in-Payload.is at c.kind_of.ensures in
    payload_steps g.T.SectionTaker.stands g.T.SectionTaker.kept _ _ _ _ _ c.in-Payload.payload
    (rw (← c.self.view_is) kind.0) kind.1 kind.2 kind.3 c.take.ensures.ends c.take.ensures.last
