use Rattle.std.proofs.Common.{◌≡◌, ◌∙◌, true, false, refl, sym, ap, subst}
use Rattle.service_tables.specs.Reading.{HasRead, ProgrammesRead}
use Rattle.service_tables.proofs.PatLaws.{pat_came, pat_missing}
use Rattle.service_tables.proofs.programmes.Programmes.look_for_pat.Goals as goal

pub returns-in-Ok : goal.returns-in-Ok
returns-in-Ok c = λ packets is.
    pat_came (record {
      sections = c.self.inside.sections;
      pat = c.self.inside.pat;
      programmes = c.self.inside.programmes.items;
      is_wanting = c.self.inside.is_wanting;
    }) _ c.args.packet.now c.in-Some.pat.now
    (record { reads = c.feed.ensures.goes_on; takes = c.feed.ensures.taken })
    (ap (λ (r : ProgrammesRead). r.pat.section) c.self.view_is ∙ c.requires)
    (rw c.in-Some.is at c.section.ensures)
    (λ found. c.in-Ok.ensures)
    packets
    (subst (λ (r : ProgrammesRead). HasRead r packets) (sym c.self.view_is) is)

pub returns-in-Err : goal.returns-in-Err
returns-in-Err c = λ packets is.
    pat_came (record {
      sections = c.self.inside.sections;
      pat = c.self.inside.pat;
      programmes = c.self.inside.programmes.items;
      is_wanting = c.self.inside.is_wanting;
    }) _ c.args.packet.now c.in-Some.pat.now
    (record { reads = c.feed.ensures.goes_on; takes = c.feed.ensures.taken })
    (ap (λ (r : ProgrammesRead). r.pat.section) c.self.view_is ∙ c.requires)
    (rw c.in-Some.is at c.section.ensures)
    (λ found. absurd (differs found))
    packets
    (subst (λ (r : ProgrammesRead). HasRead r packets) (sym c.self.view_is) is)
  where
    differs : true ≡ false → ⊥
    differs same = cc

pub returns-in_default : goal.returns-in_default
returns-in_default c = λ packets is.
    pat_missing (record {
      sections = c.self.inside.sections;
      pat = c.self.inside.pat;
      programmes = c.self.inside.programmes.items;
      is_wanting = c.self.inside.is_wanting;
    }) _ c.args.packet.now
    (record { reads = c.feed.ensures.goes_on; takes = c.feed.ensures.taken })
    (ap (λ (r : ProgrammesRead). r.pat.section) c.self.view_is ∙ c.requires) refl
    (rw c.in_default.is at c.section.ensures)
    packets
    (subst (λ (r : ProgrammesRead). HasRead r packets) (sym c.self.view_is) is)
