use Rattle.std.proofs.Common.{◌∙◌, sym, ap, None}
use Rattle.section_reader.specs.Reading.{SectionReading}
use Rattle.section_reader.proofs.FollowingLaws.{followed_all, followed_cut, followed_more, nothing_followed}
use Rattle.section_reader.proofs.reader.SectionReader.begin.Goals as goal

pub loop-rest-init : goal.loop-rest-init
loop-rest-init g c = record {
  same = ap (λ (r : SectionReading). record r { hand = None }) c.self.view_is;
  followed = nothing_followed g.T.SectionTaker.stands g.T.SectionTaker.kept _ _ c.requires;
}

pub loop-rest-preserved : goal.loop-rest-preserved
loop-rest-preserved g c =
    record {
      same = c.loop-rest.invariant.same;
      followed = rw c.split_at.ensures.back
          (followed_more g.T.SectionTaker.stands g.T.SectionTaker.kept _ _ _ _ _ _ c.loop-rest.invariant.followed
          (sym c.begins_section.ensures ∙ c.loop-rest-test.true)
          (sym (rw c.in-Some.is at c.section_in.ensures.section))
          (record { same = c.take_section.ensures.kept; took = c.take_section.ensures.taken }));
    }
