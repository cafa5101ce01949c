use Rattle.stream_report.proofs.PictureLaws.{nothing_pictured}
use Rattle.stream_report.proofs.pictures.Pictures.make.Goals as goal

pub returns-clause-made : goal.returns-clause-made
returns-clause-made c = λ i. record {
  profile = c.in_ok-of_pages.ensures.profile i;
  pid = c.in_ok-of_pages.ensures.pid i;
  pages = c.in_ok-of_pages.ensures.pages i;
  anchor = c.in_ok-of_pages.ensures.anchor i;
}

pub returns-clause-nothing : goal.returns-clause-nothing
returns-clause-nothing c =
    nothing_pictured c.in_ok-of_pages.field-0 c.args.bands c.in_ok-of_pages.ensures.stands
