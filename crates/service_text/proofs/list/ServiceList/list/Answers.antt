use Rattle.service_text.proofs.PlaceLaws.{one_more_listed}
use Rattle.service_text.proofs.list.ServiceList.list.Goals as goal

pub returns : goal.returns
returns c = one_more_listed _ _ c.args.service c.put.ensures
