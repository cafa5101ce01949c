use Rattle.std.proofs.Common.{◌∙◌, ap}
use Rattle.service_text.specs.Private.Placing.{place_in}
use Rattle.service_text.proofs.PlaceLaws.{put_there}
use Rattle.service_text.proofs.list.put_in.Goals as goal

pub returns-clause-items : goal.returns-clause-items
returns-clause-items c =
    put_there c.args.entries.now.items _ _ c.args.service _ _ c.insert.ensures.items c.unwrap.ensures
    (c.place_of-place.ensures.place ∙ ap (place_in c.args.service) c.as_slice.ensures.value)
