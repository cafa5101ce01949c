use Rattle.std.proofs.Common.{◌≡◌, ◌||◌, arith, length, nat_lt, subst, take}
use Rattle.service_text.specs.Listing.{ServiceListing}
use Rattle.service_text.specs.Private.Placing.{placed}
use Rattle.service_text.proofs.PlaceLaws.{all_kept}
use Rattle.service_text.proofs.list.ServiceList.put.Goals as goal

pub returns-else-len-gt-MOST_SERVICES : goal.returns-else-len-gt-MOST_SERVICES
returns-else-len-gt-MOST_SERVICES c =
    subst
    (λ (old : ServiceListing). let listing : ServiceListing = record {
      entries = c.put_in.new.entries.items;
      more = c.self.inside.more;
    } in
    let all = placed c.args.service old.entries in
    listing ≡ record { entries = take 512 all; more = old.more || nat_lt 512 (length all) })
    c.self.view_is
    (all_kept c.self.inside.more c.put_in.new.entries.items _ c.put_in.ensures.items
    (omega (arith, c.if-len-gt-MOST_SERVICES.false, c.len.ensures)))
