-- The services that are kept of those that were listed.
use Rattle.std.specs.Prelude.{◌≡◌, ℕ, nat_lt, Bool, List, ◌++◌, length, take}
use Rattle.std.specs.List.{flat_map}
use Rattle.pid_text.specs.PidText.{more_where}
use Rattle.service_text.specs.Order.{AreInOrder}
use Rattle.service_text.specs.ServiceText.{MOST_SERVICES, service_line}
use Rattle.service_text.specs.declared.service.SubtitleService.{SubtitleService}

-- services in order, and whether there are more
pub record ServiceListing : Type 0 where
  pub entries : List SubtitleService
  pub more : Bool

-- they are the first 512 of these services in order
pub record IsListing (listing : ServiceListing) (services : List SubtitleService) : Type 0 where
  pub ordered : List SubtitleService
  pub order : AreInOrder services ordered
  pub entries : listing.entries ≡ take MOST_SERVICES ordered
  pub more : listing.more ≡ nat_lt MOST_SERVICES (length ordered)

-- what is told of them
abbrev pub listing_text : ServiceListing → List ℕ
listing_text listing = flat_map service_line listing.entries ++ more_where listing.more

-- these services were listed behind those before them, whichever they were
pub record ListsMore (old new : ServiceListing) (more : List SubtitleService) : Type 0 where
  pub listed : (services : List SubtitleService) → IsListing old services → IsListing new (services ++ more)
