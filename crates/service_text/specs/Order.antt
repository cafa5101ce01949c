-- The order of services.
use Rattle.std.specs.Prelude.{◌≡◌, ◌==◌, nat_lt, Bool, false, ◌&&◌, ◌||◌, List, [], ◌∷◌, filter}
use Rattle.std.specs.List.{AllByRecursion}
use Rattle.service_text.specs.declared.service.SubtitleService.{SubtitleService}

-- a service has a lower programme's number (program_number) than another one, or the same number and a lower ancillary
-- page
abbrev pub has_lower_number : SubtitleService → SubtitleService → Bool
has_lower_number a b = nat_lt a.number b.number || (a.number == b.number && nat_lt a.ancillary b.ancillary)

-- a service has a lower composition page than another one, or the same page and comes before it by its programme's
-- number, and then by its ancillary page
abbrev pub has_lower_page : SubtitleService → SubtitleService → Bool
has_lower_page a b = nat_lt a.page b.page || (a.page == b.page && has_lower_number a b)

-- a service comes before another one by its PID, then by its page, then by its programme's number, and then by its
-- ancillary page
abbrev pub comes_before : SubtitleService → SubtitleService → Bool
comes_before a b = nat_lt a.pid b.pid || (a.pid == b.pid && has_lower_page a b)

-- two services are level: neither comes before the other
abbrev pub is_level : SubtitleService → SubtitleService → Bool
is_level a b = a.pid == b.pid && (a.page == b.page && (a.number == b.number && a.ancillary == b.ancillary))

-- none comes before an earlier one
abbrev pub AreServicesRising : List SubtitleService → Type 0
AreServicesRising [] = Unit {0}
AreServicesRising (service ∷ services) =
    AllByRecursion (λ later. comes_before later service ≡ false) services × AreServicesRising services

-- these are the same services in order: those that are level stand as they stood
pub record AreInOrder (services ordered : List SubtitleService) : Type 0 where
  pub rising : AreServicesRising ordered
  pub same : (service : SubtitleService)
      → filter (λ other. is_level other service) ordered ≡ filter (λ other. is_level other service) services
