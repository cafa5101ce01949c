-- A service in its place.
use Rattle.std.specs.Prelude.{ℕ, zero, suc, if◌then◌else◌, List, [], ◌∷◌}
use Rattle.service_text.specs.Order.{comes_before}
use Rattle.service_text.specs.declared.service.SubtitleService.{SubtitleService}

-- how many services stand in front of it: those before the first one before which it comes
abbrev pub place_in : SubtitleService → List SubtitleService → ℕ
place_in service [] = zero
place_in service (first ∷ services) =
    if comes_before service first then zero else suc (place_in service services)

-- the services with it
abbrev pub placed : SubtitleService → List SubtitleService → List SubtitleService
placed service [] = service ∷ []
placed service (first ∷ services) =
    if comes_before service first then service ∷ first ∷ services else first ∷ placed service services
