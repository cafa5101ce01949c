-- The services that were listed of tables so far.
use Rattle.std.specs.Prelude.{◌≡◌, ℕ, List, [], ◌∷◌, ◌++◌}
use Rattle.stream_syntax.specs.Tests.{byte_at, word_at}
use Rattle.service_text.specs.Listing.{ListsMore, ServiceListing}
use Rattle.service_text.specs.declared.service.SubtitleService.{SubtitleService}

-- the service of the entry that begins bytes
abbrev pub first_service : ℕ → ℕ → List ℕ → SubtitleService
first_service number pid bytes = record {
  pid = pid;
  page = word_at 4 bytes;
  number = number;
  ancillary = word_at 6 bytes;
  language = byte_at 0 bytes ∷ byte_at 1 bytes ∷ byte_at 2 bytes ∷ [];
  kind = byte_at 3 bytes;
}

-- of these services all but those that are left were listed
pub record HaveListed (old new : ServiceListing) (all left : List SubtitleService) : Type 0 where
  pub passed : List SubtitleService
  pub lists : ListsMore old new passed
  pub whole : all ≡ passed ++ left
