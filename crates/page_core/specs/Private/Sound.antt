-- What is known of a set none of whose segments has a fault.
use Rattle.std.specs.Prelude.{◌≡◌, ℕ, List, [], filter, Some}
use Rattle.stream_syntax.specs.Segments.{Page, Display}
use Rattle.decoder_model.specs.Contents.{page_in_set, display_in_set}
use Rattle.decoder_model.specs.Readings.{Content}
use Rattle.page_core.specs.Private.Epochs.{HasOnePage, HasOneDisplay}
use Rattle.page_core.specs.Handed.{AreContents}
use Rattle.page_core.specs.Private.RegionTests.{AreApart}
use Rattle.page_core.specs.Private.Walks.{is_region}

-- all bytes are segments with these contents; no region is there twice, no page, and no display
pub record IsSound (set : List Content) (bytes : List ℕ) : Type 0 where
  pub contents : AreContents set bytes
  pub apart : AreApart [] (filter is_region set)
  pub one_page : (page : Page) → page_in_set set ≡ Some page → HasOnePage set page
  pub one_display : (display : Display) → display_in_set set ≡ Some display → HasOneDisplay set display
