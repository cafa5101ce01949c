-- A segment that begins an epoch anew.
use Rattle.std.specs.Prelude.{◌==◌, Bool, false, Option, Some, None}
use Rattle.stream_syntax.specs.Segments.{Page, state_number}
use Rattle.stream_syntax.specs.declared.page.State.TheVariants.{ModeChange}
use Rattle.decoder_model.specs.Contents.{page_of}
use Rattle.decoder_model.specs.Readings.{Reading, read, faulty}

-- a page of the state mode change
abbrev pub is_new_page : Option Page → Bool
is_new_page None = false
is_new_page (Some page) = state_number page.state == state_number ModeChange

-- a segment that is read as one
abbrev pub opens_anew : Reading → Bool
opens_anew (read content) = is_new_page (page_of content)
opens_anew (faulty fault) = false
