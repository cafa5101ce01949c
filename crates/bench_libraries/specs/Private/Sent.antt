use Rattle.std.specs.Prelude.{◌≡◌, ◌<◌}
use Rattle.sub_base.specs.Colour.{shown_of}
use Rattle.stream_syntax.specs.declared.clut.ClutEntry.{ClutEntry}

-- the entry of a CLUT has numbers of a byte, and its colour is as it is shown
pub record IsSent (entry : ClutEntry) : Type 0 where
  pub number : entry.entry < 256
  pub y : entry.colour.y < 256
  pub cr : entry.colour.cr < 256
  pub cb : entry.colour.cb < 256
  pub t : entry.colour.t < 256
  pub shown : shown_of entry.colour ≡ entry.colour
