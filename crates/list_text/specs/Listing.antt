-- What `list` has taken of packets, and what it has told of them.
use Rattle.std.specs.Prelude.{◌≡◌, ℕ, Bool, List}
use Rattle.ts_packets.specs.Demuxing.{Demuxing, HasDemuxed}
use Rattle.sub_base.specs.declared.profile.TheConstants.{LARGEST_BUFFER}
use Rattle.list_text.specs.ListText.{IsListText}

-- the demultiplexer was fed these packets, of which this text is told
pub record IsListed (demux : Demuxing) (packets : List (List ℕ)) (text : List ℕ) : Type 0 where
  pub size_is : demux.size ≡ LARGEST_BUFFER
  pub stands : HasDemuxed demux packets
  pub told : IsListText demux.pid packets text

-- what `list` tells of packets, whether the stream ends with them or not
abbrev pub lists : ℕ → Bool → List (List ℕ) → List ℕ → Type 0
lists pid ended packets text = IsListText pid packets text
