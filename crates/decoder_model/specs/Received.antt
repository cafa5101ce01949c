-- What a receiver is for, and what it has received, as display sets that are read.
use Rattle.std.specs.Prelude.{◌≡◌, ℕ, Bool, List, [], ◌∷◌, ◌++◌, length, reverse, None}
use Rattle.sub_base.specs.Profile.{profile_of}
use Rattle.sub_base.specs.declared.profile.Profile.{Profile}
use Rattle.sub_base.specs.declared.profile.ProfileName.{ProfileName}
use Rattle.stream_syntax.specs.SegmentTests.{frame_tests, segment_size}
use Rattle.stream_syntax.specs.Tests.{first_fault}
use Rattle.decoder_model.specs.declared.pages.Pages.{Pages}
use Rattle.decoder_model.specs.Frames.{only}
use Rattle.decoder_model.specs.Readings.{Reading, IsReading, AreDeliveriesRead}
use Rattle.decoder_model.specs.Sets.{Delivery, sets_of}

-- ---- what it is for

-- a receiver is for a profile, a PID, the pages of a service, and the tick at which lifted times begin
pub record Reception : Type 0 where
  pub profile : Profile
  pub pid : ℕ
  pub pages : Pages
  pub anchor : ℕ

-- for these pages, of the profile of that name
abbrev pub for_pages : ProfileName → ℕ → Pages → ℕ → Reception
for_pages name pid pages anchor = record {
  profile = profile_of name;
  pid = pid;
  pages = pages;
  anchor = anchor;
}

-- for a service of that page alone
abbrev pub for_page : ProfileName → ℕ → ℕ → ℕ → Reception
for_page name pid page anchor = for_pages name pid (only page) anchor

-- ---- of packets

-- all sets and losses of packets, the first one first; the stream ends with the packets or not
abbrev pub sets_received : Reception → Bool → List (List ℕ) → List (Delivery (List ℕ))
sets_received reception ended packets = sets_of reception.profile.coded reception.pid reception.pages ended packets

-- a receiver has received these packets as these sets and losses, the latest first, whatever its anchor; the stream
-- ends with the packets or not
abbrev pub HasReceived : Reception → Bool → List (List ℕ) → List (Delivery Reading) → Type 0
HasReceived reception ended packets past = AreDeliveriesRead (reverse (sets_received reception ended packets)) past

-- ---- of the bytes of a set

-- the bytes are one segment by its head, and no more
pub record IsFramed (bytes : List ℕ) : Type 0 where
  pub framed : first_fault (frame_tests bytes) ≡ None
  pub whole : length bytes ≡ segment_size bytes

-- the bytes begin with a segment that is read so, and then come these
pub record BeginsWith (bytes : List ℕ) (reading : Reading) (rest : List ℕ) : Type 0 where
  pub segment : List ℕ
  pub is_framed : IsFramed segment
  pub is_reading : IsReading segment reading
  pub joined : bytes ≡ segment ++ rest

-- the bytes are whole segments, one after another, that are read so
abbrev pub AreRead : List Reading → List ℕ → Type 0
AreRead [] bytes = bytes ≡ []
AreRead (reading ∷ readings) bytes = (rest : List ℕ) × BeginsWith bytes reading rest × AreRead readings rest
