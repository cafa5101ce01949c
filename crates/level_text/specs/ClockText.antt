-- What `levels` tells of packets that arrive by the samples of their programme's clock (ISO/IEC 13818-1, 2.4.2.2).
use Rattle.std.specs.Prelude.{ℕ, min, Bool, List, Option}
use Rattle.buffer_model.specs.Ticks.{by_ticks}
use Rattle.check_text.specs.Courses.{Course, IsTextBy}
use Rattle.decoder_model.specs.Received.{Reception}
use Rattle.pcr_clock.specs.Arrivals.{tick_at, ticks_of}
use Rattle.sub_base.specs.declared.profile.Profile.{Profile}
use Rattle.level_text.specs.declared.anchored_meter.TheConstants.{LATEST_ANCHOR}

-- packets that come to a receiver of a profile at these ticks
abbrev pub at_ticks : List ℕ → Profile → Course
at_ticks ticks profile = record { slot_of = tick_at ticks; pace = by_ticks profile }

-- a receiver for the same, whose lifted times begin when the first packet arrives, at the first of these ticks; a tick
-- of more than 33 bits, which a sample is rounded up to, is the latest of 33 bits
abbrev pub from_first : List ℕ → Reception → Reception
from_first ticks asked = record {
  profile = asked.profile;
  pid = asked.pid;
  pages = asked.pages;
  anchor = min LATEST_ANCHOR (tick_at ticks 0);
}

-- the text of the sets and levels of packets that arrive by the samples that they carry, none where a packet has none,
-- in a receiver for this whose lifted times begin with them; the stream ends with the packets or not
abbrev pub IsClockText : List (Option ℕ) → Reception → Bool → List (List ℕ) → List ℕ → Type 0
IsClockText samples asked ended packets text =
    IsTextBy (at_ticks (ticks_of samples) asked.profile) (from_first (ticks_of samples) asked) ended packets text
