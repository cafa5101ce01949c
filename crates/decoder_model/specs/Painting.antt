-- What it takes to paint a display set: a tick for each 64 pixels of its region segments, taken or held, that are
-- begun.
use Rattle.std.specs.Prelude.{ℕ, List, filter_map, sum_by, Option, Some, None, unwrap_or}
use Rattle.sub_base.specs.Pace.{painting_ticks}
use Rattle.sub_base.specs.declared.load.SetLoad.{SetLoad}
use Rattle.sub_base.specs.declared.profile.Profile.{Profile}
use Rattle.stream_syntax.specs.Segments.{Region}
use Rattle.decoder_model.specs.Contents.{region_of}
use Rattle.decoder_model.specs.Faults.{contents_in}
use Rattle.decoder_model.specs.Kept.{lifted_time}
use Rattle.decoder_model.specs.Readings.{Content, Reading}
use Rattle.decoder_model.specs.Sets.{Delivery, lost, whole, refused}
use Rattle.decoder_model.specs.Verdict.{verdict_of}
use Rattle.decoder_model.specs.declared.set_end.SetEnd.{SetEnd}
use Rattle.decoder_model.specs.declared.set_end.SetEnd.TheVariants.{Shown, Waiting}

-- the ticks that painting a region takes
abbrev pub region_painting : Region → ℕ
region_painting region = painting_ticks region.head.width region.head.height

-- the ticks that painting all regions of a set takes: each of its region segments, taken or not
abbrev pub set_painting : List Content → ℕ
set_painting set = sum_by region_painting (filter_map region_of set)

-- the painting of a set by the verdict on it: a set that is broken, or not kept, is not painted
abbrev pub painting_by : List Reading → Option SetEnd → ℕ
painting_by readings (Some Shown) = set_painting (contents_in readings)
painting_by readings (Some Waiting) = set_painting (contents_in readings)
painting_by readings verdict = 0

-- what a set behind a past asks of a receiver: at its lifted time, or the time as read where it is not kept, its size
-- and its painting; a loss asks nothing
abbrev pub set_load : Profile → ℕ → List (Delivery Reading) → Delivery Reading → Option SetLoad
set_load profile anchor past lost = None
set_load profile anchor past (whole time bytes readings) = Some (record {
  pts = unwrap_or (lifted_time anchor past (whole time bytes readings)) time;
  size = bytes;
  painted = painting_by readings (verdict_of profile anchor past (whole time bytes readings));
})
set_load profile anchor past (refused time bytes fault) =
    Some (record {
      pts = unwrap_or (lifted_time anchor past (refused time bytes fault)) time;
      size = bytes;
      painted = 0;
    })
