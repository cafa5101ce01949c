-- What `pictures` tells of the packets of a stream: the text of what is shown at the lifted time of each kept set, and
-- at the end of a time-out that comes before the next one. The sets and losses stand in a list, the latest first.
use Rattle.std.specs.Prelude.{◌≡◌, ℕ, nat_lt, Bool, if◌then◌else◌, List, [], ◌∷◌, ◌++◌, Option, Some, None, option_and_then}
use Rattle.std.specs.Option.{is_some}
use Rattle.decoder_model.specs.Kept.{lifted_time}
use Rattle.decoder_model.specs.Readings.{Reading}
use Rattle.decoder_model.specs.Received.{HasReceived, Reception, for_page}
use Rattle.decoder_model.specs.Sets.{Delivery}
use Rattle.decoder_model.specs.Shown.{standing_after, until_of}
use Rattle.dump_text.specs.DumpText.{shown_text}
use Rattle.packet_walk.specs.ToldEnds.{Telling}
use Rattle.sub_base.specs.declared.profile.Profile.{Profile}
use Rattle.stream_report.specs.declared.pictures_words.PictureReport.{PictureReport}

-- the tick at which what the last kept set shows is timed out: none where it shows nothing, or without an end
unfoldable pub until_after : Profile → ℕ → List (Delivery Reading) → Option ℕ
until_after profile anchor [] = None
until_after profile anchor (one ∷ past) =
    if is_some (lifted_time anchor past one) then option_and_then until_of (standing_after profile anchor (one ∷ past))
    else until_after profile anchor past

-- a tick, where there is one
abbrev pub alone : Option ℕ → List ℕ
alone None = []
alone (Some tick) = tick ∷ []

-- the end of a time-out, where it comes before the lifted time of the next kept set
abbrev pub end_before : Option ℕ → Option ℕ → List ℕ
end_before None until = []
end_before (Some time) None = []
end_before (Some time) (Some until) = if nat_lt until time then until ∷ [] else []

-- the ticks at which the sets of a past are told: for each kept set its lifted time, and ahead of it the end of the
-- time-out of the kept set before it, where that comes sooner
unfoldable pub ticks_of_sets : Profile → ℕ → List (Delivery Reading) → List ℕ
ticks_of_sets profile anchor [] = []
ticks_of_sets profile anchor (one ∷ past) =
    ticks_of_sets profile anchor past
    ++ (end_before (lifted_time anchor past one) (until_after profile anchor past)
    ++ alone (lifted_time anchor past one))

-- and the end of the last time-out, once the stream has ended
abbrev pub ticks_told : Profile → ℕ → Bool → List (Delivery Reading) → List ℕ
ticks_told profile anchor ended past =
    ticks_of_sets profile anchor past ++ (if ended then alone (until_after profile anchor past) else [])

-- the texts of what a receiver shows at these ticks; the stream ends with these packets or not
pub record IsPicturesText (reception : Reception) (ended : Bool) (packets : List (List ℕ))
    (text : List ℕ) : Type 0 where
  pub past : List (Delivery Reading)
  pub received : HasReceived reception ended packets past
  pub whole : text ≡ shown_text reception.profile reception.anchor past
      (ticks_told reception.profile reception.anchor ended past)

-- what `pictures` tells by its words, in a receiver whose lifted times begin at 0: however many the bands, the text is
-- the same
abbrev pub tells_pictures : PictureReport → Telling
tells_pictures report ended packets text =
    IsPicturesText (for_page report.profile report.pid report.page 0) ended packets text
