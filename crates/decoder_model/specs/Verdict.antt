-- What becomes of the display sets that a receiver is handed (EN 300 743, clause 5.1). What it was handed stands in a
-- list, the latest first.
use Rattle.std.specs.Prelude.{ℕ, List, [], ◌∷◌, Option, Some, None, unwrap_or}
use Rattle.sub_base.specs.declared.profile.Profile.{Profile}
use Rattle.stream_syntax.specs.Segments.{Page}
use Rattle.decoder_model.specs.Contents.{page_in_set}
use Rattle.decoder_model.specs.Faults.{contents_in, segment_fault, epoch_fault}
use Rattle.decoder_model.specs.Kept.{lifted_behind, last_time, epoch_of}
use Rattle.decoder_model.specs.Readings.{Content, Reading}
use Rattle.decoder_model.specs.Sets.{Delivery, lost, whole, refused}
use Rattle.decoder_model.specs.declared.set_end.SetEnd.{SetEnd}
use Rattle.decoder_model.specs.declared.set_end.SetEnd.TheVariants.{Shown, Waiting, Broken, NotLater}
use Rattle.decoder_model.specs.declared.set_fault.SetFault.{SetFault}
use Rattle.decoder_model.specs.declared.set_fault.SetFault.TheVariants.{NoPage}

-- a set without a fault is shown, and one with a fault is broken by it
abbrev pub shown_unless : Option SetFault → SetEnd
shown_unless None = Shown
shown_unless (Some fault) = Broken fault

-- a set with its page, by the sets of its epoch, itself the first of them: where no epoch is known it waits
abbrev pub verdict_in_epoch : Profile → Page → Option (List (List Content)) → SetEnd
verdict_in_epoch profile page None = Waiting
verdict_in_epoch profile page (Some []) = Waiting
verdict_in_epoch profile page (Some (set ∷ before)) = shown_unless (epoch_fault profile before set page)

-- a set by its page: without one it is broken
abbrev pub verdict_with_page : Profile → List (List Content) → List Content → Option Page → SetEnd
verdict_with_page profile sets set None = Broken NoPage
verdict_with_page profile sets set (Some page) = verdict_in_epoch profile page (epoch_of (set ∷ sets))

-- a kept set behind the kept sets since the last loss or broken set: first its segments are tested, then its page
abbrev pub verdict_on_segments : Profile → List (List Content) → List Content → Option SetFault → SetEnd
verdict_on_segments profile sets set (Some fault) = Broken fault
verdict_on_segments profile sets set None = verdict_with_page profile sets set (page_in_set set)

-- the verdict on a kept set by what was read of its segments
abbrev pub verdict_on_kept : Profile → List (List Content) → List Reading → SetEnd
verdict_on_kept profile sets readings = verdict_on_segments profile sets (contents_in readings) (segment_fault readings)

-- the verdict on a set with that lifted time, or on one that is not kept, by the greatest lifted time before it
abbrev pub if_kept : Option ℕ → Option ℕ → SetEnd → SetEnd
if_kept (Some time) last verdict = verdict
if_kept None last verdict = NotLater (unwrap_or last 0)

-- the verdict on what is handed behind sets of which that is the greatest lifted time, with the kept sets since the
-- last loss or broken set; a loss has none
abbrev pub verdict_after : Profile → ℕ → Option ℕ → List (List Content) → Delivery Reading → Option SetEnd
verdict_after profile anchor last sets lost = None
verdict_after profile anchor last sets (whole time size readings) =
    Some (if_kept (lifted_behind anchor last time) last (verdict_on_kept profile sets readings))
verdict_after profile anchor last sets (refused time size fault) =
    Some (if_kept (lifted_behind anchor last time) last (Broken fault))

-- the kept sets since the last loss or broken set, with what is handed after them: a set that is not kept changes
-- nothing
abbrev pub sets_with : List (List Content) → Delivery Reading → Option SetEnd → List (List Content)
sets_with sets (whole time size readings) (Some Shown) = contents_in readings ∷ sets
sets_with sets (whole time size readings) (Some Waiting) = contents_in readings ∷ sets
sets_with sets delivery (Some (NotLater last)) = sets
sets_with sets delivery (Some (Broken fault)) = []
sets_with sets delivery other = []

-- the kept sets since the last loss or broken set, the latest first, in a receiver with that anchor
unfoldable pub sets_since : Profile → ℕ → List (Delivery Reading) → List (List Content)
sets_since profile anchor [] = []
sets_since profile anchor (delivery ∷ past) =
    sets_with (sets_since profile anchor past) delivery
    (verdict_after profile anchor (last_time anchor past) (sets_since profile anchor past) delivery)

-- the verdict on a set behind a past
abbrev pub verdict_of : Profile → ℕ → List (Delivery Reading) → Delivery Reading → Option SetEnd
verdict_of profile anchor past delivery =
    verdict_after profile anchor (last_time anchor past) (sets_since profile anchor past) delivery

-- the sets of the epoch that is known after a past
abbrev pub known_epoch : Profile → ℕ → List (Delivery Reading) → Option (List (List Content))
known_epoch profile anchor past = epoch_of (sets_since profile anchor past)
