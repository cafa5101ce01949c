-- The text of what was counted of a PID.
use Rattle.std.specs.Prelude.{ℕ, ◌==◌, if◌then◌else◌, List, [], ◌++◌, length, slice_index_or, Option, Some, None}
use Rattle.std.specs.List.{flat_map}
use Rattle.pid_text.specs.PidText.{more_where, page_line, texts_below, times_part, units_part}
use Rattle.pid_text.specs.Private.Listing.{PageListing}
use Rattle.pid_text.specs.declared.page_tally.PageTally.{PageTally}
use Rattle.pid_text.specs.declared.pid_tally.PidTally.{PidTally}
use Rattle.pid_text.specs.declared.watch.Slot.{Slot}
use Rattle.pid_text.specs.declared.watch.Watch.{Watch}

-- the line of a page by its entry
abbrev pub entry_text : PageTally → List ℕ
entry_text entry = page_line entry.page entry.compositions entry.ancillaries

-- the lines of the pages that are listed, and the line that says that there are more, where there are
abbrev pub listing_text : PageListing → List ℕ
listing_text listing = flat_map entry_text listing.entries ++ more_where listing.more

-- the text of a PID by what was counted of it: none where it has no PES packet of subtitles
abbrev pub tally_text : ℕ → PidTally → List ℕ
tally_text pid tally =
    if tally.units == 0 then []
    else units_part pid tally.units ++ times_part tally.first tally.last ++ listing_text tally.pages

-- the text of a PID that is watched; of one that is not there is none
abbrev pub watch_text : ℕ → Option Watch → List ℕ
watch_text pid None = []
watch_text pid (Some watch) = tally_text pid watch.tally

-- the text of a PID by what is kept of it
abbrev pub slot_text : ℕ → Slot → List ℕ
slot_text pid slot = watch_text pid slot.watch

-- what is kept of a PID that is not watched
abbrev pub no_slot : Slot
no_slot = record { watch = None }

-- the texts of the PIDs from 0 on
abbrev pub slots_text : List Slot → List ℕ
slots_text slots = texts_below (λ pid. slot_text pid (slice_index_or slots pid no_slot)) (length slots)
