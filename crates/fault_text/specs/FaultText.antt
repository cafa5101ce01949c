-- What `faults` tells of the packets of a stream: each display set that is not shown, with what is wrong with it; the
-- regions of shown sets that do not lie inside the display, and their definitions that say something else under the
-- same version; and how many sets came to each end. The sets and losses stand in two lists, as they are handed over and
-- as they are read, the latest first.
use Rattle.std.specs.Prelude.{◌≡◌, ℕ, ◌+◌, Bool, true, false, if◌then◌else◌, List, [], ◌∷◌, ◌++◌, length, map, filter, nat_lt, reverse, codes, Option, Some, None}
use Rattle.std.specs.List.{concat}
use Rattle.command_text.specs.Lines.{line_end, then_number}
use Rattle.decoder_model.specs.declared.set_end.SetEnd.{SetEnd}
use Rattle.decoder_model.specs.declared.set_end.SetEnd.TheVariants.{Shown, Waiting, Broken, NotLater}
use Rattle.decoder_model.specs.Painting.{set_load}
use Rattle.decoder_model.specs.Readings.{Reading}
use Rattle.decoder_model.specs.Received.{HasReceived, Reception, sets_received}
use Rattle.decoder_model.specs.Sets.{Delivery, lost, refused, whole}
use Rattle.decoder_model.specs.Shown.{Standing, standing_after}
use Rattle.decoder_model.specs.Verdict.{verdict_of}
use Rattle.page_core.specs.Edges.{is_outside}
use Rattle.set_definitions.specs.Definitions.{changed_lines, defined_behind, definitions_in, earlier_in}
use Rattle.set_definitions.specs.declared.definition.Definition.{Definition}
use Rattle.stream_syntax.specs.declared.page.PageEntry.{PageEntry}
use Rattle.sub_base.specs.Lists.{all_of}
use Rattle.sub_base.specs.declared.load.SetLoad.{SetLoad}
use Rattle.sub_base.specs.declared.profile.Profile.{Profile}
use Rattle.fault_text.specs.SetFaults.{set_fault_text}
use Rattle.fault_text.specs.declared.tally.Tally.{Tally}

-- ---- how many

-- what becomes of each set of a past, and none for each loss
unfoldable pub ends_of : Profile → ℕ → List (Delivery Reading) → List (Option SetEnd)
ends_of profile anchor [] = []
ends_of profile anchor (one ∷ past) = verdict_of profile anchor past one ∷ ends_of profile anchor past

-- a set that is shown
abbrev pub is_shown : Option SetEnd → Bool
is_shown None = false
is_shown (Some Shown) = true
is_shown (Some Waiting) = false
is_shown (Some (Broken fault)) = false
is_shown (Some (NotLater last)) = false

-- a set that waits for the page
abbrev pub is_waiting : Option SetEnd → Bool
is_waiting None = false
is_waiting (Some Shown) = false
is_waiting (Some Waiting) = true
is_waiting (Some (Broken fault)) = false
is_waiting (Some (NotLater last)) = false

-- a set that is broken
abbrev pub is_broken : Option SetEnd → Bool
is_broken None = false
is_broken (Some Shown) = false
is_broken (Some Waiting) = false
is_broken (Some (Broken fault)) = true
is_broken (Some (NotLater last)) = false

-- a set that is not later than the last kept one
abbrev pub is_not_later : Option SetEnd → Bool
is_not_later None = false
is_not_later (Some Shown) = false
is_not_later (Some Waiting) = false
is_not_later (Some (Broken fault)) = false
is_not_later (Some (NotLater last)) = true

-- a loss
abbrev pub is_loss : Option SetEnd → Bool
is_loss None = true
is_loss (Some end) = false

-- how many pass a test
abbrev pub how_many : (Option SetEnd → Bool) → List (Option SetEnd) → ℕ
how_many test ends = length (filter test ends)

-- how many sets came to each end, and how many losses
abbrev pub tally_of : List (Option SetEnd) → Tally
tally_of ends = record {
  shown = how_many is_shown ends;
  waiting = how_many is_waiting ends;
  broken = how_many is_broken ends;
  not_later = how_many is_not_later ends;
  lost = how_many is_loss ends;
}

-- how many sets: each came to one end
abbrev pub set_count : Tally → ℕ
set_count tally = tally.shown + tally.waiting + tally.broken + tally.not_later

-- ---- lines

-- what becomes of a set: where it is broken, what is wrong with it
abbrev pub end_text : SetEnd → List ℕ
end_text Shown = codes " shown"
end_text Waiting = codes " waiting"
end_text (Broken fault) = codes " broken " ++ set_fault_text fault
end_text (NotLater last) = codes " notlater"

-- a set: its number, counted from 1, and its presentation time in ticks
abbrev pub set_front : ℕ → ℕ → List ℕ
set_front number pts = codes "set" ++ then_number number ++ then_number pts

-- the line of a set: its number, its time, and what becomes of it
abbrev pub set_line : ℕ → ℕ → SetEnd → List ℕ
set_line number pts end = set_front number pts ++ end_text end ++ line_end

-- a region of the set above that does not lie inside the display
abbrev pub outside_line : PageEntry → List ℕ
outside_line entry = codes "outside" ++ then_number entry.region ++ line_end

-- how many sets came to each end, and how many losses
abbrev pub tally_line : Tally → List ℕ
tally_line tally =
    codes "sets" ++ then_number (set_count tally) ++ codes " shown" ++ then_number tally.shown ++ codes " waiting"
    ++ then_number tally.waiting ++ codes " broken" ++ then_number tally.broken ++ codes " notlater"
    ++ then_number tally.not_later ++ codes " lost" ++ then_number tally.lost ++ line_end

-- ---- definitions

-- the segments of a set; none of a loss, and of a set that is refused or larger than the coded data buffer, which is
-- broken
abbrev pub segments_handed : ℕ → Delivery (List ℕ) → List (List ℕ)
segments_handed coded lost = []
segments_handed coded (whole time size segments) =
    if nat_lt coded (length (concat segments)) then [] else segments
segments_handed coded (refused time size fault) = []

-- the definitions of the epoch that goes on behind a set of that end, with the segments of the set: a set that is not
-- kept changes nothing, and without a set that is shown no epoch goes on
abbrev pub defined_with : Option SetEnd → List (List ℕ) → List Definition → List Definition
defined_with None segments before = []
defined_with (Some Shown) segments before = defined_behind (definitions_in segments) (earlier_in segments before)
defined_with (Some Waiting) segments before = []
defined_with (Some (Broken fault)) segments before = []
defined_with (Some (NotLater last)) segments before = before

-- the definitions of the epoch that goes on behind all sets and losses, the latest first
unfoldable pub defined_after : Profile → ℕ → List (Delivery (List ℕ)) → List (Delivery Reading) → List Definition
defined_after profile anchor [] past = []
defined_after profile anchor (raw ∷ given) [] = []
defined_after profile anchor (raw ∷ given) (one ∷ past) =
    defined_with (verdict_of profile anchor past one) (segments_handed profile.coded raw)
    (defined_after profile anchor given past)

-- ---- a set

-- the lines of what is found in the page that stands: of each region that does not lie inside the display
abbrev pub found_in : Option Standing → List (List ℕ)
found_in None = []
found_in (Some standing) = map outside_line (filter (is_outside standing.scene) standing.scene.entries)

-- what is told of a set that is shown: nothing where nothing is found in it
abbrev pub shown_text : ℕ → ℕ → List (List ℕ) → List ℕ
shown_text number pts [] = []
shown_text number pts (line ∷ lines) = set_line number pts Shown ++ all_of (line ∷ lines)

-- what is told of a set of that number, time and end, in which this is found
abbrev pub set_text : ℕ → ℕ → SetEnd → List (List ℕ) → List ℕ
set_text number pts Shown lines = shown_text number pts lines
set_text number pts Waiting lines = set_line number pts Waiting
set_text number pts (Broken fault) lines = set_line number pts (Broken fault)
set_text number pts (NotLater last) lines = set_line number pts (NotLater last)

-- what is told of what has that verdict and load, behind so many sets; nothing is told of a loss
abbrev pub told_text : ℕ → Option SetEnd → Option SetLoad → List (List ℕ) → List ℕ
told_text before None load lines = []
told_text before (Some end) None lines = []
told_text before (Some end) (Some load) lines = set_text (before + 1) load.pts end lines

-- the lines of what is found in a set with these segments, of which that page stands, behind definitions of its epoch
abbrev pub found_lines : Option Standing → List (List ℕ) → List Definition → List (List ℕ)
found_lines standing segments before =
    found_in standing ++ changed_lines (earlier_in segments before) (definitions_in segments)

-- what is told of what is handed behind all that was handed before: of a set at its lifted time, or at its time as read
-- where it is not kept
abbrev pub text_behind : Profile → ℕ → List (Delivery (List ℕ)) → List (Delivery Reading) → Delivery (List ℕ)
    → Delivery Reading → List ℕ
text_behind profile anchor given past raw one =
    told_text (set_count (tally_of (ends_of profile anchor past))) (verdict_of profile anchor past one)
    (set_load profile anchor past one)
    (found_lines (standing_after profile anchor (one ∷ past)) (segments_handed profile.coded raw)
    (defined_after profile anchor given past))

-- ---- the text

-- what is told of all sets
unfoldable pub sets_text : Profile → ℕ → List (Delivery (List ℕ)) → List (Delivery Reading) → List ℕ
sets_text profile anchor [] past = []
sets_text profile anchor (raw ∷ given) [] = []
sets_text profile anchor (raw ∷ given) (one ∷ past) =
    sets_text profile anchor given past ++ text_behind profile anchor given past raw one

-- and, once the stream has ended, how many they were
abbrev pub faults_text : Profile → ℕ → Bool → List (Delivery (List ℕ)) → List (Delivery Reading) → List ℕ
faults_text profile anchor ended given past =
    sets_text profile anchor given past
    ++ (if ended then tally_line (tally_of (ends_of profile anchor past)) else [])

-- the text of packets in a receiver; the stream ends with these packets or not
pub record IsFaultsText (reception : Reception) (ended : Bool) (packets : List (List ℕ)) (text : List ℕ) : Type 0 where
  pub past : List (Delivery Reading)
  pub received : HasReceived reception ended packets past
  pub whole : text
      ≡ faults_text reception.profile reception.anchor ended (reverse (sets_received reception ended packets)) past
