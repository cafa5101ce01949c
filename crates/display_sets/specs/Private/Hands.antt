-- The set of the run in hand, and what a unit of some time is to it (EN 300 743, clause 5.1).
use Rattle.std.specs.Prelude.{ℕ, ◌==◌, Bool, true, false, if◌then◌else◌, Option, Some, None}
use Rattle.display_sets.specs.declared.filling.Filled.{Filled}
use Rattle.display_sets.specs.declared.filling.Filled.TheVariants as filled
use Rattle.display_sets.specs.declared.hand.Hand.{Hand}
use Rattle.display_sets.specs.declared.hand.Hand.TheVariants as hand
use Rattle.display_sets.specs.declared.hand.Head.{Head}
use Rattle.display_sets.specs.declared.hand.Meeting.{Meeting}
use Rattle.display_sets.specs.declared.hand.Meeting.TheVariants as meeting

-- the end of the set has not come
abbrev pub is_still_open : Filled → Bool
is_still_open filled.Open = true
is_still_open (filled.Ended fault) = false

-- the run in hand once its set is filled so far
abbrev pub hand_with : ℕ → ℕ → Filled → Hand
hand_with time size filled.Open = hand.Open time size
hand_with time size (filled.Ended fault) = hand.Ready (record { time = time; size = size; fault = fault })

-- what a unit of a time is to the run in hand
abbrev pub meeting_of : ℕ → Hand → Meeting
meeting_of time hand.Empty = meeting.Begins
meeting_of time (hand.Open own size) =
    if own == time then meeting.Joins size else meeting.Parts (record { time = own; size = size; fault = None })
meeting_of time (hand.Ready head) = if head.time == time then meeting.Behind else meeting.Begins
meeting_of time (hand.Given own) = if own == time then meeting.Behind else meeting.Begins

-- the head of a set in hand that is ready
abbrev pub ready_head : Hand → Option Head
ready_head hand.Empty = None
ready_head (hand.Open time size) = None
ready_head (hand.Ready head) = Some head
ready_head (hand.Given time) = None

-- the run in hand once its set was given
abbrev pub given_hand : Hand → Hand
given_hand hand.Empty = hand.Empty
given_hand (hand.Open time size) = hand.Open time size
given_hand (hand.Ready head) = hand.Given head.time
given_hand (hand.Given time) = hand.Given time

-- the run in hand at the end of the stream: an open set is ready
abbrev pub closed_hand : Hand → Hand
closed_hand hand.Empty = hand.Empty
closed_hand (hand.Open time size) = hand.Ready (record { time = time; size = size; fault = None })
closed_hand (hand.Ready head) = hand.Ready head
closed_hand (hand.Given time) = hand.Given time

-- how many bytes the units of an open set have
abbrev pub open_size : Hand → ℕ
open_size hand.Empty = 0
open_size (hand.Open time size) = size
open_size (hand.Ready head) = 0
open_size (hand.Given time) = 0

-- how many bytes the units of a set in hand that is ready have, and 0 where none is
abbrev pub ready_size : Hand → ℕ
ready_size hand.Empty = 0
ready_size (hand.Open time size) = 0
ready_size (hand.Ready head) = head.size
ready_size (hand.Given time) = 0

-- the time of the run in hand, and 0 where there is none
abbrev pub hand_time : Hand → ℕ
hand_time hand.Empty = 0
hand_time (hand.Open time size) = time
hand_time (hand.Ready head) = head.time
hand_time (hand.Given time) = time

-- the time of the set that a unit makes ready, and 0 where it makes none
abbrev pub parted_time : Meeting → ℕ
parted_time meeting.Begins = 0
parted_time (meeting.Joins size) = 0
parted_time (meeting.Parts head) = head.time
parted_time meeting.Behind = 0

-- the size of the set that a unit makes ready, and 0 where it makes none
abbrev pub parted_size : Meeting → ℕ
parted_size meeting.Begins = 0
parted_size (meeting.Joins size) = 0
parted_size (meeting.Parts head) = head.size
parted_size meeting.Behind = 0
