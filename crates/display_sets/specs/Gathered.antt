-- What a gathering of display sets keeps, and what it then does.
use Rattle.std.specs.Prelude.{◌≡◌, ℕ, ◌+◌, ◌*◌, ◌^◌, ◌<◌, ◌≤◌, List, [], ◌∷◌, ◌++◌, length, Option, Some, None, Result, Ok, Err}
use Rattle.std.specs.Option.{ForSome}
use Rattle.stream_syntax.specs.DataField.{Frame}
use Rattle.decoder_model.specs.declared.pages.Pages.{Pages}
use Rattle.decoder_model.specs.declared.set_fault.SetFault.{SetFault}
use Rattle.display_sets.specs.Counted.{counted_in}
use Rattle.display_sets.specs.Filling.{AreOpen, Fills}
use Rattle.display_sets.specs.Private.Hands.{hand_time, hand_with, ready_head, ready_size, open_size}
use Rattle.display_sets.specs.declared.filling.Filled.{Filled}
use Rattle.display_sets.specs.declared.hand.Hand.{Hand}
use Rattle.display_sets.specs.declared.hand.Head.{Head}

-- a gathering as a plain value
pub record Gathered : Type 0 where
  pub pages : Pages
  -- how many bytes the segments of a set may have
  pub coded : ℕ
  -- the run in hand, and the bytes of its set's segments
  pub hand : Hand
  pub bytes : List ℕ
  -- the set that was made ready by a unit of another time, and the bytes of its segments
  pub parted : Option Head
  pub parted_bytes : List ℕ

-- a set that is ready: its time, the size of its units in bytes, and the bytes of its segments or why it is refused
pub record ReadySet : Type 0 where
  pub time : ℕ
  pub size : ℕ
  pub content : Result (List ℕ) SetFault

-- the bytes of a set, or its fault where it has one
abbrev pub content_of : List ℕ → Option SetFault → Result (List ℕ) SetFault
content_of bytes None = Ok bytes
content_of bytes (Some fault) = Err fault

-- the set with that head and those bytes
abbrev pub ready_set : List ℕ → Head → ReadySet
ready_set bytes head = record { time = head.time; size = head.size; content = content_of bytes head.fault }

-- that set, where there is a head
abbrev pub ready_in : Option Head → List ℕ → List ReadySet
ready_in None bytes = []
ready_in (Some head) bytes = ready_set bytes head ∷ []

-- the sets that are ready and not yet given, the first one first
abbrev pub ready_sets : Gathered → List ReadySet
ready_sets gathered =
    ready_in gathered.parted gathered.parted_bytes ++ ready_in (ready_head gathered.hand) gathered.bytes

-- the first of them
abbrev pub first_ready : List ReadySet → Option ReadySet
first_ready [] = None
first_ready (one ∷ sets) = Some one

-- those behind the first
abbrev pub sets_behind : List ReadySet → List ReadySet
sets_behind [] = []
sets_behind (one ∷ sets) = sets

-- a set has less than 2^32 bytes of units for each byte of the memory, and for the unit with which it ends
abbrev pub HasFewBytes : ℕ → ℕ → Type 0
HasFewBytes coded size = size < (coded + 1) * 4294967296

-- the bytes fit the memory; each byte of an open set stands for less than 2^32 bytes of units, so that their size fits
-- 64 bits
pub record IsSoundGathering (gathered : Gathered) : Type 0 where
  pub few : gathered.coded < 2 ^ 32
  pub within : length gathered.bytes ≤ gathered.coded
  pub parted_within : length gathered.parted_bytes ≤ gathered.coded
  pub small : open_size gathered.hand ≤ length gathered.bytes * 4294967296
  pub ready_small : HasFewBytes gathered.coded (ready_size gathered.hand)
  pub parted_small : ForSome gathered.parted (λ head. HasFewBytes gathered.coded head.size)
  -- times have 33 bits
  pub timely : hand_time gathered.hand < 2 ^ 33
  pub parted_timely : ForSome gathered.parted (λ head. head.time < 2 ^ 33)

-- a unit's segments were put to the set in hand, whose units have that size with it
pub record TakesUp (old new : Gathered) (time size : ℕ) (field : List ℕ) : Type 0 where
  pub same_pages : new.pages ≡ old.pages
  pub same_coded : new.coded ≡ old.coded
  pub same_parted : new.parted ≡ old.parted
  pub same_bytes : new.parted_bytes ≡ old.parted_bytes
  pub filled : Filled
  pub in_hand : new.hand ≡ hand_with time size filled
  pub fills : (front : List Frame) → AreOpen old.coded front old.bytes
      → Fills old.coded front (counted_in old.pages field) new.bytes filled
