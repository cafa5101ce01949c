-- Sections that are laid over the packets of a PID one after another, in any way (ISO/IEC 13818-1, 2.4.4).
use Rattle.std.specs.Prelude.{◌≡◌, ◌≢◌, ℕ, ◌+◌, ◌%◌, ◌<◌, ◌≤◌, ◌⊎◌, ⊤, Bool, true, false, if◌then◌else◌, List, [], ◌∷◌, ◌++◌, length, Option, Some, None}
use Rattle.std.specs.List.{concat, AllByRecursion}
use Rattle.stream_syntax.specs.TransportPackets.{pid_of, has_error_flag, has_bad_field, control_of, counter_of}
use Rattle.section_reader.specs.Sections.{sections_of}
use Rattle.cut_section_laws.specs.SectionCuts.{Carries, HasNextCounter, AddsNothing, IsWholeSection, IsStuffing, is_counted, pointed}

-- behind packets no section has begun that has not ended, or one is open: the bytes of it that these packets carry, and
-- those that are to come
pub data Progress : Type 0 where
  Closed : Progress
  Open : List ℕ → List ℕ → Progress

-- behind the place to which a pointer_field points these sections stand whole, one behind another, and then nothing or
-- stuffing, or the front of a section that is open from there on
pub data Stand : List ℕ → List (List ℕ) → Progress → Type 0 where
  to_the_end : {bytes : List ℕ} {sections : List (List ℕ)} (rest : List ℕ) → bytes ≡ concat sections ++ rest
      → AllByRecursion IsWholeSection sections → IsStuffing rest → Stand bytes sections Closed
  up_to_a_front : {bytes : List ℕ} {sections : List (List ℕ)} (front owed : List ℕ)
      → bytes ≡ concat sections ++ front → AllByRecursion IsWholeSection sections → IsWholeSection (front ++ owed)
      → 1 ≤ length front → 1 ≤ length owed → Stand bytes sections (Open front owed)

-- the packet is marked as damaged, or its adaptation_field_control or its adaptation field cannot be
abbrev pub IsDamaged : List ℕ → Type 0
IsDamaged packet =
    (has_error_flag packet ≡ true) ⊎ ((control_of packet ≡ 0) ⊎ (has_bad_field packet ≡ true))

-- packets are missing before this one: its counter is neither that of the last packet nor the next
abbrev pub IsMissing : Option ℕ → List ℕ → Type 0
IsMissing None packet = ⊥
IsMissing (Some counter) packet = (counter_of packet ≢ counter) × (counter_of packet ≢ (counter + 1) % 16)

-- a payload has no pointer_field, or one that points beyond the payload's end
abbrev pub IsMispointed : List ℕ → Type 0
IsMispointed [] = ⊤
IsMispointed (pointer ∷ bytes) = length bytes < pointer

-- a packet behind one with this counter: what is open before it, the sections that end in it, and what is open behind
pub data Lays (pid : ℕ) (last : Option ℕ) (packet : List ℕ) : Progress → List (List ℕ) → Progress → Type 0 where
  -- it adds nothing
  between : {progress : Progress} → AddsNothing pid last packet → Lays pid last packet progress [] progress
  -- no section is open, and none begins
  idle : (bytes : List ℕ) → Carries pid false bytes packet → Lays pid last packet Closed [] Closed
  -- none is open, and here sections begin, behind bytes of one whose beginning is not there
  first : {sections : List (List ℕ)} {next : Progress} (passed bytes : List ℕ)
      → last ≢ Some (counter_of packet) → Carries pid true (pointed passed bytes) packet → Stand bytes sections next
      → Lays pid last packet Closed sections next
  -- a whole payload goes on with the open one, and is not the last of it
  middle : {begun owed : List ℕ} (piece more : List ℕ) → HasNextCounter last packet → Carries pid false piece packet
      → owed ≡ piece ++ more → 1 ≤ length more → Lays pid last packet (Open begun owed) [] (Open (begun ++ piece) more)
  -- the front of a payload ends it
  end : {begun owed : List ℕ} (rest : List ℕ) → HasNextCounter last packet → Carries pid false (owed ++ rest) packet
      → Lays pid last packet (Open begun owed) ((begun ++ owed) ∷ []) Closed
  -- it ends before the place to which the pointer_field points, and there others begin
  next_ones : {begun owed : List ℕ} {sections : List (List ℕ)} {next : Progress} (rest bytes : List ℕ)
      → HasNextCounter last packet → Carries pid true (pointed (owed ++ rest) bytes) packet → Stand bytes sections next
      → Lays pid last packet (Open begun owed) ((begun ++ owed) ∷ sections) next
  -- the place to which the pointer_field points comes before its end: it is lost, and there others begin
  broken_off : {begun owed : List ℕ} {sections : List (List ℕ)} {next : Progress} (passed more bytes : List ℕ)
      → HasNextCounter last packet → Carries pid true (pointed passed bytes) packet → owed ≡ passed ++ more
      → 1 ≤ length more
      → Stand bytes sections next → Lays pid last packet (Open begun owed) sections next
  -- sections ought to begin in it, and it is not said where: nothing of it is taken, and what was open is lost
  mispointed : {progress : Progress} (bytes : List ℕ) → last ≢ Some (counter_of packet)
      → Carries pid true bytes packet → IsMispointed bytes → Lays pid last packet progress [] Closed
  -- a damaged packet of the PID: the open one is lost
  damaged : {progress : Progress} → pid_of packet ≡ pid → IsDamaged packet → Lays pid last packet progress [] Closed
  -- packets are missing before it: the open one is lost, and it is as where none is open
  lost : {begun owed : List ℕ} {sections : List (List ℕ)} {next : Progress} (start : Bool) (bytes : List ℕ)
      → Carries pid start bytes packet → IsMissing last packet
      → Lays pid last packet Closed sections next → Lays pid last packet (Open begun owed) sections next

-- behind a packet with this counter, where this is open, these sections end in packets, in order
abbrev pub AreLaid : ℕ → Option ℕ → Progress → List (List ℕ) → List (List ℕ) → Type 0
AreLaid pid last progress sections [] = sections ≡ []
AreLaid pid last progress sections (packet ∷ packets) =
    (ended later : List (List ℕ)) × (next : Progress) × (sections ≡ ended ++ later)
    × Lays pid last packet progress ended next
    × AreLaid pid (if is_counted pid packet then Some (counter_of packet) else last) next later packets

-- however sections are laid over the packets of a stream, those come that end in them without a loss, each once and in
-- order, and no others
abbrev pub EveryLaying : ℕ → Type 0
EveryLaying pid =
    (packets sections : List (List ℕ)) → AreLaid pid None Closed sections packets → sections_of pid packets ≡ sections

-- whatever stands in the packets of a stream, they have such a laying: the sections that come are laid in them
abbrev pub EveryStream : ℕ → Type 0
EveryStream pid = (packets : List (List ℕ)) → AreLaid pid None Closed (sections_of pid packets) packets
