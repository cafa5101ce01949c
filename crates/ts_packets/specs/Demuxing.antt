-- What a demultiplexer keeps, and what that has to do with the packets that it was fed.
use Rattle.std.specs.Prelude.{◌≡◌, ℕ, ◌+◌, Bool, if◌then◌else◌, List, [], ◌∷◌, ◌++◌, take, min, Option, Some, None}
use Rattle.stream_syntax.specs.Units.{UnitPart, last_counter, hand_after, fate_of, is_waiting, joined}

-- the PID that is read, the room for a unit, and what is in hand
pub record Demuxing : Type 0 where
  pub pid : ℕ
  pub size : ℕ
  -- the counter of the last payload packet
  pub counter : Option ℕ
  -- whether a unit is in hand; the bytes are its own then, else those of the last unit
  pub holds : Bool
  pub bytes : List ℕ

-- the bytes of the unit in hand
abbrev pub hand_of : Demuxing → Option (List ℕ)
hand_of demux = if demux.holds then Some demux.bytes else None

-- the demultiplexer with these bytes of a unit: it holds them where they wait for more
abbrev pub taken_up : Demuxing → List ℕ → Demuxing
taken_up demux unit = record demux { holds = is_waiting (fate_of demux.size unit); bytes = unit }

-- each thing that the demultiplexer keeps is what the definition gives for all packets so far
pub record HasDemuxed (demux : Demuxing) (packets : List (List ℕ)) : Type 0 where
  pub counter : demux.counter ≡ last_counter demux.pid packets
  pub hand : hand_of demux ≡ hand_after demux.pid demux.size packets

-- the new value stands for the packets that the old one stands for and this one at their end, whichever they are
pub record DemuxesOn (old new : Demuxing) (packet : List ℕ) : Type 0 where
  pub pid : new.pid ≡ old.pid
  pub size : new.size ≡ old.size
  pub stands : (packets : List (List ℕ)) → HasDemuxed old packets → HasDemuxed new (packets ++ packet ∷ [])

-- a unit of which so many bytes are there stays in hand only where it waits
abbrev pub kept : ℕ → Option (List ℕ) → Option (List ℕ)
kept size None = None
kept size (Some bytes) = if is_waiting (fate_of size bytes) then Some bytes else None

-- the unit in hand after a packet with this part
abbrev pub next_hand : ℕ → Option (List ℕ) → Option UnitPart → Option (List ℕ)
next_hand size hand None = hand
next_hand size hand (Some part) = kept size (joined hand (Some part))

-- the bytes that a unit in hand and one further packet can have: a unit needs at most 65541 bytes, or has fewer than
-- six
abbrev pub room_of : ℕ → ℕ
room_of size = min size 65541 + 189

-- the first bytes of the buffer, where there is a unit to hand out
abbrev pub lent_bytes : List ℕ → Option ℕ → Option (List ℕ)
lent_bytes bytes None = None
lent_bytes bytes (Some count) = Some (take count bytes)
