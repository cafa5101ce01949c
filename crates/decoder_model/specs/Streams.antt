-- Streams that are entered late, streams of which packets are missing, and where their pictures are those of the whole
-- stream (EN 300 743, clause 5.1.1, service acquisition).
use Rattle.std.specs.Prelude.{◌≡◌, ℕ, ◌≤◌, ◌<◌, ◌&&◌, Bool, true, false, not, nat_le, List, ◌∷◌, ◌++◌, map, drop, filter, find, All, count_by, Option, None, Some}
use Rattle.std.specs.List.{list_any, list_all, slice_get}
use Rattle.std.specs.Option.{option_map_or}
use Rattle.stream_syntax.specs.Units.{is_payload}
use Rattle.decoder_model.specs.Shown.{View, IsClear, Agrees}

-- a stream that is entered behind its first so many packets
abbrev pub entered_at : ℕ → List (List ℕ) → List (List ℕ)
entered_at packets stream = drop packets stream

-- a packet of a stream, and whether it is received
pub record Sending : Type 0 where
  pub packet : List ℕ
  pub received : Bool

-- a payload packet of the PID that is received
abbrev pub is_received : ℕ → Sending → Bool
is_received pid sending = sending.received && is_payload pid sending.packet

-- a payload packet of the PID that is not received
abbrev pub is_missed : ℕ → Sending → Bool
is_missed pid sending = not sending.received && is_payload pid sending.packet

-- what is received of sendings
abbrev pub received_of : List Sending → List (List ℕ)
received_of sendings = map (λ (sending : Sending). sending.packet) (filter (λ sending. sending.received) sendings)

-- between two neighbouring payload packets that are received at most 14 were missed: four bits of counter show that
-- many
abbrev pub IsShortlyCut : ℕ → List Sending → Type 0
IsShortlyCut pid sendings =
    (before between after : List Sending) (first next : Sending)
    → sendings ≡ before ++ first ∷ (between ++ next ∷ after)
    → is_received pid first ≡ true → is_received pid next ≡ true
    → list_any (is_received pid) between ≡ false
    → count_by (is_missed pid) between ≤ 14

-- these packets are a stream of which some are received
pub record IsCutTo (pid : ℕ) (stream : List (List ℕ)) (sendings : List Sending)
    (received : List (List ℕ)) : Type 0 where
  pub sent : stream ≡ map (λ (sending : Sending). sending.packet) sendings
  pub rest : received ≡ received_of sendings
  pub short : IsShortlyCut pid sendings

-- a display set as it was sent: its presentation time, whether a receiver can begin at its state, and the places of its
-- packets in the stream, from 0
pub record SentSet : Type 0 where
  pub time : ℕ
  pub is_entry : Bool
  pub places : List ℕ

-- all packets of a set have that place or a later one
abbrev pub is_from : ℕ → SentSet → Bool
is_from place set = list_all (λ at. nat_le place at) set.places

-- where a stream is entered behind so many packets, the first set that is received whole and at which a receiver can
-- begin
abbrev pub entry_set : ℕ → List SentSet → Option SentSet
entry_set packets sets = find (λ set. set.is_entry && is_from packets set) sets

-- the packet at a place is received
abbrev pub is_received_at : List Sending → ℕ → Bool
is_received_at sendings place =
    option_map_or (λ (sending : Sending). sending.received) (slice_get sendings place) false

-- all packets of a set are received
abbrev pub IsReceived : List Sending → SentSet → Type 0
IsReceived sendings set = All (λ place. is_received_at sendings place ≡ true) set.places

-- at this tick the picture is that of the whole stream: some set at which a receiver can begin has come, and from it on
-- all sets that have come are received whole
pub record IsGoodTick (sets : List SentSet) (sendings : List Sending) (tick : ℕ) : Type 0 where
  pub before : List SentSet
  pub entry : SentSet
  pub after : List SentSet
  pub placed : sets ≡ before ++ entry ∷ after
  pub begins : entry.is_entry ≡ true
  pub come : entry.time ≤ tick
  pub whole : All (λ (set : SentSet). set.time ≤ tick → IsReceived sendings set) (entry ∷ after)

-- what is shown of a stream that is entered late, by its entry set: nothing without one, nothing before its time, and
-- from then on what is authored
abbrev pub IsShownFrom : Option SentSet → ℕ → View → View → Type 0
IsShownFrom None tick shown authored = IsClear shown
IsShownFrom (Some entry) tick shown authored =
    (tick < entry.time → IsClear shown) × (entry.time ≤ tick → Agrees shown authored)
