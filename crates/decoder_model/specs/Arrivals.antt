-- What arrives at a receiver with the packets of a PID (EN 300 743, clauses 6 and 7.1): units, and losses between them.
use Rattle.std.specs.Prelude.{ℕ, Bool, false, true, if◌then◌else◌, List, [], ◌∷◌, ◌++◌, length, map, filter, take_while, Option, Some, None, option_map, option_to_list, Result, Ok, Err}
use Rattle.std.specs.Option.{is_none}
use Rattle.stream_syntax.specs.Pes.{pes_of}
use Rattle.stream_syntax.specs.TransportPackets.{packet_fault}
use Rattle.stream_syntax.specs.Units.{Fate, Waits, Whole, Over, each_after, event_at, unit_at, hand_after, part_of, joined, fate_of, is_loss}
use Rattle.stream_syntax.specs.declared.pes.PesFault.{PesFault}
use Rattle.stream_syntax.specs.declared.pes.PesFault.TheVariants.{NoPrefix, OtherStream, BadHeader, Scrambled, NoPts, BadMarker, OtherField}
use Rattle.stream_syntax.specs.declared.transport.Event.{Event}
use Rattle.stream_syntax.specs.DataField.{Frame, frames_of}
use Rattle.decoder_model.specs.declared.pages.Pages.{Pages}
use Rattle.decoder_model.specs.Frames.{counts_for}
use Rattle.sub_base.specs.Lists.{all_of}

-- a unit that counts for the sets of a service: the number of the packet that ends it, from 0, how many bytes it has,
-- its presentation time, and its frames that count
pub record PesUnit : Type 0 where
  pub place : ℕ
  pub size : ℕ
  pub time : ℕ
  pub frames : List Frame

-- a loss; a unit that is refused as a PES packet, which is a loss too; a unit that is passed over; a unit that counts
pub data Arrival : Type 0 where
  loss : Arrival
  refused_unit : Arrival
  aside : Arrival
  unit : PesUnit → Arrival

-- a PES packet of another stream id, and a data field that is none of subtitles
abbrev pub is_passed_over : PesFault → Bool
is_passed_over NoPrefix = false
is_passed_over (OtherStream id) = true
is_passed_over BadHeader = false
is_passed_over Scrambled = false
is_passed_over NoPts = false
is_passed_over BadMarker = false
is_passed_over (OtherField id) = true

-- a unit without a frame that counts is passed over
abbrev pub unit_with : ℕ → ℕ → ℕ → List Frame → Arrival
unit_with place size time [] = aside
unit_with place size time (frame ∷ frames) =
    unit (record { place = place; size = size; time = time; frames = frame ∷ frames })

-- what a unit is for these pages, by its presentation time and segments as a PES packet
abbrev pub unit_from : Pages → ℕ → ℕ → Result (ℕ × List ℕ) PesFault → Arrival
unit_from pages place size (Ok pes) = unit_with place size pes.0 (filter (counts_for pages) (frames_of pes.1))
unit_from pages place size (Err fault) = if is_passed_over fault then aside else refused_unit

-- what a unit with these bytes, ended by the packet of that place, is for these pages
abbrev pub arrival_of_unit : Pages → ℕ → List ℕ → Arrival
arrival_of_unit pages place bytes = unit_from pages place (length bytes) (pes_of bytes)

-- the loss that the event of a packet means
abbrev pub losses_at : Event → List Arrival
losses_at event = if is_loss event then loss ∷ [] else []

-- the unit that the packet of that place ends
abbrev pub units_at : Pages → ℕ → Option (List ℕ) → List Arrival
units_at pages place ended = map (arrival_of_unit pages place) (option_to_list ended)

-- what a packet brings, behind those before it: its loss, and then the unit that it ends
abbrev pub arrivals_at : ℕ → ℕ → Pages → List (List ℕ) → List ℕ → List Arrival
arrivals_at size pid pages before packet =
    losses_at (event_at pid size before packet) ++ units_at pages (length before) (unit_at pid size before packet)

-- the packets before the first that cannot be taken
abbrev pub packets_taken : ℕ → List (List ℕ) → List (List ℕ)
packets_taken pid packets = take_while (λ packet. is_none (packet_fault pid packet)) packets

-- what arrives with the packets of a PID for these pages, in a demultiplexer of this size
unfoldable pub arrivals_of : ℕ → ℕ → Pages → List (List ℕ) → List Arrival
arrivals_of size pid pages packets = all_of (each_after (arrivals_at size pid pages) [] (packets_taken pid packets))

-- ---- units that are too long

-- what became of a unit is that it is too long for the demultiplexer
abbrev pub is_over : Option Fate → Bool
is_over None = false
is_over (Some Waits) = false
is_over (Some (Whole bytes)) = false
is_over (Some (Over need)) = true

-- with this packet a unit is dropped as too long for the demultiplexer, whatever the packet's event is
abbrev pub ends_too_long : ℕ → ℕ → List (List ℕ) → List ℕ → Bool
ends_too_long size pid before packet =
    is_over (option_map (fate_of size) (joined (hand_after pid size before) (part_of pid before packet)))
