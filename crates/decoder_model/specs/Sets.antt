-- The display sets in a list of transport packets, and the losses between them (EN 300 743, clauses 5.1 and 6). A
-- display set has one presentation time; its PES packets stand in a row.
use Rattle.std.specs.Prelude.{ℕ, ◌==◌, ◌||◌, ◌&&◌, Bool, true, false, nat_lt, if◌then◌else◌, List, [], ◌∷◌, ◌++◌, find, flat_map, sum_by, Option, Some, None, option_map, unwrap_or}
use Rattle.std.specs.List.{list_any, list_all}
use Rattle.std.specs.Option.{is_none, is_some, option_or}
use Rattle.stream_syntax.specs.TransportPackets.{packet_fault}
use Rattle.decoder_model.specs.declared.pages.Pages.{Pages}
use Rattle.decoder_model.specs.Arrivals.{PesUnit, Arrival, loss, refused_unit, aside, unit, arrivals_of}
use Rattle.stream_syntax.specs.DataField.{Frame}
use Rattle.decoder_model.specs.Frames.{segments_in, bytes_in, is_end, fault_of}
use Rattle.sub_base.specs.Lists.{first_given, prefixes}
use Rattle.decoder_model.specs.declared.set_fault.SetFault.{SetFault}
use Rattle.decoder_model.specs.declared.set_fault.SetFault.TheVariants.{Segment, SetTooLong}

-- ---- runs of one time

-- a loss, or a run: neighbouring units of one time with no loss between, the first and those behind it
pub data Stretch : Type 0 where
  loss_between : Stretch
  run : PesUnit → List PesUnit → Stretch

-- a unit ahead of runs: it is one with the run that begins them where both have the same time
abbrev pub joined_to : PesUnit → List Stretch → List Stretch
joined_to one [] = run one [] ∷ []
joined_to one (loss_between ∷ rest) = run one [] ∷ loss_between ∷ rest
joined_to one (run next more ∷ rest) =
    if one.time == next.time then run one (next ∷ more) ∷ rest else run one [] ∷ run next more ∷ rest

-- the runs among arrivals, and the losses between them; units that are passed over part nothing
abbrev pub runs_of : List Arrival → List Stretch
runs_of [] = []
runs_of (loss ∷ arrivals) = loss_between ∷ runs_of arrivals
runs_of (refused_unit ∷ arrivals) = loss_between ∷ runs_of arrivals
runs_of (aside ∷ arrivals) = runs_of arrivals
runs_of (unit one ∷ arrivals) = joined_to one (runs_of arrivals)

-- ---- the end of a set

-- a set ends with an end segment, with a fault, or with more bytes than the coded data buffer (clause 5.2) has
abbrev pub is_ended : ℕ → List Frame → Bool
is_ended coded front =
    list_any is_end front || list_any (λ frame. is_some (fault_of frame)) front || nat_lt coded (bytes_in front)

-- the frames of units, in order
abbrev pub frames_in : List PesUnit → List Frame
frames_in units = flat_map (λ (one : PesUnit). one.frames) units

-- how many bytes the PES packets of units have together
abbrev pub size_in : List PesUnit → ℕ
size_in units = sum_by (λ (one : PesUnit). one.size) units

-- the units of a run up to the one with the set's end, or all where it has none
abbrev pub units_to_end : ℕ → List PesUnit → List PesUnit
units_to_end coded units = unwrap_or (find (λ front. is_ended coded (frames_in front)) (prefixes units)) units

-- ---- sets

-- what the page memory of a receiver is handed: a loss; a set with its time, the size of its units in bytes, and its
-- segments; or a set that is refused, with its time, size and fault
pub data Delivery (S : Type 0) : Type 0 where
  lost : Delivery S
  whole : ℕ → ℕ → List S → Delivery S
  refused : ℕ → ℕ → SetFault → Delivery S

-- the first fault that stands among the frames of a set, for which the set is refused
abbrev pub first_fault_in : List Frame → Option SetFault
first_fault_in frames = option_map Segment (first_given fault_of frames)

-- the segments up to the first that has no room have more bytes than the coded data buffer
abbrev pub excess_in : ℕ → List Frame → Option SetFault
excess_in coded front = if nat_lt coded (bytes_in front) then Some (SetTooLong (bytes_in front)) else None

-- the set with that time, the bytes of its units and its frames up to its end: whole, or refused for a fault
abbrev pub handed : ℕ → ℕ → List Frame → Option SetFault → Delivery (List ℕ)
handed time size front None = whole time size (segments_in front)
handed time size front (Some fault) = refused time size fault

-- a unit of another run, or the end of the stream, follows a run, and no loss
abbrev pub is_followed : Bool → List Stretch → Bool
is_followed ended [] = ended
is_followed ended (loss_between ∷ rest) = false
is_followed ended (run next more ∷ rest) = true

-- the set of a run with that time and those units: its first ended front of frames, or, where none is, all of them
-- where the run is followed so
abbrev pub set_of : ℕ → ℕ → List PesUnit → Bool → Option (List Frame) → List (Delivery (List ℕ))
set_of coded time units followed (Some front) =
    handed time (size_in (units_to_end coded units)) front (option_or (first_fault_in front) (excess_in coded front))
    ∷ []
set_of coded time units followed None =
    if followed then whole time (size_in units) (segments_in (frames_in units)) ∷ [] else []

-- the sets and losses of runs, in the order in which they are ready; the stream has ended with them or not
abbrev pub sets_in : ℕ → Bool → List Stretch → List (Delivery (List ℕ))
sets_in coded ended [] = []
sets_in coded ended (loss_between ∷ rest) = lost ∷ sets_in coded ended rest
sets_in coded ended (run first more ∷ rest) =
    set_of coded first.time (first ∷ more) (is_followed ended rest)
    (find (is_ended coded) (prefixes (frames_in (first ∷ more)))) ++ sets_in coded ended rest

-- the stream has ended with these packets: none is to come, and a receiver took all of them
unfoldable pub has_ended : Bool → ℕ → List (List ℕ) → Bool
has_ended ended pid packets = ended && list_all (λ packet. is_none (packet_fault pid packet)) packets

-- the sets and losses in packets, for a receiver with so many bytes of coded data; the stream ends with these packets
-- or not
unfoldable pub sets_of : ℕ → ℕ → Pages → Bool → List (List ℕ) → List (Delivery (List ℕ))
sets_of coded pid pages ended packets =
    sets_in coded (has_ended ended pid packets) (runs_of (arrivals_of coded pid pages packets))
