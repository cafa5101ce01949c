-- A script as it is sent: its sets, their PES packets, and the slots of their transport packets.
use Rattle.std.specs.Prelude.{◌≡◌, ℕ, List, [], ◌∷◌, take, drop}
use Rattle.page_epoch.specs.declared.planned_set.PlannedSet.{PlannedSet}
use Rattle.schedule.specs.Slots.{Timetable}
use Rattle.shown_stream.specs.Compiled.{IsCompiledTo, all_units, Compiling}
use Rattle.slot_stream.specs.SlotStream.{all_pieces, stream_of}
use Rattle.sub_base.specs.declared.load.WriteLoad.{WriteLoad}

-- the PID of the packets, the sets with what sending each of them takes, the PES packets of each set, and the slots of
-- all packets
pub record SentScript : Type 0 where
  pub pid : ℕ
  pub sets : List PlannedSet
  pub loads : List WriteLoad
  pub units : List (List (List ℕ))
  pub table : Timetable

-- the bytes of the transport packets, null packets between them
abbrev pub stream_bytes : SentScript → List ℕ
stream_bytes sent = stream_of sent.pid (all_pieces (all_units sent.units)) sent.table.slots

-- bytes cut at these lengths, one after the other
abbrev pub cut_at : List ℕ → List ℕ → List (List ℕ)
cut_at [] bytes = []
cut_at (length ∷ lengths) bytes = take length bytes ∷ cut_at lengths (drop length bytes)

-- the PES packets of each set, cut out of the set's bytes by the lengths that its load has
abbrev pub units_in : List WriteLoad → List (List ℕ) → List (List (List ℕ))
units_in [] written = []
units_in (load ∷ loads) [] = []
units_in (load ∷ loads) (bytes ∷ written) = cut_at load.units bytes ∷ units_in loads written

-- the script is compiled to these packets, by these sets, loads and slots
pub record IsSentFor (compiling : Compiling) (sent : SentScript) : Type 0 where
  pub compiled : IsCompiledTo compiling (stream_bytes sent)
  pub same_sets : compiled.sets ≡ sent.sets
  pub same_loads : compiled.loads ≡ sent.loads
  pub same_table : compiled.table ≡ sent.table
