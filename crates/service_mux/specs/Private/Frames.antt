-- The frames of a multiplex, one after the other.
use Rattle.std.specs.Prelude.{◌≡◌, ℕ, ◌+◌, ◌/◌, ◌%◌, ◌≤◌, ◌⊎◌, Bool, true, List, [], ◌∷◌, ◌++◌, length}
use Rattle.std.specs.List.{concat}
use Rattle.command_text.specs.Putting.{Buffered, IsPutOut}
use Rattle.psi_tables.specs.Writing.{written_pat, written_pmt}
use Rattle.sub_base.specs.Endpoints.{Supplied}
use Rattle.sub_base.specs.Seen.{Seen}
use Rattle.service_mux.specs.Multiplex.{frames_of, if_of, table_payload, turn_packet}
use Rattle.service_mux.specs.Private.Lanes.{HasPassed, reached}
use Rattle.service_mux.specs.StreamReads.{HaveSync}
use Rattle.service_mux.specs.declared.frames.Multiplexer.{Multiplexer}
use Rattle.service_mux.specs.declared.lane.Lane.{Lane}
use Rattle.service_mux.specs.declared.mux_words.ServicePair.{ServicePair}
use Rattle.service_mux.specs.declared.table.Table.{Table}

-- a table of that PID and section, sent so many times
pub record HasTurned (table : Table) (number : ℕ) (section : List ℕ) (count : ℕ) : Type 0 where
  pub pid : table.packetiser.pid ≡ number
  pub counter : table.packetiser.counter ≡ count % 16
  pub payload : table.payload ≡ table_payload section
  pub fits : length section ≤ 183

-- before a frame: how often each table was sent, once before the frames and then in its turn of each 128 of them
pub record HaveTurned (pair : ServicePair) (mux : Multiplexer) (frame : ℕ) : Type 0 where
  pub pat : HasTurned mux.pat 0 (written_pat (pair.one ∷ pair.two ∷ [])) (1 + (frame + 127) / 128)
  pub one : HasTurned mux.one.table pair.one.pmt (written_pmt pair.one) (1 + (frame + 126) / 128)
  pub two : HasTurned mux.two.table pair.two.pmt (written_pmt pair.two) (1 + (frame + 125) / 128)

-- before anything is sent
pub record HaveNotTurned (pair : ServicePair) (mux : Multiplexer) : Type 0 where
  pub pat : HasTurned mux.pat 0 (written_pat (pair.one ∷ pair.two ∷ [])) 0
  pub one : HasTurned mux.one.table pair.one.pmt (written_pmt pair.one) 0
  pub two : HasTurned mux.two.table pair.two.pmt (written_pmt pair.two) 0

-- nothing was passed, and the services are the same
pub record HaveSameLanes (old new : Multiplexer) : Type 0 where
  pub one : new.one.lane ≡ old.one.lane
  pub two : new.two.lane ≡ old.two.lane
  pub pair : new.pair ≡ old.pair

-- the bytes of a frame, by the packets that were reached
abbrev pub frame_bytes : ServicePair → Multiplexer → ℕ → Bool → Bool → List ℕ
frame_bytes pair mux frame has_first has_second =
    turn_packet pair (1 + frame / 128) (frame % 128)
    ++ (if_of pair.one.pid (reached mux.one.lane has_first) ++ if_of pair.two.pid (reached mux.two.lane has_second))

-- so many packets of a stream were passed, or fewer where it has ended
abbrev pub ArePassed : Lane → List (List ℕ) → ℕ → Type 0
ArePassed lane packets frame = (length packets ≡ frame) ⊎ ((lane.is_ended ≡ true) × (length packets ≤ frame))

-- the packets of both streams that were passed, in so many frames
pub record HavePassed (before : Seen) (first_now second_now : Supplied) (one two : Lane) (frame : ℕ) : Type 0 where
  pub first : List (List ℕ)
  pub second : List (List ℕ)
  pub first_passed : HasPassed before.first first_now one first
  pub second_passed : HasPassed before.second second_now two second
  pub synced : HaveSync first × HaveSync second
  pub first_count : ArePassed one first frame
  pub second_count : ArePassed two second frame
  pub longest : (frame ≤ length first) ⊎ (frame ≤ length second)
  pub first_kept : before.first.faults ≤ first_now.faults
  pub second_kept : before.second.faults ≤ second_now.faults

-- and these frames were put out
pub record HaveJoined (pair : ServicePair) (before now : Seen) (one two : Lane) (buffer : Buffered)
    (frame : ℕ) : Type 0 where
  pub passed : HavePassed before now.first now.second one two frame
  pub out : IsPutOut before.out now.out buffer (concat (frames_of pair passed.first passed.second frame))
