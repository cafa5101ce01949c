-- The streams that a section lists, and its entries.
use Rattle.std.proofs.Common.{◌≡◌, ℕ, ◌==◌, false, List, [], Some, refl, ap}
use Rattle.std.specs.Prelude.{◌||◌}
use Rattle.std.specs.List.{list_any}
use Rattle.psi_tables.specs.Loops.{Stream, streams_of}
use Rattle.psi_tables.specs.Sections.{Pat, Pmt, valid_section, section_fault, value_by}
use Rattle.psi_tables.specs.Walking.{IsFirstStream}
use Rattle.psi_tables.specs.declared.fault.SectionFault.{SectionFault}
use Rattle.psi_tables.specs.declared.loops.StreamEntry.{StreamEntry}
use Rattle.service_tables.specs.Tables.{entries_by, entries_in, streams_by, streams_in}

pub no_streams : streams_of [] ≡ []
unfolding streams_of
no_streams = refl

-- a section that is refused has none, nor has a PAT
pub streams_refused : (bytes : List ℕ) (fault : SectionFault) → section_fault bytes ≡ Some fault
    → streams_in bytes ≡ []
streams_refused bytes fault is = ap (λ f. streams_by (value_by bytes f)) is

pub streams_other : (bytes : List ℕ) (stream : ℕ) (entries : List ℕ)
    → valid_section bytes ≡ Some (Pat stream entries) → streams_in bytes ≡ []
streams_other bytes stream entries is = ap streams_by is

pub entries_refused : (bytes : List ℕ) (fault : SectionFault) → section_fault bytes ≡ Some fault
    → entries_in bytes ≡ []
entries_refused bytes fault is = ap (λ f. entries_by (value_by bytes f)) is

pub entries_other : (bytes : List ℕ) (number : ℕ) (streams : List ℕ)
    → valid_section bytes ≡ Some (Pmt number streams) → entries_in bytes ≡ []
entries_other bytes number streams is = ap entries_by is

-- a PID among streams
pub any_stream_next : (pid : ℕ) (bytes behind : List ℕ) (entry : StreamEntry)
    → IsFirstStream bytes entry behind
    → list_any (λ stream. stream.pid == pid) (streams_of bytes)
    ≡ (entry.pid == pid || list_any (λ stream. stream.pid == pid) (streams_of behind))
any_stream_next pid bytes behind entry is = ap (list_any (λ (stream : Stream). stream.pid == pid)) is.first

pub any_stream_end : (pid : ℕ) (bytes : List ℕ) → streams_of bytes ≡ []
    → list_any (λ stream. stream.pid == pid) (streams_of bytes) ≡ false
any_stream_end pid bytes none = ap (list_any (λ (stream : Stream). stream.pid == pid)) none
