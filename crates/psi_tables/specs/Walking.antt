-- What walks over the loops of tables hand out: the first item of bytes, and the bytes behind it.
use Rattle.std.specs.Prelude.{◌≡◌, ℕ, ◌+◌, List, ◌∷◌, length}
use Rattle.psi_tables.specs.Loops.{Descriptor, PatEntry, Stream, descriptors_of, entries_of, streams_of}
use Rattle.psi_tables.specs.declared.loops.DescriptorEntry.{DescriptorEntry}
use Rattle.psi_tables.specs.declared.loops.ProgrammeEntry.{ProgrammeEntry}
use Rattle.psi_tables.specs.declared.loops.StreamEntry.{StreamEntry}

-- what a programme of a PAT that was read stands for
abbrev pub entry_value : ProgrammeEntry → PatEntry
entry_value entry = record { number = entry.number; pid = entry.pid }

-- that programme begins the entries in bytes, and these stand behind it
pub record IsFirstEntry (bytes : List ℕ) (entry : ProgrammeEntry) (behind : List ℕ) : Type 0 where
  pub first : entries_of bytes ≡ entry_value entry ∷ entries_of behind
  pub size : length bytes ≡ 4 + length behind

-- what a descriptor that was read stands for
abbrev pub descriptor_value : DescriptorEntry → Descriptor
descriptor_value entry = record { tag = entry.tag; content = entry.content.now }

-- that descriptor begins the bytes, and these stand behind it
pub record IsFirstDescriptor (bytes : List ℕ) (entry : DescriptorEntry) (behind : List ℕ) : Type 0 where
  pub first : descriptors_of bytes ≡ descriptor_value entry ∷ descriptors_of behind
  pub size : length bytes ≡ 2 + length entry.content.now + length behind

-- what a stream that was read stands for
abbrev pub stream_value : StreamEntry → Stream
stream_value entry = record { kind = entry.kind; pid = entry.pid; descriptors = entry.descriptors.now }

-- that stream begins the bytes, and these stand behind it
pub record IsFirstStream (bytes : List ℕ) (entry : StreamEntry) (behind : List ℕ) : Type 0 where
  pub first : streams_of bytes ≡ stream_value entry ∷ streams_of behind
  pub size : length bytes ≡ 5 + length entry.descriptors.now + length behind
