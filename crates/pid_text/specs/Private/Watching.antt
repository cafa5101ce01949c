-- What is read of one PID.
use Rattle.std.specs.Prelude.{◌≡◌, ℕ, ◌<◌, Bool, true, false, List, [], ◌∷◌, ◌++◌, length, Option, Some, None}
use Rattle.stream_syntax.specs.TransportPackets.{packet_fault}
use Rattle.stream_syntax.specs.declared.transport.PacketFault.{PacketFault}
use Rattle.ts_packets.specs.Demuxing.{HasDemuxed}
use Rattle.sub_base.specs.declared.profile.TheConstants.{LARGEST_BUFFER}
use Rattle.pid_text.specs.PidUnits.{subtitles_of, watched}
use Rattle.pid_text.specs.Private.Tallying.{HasTallied}
use Rattle.pid_text.specs.declared.watch.Slot.{Slot}
use Rattle.pid_text.specs.declared.watch.Watch.{Watch}

-- these packets of a PID were taken
pub record IsWatch (pid : ℕ) (packets : List (List ℕ)) (watch : Watch) : Type 0 where
  pub pid_is : watch.demux.pid ≡ pid
  pub size_is : watch.demux.size ≡ LARGEST_BUFFER
  pub stands : HasDemuxed watch.demux packets
  pub tallied : HasTallied (subtitles_of pid packets) watch.tally

-- a packet that can be taken is taken in, and another one changes nothing
abbrev pub FeedsOn : Watch → Watch → List ℕ → Bool → Type 0
FeedsOn old new packet true =
    (pid : ℕ) (packets : List (List ℕ)) → IsWatch pid packets old
    → (packet_fault pid packet ≡ None) × IsWatch pid (packets ++ packet ∷ []) new
FeedsOn old new packet false =
    (pid : ℕ) (packets : List (List ℕ)) → IsWatch pid packets old
    → ((fault : PacketFault) × (packet_fault pid packet ≡ Some fault)) × IsWatch pid packets new

-- the PID of a stream with these packets is watched, or no packet has come with which it would be
abbrev pub IsWatching : ℕ → List (List ℕ) → Option Watch → Type 0
IsWatching pid packets None = watched pid packets ≡ []
IsWatching pid packets (Some watch) = (0 < length (watched pid packets)) × IsWatch pid (watched pid packets) watch

-- what is kept of a PID of a stream with these packets: that it is watched, or that no packet has come for that
abbrev pub IsSlot : ℕ → List (List ℕ) → Slot → Type 0
IsSlot pid packets slot = IsWatching pid packets slot.watch

-- a packet is taken in
pub record TakesIn (pid : ℕ) (old new : Slot) (packet : List ℕ) : Type 0 where
  pub goes : (packets : List (List ℕ)) → IsSlot pid packets old → IsSlot pid (packets ++ packet ∷ []) new

-- the first packet that is watched is taken in
abbrev pub BeginsWith : ℕ → List ℕ → Option Watch → Type 0
BeginsWith pid packet None = (fault : PacketFault) × (packet_fault pid packet ≡ Some fault)
BeginsWith pid packet (Some watch) = (packet_fault pid packet ≡ None) × IsWatch pid (packet ∷ []) watch
