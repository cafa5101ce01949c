-- The end of `take`, by the end of its walk over the stream.
use Rattle.std.proofs.Common.{◌≡◌, ◌∙◌, ℕ, ◌⊎◌, inl, inr, Bool, true, false, cond, List, [], ◌++◌, length, get_or, All, Option, Some, None, append-nil, refl, sym, ap, subst, arith}
use Rattle.std.specs.List.{concat}
use Rattle.std.specs.Option.{is_none}
use Rattle.std.proofs.Math.Seq.{take-length}
use Rattle.std.specs.Io.KnownBytes.{Appends}
use Rattle.stream_syntax.specs.TransportPackets.{has_sync, packet_fault}
use Rattle.stream_syntax.specs.declared.transport.PacketFault.{PacketFault}
use Rattle.stream_syntax.specs.declared.transport.PacketFault.TheVariants as PacketFaults
use Rattle.sub_base.specs.Counts.{HasRisen}
use Rattle.sub_base.specs.Endpoints.{AppendsPrefix, Received, Supplied}
use Rattle.sub_base.specs.ToolOutcome.{IsToolCause}
use Rattle.sub_base.specs.declared.status.ToolStatus.{ToolStatus}
use Rattle.sub_base.specs.declared.status.ToolStatus.TheVariants as tool
use Rattle.sub_base.specs.declared.status.Which.TheVariants as which
use Rattle.command_text.specs.Closing.{Closes}
use Rattle.command_text.specs.Putting.{Buffered}
use Rattle.packet_source.specs.Packets.{Gave}
use Rattle.packet_source.specs.declared.stream_end.StreamEnd.{StreamEnd}
use Rattle.packet_source.specs.declared.stream_end.StreamEnd.TheVariants as stream
use Rattle.packet_walk.specs.Walking.{IsEnd, IsToldFrom}
use Rattle.packet_walk.specs.declared.walk.Refused.{Refused}
use Rattle.packet_walk.specs.declared.walk.WalkEnd.{WalkEnd}
use Rattle.packet_walk.specs.declared.walk.WalkEnd.TheVariants as end
use Rattle.service_mux.specs.StreamReads.{HaveSync, seen_of_one}
use Rattle.service_mux.specs.Taken.{Named, subtitles_of, taken_by}
use Rattle.service_mux.specs.TakeOutcome.{IsTakenFront, take_causes}
use Rattle.service_mux.specs.Private.Closing.{ClosesTake, status_at, status_by, status_of_refused}
use Rattle.service_mux.specs.Private.Taking.{Takes, no_pid}
use Rattle.service_mux.specs.declared.take_fault.TakeFault.{TakeFault}

-- ---- sync bytes

-- a packet that is not refused has the sync byte
synced : (pid : ℕ) (packet : List ℕ) → packet_fault pid packet ≡ None → has_sync packet ≡ true
synced pid packet none = by (has_sync packet) refl
  where
    clash : Some PacketFaults.NoSync ≡ None → ⊥
    clash never = cc

    by : (sync : Bool) → has_sync packet ≡ sync → has_sync packet ≡ true
    by true is = is
    by false is = absurd (clash (rw is at none))

all_synced : (pid : ℕ) (packets : List (List ℕ)) → All (λ packet. packet_fault pid packet ≡ None) packets
    → HaveSync packets
all_synced pid packets passed = λ i d within. synced pid (get_or packets i d) (passed i d within)

-- the tests behind that of the sync byte have other faults
other_faults : (a b c : Bool)
    → cond a (Some PacketFaults.Scrambled)
    (cond b (Some PacketFaults.ReservedControl) (cond c (Some PacketFaults.BadAdaptation) None))
    ≡ Some PacketFaults.NoSync → ⊥
other_faults true b c never = cc
other_faults false true c never = cc
other_faults false false true never = cc
other_faults false false false never = cc

-- a packet that is refused for its sync byte has none
unsynced : (pid : ℕ) (packet : List ℕ) → packet_fault pid packet ≡ Some PacketFaults.NoSync
    → has_sync packet ≡ false
unsynced pid packet refused = by (has_sync packet) refl
  where
    by : (sync : Bool) → has_sync packet ≡ sync → has_sync packet ≡ false
    by false is = is
    by true is = absurd (other_faults _ _ _ (rw is at refused))

-- ---- causes

pub whole_prefix : (old new : Option (List ℕ)) (bytes : List ℕ) → Appends old new bytes
    → AppendsPrefix old new bytes
whole_prefix old new bytes whole =
    (length bytes, omega arith, subst (λ (l : List ℕ). Appends old new l) (sym (take-length bytes)) whole)

module _ (service : ℕ) (before now : Supplied) (start next : Received) where
  -- the output has received a prefix of what is taken of the packets that the source gave
  taken_front : (found : Bool) (packets : List (List ℕ)) (rest text : List ℕ) → Takes service found packets text
      → Gave before now packets rest → All (λ packet. packet_fault (no_pid service) packet ≡ None) packets
      → AppendsPrefix start.written next.written text
      → IsTakenFront service (seen_of_one before start) (seen_of_one now next)
  taken_front found packets rest text takes gave passed written = record {
    packets = packets;
    rest = rest;
    gave = gave;
    synced = all_synced (no_pid service) packets passed;
    written = subst (λ (l : List ℕ). AppendsPrefix start.written next.written l) takes.bytes written;
  }

  abbrev pub IsCauseOf : ToolStatus TakeFault → Type 0
  IsCauseOf answer =
      IsToolCause (take_causes service (seen_of_one before start) (seen_of_one now next)) (seen_of_one before start)
      (seen_of_one now next) answer

  -- nothing is taken where there are no subtitles
  none_found : (packets : List (List ℕ)) (text : List ℕ) → Takes service false packets text
      → (subtitles_of service packets ≡ None) × (text ≡ [])
  none_found packets text takes = by (subtitles_of service packets) refl
    where
      by : (o : Option Named) → subtitles_of service packets ≡ o → (subtitles_of service packets ≡ None)
          × (text ≡ [])
      by None is = (is, takes.bytes ∙ ap (λ (o : Option Named). concat (taken_by o)) is)
      by (Some n) is = absurd (clash (sym takes.found ∙ ap (λ (o : Option Named). is_none o) is))
        where
          clash : true ≡ false → ⊥
          clash never = cc

  -- the output is written whole, or failed
  by_closes : (found : Bool) (run answer : ToolStatus TakeFault) (out : Received) (buffer : Buffered)
      (packets : List (List ℕ)) (rest : List ℕ)
      (told : IsToldFrom (Takes service found) (no_pid service) before now start out buffer packets rest)
      → (Appends start.written next.written told.text → IsCauseOf run) → Closes out next buffer run answer
      → IsCauseOf answer
  by_closes found run answer out buffer packets rest told caused closes = by (closes start told.text told.put_out)
    where
      by : ((answer ≡ run) × Appends start.written next.written told.text)
          ⊎ ((answer ≡ tool.WriteFault which.Out) × AppendsPrefix start.written next.written told.text
          × HasRisen start.faults next.faults) → IsCauseOf answer
      by (inl whole) = subst IsCauseOf (sym whole.0) (caused whole.1)
      by (inr front) =
          subst IsCauseOf (sym front.0)
          (front.2, taken_front found packets rest told.text told.told told.taken.gave told.taken.passed front.1)

  -- the stream was read whole
  whole_caused : (found : Bool) (out : Received) (buffer : Buffered) (cut : ℕ)
      → (is : IsEnd (Takes service found) (no_pid service) before now start out buffer
      (end.Stream (stream.Whole cut))) → Appends start.written next.written is.2.text
      → IsCauseOf (status_at service found (stream.Whole cut))
  whole_caused true out buffer cut is written = record {
    packets = is.0;
    read = record { rest = is.1; gave = is.2.taken.gave; within = is.3; short = is.4; end = is.6 };
    synced = all_synced (no_pid service) is.0 is.2.taken.passed;
    found = is.2.told.found;
    written = subst (λ (l : List ℕ). Appends start.written next.written l) is.2.told.bytes written;
  }
  whole_caused false out buffer cut is written =
      let none = none_found is.0 is.2.text is.2.told in (
        refl,
        record {
          packets = is.0;
          read = record { rest = is.1; gave = is.2.taken.gave; within = is.3; short = is.4; end = is.6 };
          synced = all_synced (no_pid service) is.0 is.2.taken.passed;
          none = none.0;
          nothing = subst (λ (l : List ℕ). Appends start.written next.written l) none.1 written;
        },
      )

  -- the source gave no packet more
  ended_stream : (found : Bool) (out : Received) (buffer : Buffered) (ended : StreamEnd) (answer : ToolStatus TakeFault)
      → IsEnd (Takes service found) (no_pid service) before now start out buffer (end.Stream ended)
      → Closes out next buffer (status_at service found ended) answer → IsCauseOf answer
  ended_stream found out buffer (stream.Whole cut) answer is closes =
      by_closes found (status_at service found (stream.Whole cut)) answer out buffer is.0 is.1 is.2
      (λ written. whole_caused found out buffer cut is written) closes
  ended_stream found out buffer stream.Unread answer is closes =
      by_closes found (tool.ReadFault which.First) answer out buffer is.0 is.1 is.2
      (λ written. (
        is.5,
        taken_front found is.0 is.1 is.2.text is.2.told is.2.taken.gave is.2.taken.passed
            (whole_prefix start.written next.written is.2.text written),
      )) closes
  ended_stream found out buffer stream.TooLong answer is closes =
      by_closes found (tool.InputTooLong which.First) answer out buffer is.0 is.1 is.2
      (λ written. (
        is.3,
        taken_front found is.0 is.1 is.2.text is.2.told is.2.taken.gave is.2.taken.passed
            (whole_prefix start.written next.written is.2.text written),
      )) closes

  -- a packet cannot be taken
  refused_caused : (found : Bool) (out : Received) (buffer : Buffered) (place : ℕ) (reason : PacketFault)
      → (is : IsEnd (Takes service found) (no_pid service) before now start out buffer
      (end.Refused (record { packet = place; fault = reason }))) → Appends start.written next.written is.3.text
      → IsCauseOf (status_by place reason)
  refused_caused found out buffer place PacketFaults.NoSync is written = record {
    packets = is.0;
    unsynced = record {
      packet = is.1;
      rest = is.2;
      gave = is.3.taken.gave;
      within = is.4;
      synced = all_synced (no_pid service) is.0 is.3.taken.passed;
      whole = is.5;
      no_sync = unsynced (no_pid service) is.1 is.7;
      place_is = is.6;
    };
    written = subst (λ (l : List ℕ). Appends start.written next.written l) is.3.told.bytes written;
  }
  refused_caused found out buffer place PacketFaults.Scrambled is written =
      taken_front found is.0 (is.1 ++ is.2) is.3.text is.3.told is.3.taken.gave is.3.taken.passed
      (whole_prefix start.written next.written is.3.text written)
  refused_caused found out buffer place PacketFaults.ReservedControl is written =
      taken_front found is.0 (is.1 ++ is.2) is.3.text is.3.told is.3.taken.gave is.3.taken.passed
      (whole_prefix start.written next.written is.3.text written)
  refused_caused found out buffer place PacketFaults.BadAdaptation is written =
      taken_front found is.0 (is.1 ++ is.2) is.3.text is.3.told is.3.taken.gave is.3.taken.passed
      (whole_prefix start.written next.written is.3.text written)

  -- what `take` answers has its cause in the end of its walk
  pub ended_caused : (found : Bool) (out : Received) (buffer : Buffered) (ended : WalkEnd)
      (answer : ToolStatus TakeFault) → IsEnd (Takes service found) (no_pid service) before now start out buffer ended
      → ClosesTake out next buffer service found ended answer → IsCauseOf answer
  ended_caused found out buffer (end.Stream ended) answer is closes =
      ended_stream found out buffer ended answer is closes
  ended_caused found out buffer (end.Refused refused) answer is closes =
      by_closes found (status_of_refused refused) answer out buffer is.0 (is.1 ++ is.2) is.3
      (λ written. refused_caused found out buffer refused.packet refused.fault is written) closes
  ended_caused found out buffer end.Unwritten answer is closes =
      let front = is.2.put_out.front is.4 in
      subst IsCauseOf (sym closes.0) (
        subst (λ (shown : Received). HasRisen start.faults shown.faults) (sym closes.1) front.1,
        taken_front found is.0 is.1 is.2.text is.2.told is.2.taken.gave is.2.taken.passed
            (subst (λ (shown : Received). AppendsPrefix start.written shown.written is.2.text) (sym closes.1) front.0),
      )
