-- How `splice` ends.
use Rattle.std.proofs.Common.{refl, sym, subst, ℕ, List, [], inl, inr, Option, Some, None}
use Rattle.std.specs.Io.KnownBytes.{Keeps}
use Rattle.sub_base.specs.Endpoints.{Received, WroteNothing}
use Rattle.sub_base.specs.Seen.{Seen}
use Rattle.sub_base.specs.ToolOutcome.{IsToolCause, TellsTool, untold_tool}
use Rattle.sub_base.specs.declared.faults.ReadAllFault.{ReadAllFault}
use Rattle.sub_base.specs.declared.faults.ReadAllFault.TheVariants as read
use Rattle.sub_base.specs.declared.status.ToolStatus.{ToolStatus}
use Rattle.sub_base.specs.declared.status.ToolStatus.TheVariants as tool
use Rattle.sub_base.specs.declared.status.Which.{Which}
use Rattle.sub_base.specs.declared.status.Which.TheVariants as which
use Rattle.packet_source.specs.InHand.{whole_packets}
use Rattle.sent_sets.specs.RawSets.{RawSet}
use Rattle.splice.proofs.ShownSpliced.{spliced_is_shown}
use Rattle.splice.specs.SpliceOutcome.{AreStreamsRead, IsSpliceRefused, LeavesEmpty, splice_causes}
use Rattle.splice.specs.SplicedSets.{IsSplicing, Streams, first_reception, second_reception}
use Rattle.splice.specs.Private.Inputs.{IsInput, IsInputCause, unread_status}
use Rattle.splice.specs.Private.JoinedSets.{IsJoinedOf, IsLastTime}
use Rattle.splice.specs.Private.Refusals.{AreSurveyed}
use Rattle.splice.specs.Private.Sent.{IsSendEnd}
use Rattle.splice.specs.declared.joined.Joined.{Joined}
use Rattle.splice.specs.declared.part.Part.TheVariants.{Before, From}
use Rattle.splice.specs.declared.splice_fault.SpliceFault.{SpliceFault}
use Rattle.splice.specs.declared.splice_words.Splicing.{Splicing}
use Rattle.splice.specs.declared.found.Survey.{Survey}

-- ---- a source that was not read to its end

-- an output that was not called has received nothing
pub nothing_written : (out : Received) → WroteNothing out out
nothing_written out = kept out.written
  where
    kept : (written : Option (List ℕ)) → Keeps written written
    kept None = tt
    kept (Some bytes) = refl

module _ (splicing : Splicing) (before now : Seen) (nothing : WroteNothing before.out now.out) where
  pub first_unread : (fault : ReadAllFault) → IsInputCause before.first now.first fault
      → IsToolCause (splice_causes splicing before now) before now (unread_status which.First fault)
  first_unread read.Memory cause = inl nothing
  first_unread read.Read cause = (cause, inl nothing)
  first_unread read.TooLong cause = (cause, inl nothing)

  pub second_unread : (fault : ReadAllFault) → IsInputCause before.second now.second fault
      → IsToolCause (splice_causes splicing before now) before now (unread_status which.Second fault)
  second_unread read.Memory cause = inl nothing
  second_unread read.Read cause = (cause, inl nothing)
  second_unread read.TooLong cause = (cause, inl nothing)

pub unread_leaves : (before now : Received) (one : Which) (fault : ReadAllFault) → WroteNothing before now
    → LeavesEmpty before now (unread_status one fault)
unread_leaves before now one read.Memory nothing = nothing
unread_leaves before now one read.Read nothing = nothing
unread_leaves before now one read.TooLong nothing = nothing

-- ---- both were gone through

module _ (splicing : Splicing) (before now : Seen) (start between joined : Joined) (one two : Survey)
    (nothing : IsJoinedOf [] start)
    (first : IsInput (first_reception splicing) (Before splicing.cut) before.first now.first start between one)
    (second : IsInput (second_reception splicing) (From splicing.cut) before.second now.second between joined two) where
  -- the packets of both
  abbrev pub its_streams : Streams
  its_streams = record { first = whole_packets first.bytes; second = whole_packets second.bytes }

  pub are_read : AreStreamsRead before now its_streams
  are_read = record {
    first_bytes = first.bytes;
    second_bytes = second.bytes;
    first_read = first.read;
    second_read = second.read;
    first = refl;
    second = refl;
  }

  pub are_surveyed : (last : Option ℕ) → ((sets : List RawSet) → IsJoinedOf sets between → IsLastTime sets last)
      → AreSurveyed splicing its_streams one two last joined
  are_surveyed last is_last = record {
    start = start;
    between = between;
    nothing = nothing;
    first_is = first.is_survey;
    last_is = is_last;
    second_is = second.is_survey;
  }

-- ---- the ends

module _ (splicing : Splicing) (streams : Streams) (before now : Seen) (read : AreStreamsRead before now streams) where
  pub refused_cause : (fault : SpliceFault) → IsSpliceRefused splicing streams fault
      → WroteNothing before.out now.out
      → IsToolCause (splice_causes splicing before now) before now (tool.Refused fault)
  refused_cause fault refused nothing =
      record { streams = streams; read = read; refused = refused; nothing = nothing }

  pub ended_cause : (status : ToolStatus SpliceFault) → IsSplicing splicing
      → IsSendEnd splicing streams before.out now.out status
      → IsToolCause (splice_causes splicing before now) before now status
  ended_cause tool.Done ranges end = record {
    streams = streams;
    read = read;
    packets = end.packets;
    each = end.each;
    sent = end.sent;
    written = end.written;
    shown = spliced_is_shown splicing streams end.packets ranges end.each end.sent;
  }
  ended_cause tool.Usage ranges end = absurd end
  ended_cause (tool.Refused fault) ranges end = refused_cause fault end.0 end.1
  ended_cause (tool.ReadFault one) ranges end = absurd end
  ended_cause (tool.WriteFault which.First) ranges end = absurd end
  ended_cause (tool.WriteFault which.Second) ranges end = absurd end
  ended_cause (tool.WriteFault which.Out) ranges end = (
    end.failed,
    inr (record { streams = streams; read = read; bytes = end.bytes; sent = end.sent; written = end.written }),
  )
  ended_cause (tool.WriteFault which.Notes) ranges end = absurd end
  ended_cause tool.Memory ranges end = inl end
  ended_cause (tool.InputTooLong one) ranges end = absurd end

pub ended_leaves : (splicing : Splicing) (streams : Streams) (before now : Received)
    (status : ToolStatus SpliceFault) → IsSendEnd splicing streams before now status → LeavesEmpty before now status
ended_leaves splicing streams before now tool.Done end = tt
ended_leaves splicing streams before now tool.Usage end = absurd end
ended_leaves splicing streams before now (tool.Refused fault) end = end.1
ended_leaves splicing streams before now (tool.ReadFault one) end = absurd end
ended_leaves splicing streams before now (tool.WriteFault one) end = tt
ended_leaves splicing streams before now tool.Memory end = end
ended_leaves splicing streams before now (tool.InputTooLong one) end = absurd end

-- a line more in the notes changes nothing in the output
untold_leaves : (before now : Received) (run : ToolStatus SpliceFault) → LeavesEmpty before now run
    → LeavesEmpty before now (untold_tool run)
untold_leaves before now tool.Done leaves = tt
untold_leaves before now tool.Usage leaves = leaves
untold_leaves before now (tool.Refused fault) leaves = leaves
untold_leaves before now (tool.ReadFault one) leaves = leaves
untold_leaves before now (tool.WriteFault one) leaves = leaves
untold_leaves before now tool.Memory leaves = leaves
untold_leaves before now (tool.InputTooLong one) leaves = leaves

pub told_leaves : (name : SpliceFault → List ℕ) (before now notes_before notes_now : Received)
    (run answer : ToolStatus SpliceFault) → LeavesEmpty before now run
    → TellsTool name notes_before notes_now run answer → LeavesEmpty before now answer
told_leaves name before now notes_before notes_now run answer leaves (inl told) =
    subst (LeavesEmpty before now) (sym told.1) leaves
told_leaves name before now notes_before notes_now run answer leaves (inr untold) =
    subst (LeavesEmpty before now) (sym untold.2) (untold_leaves before now run leaves)
