-- The names of what is wrong with packets, PES packets and segments, as texts show them.
use Rattle.std.specs.Prelude.{ℕ, List, codes}
use Rattle.stream_syntax.specs.declared.code_fault.CodeKind.{CodeKind}
use Rattle.stream_syntax.specs.declared.code_fault.CodeKind.TheVariants as code
use Rattle.stream_syntax.specs.declared.pes.PesFault.{PesFault}
use Rattle.stream_syntax.specs.declared.pes.PesFault.TheVariants as pes
use Rattle.stream_syntax.specs.declared.segment_fault.SegmentKind.{SegmentKind}
use Rattle.stream_syntax.specs.declared.segment_fault.SegmentKind.TheVariants as segment
use Rattle.stream_syntax.specs.declared.transport.PacketFault.{PacketFault}
use Rattle.stream_syntax.specs.declared.transport.PacketFault.TheVariants as packet

-- why a transport packet cannot be taken
abbrev pub packet_fault_name : PacketFault → List ℕ
packet_fault_name packet.NoSync = codes "NoSync"
packet_fault_name packet.ReservedControl = codes "ReservedControl"
packet_fault_name packet.BadAdaptation = codes "BadAdaptation"
packet_fault_name packet.Scrambled = codes "Scrambled"

-- why bytes are no PES packet of subtitles
abbrev pub pes_fault_name : PesFault → List ℕ
pes_fault_name pes.NoPrefix = codes "NoPrefix"
pes_fault_name (pes.OtherStream stream) = codes "OtherStream"
pes_fault_name pes.BadHeader = codes "BadHeader"
pes_fault_name pes.Scrambled = codes "Scrambled"
pes_fault_name pes.NoPts = codes "NoPts"
pes_fault_name pes.BadMarker = codes "BadMarker"
pes_fault_name (pes.OtherField first) = codes "OtherField"

-- why a sub-block of a pixel data block is not in the grammar
abbrev pub code_kind_name : CodeKind → List ℕ
code_kind_name code.UnknownType = codes "UnknownType"
code_kind_name code.TooDeep = codes "TooDeep"
code_kind_name code.CutString = codes "CutString"
code_kind_name code.CutTable = codes "CutTable"

-- what is wrong with a segment: for a block of pixel data, what is wrong with that
abbrev pub segment_kind_name : SegmentKind → List ℕ
segment_kind_name segment.NoSync = codes "NoSync"
segment_kind_name segment.Cut = codes "Cut"
segment_kind_name segment.BadLength = codes "BadLength"
segment_kind_name segment.ReservedState = codes "ReservedState"
segment_kind_name segment.BadDepth = codes "BadDepth"
segment_kind_name segment.CharacterObject = codes "CharacterObject"
segment_kind_name segment.HeldObject = codes "HeldObject"
segment_kind_name segment.Progressive = codes "Progressive"
segment_kind_name segment.ReservedMethod = codes "ReservedMethod"
segment_kind_name (segment.Code fault) = code_kind_name fault.kind
segment_kind_name segment.BadWindow = codes "BadWindow"
segment_kind_name segment.ZeroSize = codes "ZeroSize"
