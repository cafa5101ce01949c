-- The names of what is wrong with a display set, with their numbers, as texts show them.
use Rattle.std.specs.Prelude.{ℕ, List, [], ◌++◌, codes}
use Rattle.command_text.specs.Lines.{then_number, two_hex}
use Rattle.decoder_model.specs.declared.set_fault.SetFault.{SetFault}
use Rattle.decoder_model.specs.declared.set_fault.SetFault.TheVariants as set
use Rattle.fault_names.specs.FaultNames.{segment_kind_name}
use Rattle.stream_syntax.specs.declared.segment_fault.SegmentFault.{SegmentFault}
use Rattle.stream_syntax.specs.declared.segment_fault.SegmentKind.{SegmentKind}
use Rattle.stream_syntax.specs.declared.segment_fault.SegmentKind.TheVariants as segment

-- the place in the block, where a block of pixel data is wrong
abbrev pub place_in_block : SegmentKind → List ℕ
place_in_block segment.NoSync = []
place_in_block segment.Cut = []
place_in_block segment.BadLength = []
place_in_block segment.ReservedState = []
place_in_block segment.BadDepth = []
place_in_block segment.CharacterObject = []
place_in_block segment.HeldObject = []
place_in_block segment.Progressive = []
place_in_block segment.ReservedMethod = []
place_in_block (segment.Code fault) = then_number fault.place
place_in_block segment.BadWindow = []
place_in_block segment.ZeroSize = []

-- what is wrong with a segment: the place in the block where a block is wrong, and the place in the segment
abbrev pub segment_fault_text : SegmentFault → List ℕ
segment_fault_text fault = segment_kind_name fault.kind ++ place_in_block fault.kind ++ then_number fault.place

-- why a set is broken: the name of the fault, and its numbers in their order; a type of segments in two hexadecimal
-- digits
abbrev pub set_fault_text : SetFault → List ℕ
set_fault_text (set.Segment fault) = codes "Segment " ++ segment_fault_text fault
set_fault_text (set.TwiceInSet kind id) = codes "TwiceInSet " ++ two_hex kind ++ then_number id
set_fault_text set.NoPage = codes "NoPage"
set_fault_text (set.DisplayTooLarge width height) =
    codes "DisplayTooLarge" ++ then_number width ++ then_number height
set_fault_text (set.NoSuchRegion id) = codes "NoSuchRegion" ++ then_number id
set_fault_text (set.RegionChanged id) = codes "RegionChanged" ++ then_number id
set_fault_text (set.PixelFull need free) = codes "PixelFull" ++ then_number need ++ then_number free
set_fault_text (set.CompositionFull size) = codes "CompositionFull" ++ then_number size
set_fault_text (set.SetTooLong size) = codes "SetTooLong" ++ then_number size
