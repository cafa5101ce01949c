-- The lines of `list`, each with its line feed.
use Rattle.std.specs.Prelude.{ℕ, ◌+◌, List, [], ◌++◌, codes}
use Rattle.stream_syntax.specs.declared.pes.PesFault.{PesFault}
use Rattle.stream_syntax.specs.declared.segment_fault.SegmentFault.{SegmentFault}
use Rattle.stream_syntax.specs.declared.transport.Event.{Event}
use Rattle.stream_syntax.specs.declared.transport.Event.TheVariants as event
use Rattle.fault_names.specs.FaultNames.{pes_fault_name, segment_kind_name}
use Rattle.command_text.specs.Lines.{line_end, two_hex, then_number}

-- the line of a loss at the packet of that place, and no line at another event
abbrev pub loss_line : ℕ → Event → List ℕ
loss_line place event.Followed = []
loss_line place event.Other = []
loss_line place event.NoPayload = []
loss_line place event.Double = []
loss_line place event.Dropped = []
loss_line place (event.Gap expected found) =
    codes "gap" ++ then_number place ++ then_number expected ++ then_number found ++ line_end
loss_line place event.ErrorFlag = codes "error" ++ then_number place ++ line_end
loss_line place (event.Short have) = codes "short" ++ then_number place ++ line_end
loss_line place (event.TooLong need size) = codes "long" ++ then_number place ++ line_end

-- the line of a unit that ends with the packet of that place: its presentation time in ticks, and its bytes
abbrev pub unit_line : ℕ → ℕ → ℕ → List ℕ
unit_line place pts size =
    codes "unit" ++ then_number place ++ codes " pts" ++ then_number pts ++ codes " length"
    ++ then_number size ++ line_end

-- the line of a unit that is no PES packet of subtitles
abbrev pub pes_line : ℕ → PesFault → List ℕ
pes_line place fault = codes "pes" ++ then_number place ++ codes " " ++ pes_fault_name fault ++ line_end

-- the line of a segment that begins at that place of its field: its type, its page id, and the bytes of its body
abbrev pub segment_line : ℕ → ℕ → ℕ → ℕ → List ℕ
segment_line place kind page size =
    codes "segment" ++ then_number place ++ codes " " ++ two_hex kind ++ then_number page
    ++ then_number size ++ line_end

-- the line in place of a segment that begins at that place of its field and is refused: the place of the fault in the
-- field
abbrev pub fault_line : ℕ → SegmentFault → List ℕ
fault_line place fault =
    codes "fault" ++ then_number (place + fault.place) ++ codes " " ++ segment_kind_name fault.kind ++ line_end
