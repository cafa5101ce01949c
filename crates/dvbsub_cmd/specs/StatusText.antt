-- The line that tells how a command ended.
use Rattle.std.specs.Prelude.{ℕ, ◌==◌, if◌then◌else◌, List, [], ◌∷◌, ◌++◌, codes}
use Rattle.bitmap_font.specs.declared.font_fault.FontFault.{FontFault}
use Rattle.bitmap_font.specs.declared.font_fault.FontFault.TheVariants as font
use Rattle.cue_records.specs.KindNames.{kind_name}
use Rattle.cue_list.specs.declared.fault.ScriptFault.{ScriptFault}
use Rattle.cue_list.specs.declared.fault.ScriptFault.TheVariants as script
use Rattle.cue_records.specs.declared.fault.ScriptKind.{ScriptKind}
use Rattle.cue_records.specs.declared.fault.ScriptKind.TheVariants as kind
use Rattle.page_epoch.specs.declared.fault.PlanFault.{PlanFault}
use Rattle.page_epoch.specs.declared.fault.PlanFault.TheVariants as plan
use Rattle.schedule.specs.declared.fault.ScheduleFault.{ScheduleFault}
use Rattle.schedule.specs.declared.fault.ScheduleFault.TheVariants as schedule
use Rattle.stream_syntax.specs.declared.transport.PacketFault.{PacketFault}
use Rattle.command_text.specs.Lines.{then_number}
use Rattle.dvbsub_cmd.specs.KindNames.{font_kind_name}
use Rattle.fault_names.specs.FaultNames.{packet_fault_name}
use Rattle.dvbsub_cmd.specs.declared.status.Status.{Status}
use Rattle.dvbsub_cmd.specs.declared.status.Status.TheVariants as status
use Rattle.sub_base.specs.Which.{which_name}

-- the character's number, of a glyph that is missing
abbrev pub glyph_number : ScriptKind → List ℕ
glyph_number (kind.Glyph character) = then_number character
glyph_number other = []

-- what is wrong with a record: the kind's name, and for a glyph the character's number
abbrev pub kind_text : ScriptKind → List ℕ
kind_text kind = kind_name kind ++ glyph_number kind

-- how the reading of a font ended
abbrev pub font_text : FontFault → List ℕ
font_text font.Memory = codes "memory"
font_text (font.Refused line kind) = (codes "font" ++ then_number line) ++ codes " " ++ font_kind_name kind

-- how the reading of a script ended
abbrev pub script_text : ScriptFault → List ℕ
script_text script.Memory = codes "memory"
script_text (script.Refused row kind) = (codes "script" ++ then_number row) ++ codes " " ++ kind_text kind

-- why a script has no plan, at that record
abbrev pub plan_text : PlanFault → List ℕ
plan_text plan.Memory = codes "memory"
plan_text (plan.DisplayTooLarge row) = codes "plan DisplayTooLarge" ++ then_number row
plan_text (plan.PixelFull row need) = (codes "plan PixelFull" ++ then_number row) ++ then_number need
plan_text (plan.CompositionFull row need) = (codes "plan CompositionFull" ++ then_number row) ++ then_number need

-- why a schedule is refused, at that record
abbrev pub schedule_text : ℕ → ScheduleFault → List ℕ
schedule_text row schedule.Memory = codes "memory"
schedule_text row (schedule.CodedFull set size) = (codes "schedule CodedFull" ++ then_number row) ++ then_number size
schedule_text row (schedule.Late set done pts) =
    ((codes "schedule Late" ++ then_number row) ++ then_number done) ++ then_number pts
schedule_text row (schedule.SegmentFull set longest) =
    (codes "schedule SegmentFull" ++ then_number row) ++ then_number longest

-- the place, from 0, of the first packet of a stream that cannot be taken, and why
abbrev pub stream_text : ℕ → PacketFault → List ℕ
stream_text packet fault = (codes "stream" ++ then_number packet) ++ codes " " ++ packet_fault_name fault

-- the end of a command that did all, with the count of the bytes after the last whole packet
abbrev pub done_text : ℕ → List ℕ
done_text cut = if cut == 0 then codes "done" else codes "done cut" ++ then_number cut

-- the text of a status
abbrev pub status_text : Status → List ℕ
status_text (status.Done cut) = done_text cut
status_text status.Usage = codes "usage"
status_text (status.FontRefused fault) = font_text fault
status_text (status.ScriptRefused fault) = script_text fault
status_text (status.PlanRefused fault) = plan_text fault
status_text (status.ScheduleRefused row fault) = schedule_text row fault
status_text (status.StreamRefused packet fault) = stream_text packet fault
status_text (status.ReadFault which) = codes "read " ++ which_name which
status_text (status.WriteFault which) = codes "write " ++ which_name which
status_text status.Memory = codes "memory"
status_text (status.InputTooLong which) = codes "long " ++ which_name which

-- the line of a status
abbrev pub status_line : Status → List ℕ
status_line status = status_text status ++ (10 ∷ [])

-- the code with which the program ends
abbrev pub code_of : Status → ℕ
code_of (status.Done cut) = 0
code_of status.Usage = 2
code_of (status.FontRefused fault) = 3
code_of (status.ScriptRefused fault) = 3
code_of (status.PlanRefused fault) = 3
code_of (status.ScheduleRefused row fault) = 3
code_of (status.StreamRefused packet fault) = 4
code_of (status.ReadFault which) = 5
code_of (status.WriteFault which) = 6
code_of status.Memory = 7
code_of (status.InputTooLong which) = 8
