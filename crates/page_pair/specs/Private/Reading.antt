-- Why a script of a pair was not read.
use Rattle.std.specs.Prelude.{false}
use Rattle.script_input.specs.ReadScript.{IsScriptRefused, text_limit}
use Rattle.sub_base.specs.Counts.{HasRisen, HasRisenPast}
use Rattle.sub_base.specs.Endpoints.{Supplied}
use Rattle.sub_base.specs.declared.status.ToolStatus.{ToolStatus}
use Rattle.sub_base.specs.declared.status.ToolStatus.TheVariants as tool
use Rattle.sub_base.specs.declared.status.Which.TheVariants as which
use Rattle.page_pair.specs.declared.pair_fault.PairFault.{PairFault}
use Rattle.page_pair.specs.declared.pair_fault.PairFault.TheVariants as pair
use Rattle.page_pair.specs.declared.plain_script.ReadStop.{ReadStop}
use Rattle.page_pair.specs.declared.plain_script.ReadStop.TheVariants.{Memory, Refused, TooLong, Unread}

-- the source of a script, in the font without glyphs, was not read for this reason. Memory may want at any time
abbrev pub IsReadStop : Supplied → Supplied → ReadStop → Type 0
IsReadStop before now Memory = Unit {0}
IsReadStop before now (Refused fault) = IsScriptRefused false before now before now fault
IsReadStop before now Unread = HasRisen before.faults now.faults
IsReadStop before now TooLong = HasRisenPast text_limit before.given now.given

-- the status where the first script was not read
abbrev pub first_status : ReadStop → ToolStatus PairFault
first_status Memory = tool.Memory
first_status (Refused fault) = tool.Refused (pair.FirstScript fault)
first_status Unread = tool.ReadFault which.First
first_status TooLong = tool.InputTooLong which.First

-- the status where the second script was not read
abbrev pub second_status : ReadStop → ToolStatus PairFault
second_status Memory = tool.Memory
second_status (Refused fault) = tool.Refused (pair.SecondScript fault)
second_status Unread = tool.ReadFault which.Second
second_status TooLong = tool.InputTooLong which.Second
