-- The tools of this crate as one: what their words ask for, and how they end.
use Rattle.std.specs.Prelude.{ℕ, List, Option, Some, None}
use Rattle.command_words.specs.Ticks.{asked_ticks}
use Rattle.sub_base.specs.Endpoints.{WroteNothing}
use Rattle.sub_base.specs.Seen.{Seen}
use Rattle.sub_base.specs.ToolOutcome.{Causes}
use Rattle.sub_base.specs.declared.status.ToolStatus.{ToolStatus}
use Rattle.sub_base.specs.declared.status.ToolStatus.TheVariants as tool
use Rattle.page_pair.specs.PairDump.{HasDumpedRead, dump_causes, dump_words}
use Rattle.page_pair.specs.PairOutcome.{pair_causes}
use Rattle.page_pair.specs.PairWords.{pair_words}
use Rattle.page_pair.specs.declared.pair_command.PairCommand.{PairCommand}
use Rattle.page_pair.specs.declared.pair_command.PairCommand.TheVariants as command
use Rattle.page_pair.specs.declared.pair_dump.PairDump.{PairDump}
use Rattle.page_pair.specs.declared.pair_fault.PairFault.{PairFault}
use Rattle.page_pair.specs.declared.pair_words.Pairing.{Pairing}

-- two scripts are sent, or the pictures of one language are told
abbrev pub either_of : Option Pairing → Option PairDump → Option PairCommand
either_of (Some pairing) dump = Some (command.Pair pairing)
either_of None (Some dump) = Some (command.Dump dump)
either_of None None = None

-- what words ask for
abbrev pub pair_command : List (List ℕ) → Option PairCommand
pair_command words = either_of (pair_words words) (dump_words words)

-- the causes of the statuses; `pairdump` asks for these ticks
abbrev pub causes_at : List ℕ → PairCommand → Seen → Seen → Causes PairFault
causes_at ticks (command.Pair pairing) before now = pair_causes pairing before now
causes_at ticks (command.Dump dump) before now = dump_causes ticks dump before now

-- the causes of the statuses by the words
abbrev pub tool_causes : List (List ℕ) → PairCommand → Seen → Seen → Causes PairFault
tool_causes words asked before now = causes_at (asked_ticks 8 words) asked before now

-- where memory is wanting, `pair` has written nothing
abbrev pub HasKept : Option PairCommand → Seen → Seen → ToolStatus PairFault → Type 0
HasKept (Some (command.Pair pairing)) before now tool.Memory = WroteNothing before.out now.out
HasKept asked before now status = Unit {0}

-- where the stream could not be read, `pairdump` has written the texts of the packets that were read whole; where
-- memory is wanting, it has read and written nothing
abbrev pub HasToldWhole : List ℕ → Option PairCommand → Seen → Seen → ToolStatus PairFault → Type 0
HasToldWhole ticks (Some (command.Dump dump)) before now status = HasDumpedRead ticks dump before now status
HasToldWhole ticks asked before now status = Unit {0}
