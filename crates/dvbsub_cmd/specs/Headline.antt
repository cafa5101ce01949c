-- What receivers show of the packets that `compile` writes.
use Rattle.std.specs.Prelude.{Option, Some, None}
use Rattle.sub_base.specs.Seen.{Seen}
use Rattle.dvbsub_cmd.specs.CompileOutcome.{ShowsScript}
use Rattle.dvbsub_words.specs.declared.command.Command.{Command}
use Rattle.dvbsub_words.specs.declared.command.Command.TheVariants as command
use Rattle.dvbsub_cmd.specs.declared.status.Status.{Status}
use Rattle.dvbsub_cmd.specs.declared.status.Status.TheVariants as status

-- where a command was done, this holds
abbrev pub OnDone : Status → Type 0 → Type 0
OnDone (status.Done cut) holds = holds
OnDone other holds = Unit {0}

-- where `compile` was done, its packets are shown so
abbrev pub IsShownBy : Option Command → Seen → Seen → Status → Type 0
IsShownBy None before now answer = Unit {0}
IsShownBy (Some (command.Compile profile pid page has_font)) before now answer =
    OnDone answer (ShowsScript profile pid page has_font before now)
IsShownBy (Some (command.List pid)) before now answer = Unit {0}
IsShownBy (Some (command.Dump profile pid page bands)) before now answer = Unit {0}
IsShownBy (Some (command.Check profile origin pid page)) before now answer = Unit {0}
IsShownBy (Some (command.Expect has_font)) before now answer = Unit {0}
IsShownBy (Some (command.Gen number profile)) before now answer = Unit {0}
