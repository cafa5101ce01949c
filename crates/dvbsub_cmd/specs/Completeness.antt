-- Where nothing gives a cause of refusal, a command is carried out.
use Rattle.std.specs.Prelude.{◌≡◌, ℕ, List, Option, Some, None, ◌⊎◌}
use Rattle.sub_base.specs.Counts.{HasRisen}
use Rattle.dvbsub_words.specs.Command.{command_of}
use Rattle.dvbsub_cmd.specs.CompileOutcome.{IsCompilable}
use Rattle.dvbsub_cmd.specs.ExpectOutcome.{IsExpectable}
use Rattle.packet_walk.specs.ToldEnds.{IsReadableStream}
use Rattle.sub_base.specs.Endpoints.{Received}
use Rattle.sub_base.specs.Seen.{Seen}
use Rattle.dvbsub_words.specs.declared.command.Command.{Command}
use Rattle.dvbsub_words.specs.declared.command.Command.TheVariants as command
use Rattle.dvbsub_cmd.specs.declared.status.Status.{Status}
use Rattle.dvbsub_cmd.specs.declared.status.Status.TheVariants as status

-- the words are a command, and what it reads is whole, within its limits and valid; `gen` reads nothing
abbrev pub IsValidInput : Option Command → Seen → Seen → Type 0
IsValidInput None before now = ⊥
IsValidInput (Some (command.Compile profile pid page has_font)) before now = IsCompilable profile has_font before now
IsValidInput (Some (command.List pid)) before now = IsReadableStream pid before.first now.first
IsValidInput (Some (command.Dump profile pid page bands)) before now = IsReadableStream pid before.first now.first
IsValidInput (Some (command.Check profile origin pid page)) before now = IsReadableStream pid before.first now.first
IsValidInput (Some (command.Expect has_font)) before now = IsExpectable has_font before now
IsValidInput (Some (command.Gen number profile)) before now = Unit {0}

-- no count of faults rose, and what the command reads is valid
pub record IsUntroubled (command : Option Command) (before now : Seen)
    (notes_before notes_now : Received) : Type 0 where
  pub written : HasRisen before.out.faults now.out.faults → ⊥
  pub told : HasRisen notes_before.faults notes_now.faults → ⊥
  pub valid : IsValidInput command before now

-- where nothing gives a cause of refusal, the command is done whole, or memory is wanting
abbrev pub IsComplete : List (List ℕ) → Seen → Seen → Received → Received → Status → Type 0
IsComplete words before now notes_before notes_now answer =
    IsUntroubled (command_of words) before now notes_before notes_now → ((cut : ℕ) × (answer ≡ status.Done cut))
    ⊎ (answer ≡ status.Memory)
