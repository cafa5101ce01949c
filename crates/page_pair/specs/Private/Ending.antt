-- How sending two scripts that were read ends, and what is known of words that ask for it.
use Rattle.std.specs.Prelude.{◌≡◌, ℕ, List, length, All, Option, Some, None}
use Rattle.std.specs.List.{concat}
use Rattle.std.specs.Io.KnownBytes.{Appends}
use Rattle.cue_list.specs.declared.script.Script.{Script}
use Rattle.shown_stream.specs.Entered.{IsEnteredRightly}
use Rattle.sub_base.specs.Counts.{HasRisen}
use Rattle.sub_base.specs.Endpoints.{AppendsPrefix, Received, WroteNothing}
use Rattle.sub_base.specs.declared.status.ToolStatus.{ToolStatus}
use Rattle.sub_base.specs.declared.status.ToolStatus.TheVariants as tool
use Rattle.sub_base.specs.declared.status.Which.TheVariants as which
use Rattle.page_pair.specs.PairDump.{IsPairDumping}
use Rattle.page_pair.specs.PairOutcome.{AreSuited, IsUnsendable, first_sent, second_sent}
use Rattle.page_pair.specs.PairStream.{IsPairedTo}
use Rattle.page_pair.specs.PairWords.{IsPairing}
use Rattle.page_pair.specs.declared.pair_command.PairCommand.{PairCommand}
use Rattle.page_pair.specs.declared.pair_command.PairCommand.TheVariants as command
use Rattle.page_pair.specs.declared.pair_fault.PairFault.{PairFault}
use Rattle.page_pair.specs.declared.pair_words.Pairing.{Pairing}

-- what is known of what words ask for
abbrev pub IsAsked : List (List ℕ) → Option PairCommand → Type 0
IsAsked words None = Unit {0}
IsAsked words (Some (command.Pair pairing)) = IsPairing pairing
IsAsked words (Some (command.Dump dump)) = IsPairDumping words dump

-- two scripts were sent: all packets were written, and a receiver of each page shows what its script authors, with each
-- anchor that suits the sets of its plan; and there are such anchors
pub record IsSent (pairing : Pairing) (first second : Script)
    (before now : Received) : Type 0 where
  pub packets : List (List ℕ)
  pub whole : All (λ packet. length packet ≡ 188) packets
  pub paired : IsPairedTo pairing first second (concat packets)
  pub written : Appends before.written now.written (concat packets)
  pub first_shown : (missed : ℕ)
      → IsEnteredRightly (first_sent pairing first paired.one paired.table) packets missed
  pub second_shown : (missed : ℕ)
      → IsEnteredRightly (second_sent pairing second paired.two paired.table) packets missed
  pub first_suited : AreSuited (first_sent pairing first paired.one paired.table)
  pub second_suited : AreSuited (second_sent pairing second paired.two paired.table)

-- the sink has a prefix of the packets of the two scripts behind what it had before
abbrev pub IsFront : Pairing → Script → Script → Received → Received → Type 0
IsFront pairing first second before now =
    (packets : List ℕ) × IsPairedTo pairing first second packets
    × AppendsPrefix before.written now.written packets

-- how sending two scripts ended
abbrev pub IsSendEnd : Pairing → Script → Script → Received → Received → ToolStatus PairFault → Type 0
IsSendEnd pairing first second before now tool.Done = IsSent pairing first second before now
IsSendEnd pairing first second before now tool.Usage = ⊥
IsSendEnd pairing first second before now (tool.Refused fault) =
    IsUnsendable pairing.profile pairing.pages first second fault × WroteNothing before now
IsSendEnd pairing first second before now (tool.ReadFault of_source) = ⊥
IsSendEnd pairing first second before now (tool.WriteFault of_sink) =
    (of_sink ≡ which.Out) × HasRisen before.faults now.faults × IsFront pairing first second before now
IsSendEnd pairing first second before now tool.Memory = WroteNothing before now
IsSendEnd pairing first second before now (tool.InputTooLong of_source) = ⊥
