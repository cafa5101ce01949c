-- Where memory is wanting before anything is read or written.
use Rattle.std.proofs.Common.{◌≡◌, ℕ, List, Option, Some, None, is_some, refl, sym, true, true≢false}
use Rattle.std.specs.Io.KnownBytes.{Keeps}
use Rattle.dvbsub_words.specs.Command.{command_of}
use Rattle.dvbsub_cmd.specs.Outcome.{IsCaused, IsCausedBy, IsSecondKept}
use Rattle.sub_base.specs.Seen.{Seen}
use Rattle.dvbsub_words.specs.declared.command.Command.{Command}
use Rattle.dvbsub_words.specs.declared.command.Command.TheVariants as command
use Rattle.dvbsub_cmd.specs.declared.status.Status.TheVariants as status

kept : (written : Option (List ℕ)) → Keeps written written
kept None = tt
kept (Some bytes) = refl

caused_by : (words : List (List ℕ)) (command : Option Command) (before : Seen) → is_some command ≡ true
    → IsCausedBy words command before before status.Memory
caused_by words None before some = absurd (true≢false (sym some))
caused_by words (Some (command.Compile profile pid page has_font)) before some = kept before.out.written
caused_by words (Some (command.List pid)) before some = (refl, kept before.out.written)
caused_by words (Some (command.Dump profile pid page bands)) before some = (refl, kept before.out.written)
caused_by words (Some (command.Check profile origin pid page)) before some = (refl, kept before.out.written)
caused_by words (Some (command.Expect has_font)) before some = kept before.out.written
caused_by words (Some (command.Gen number profile)) before some = (kept before.out.written, refl)

-- a command may end so
pub memory_caused : (words : List (List ℕ)) (before : Seen) → is_some (command_of words) ≡ true
    → IsCaused words before before status.Memory
memory_caused words before some = caused_by words (command_of words) before some

-- a source that was not called is as before
pub second_kept : {Origin : Type 0} (command : Option Command) (source : Origin) → IsSecondKept command source source
second_kept None source = refl
second_kept (Some (command.Compile profile pid page has_font)) source = λ _. refl
second_kept (Some (command.List pid)) source = refl
second_kept (Some (command.Dump profile pid page bands)) source = refl
second_kept (Some (command.Check profile origin pid page)) source = refl
second_kept (Some (command.Expect has_font)) source = λ _. refl
second_kept (Some (command.Gen number profile)) source = refl
