-- Why `gen` ended as it did, and what its output has received then.
use Rattle.std.specs.Prelude.{◌≡◌, ℕ, List}
use Rattle.std.specs.Io.KnownBytes.{Appends}
use Rattle.sub_base.specs.Counts.{HasRisen}
use Rattle.sub_base.specs.Endpoints.{AppendsPrefix, Received, WroteNothing}
use Rattle.sub_base.specs.declared.profile.ProfileName.{ProfileName}
use Rattle.dvbsub_cmd.specs.GenText.{IsGenText}
use Rattle.dvbsub_cmd.specs.declared.status.Status.{Status}
use Rattle.dvbsub_cmd.specs.declared.status.Status.TheVariants as status
use Rattle.sub_base.specs.declared.status.Which.{Which}
use Rattle.sub_base.specs.declared.status.Which.TheVariants as which

-- the output could not be written: it received a prefix of the text, and its count of faults rose
abbrev pub IsCutOff : ℕ → ProfileName → Received → Received → Which → Type 0
IsCutOff number profile before now which.Out =
    (text : List ℕ) × IsGenText number profile text × AppendsPrefix before.written now.written text
    × HasRisen before.faults now.faults
IsCutOff number profile before now which.First = ⊥
IsCutOff number profile before now which.Second = ⊥
IsCutOff number profile before now which.Notes = ⊥

-- the cause of each status, and what the output has received then: neither plan nor schedule refuses a generated
-- script
abbrev pub IsGenCause : ℕ → ProfileName → Received → Received → Status → Type 0
IsGenCause number profile before now (status.Done cut) =
    (text : List ℕ) × IsGenText number profile text × Appends before.written now.written text × (cut ≡ 0)
IsGenCause number profile before now status.Usage = ⊥
IsGenCause number profile before now (status.FontRefused fault) = ⊥
IsGenCause number profile before now (status.ScriptRefused fault) = ⊥
IsGenCause number profile before now (status.PlanRefused fault) = ⊥
IsGenCause number profile before now (status.ScheduleRefused row fault) = ⊥
IsGenCause number profile before now (status.StreamRefused packet fault) = ⊥
IsGenCause number profile before now (status.ReadFault which) = ⊥
IsGenCause number profile before now (status.WriteFault which) = IsCutOff number profile before now which
IsGenCause number profile before now status.Memory = WroteNothing before now
IsGenCause number profile before now (status.InputTooLong which) = ⊥
