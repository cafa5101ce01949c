-- What stands between the steps of `gen`.
use Rattle.std.specs.Prelude.{◌≡◌, ℕ, ◌*◌, ◌/◌, ◌≤◌, List, ◌++◌, length, map, All, None, codes}
use Rattle.std.specs.List.Sorted.{IsStrictlyIncreasing}
use Rattle.check_text.specs.CheckText.{IsPeak}
use Rattle.cue_list.specs.declared.script.Script.{Script}
use Rattle.decoder_model.specs.Streams.{entered_at, entry_set}
use Rattle.generated_script.specs.Generated.{IsGenerated}
use Rattle.packet_source.specs.declared.limits.TheConstants.{STREAM_LIMIT}
use Rattle.page_epoch.specs.declared.planned_set.PlannedSet.{PlannedSet}
use Rattle.script_stream.specs.declared.faults.CompileFault.{CompileFault}
use Rattle.script_stream.specs.declared.faults.CompileFault.TheVariants as compile
use Rattle.script_stream.specs.declared.faults.SendFault.TheVariants as send
use Rattle.shown_stream.specs.Compiled.{IsCompiledTo}
use Rattle.shown_stream.specs.SentSets.{sent_sets}
use Rattle.shown_stream.specs.Shows.{Shows, ShowsFrom, authored_view}
use Rattle.stream_syntax.specs.TransportPackets.{packet_fault}
use Rattle.sub_base.specs.declared.profile.ProfileName.{ProfileName}
use Rattle.dvbsub_cmd.specs.GenText.{entry_line, entry_time, generated_compiling, generated_pid, generated_reception, number_line}
use Rattle.dvbsub_cmd.specs.declared.gen_text.Entry.{Entry}
use Rattle.dvbsub_cmd.specs.declared.gen_text.Told.{Told}
use Rattle.dvbsub_cmd.specs.declared.generated.Generated.{Generated}

-- the script is generated from a number, and its packets are in memory: those that it is compiled to, by these sets
-- and slots
pub record IsCompiledFrom (number : ℕ) (profile : ProfileName) (made : Generated) : Type 0 where
  pub generated : IsGenerated number made.script
  pub compiled : IsCompiledTo (generated_compiling profile made.script) made.stream.written
  pub sets : compiled.sets ≡ made.sent.sets
  pub table : compiled.table ≡ made.sent.table

-- memory is wanting, for the script's stream or for its packets
abbrev pub IsWanting : CompileFault → Type 0
IsWanting (compile.Send send.Memory) = Unit {0}
IsWanting (compile.Send (send.Plan fault)) = ⊥
IsWanting (compile.Send (send.Schedule row fault)) = ⊥
IsWanting compile.Write = Unit {0}

-- packets that a receiver takes, no more than a stream may have
pub record AreTakable (packets : List (List ℕ)) : Type 0 where
  pub few : length packets ≤ STREAM_LIMIT
  pub passed : All (λ packet. packet_fault generated_pid packet ≡ None) packets

-- ticks that rise, and none of them so late that lifted times would begin behind the tick 0
pub record AreTold (ticks : List ℕ) : Type 0 where
  pub rising : IsStrictlyIncreasing ticks
  pub early : All (λ tick. tick ≤ 4294967296) ticks

-- a receiver of the profile that gets these packets shows what the script authors at these ticks
abbrev pub AreShown : ProfileName → Script → List (List ℕ) → List ℕ → Type 0
AreShown profile script packets ticks =
    All
    (λ tick. Shows (generated_reception profile) packets tick (authored_view script tick)) ticks

-- the packets in memory of a generated script, and the times of its sets. Whoever gets the packets but for the
-- first so many shows what the script authors from the entry set on
pub record AreOf (profile : ProfileName) (made : Generated) (packets : List (List ℕ))
    (times : List ℕ) : Type 0 where
  pub takable : AreTakable packets
  pub paired : length made.sent.table.dones ≡ length made.sent.sets
  pub times_are : times ≡ map (λ (set : PlannedSet). set.pts) made.sent.sets
  pub told : AreTold times
  pub shown : (missed tick : ℕ)
      → ShowsFrom (generated_reception profile) (entered_at missed packets)
      (entry_set missed (sent_sets made.sent.table made.sent.sets)) tick (authored_view made.script tick)

-- a receiver that gets all packets but the first so many, and the time of its entry set
abbrev pub entry_behind : Generated → ℕ → Entry
entry_behind made missed = record {
  missed = missed;
  time = entry_time (entry_set missed (sent_sets made.sent.table made.sent.sets));
}

-- what is told of the packets in memory
pub record AreToldAs (profile : ProfileName) (made : Generated) (packets : List (List ℕ)) (told : Told) : Type 0 where
  pub sets_are : told.sets ≡ length made.sent.sets
  pub packets_are : told.packets ≡ length packets
  pub peak_is : IsPeak (generated_reception profile) packets told.peak
  pub whole_is : told.whole ≡ entry_behind made 0
  pub third_is : told.third ≡ entry_behind made (length packets / 3)
  pub two_thirds_are : told.two_thirds ≡ entry_behind made (2 * length packets / 3)

-- the lines of what is told
abbrev pub told_lines : Told → List ℕ
told_lines told =
    number_line (codes "sets") told.sets ++ number_line (codes "packets") told.packets
    ++ number_line (codes "peak") told.peak
    ++ entry_line told.whole.missed told.whole.time ++ entry_line told.third.missed told.third.time
    ++ entry_line told.two_thirds.missed told.two_thirds.time
