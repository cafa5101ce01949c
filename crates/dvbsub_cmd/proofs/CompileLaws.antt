-- The status of a script that was compiled, or not, has its cause.
use Rattle.std.proofs.Common.{◌≡◌, ℕ, ◌<◌, Bool, subst, sym}
use Rattle.cue_list.specs.declared.script.Script.{Script}
use Rattle.script_input.specs.ReadScript.{ReadsScript}
use Rattle.script_stream.proofs.ShownLaws.{compiled_is_shown}
use Rattle.script_stream.specs.Refused.{IsCompileEnd}
use Rattle.script_stream.specs.declared.faults.CompileFault.{CompileFault}
use Rattle.script_stream.specs.declared.faults.CompileFault.TheVariants as compile
use Rattle.script_stream.specs.declared.faults.SendFault.TheVariants as send
use Rattle.shown_stream.specs.Compiled.{IsCompiledFor, compiling_for}
use Rattle.stream_syntax.specs.declared.wire.TheConstants.{NULL_PID}
use Rattle.sub_base.specs.Seen.{Seen}
use Rattle.sub_base.specs.declared.profile.ProfileName.{ProfileName}
use Rattle.dvbsub_cmd.specs.CompileOutcome.{IsCompileCause}
use Rattle.dvbsub_cmd.specs.Private.CompileStatus.{status_of_fault}
use Rattle.dvbsub_cmd.specs.declared.status.Status.{Status}

module _ (profile : ProfileName) (pid page : ℕ) (has_font : Bool) (before now : Seen) (script : Script)
    (below : pid < NULL_PID) (made : IsCompiledFor profile)
    (reads : ReadsScript has_font before.first now.first before.second now.second script) where
  caused : (fault : CompileFault) → IsCompileEnd (compiling_for profile pid page script) before.out now.out fault
      → IsCompileCause profile pid page has_font before now (status_of_fault fault)
  caused (compile.Send send.Memory) ended = ended.1
  caused (compile.Send (send.Plan fault)) ended = (script, reads, ended.0, ended.1)
  caused (compile.Send (send.Schedule row fault)) ended = (script, reads, ended.0, ended.1)
  caused compile.Write ended = (
    ended.0,
    record {
      script = script;
      reads = reads;
      compiled = ended.1;
      shown = compiled_is_shown (compiling_for profile pid page script) ended.0 below made ended.1;
    },
    ended.2,
    ended.3,
  )

  -- the status of a fault has the fault's cause
  pub fault_cause : (fault : CompileFault) (status : Status) → status ≡ status_of_fault fault
      → IsCompileEnd (compiling_for profile pid page script) before.out now.out fault
      → IsCompileCause profile pid page has_font before now status
  fault_cause fault status is ended =
      subst (IsCompileCause profile pid page has_font before now) (sym is) (caused fault ended)
