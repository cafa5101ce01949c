use Rattle.std.proofs.Common.{refl}
use Rattle.script_stream.proofs.ShownLaws.{shown_of_sent}
use Rattle.script_stream.specs.SentScripts.{stream_bytes}
use Rattle.shown_stream.specs.Compiled.{compiling_for}
use Rattle.dvbsub_cmd.proofs.CompileLaws.{fault_cause}
use Rattle.dvbsub_cmd.proofs.compile.compile.Goals as goal

pub returns-in-Ok-compile_script-clause-cause : goal.returns-in-Ok-compile_script-clause-cause
returns-in-Ok-compile_script-clause-cause g c = (
  record {
    packets = stream_bytes c.in-Ok-compile_script.field-0;
    compiles = record {
      script = c.in-Ok.script;
      reads = c.in-Ok.ensures.reads;
      compiled = c.in-Ok-compile_script.ensures.sent.compiled;
      shown = shown_of_sent (compiling_for c.args.profile c.args.pid c.args.page c.in-Ok.script) _
          c.in-Ok-compile_script.ensures.sent c.in-Ok-compile_script.ensures.shown;
    };
    written = c.in-Ok-compile_script.ensures.written;
  },
  refl,
)

pub returns-clause-cause : goal.returns-clause-cause
returns-clause-cause g c =
    fault_cause c.args.profile c.args.pid c.args.page c.args.has_font _ _ c.in-Ok.script c.requires.pid
    c.requires.profile c.in-Ok.ensures.reads c.in-Err-compile_script.fault _ c.status_of_fault.ensures
    c.in-Err-compile_script.ensures.cause
