use Rattle.std.proofs.Common.{◌≡◌, ◌∙◌, ℕ, List, ◌++◌, Some, ap, sym}
use Rattle.sub_base.specs.Endpoints.{Received}
use Rattle.sub_base.specs.InMemory.{Store}
use Rattle.script_stream.proofs.ShownLaws.{compiled_to}
use Rattle.script_stream.specs.SentScripts.{stream_bytes}
use Rattle.dvbsub_cmd.proofs.NeverRefused.{only_wanting}
use Rattle.dvbsub_cmd.specs.GenText.{generated_compiling}
use Rattle.dvbsub_cmd.proofs.generated.compiled.Goals as goal

pub returns-in-Ok : goal.returns-in-Ok
returns-in-Ok c =
    let bytes : List ℕ = stream_bytes c.in-Ok.sent in
    let nothing = ap (λ (store : Store). store.written) c.make-stream.ensures in
    let whole : c.compile_script.new.out.written ≡ bytes =
    c.in-Ok.ensures.written ∙ ap (λ (start : List ℕ). start ++ bytes) nothing in
    record {
      generated = c.in_ok-script.ensures.made;
      compiled =
          compiled_to (generated_compiling c.args.profile c.in_ok-script.script) bytes
          c.compile_script.new.out.written (sym whole) c.in-Ok.ensures.sent.compiled;
      sets = c.in-Ok.ensures.sent.same_sets;
      table = c.in-Ok.ensures.sent.same_table;
    }

pub wanting-requires : goal.wanting-requires
wanting-requires c =
    let before : Received =
    record { written = Some c.make-stream.result.written; faults = c.make-stream.result.faults } in
    let now : Received =
    record { written = Some c.compile_script.new.out.written; faults = c.compile_script.new.out.faults } in
    only_wanting c.args.number (generated_compiling c.args.profile c.in_ok-script.script) before now
    c.in-Err.fault c.requires.profile c.in_ok-script.ensures.made c.in-Err.ensures.cause
