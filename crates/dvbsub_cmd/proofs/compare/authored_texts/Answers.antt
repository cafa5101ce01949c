use Rattle.std.proofs.Common.{◌≡◌, ◌∙◌, ◌++◌, ℕ, List, ap, sym}
use Rattle.sub_base.specs.InMemory.{Store}
use Rattle.dvbsub_cmd.specs.ExpectOutcome.{expect_text}
use Rattle.dvbsub_cmd.proofs.ExpectLaws.{written_whole}
use Rattle.dvbsub_cmd.proofs.compare.authored_texts.Goals as goal

pub returns : goal.returns
returns c =
    let text : List ℕ = expect_text c.args.script.now c.args.ticks.now in
    let well = sym c.has_failed.ensures ∙ c.if-has_failed.false in
    let whole : c.flush.new.sink.written ≡ c.make-texts.result.written ++ text =
    written_whole _ _ _ c.in_ok-buffer.buffer c.put_pictures.new.buffer c.flush.new.buffer text c.in_ok-buffer.ensures
    c.put_pictures.ensures c.flush.ensures.puts well (c.flush.ensures.empty well) in
    whole ∙ ap (λ (store : Store). store.written ++ text) c.make-texts.ensures
