use Rattle.std.proofs.Common.{◌≡◌, ◌∙◌, ◌++◌, ℕ, [], List, true, ap, append-nil, subst, sym}
use Rattle.decoder_model.specs.Frames.{only}
use Rattle.dump_text.proofs.AskedLaws.{tells_as_asked}
use Rattle.dump_text.specs.DumpText.{asked_for}
use Rattle.dump_text.specs.Dumping.{HasDumped}
use Rattle.sub_base.specs.Profile.{profile_of}
use Rattle.sub_base.specs.InMemory.{Store}
use Rattle.dvbsub_cmd.specs.Dumps.{dumps}
use Rattle.dvbsub_cmd.specs.GenText.{generated_page, generated_pid}
use Rattle.command_text.proofs.PutOutLaws.{written_all}
use Rattle.dvbsub_cmd.proofs.PutOutLaws.{told_all}
use Rattle.dvbsub_cmd.proofs.compare.shown_texts.Goals as goal

pub returns : goal.returns
returns g c =
    let made = c.in_ok-dump.dump in
    let told =
    told_all HasDumped made.receiving.demux.pid _ _ made c.take_packets.new.self c.in_ok-buffer.buffer
    c.take_packets.new.buffer c.args.packets.now c.in_ok-buffer.ensures c.in_ok-dump.ensures.nothing
    c.in_default.ensures.tells in
    let ended = c.finish.ensures c.args.packets.now told.text told.told in
    let text : List ℕ = told.text ++ ended.0 in
    let put = c.flush.ensures.puts.extends _ text (ended.2.extends _ told.text told.out) in
    let well = sym c.has_failed.ensures ∙ c.if-has_failed.false in
    let whole : c.flush.new.sink.written ≡ c.make-texts.result.written ++ (text ++ []) =
    written_all _ _ c.flush.new.buffer (text ++ []) put well (c.flush.ensures.empty well) in
    let same : text ≡ c.flush.new.sink.written =
    sym (whole ∙ ap (λ (store : Store). store.written ++ (text ++ [])) c.make-texts.ensures ∙ append-nil text)
    in
    subst (dumps c.args.profile generated_pid generated_page c.args.ticks.now true c.args.packets.now) same
    (tells_as_asked (asked_for (profile_of c.args.profile) generated_pid (only generated_page) c.args.ticks.now)
    c.args.ticks.now made c.take_packets.new.self true c.args.packets.now text c.in_default.ensures.same
    (c.in_ok-dump.ensures.made ∙ (λ i. asked_for (c.of-profile.ensures i) generated_pid (c.only.ensures i)
    c.args.ticks.now)) c.in_ok-dump.ensures.ticks ended.1)
