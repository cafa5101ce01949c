-- The greatest level of the packets.
use Rattle.std.proofs.Common.{◌∙◌, [], refl, subst}
use Rattle.check_text.specs.CheckText.{IsPeak}
use Rattle.check_text.specs.Checking.{HasChecked}
use Rattle.decoder_model.specs.Received.{Reception}
use Rattle.set_receiver.specs.Receiving.{reception}
use Rattle.dvbsub_cmd.specs.GenText.{generated_pid}
use Rattle.dvbsub_cmd.proofs.PutOutLaws.{told_all}
use Rattle.dvbsub_cmd.proofs.compare.peak_of.Goals as goal

pub take_packets-requires-clause-taken : goal.take_packets-requires-clause-taken
take_packets-requires-clause-taken c =
    record { packets = []; text = []; counted = refl; told = c.in_ok-check.ensures.nothing }

pub returns : goal.returns
returns c =
    let made = c.in_ok-check.check in
    let told =
    told_all HasChecked (reception made.receiving).pid _ _ made c.take_packets.new.teller c.in_ok-buffer.buffer
    c.take_packets.new.buffer c.args.packets.now c.in_ok-buffer.ensures c.in_ok-check.ensures.nothing
    c.in_default.ensures.tells in
    subst (λ (made : Reception). IsPeak made c.args.packets.now c.peak.result)
    (c.take_packets.ensures.same ∙ c.in_ok-check.ensures.made
    ∙ (λ i. record {
      profile = c.of-profile.ensures i;
      pid = generated_pid;
      pages = c.only.ensures i;
      anchor = 0;
    })) (c.peak.ensures c.args.packets.now told.text told.told)
