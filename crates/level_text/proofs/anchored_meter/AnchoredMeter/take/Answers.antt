-- One packet more, of whatever PID.
use Rattle.std.proofs.Common.{◌≡◌, ◌∙◌, ◌==◌, ℕ, None, ap, sym, subst}
use Rattle.check_text.proofs.MeteredLaws.{bytes_of}
use Rattle.decoder_model.specs.Received.{Reception}
use Rattle.level_text.specs.Anchoring.{Anchoring}
use Rattle.level_text.proofs.AnchorLaws.{other_timed}
use Rattle.stream_syntax.specs.TransportPackets.{packet_fault, pid_of}
use Rattle.level_text.proofs.anchored_meter.AnchoredMeter.take.Goals as goal

pub returns-else-is_of_pid-clause-told : goal.returns-else-is_of_pid-clause-told
returns-else-is_of_pid-clause-told g c =
    let pid_is : c.self.inside.pid ≡ c.begin.new.self.asked.pid =
    ap (λ (one : Anchoring). one.asked.pid) c.self.view_is
    ∙ ap (λ (made : Reception). made.pid) (sym c.begin.ensures.asked) in
    other_timed (g.K.Sink.received c.args.out.now) c.args.self.now c.begin.new.self c.args.buffer.now c.args.tick
    c.args.packet.now c.begin.ensures.begun
    (record {
      bytes = bytes_of c.args.packet.now c.fits-packet;
      faultless =
          subst (λ (made : Reception). packet_fault made.pid c.args.packet.now ≡ None) (sym c.begin.ensures.asked)
          c.requires.faultless;
      other = ap (λ (pid : ℕ). pid_of c.args.packet.now == pid) (sym pid_is) ∙ sym c.is_of_pid.ensures
          ∙ c.if-is_of_pid.false;
    })
