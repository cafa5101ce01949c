use Rattle.std.proofs.Common.{ℕ, ap, subst}
use Rattle.decoder_model.specs.Received.{Reception}
use Rattle.packet_walk.proofs.CloseLaws.{closed}
use Rattle.packet_walk.proofs.EndLaws.{end_told}
use Rattle.packet_walk.specs.Closing.{is_whole_end}
use Rattle.packet_walk.specs.ToldEnds.{IsToldEnd}
use Rattle.receiver.specs.Asking.{reception}
use Rattle.dump_text.proofs.AskedLaws.{tells_as_asked}
use Rattle.dump_text.specs.DumpText.{IsDumpText, asked_for}
use Rattle.dump_text.specs.Dumping.{dump_tells}
use Rattle.dump_text.proofs.streaming.dump_stream.Goals as goal

pub returns : goal.returns
returns g c =
    let made = c.in-Ok.dump in
    let walked = c.walk-end.new.self in
    let ticks = c.args.ticks.now in
    let asked = asked_for c.args.profile.now c.args.pid c.args.pages ticks in
    let end = c.walk-end.result in
    let pid = (reception made.receiving).pid in
    let ended = c.finish.ensures pid _ _ _ c.walk-end.ensures.end in
    let told =
    end_told (dump_tells walked (is_whole_end end)) (IsDumpText asked ticks (is_whole_end end)) pid _ _ _ _
    c.finish.new.buffer end
    (λ packets text. tells_as_asked asked ticks made walked (is_whole_end end) packets text
    c.walk-end.ensures.same c.in-Ok.ensures.made c.in-Ok.ensures.ticks) ended in
    subst (λ (pid : ℕ). IsToldEnd (IsDumpText asked ticks) pid (g.A.Source.supplied c.args.stream.now)
    (g.A.Source.supplied c.walk-end.new.stream) (g.K.Sink.received c.args.out.now)
    (g.K.Sink.received c.close_walk.new.out) c.close_walk.result)
    (ap (λ (one : Reception). one.pid) c.in-Ok.ensures.made)
    (closed (IsDumpText asked ticks) pid _ _ _ _ _ c.finish.new.buffer end c.close_walk.result told
    c.close_walk.ensures)
