use Rattle.std.proofs.Common.{◌≡◌, ◌∙◌, ℕ, subst, arith}
use Rattle.packet_walk.specs.Walking.{IsEnd}
use Rattle.packet_walk.proofs.EndLaws.{end_told}
use Rattle.service_mux.specs.Private.Taking.{IsTaking, Takes, no_pid}
use Rattle.service_mux.specs.declared.taker.Taker.{Taker}
use Rattle.service_mux.proofs.CloseLaws.{ended_caused}
use Rattle.service_mux.proofs.TakeLaws.{nothing_taken}
use Rattle.service_mux.proofs.TakingLaws.{taking_takes}
use Rattle.service_mux.proofs.take.take.Goals as goal

pub returns-in_default : goal.returns-in_default
returns-in_default g c = nothing_taken _ _ _

pub returns-in_default-make : goal.returns-in_default-make
returns-in_default-make g c = nothing_taken _ _ _

pub returns-in_default-make-2 : goal.returns-in_default-make-2
returns-in_default-make-2 g c = nothing_taken _ _ _

pub returns : goal.returns
returns g c =
    let service : ℕ = c.args.service in
    let last : Taker = c.walk_packets-end.new.teller in
    let kept : last.service ≡ c.in-Ok.taker.service = omega (arith, c.walk_packets-end.ensures.pid) in
    let told =
    end_told (IsTaking last) (Takes service c.has_found.result) (no_pid c.in-Ok.taker.service) _ _ _ _
    c.walk_packets-end.new.buffer c.walk_packets-end.result
    (taking_takes last service c.has_found.result (kept ∙ c.in-Ok.ensures.service) c.has_found.ensures)
    c.walk_packets-end.ensures.end in
    ended_caused service _ _ _ _ c.has_found.result _ c.walk_packets-end.new.buffer c.walk_packets-end.result
    c.close.result
    (subst (λ (s : ℕ). IsEnd (Takes service c.has_found.result) (no_pid s)
    (g.A.Source.supplied c.args.stream.now)
    (g.A.Source.supplied c.walk_packets-end.new.stream)
    (g.K.Sink.received c.args.out.now)
    (g.K.Sink.received c.walk_packets-end.new.out)
    c.walk_packets-end.new.buffer c.walk_packets-end.result) c.in-Ok.ensures.service told)
    c.close.ensures
