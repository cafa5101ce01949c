use Rattle.std.proofs.Common.{◌≡◌, ◌∙◌, true, false, sym}
use Rattle.service_mux.specs.Taken.{of_pid}
use Rattle.command_text.proofs.PutLaws.{PutsOut-nothing}
use Rattle.service_mux.proofs.TakingLaws.{tells_taken}
use Rattle.service_mux.proofs.taker.feed.Goals as goal

pub returns-then-is_of_pid-clause-tells : goal.returns-then-is_of_pid-clause-tells
returns-then-is_of_pid-clause-tells g c =
    let same : of_pid c.in-BehindMap.pid c.args.packet.now ≡ true = sym c.is_of_pid.ensures ∙ c.if-is_of_pid.true in
    λ place. tells_taken _ _ _ _ _ place _ c.in-BehindMap.pid true c.in-BehindMap.is same c.put.ensures

pub returns-else-is_of_pid-clause-tells : goal.returns-else-is_of_pid-clause-tells
returns-else-is_of_pid-clause-tells g c =
    let other : of_pid c.in-BehindMap.pid c.args.packet.now ≡ false =
    sym c.is_of_pid.ensures ∙ c.if-is_of_pid.false in
    λ place. tells_taken _ _ _ _ _ place _ c.in-BehindMap.pid false c.in-BehindMap.is other (PutsOut-nothing _ _)
