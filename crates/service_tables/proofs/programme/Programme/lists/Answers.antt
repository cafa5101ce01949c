use Rattle.std.proofs.Common.{◌∙◌, ◌==◌, ap}
use Rattle.std.specs.List.{list_any}
use Rattle.psi_tables.specs.Loops.{Stream}
use Rattle.service_tables.proofs.programme.Programme.lists.Goals as goal

pub returns : goal.returns
returns c = c.has_pid.ensures ∙ ap (list_any (λ (s : Stream). s.pid == c.args.pid)) c.streams.ensures
