use Rattle.std.proofs.Common.{◌≡◌, ◌∙◌, ◌++◌, ◌∷◌, [], get_or, set, sym, subst}
use Rattle.pid_text.specs.Private.Watching.{TakesIn}
use Rattle.pid_text.specs.Watched.{AreWatched}
use Rattle.pid_text.proofs.PidsLaws.{packet_watched, taken_where}
use Rattle.pid_text.proofs.pids.Pids.take.Goals as goal

pub returns-else-is_err : goal.returns-else-is_err
returns-else-is_err c packets watched_so =
    let pid = c.pid_in-pid.result in
    let took : TakesIn c.pid_in-pid.result c.index_mut-slot.result.now c.take.new.self c.args.packet.now =
    taken_where _ c.take.result (sym c.is_err.ensures.value ∙ c.if-is_err.false) c.take.ensures in
    subst (λ k. AreWatched (packets ++ c.args.packet.now ∷ []) (record {
      slots = set c.self.inside.slots.items k c.take.new.self;
      is_wanting = c.self.inside.is_wanting;
    })) (sym c.from.ensures)
    (packet_watched (record { slots = c.self.inside.slots.items; is_wanting = c.self.inside.is_wanting }) pid
    c.index_mut-slot.result.now c.take.new.self c.args.packet.now packets (sym c.pid_in-pid.ensures.pid)
    c.pid_in-pid.ensures.range
    (subst (λ k. c.index_mut-slot.result.now ≡ get_or c.self.inside.slots.items k c.index_mut-slot.result.now)
    c.from.ensures c.index_mut-slot.ensures.value)
    took (subst (AreWatched packets) (sym c.self.view_is) watched_so))
