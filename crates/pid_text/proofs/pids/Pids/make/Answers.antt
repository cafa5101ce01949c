use Rattle.std.proofs.Common.{false, refl}
use Rattle.pid_text.proofs.PidsLaws.{nothing_watched_yet}
use Rattle.pid_text.proofs.pids.Pids.make.Goals as goal

pub returns : goal.returns
returns c = record {
  watched =
      nothing_watched_yet c.in_ok-empty_slots.field-0.items false c.in_ok-empty_slots.ensures.all
      c.in_ok-empty_slots.ensures.empty;
  nothing = refl;
}
