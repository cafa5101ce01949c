use Rattle.std.proofs.Common.{◌∙◌, ◌++◌, ap, sym, subst}
use Rattle.command_text.specs.Putting.{PutsOut}
use Rattle.pid_text.specs.PidText.{IsPidsText}
use Rattle.pid_text.specs.Private.Telling.{slots_text}
use Rattle.pid_text.specs.Watched.{PidsWatched}
use Rattle.pid_text.proofs.PidsLaws.{pids_told}
use Rattle.pid_text.proofs.pids.Pids.put_text.Goals as goal

pub returns : goal.returns
returns g c packets text has =
    let told = pids_told packets c.args.self.now c.requires has.watched in
    let slots_are = c.deref.ensures.value ∙ ap (λ (p : PidsWatched). p.slots) c.self.view_is in (
      slots_text c.args.self.now.slots,
      subst (λ front. IsPidsText packets (front ++ slots_text c.args.self.now.slots)) (sym has.nothing) told,
      subst (λ slots. PutsOut (g.K.Sink.received c.args.out.now) (g.K.Sink.received c.put_slots.new.out)
          c.args.buffer.now
          c.put_slots.new.buffer (slots_text slots)) slots_are c.put_slots.ensures,
    )
