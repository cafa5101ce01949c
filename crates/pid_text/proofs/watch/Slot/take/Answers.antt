use Rattle.std.proofs.Common.{◌∙◌, ◌++◌, ◌∷◌, [], sym, subst}
use Rattle.pid_text.specs.Private.Watching.{IsWatching}
use Rattle.pid_text.proofs.WatchLaws.{slot_begins, slot_goes_on, slot_waits}
use Rattle.pid_text.proofs.watch.Slot.take.Goals as goal

pub returns-in-Some : goal.returns-in-Some
returns-in-Some c = record {
  goes = λ packets is.
      slot_goes_on c.args.pid c.in-Some.watch c.feed.new.self c.args.packet.now c.feed.result packets c.requires
      c.feed.ensures
      (subst (IsWatching c.args.pid packets) (sym c.take.ensures.value ∙ c.in-Some.is) is);
}

pub returns-in_ok-self-in-None : goal.returns-in_ok-self-in-None
returns-in_ok-self-in-None c = record {
  goes = λ packets is.
      slot_begins c.args.pid c.args.packet.now c.in_ok-self-in-None.field-0 packets c.requires
      (sym c.begins_private.ensures ∙ c.if-begins_private.true) c.in_ok-self-in-None.ensures
      (subst (IsWatching c.args.pid packets) (sym c.take.ensures.value ∙ c.in-None.is) is);
}

pub returns-else-begins_private : goal.returns-else-begins_private
returns-else-begins_private c = record {
  goes = λ packets is.
      subst (IsWatching c.args.pid (packets ++ c.args.packet.now ∷ [])) (sym c.take.ensures.after)
      (slot_waits c.args.pid c.args.packet.now packets (sym c.begins_private.ensures ∙ c.if-begins_private.false)
      (subst (IsWatching c.args.pid packets) (sym c.take.ensures.value ∙ c.in-None.is) is));
}
