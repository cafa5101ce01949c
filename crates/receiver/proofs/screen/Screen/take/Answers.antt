-- What is shown from the time of a set on.
use Rattle.std.proofs.Common.{◌∙◌, ◌∷◌, sym, ap, subst}
use Rattle.receiver.specs.Showing.{ArePictures, Pictures, Slot}
use Rattle.receiver.specs.Slots.{slot_of}
use Rattle.receiver.proofs.Turns.{clear_unless_shown, none_given, pictures_on, pictures_turned, shows_nothing, shows_page}
use Rattle.receiver.proofs.screen.Screen.take.Goals as goal

pub returns-in-Shown-clause-pictures : goal.returns-in-Shown-clause-pictures
returns-in-Shown-clause-pictures g c past one stands lifted answer are =
    let core = c.args.core.now in
    let before =
    subst (λ (now : Pictures). ArePictures core.profile core.anchor past now.pending now.current)
    (sym c.self.view_is) are in
    let shown = c.show.ensures.shown (one ∷ past) stands in
    pictures_turned core.profile core.anchor past one c.in-Some.time _ _ (slot_of c.show.new.self)
    (slot_of c.turn.new.current) before (sym lifted ∙ c.in-Some.is)
    (ap (λ (slot : Slot). slot.time) c.show.ensures.slot ∙ ap (λ (slot : Slot). slot.time) c.turn.ensures.pending)
    (ap slot_of c.turn.ensures.current)
    (shows_page (slot_of c.show.new.self) core (one ∷ past) shown.0
    (ap (λ (slot : Slot). slot.until) c.show.ensures.slot) (ap (λ (slot : Slot). slot.plane) c.show.ensures.slot)
    shown.1 shown.2)

pub returns-in_default-end : goal.returns-in_default-end
returns-in_default-end g c = record {
  pictures = λ past one stands lifted answer are.
      let core = c.args.core.now in
      let before =
      subst (λ (now : Pictures). ArePictures core.profile core.anchor past now.pending now.current)
      (sym c.self.view_is) are in
      pictures_turned core.profile core.anchor past one c.in-Some.time _ _ (slot_of c.turn.new.pending)
      (slot_of c.turn.new.current) before (sym lifted ∙ c.in-Some.is)
      (ap (λ (slot : Slot). slot.time) c.turn.ensures.pending) (ap slot_of c.turn.ensures.current)
      (shows_nothing (slot_of c.turn.new.pending) core.profile core.anchor (one ∷ past)
      (ap (λ (slot : Slot). slot.plane) c.turn.ensures.pending)
      (clear_unless_shown core.profile core.anchor c.in-Some.time past one c.args.end
      (sym lifted ∙ c.in-Some.is) answer c.in_default-end.not-Shown));
  places = c.turn.ensures.places ∙ c.self.invariant.places ∙ ap (λ (now : Pictures). now.places) c.self.view_is;
}

pub returns-in_default-clause-pictures : goal.returns-in_default-clause-pictures
returns-in_default-clause-pictures g c past one stands lifted answer are =
    pictures_on c.args.core.now.profile c.args.core.now.anchor past one _ _ are
    (sym lifted ∙ none_given c.args.lifted c.in_default.not-Some)
