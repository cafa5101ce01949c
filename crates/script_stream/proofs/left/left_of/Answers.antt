use Rattle.std.proofs.Common.{◌≡◌, ◌<◌, ◌∙◌, ℕ, List, ap, get_or, subst, arith}
use Rattle.slot_stream.specs.SlotStream.{slot_count}
use Rattle.script_stream.proofs.LeftLaws.{are_left, first_of}
use Rattle.script_stream.proofs.SendLaws.{slot_count-small}
use Rattle.script_stream.proofs.left.left_of.Goals as goal

pub slot_count-requires : goal.slot_count-requires
slot_count-requires c =
    slot_count-small c.args.timed.now.schedule.slots c.all_slots-slots.result.now c.all_slots-slots.ensures
    c.requires.ready.slotted.small

pub returns : goal.returns
returns c =
    let timed = c.args.timed.now in
    let first = first_of timed.loads.items c.as_slice.result.now c.first_sets-first.result.sets
    c.first_sets-first.result.packets c.as_slice.ensures.value c.first_sets-first.ensures.first in
    are_left c.args.script.now c.args.pid c.args.page c.args.sent timed.plan.sets timed.loads.items timed.schedule
    c.first_sets-first.result.sets c.first_sets-first.result.packets
    (record { kept = c.in_ok-kept.kept; count = c.slot_count.result }) (omega arith) c.requires.ready first
    (λ j low. before_slots timed.schedule.slots c.all_slots-slots.result.now c.first_from-before.result
    c.args.sent c.all_slots-slots.ensures c.first_from-before.ensures.next.before j
    (omega (arith, low, c.first_sets-first.ensures.few)))
    c.in_ok-kept.ensures (c.slot_count.ensures ∙ ap slot_count c.all_slots-slots.ensures)
  where
    before_slots : (slots all : List ℕ) (count sent : ℕ) → all ≡ slots
        → ((j : ℕ) → j < count → get_or all j 0 < sent) → (j : ℕ) → j < count → get_or slots j 0 < sent
    before_slots slots all count sent same before j low =
        subst (λ (xs : List ℕ). get_or xs j 0 < sent) same (before j low)
