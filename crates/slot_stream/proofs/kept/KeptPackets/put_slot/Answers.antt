use Rattle.std.proofs.Common.{◌≢◌, ◌<◌, length, get_or, ap, subst, ◌∙◌, arith}
use Rattle.command_text.specs.Putting.{PutsOut}
use Rattle.slot_stream.specs.KeptPackets.{HaveRisingSlots, SlottedPackets}
use Rattle.slot_stream.proofs.KeptLaws.{idle_put, next_idle, next_put, next_sent}
use Rattle.slot_stream.proofs.kept.KeptPackets.put_slot.Goals as goal
use Rattle.slot_stream.proofs.kept.KeptPackets.put_slot.Goals.{else-next-slots-via-then-next-slots+else-slots-next, else-next-slots-via-else-next-slots}

pub returns-then-slots-next-clause-puts : goal.returns-then-slots-next-clause-puts
returns-then-slots-next-clause-puts g c =
    let kept = c.args.self.now in
    let slots = c.as_slice-slots.ensures.value ∙ ap (λ (k : SlottedPackets). k.slots) c.self.view_is in
    let packets = c.as_slice.ensures.value ∙ ap (λ (k : SlottedPackets). k.packets) c.self.view_is in
    next_put
    (λ bytes. PutsOut (g.K.Sink.received c.args.sink.now) (g.K.Sink.received c.put_packet.new.sink)
    c.args.buffer.now c.put_packet.new.buffer bytes) kept c.args.next c.args.slot c.as_slice-slots.result.now
    c.as_slice.result.now _ slots packets (subst HaveRisingSlots c.self.view_is c.self.invariant) c.requires.next
    c.if-next-slots.true c.if-slots-next.true c.put_packet.ensures

pub returns-then-slots-next-clause-next : goal.returns-then-slots-next-clause-next
returns-then-slots-next-clause-next g c =
    let slots = c.as_slice-slots.ensures.value ∙ ap (λ (k : SlottedPackets). k.slots) c.self.view_is in
    next_sent c.args.self.now c.args.next c.args.slot c.as_slice-slots.result.now slots
    (subst HaveRisingSlots c.self.view_is c.self.invariant) c.requires.next c.if-next-slots.true c.if-slots-next.true

pub returns-else-next-slots-clause-puts : goal.returns-else-next-slots-clause-puts
returns-else-next-slots-clause-puts g c =
    let slots = c.as_slice-slots.ensures.value ∙ ap (λ (k : SlottedPackets). k.slots) c.self.view_is in
    let idle : c.args.next < length c.as_slice-slots.result.now
    → get_or c.as_slice-slots.result.now c.args.next 0 ≢ c.args.slot =
    λ h e. elim c.else-next-slots.branch [
      | else-next-slots-via-then-next-slots+else-slots-next w ↦ w.if-slots-next.false e
      | else-next-slots-via-else-next-slots w ↦ let not_less = w.if-next-slots.false in absurd (omega arith)
    ] in
    idle_put
    (λ bytes. PutsOut (g.K.Sink.received c.args.sink.now) (g.K.Sink.received c.put_packet-else-next-slots.new.sink)
    c.args.buffer.now c.put_packet-else-next-slots.new.buffer bytes) c.args.self.now c.args.next c.args.slot
    c.as_slice-slots.result.now c.args.null.now slots (subst HaveRisingSlots c.self.view_is c.self.invariant)
    c.requires.next
    idle c.requires.null c.put_packet-else-next-slots.ensures

pub returns-else-next-slots-clause-next : goal.returns-else-next-slots-clause-next
returns-else-next-slots-clause-next g c =
    let slots = c.as_slice-slots.ensures.value ∙ ap (λ (k : SlottedPackets). k.slots) c.self.view_is in
    next_idle c.args.self.now c.args.next c.args.slot c.as_slice-slots.result.now slots
    (subst HaveRisingSlots c.self.view_is c.self.invariant) c.requires.next
    (λ h e. elim c.else-next-slots.branch [
      | else-next-slots-via-then-next-slots+else-slots-next w ↦ w.if-slots-next.false e
      | else-next-slots-via-else-next-slots w ↦ let not_less = w.if-next-slots.false in absurd (omega arith)
    ])
