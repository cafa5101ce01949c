use Rattle.std.proofs.Common.{◌≡◌, ◌∙◌, ◌+◌, ◌-◌, ◌<◌, ◌≤◌, ℕ, length, length-set, get_or, refl, ap, sym, subst, arith}
use Rattle.slot_stream.specs.SlotStream.{packet_of, slot_packet}
use Rattle.slot_stream.proofs.FilledFrames.{IsFilling, filled, filling_more, next_at}
use Rattle.slot_stream.proofs.SlotLaws.{slot_packet-next}
use Rattle.slot_stream.proofs.frame.fill.Goals as goal

pub loop-number-preserved : goal.loop-number-preserved
loop-number-preserved c =
    let number = c.loop-number.number in
    let pid = c.args.packetiser.now.pid in
    let pieces = c.args.pieces.now in
    let slots = c.args.slots.now in
    let from = c.args.from in
    let frame = c.loop-number.frame in
    let packet = c.send.new.packet in
    let slot = get_or slots number 0 in
    let most = c.requires.end.within in
    let short : number < length slots = omega (arith, c.loop-number-test.true, most) in
    let above : from ≤ slot = c.requires.next.after number c.loop-number.invariant.low short in
    let below : slot < from + length c.args.frame.now = c.requires.end.before number c.loop-number-test.true in
    let place : slot ≡ from + (slot - from) = omega (arith, above) in
    let piece = c.index-pieces-number.result in
    let told : packet ≡ slot_packet pid pieces slots slot =
    c.send.ensures.packet
    ∙ ap (λ (p : ℕ). packet_of p number piece) c.loop-number.invariant.pid
    ∙ ap (packet_of pid number) c.index-pieces-number.is
    ∙ sym (slot_packet-next pid pieces slots number slot piece (next_at slots number c.requires.rising short)
    c.requires.pairs short refl) in
    record {
      low = omega (arith, c.loop-number.invariant.low);
      high = omega (arith, c.loop-number-test.true);
      pid = c.send.ensures.pid ∙ c.loop-number.invariant.pid;
      counter = c.send.ensures.counter;
      long = length-set frame (slot - from) packet ∙ c.loop-number.invariant.long;
      filling = filling_more (slot_packet pid pieces slots) slots c.args.next number from (slot - from) frame packet
          (omega (arith, above, below, c.loop-number.invariant.long)) place
          (told ∙ ap (slot_packet pid pieces slots) place) c.loop-number.invariant.filling;
    }

pub returns-clause-packets : goal.returns-clause-packets
returns-clause-packets c =
    let pid = c.args.packetiser.now.pid in
    let pieces = c.args.pieces.now in
    let slots = c.args.slots.now in
    let last : c.loop-number.number ≡ c.args.end =
    omega (arith, c.loop-number.invariant.high, c.loop-number-test.false) in
    filled pid pieces slots c.args.next c.args.end c.args.from (length c.args.frame.now) c.loop-number.frame
    c.loop-number.invariant.long c.requires.next c.requires.end
    (subst (λ (n : ℕ). IsFilling (slot_packet pid pieces slots) slots c.args.next n c.args.from c.loop-number.frame)
    last c.loop-number.invariant.filling)
