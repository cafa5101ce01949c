use Rattle.std.proofs.Common.{◌≡◌, ◌∙◌, ◌+◌, ◌-◌, ◌<◌, ◌≤◌, ℕ, length, length-set, get_or, refl, subst, arith}
use Rattle.slot_stream.proofs.FilledFrames.{IsClearing, cleared, clearing_begins, clearing_more, next_within}
use Rattle.slot_stream.proofs.frame.clear.Goals as goal

pub loop-number-init : goal.loop-number-init
loop-number-init c =
    record {
      low = omega arith;
      high = next_within c.args.slots.now c.args.next c.args.end c.args.from (length c.args.frame.now) c.requires.next
          c.requires.end;
      long = refl;
      clearing = clearing_begins c.args.slots.now c.args.next c.args.end c.args.from c.args.frame.now c.requires.next
          c.requires.end c.requires.elsewhere;
    }

pub loop-number-preserved : goal.loop-number-preserved
loop-number-preserved c =
    let number = c.loop-number.number in
    let slots = c.args.slots.now in
    let from = c.args.from in
    let frame = c.loop-number.frame in
    let packet = c.null_packet.new.out in
    let slot = get_or slots number 0 in
    let most = c.requires.end.within in
    let short : number < length slots = omega (arith, c.loop-number-test.true, most) in
    let above : from ≤ slot = c.requires.next.after number c.loop-number.invariant.low short in
    let below : slot < from + length c.args.frame.now = c.requires.end.before number c.loop-number-test.true in
    let place : slot ≡ from + (slot - from) = omega (arith, above) in
    record {
      low = omega (arith, c.loop-number.invariant.low);
      high = omega (arith, c.loop-number-test.true);
      long = length-set frame (slot - from) packet ∙ c.loop-number.invariant.long;
      clearing = clearing_more slots number c.args.end from (slot - from) frame packet
          (omega (arith, above, below, c.loop-number.invariant.long)) place c.null_packet.ensures.bytes
          c.loop-number.invariant.clearing;
    }

pub returns-clause-null : goal.returns-clause-null
returns-clause-null c =
    let last : c.loop-number.number ≡ c.args.end =
    omega (arith, c.loop-number.invariant.high, c.loop-number-test.false) in
    cleared c.args.slots.now c.args.end c.args.from c.loop-number.frame
    (subst (λ (n : ℕ). IsClearing c.args.slots.now n c.args.end c.args.from c.loop-number.frame) last
    c.loop-number.invariant.clearing)
