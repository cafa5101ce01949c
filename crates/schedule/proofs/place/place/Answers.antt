use Rattle.std.proofs.Common.{◌≡◌, ◌+◌, ◌<◌, ◌≤◌, length, arith, ap, sym, ◌∙◌, true, false}
use borrow.Author.Tests.{ltb-true, le-leb}
use Rattle.std.specs.Prelude.{slice_index}
use Rattle.schedule.specs.Packets.{sum_below, size_of}
use Rattle.sub_base.specs.Pace.{tick_of}
use Rattle.schedule.proofs.SumLaws.{sum_below-more, sum_below-rises}
use Rattle.schedule.proofs.PacketLaws.{bytes_at}
use Rattle.schedule.proofs.BufferLaws.{ltb-false, left-least, AreDone-more, needs_next, tick_of-max, tick_of-rises}
use Rattle.schedule.proofs.place.place.Goals as goal
use Rattle.schedule.proofs.place.place.Goals.{then-loop-gone-test+else-level-payload, then-dones-gone, else-dones-gone, else-loop-gone-test}

pub overflow_sub-level : goal.overflow_sub-level
overflow_sub-level c =
    let more = sum_below-more (size_of c.args.loads.now) c.loop-gone.gone in
    let rises =
    sum_below-rises (size_of c.args.loads.now) (c.loop-gone.gone + 1) (length c.args.dones.now) (omega arith) in
    omega (
      arith,
      more,
      rises,
      bytes_at c.args.loads.now c.loop-gone.gone c.index-loads-gone.result c.requires.loads
          (omega arith),
    )

pub loop-gone-preserved : goal.loop-gone-preserved
loop-gone-preserved c =
    let loads = c.args.loads.now in
    let dones = c.args.dones.now in
    let gone = c.loop-gone.gone in
    let more = sum_below-more (size_of loads) gone in
    let rises = sum_below-rises (size_of loads) (gone + 1) (length dones) (omega arith) in
    let later : c.first_slot_at.result ≤ c.max-slot.result = omega (arith, c.max-slot.ensures) in
    let same : c.loop-gone.slot ≤ c.max-slot.result = omega (arith, c.max-slot.ensures) in
    record {
      total = omega (arith, more, rises, bytes_at loads gone c.index-loads-gone.result c.requires.loads (omega arith));
      level = omega arith;
      gone =
          AreDone-more dones gone c.args.pace.now c.loop-gone.slot c.first_slot_at.result c.max-slot.result
          c.loop-gone.invariant.gone (omega arith) same later c.first_slot_at.ensures.reached;
      after = omega arith;
      near =
          tick_of-max c.args.pace.now c.loop-gone.slot c.first_slot_at.result c.max-slot.result _ c.max-slot.ensures
          c.loop-gone.invariant.near
          (omega (arith, c.requires.ordered.small gone (omega arith), c.first_slot_at.ensures.near));
      least = λ slot from room.
          let at_least = c.loop-gone.invariant.least slot from room in
          let reached : slice_index dones gone ≤ tick_of c.args.pace.now slot =
          elim c.if-dones-gone.branch [
            | then-dones-gone w ↦ omega (arith, tick_of-rises c.args.pace.now c.loop-gone.slot slot at_least)
            | else-dones-gone w ↦
                let full : c.args.pace.now.coded < c.loop-gone.level + c.args.payload =
                ltb-true _ _ (sym w.value-is ∙ c.if-level-payload.true) in
                needs_next loads dones c.args.pace.now gone
                (c.args.from.level + c.args.payload + sum_below (size_of loads) c.args.from.gone) slot
                c.requires.ordered (omega arith) (omega (arith, full)) room
          ] in
          omega (arith, c.first_slot_at.ensures.least slot reached, c.max-slot.ensures);
    }

pub returns-clause-room : goal.returns-clause-room
returns-clause-room c =
    let left =
    left-least c.args.loads.now c.args.dones.now (tick_of c.args.pace.now c.loop-gone.slot) c.loop-gone.gone
    (length c.args.dones.now)
    c.loop-gone.invariant.gone.within c.loop-gone.invariant.gone.each in
    elim c.loop-gone-test.branch [
      | then-loop-gone-test+else-level-payload w ↦
          elim w.if-dones-gone.branch [
            | then-dones-gone w' ↦ absurd
                (let e : true ≡ false = sym (le-leb _ _ w'.if-dones-gone.true) ∙ sym w'.value-is
                ∙ w.if-level-payload.false in cc)
            | else-dones-gone w' ↦
                let fits : c.loop-gone.level + c.args.payload ≤ c.args.pace.now.coded =
                ltb-false _ _ (sym w'.value-is ∙ w.if-level-payload.false) in
                omega (arith, left, fits)
          ]
      | else-loop-gone-test w ↦
          let all : c.loop-gone.gone ≡ length c.args.dones.now = omega arith in
          omega (arith, left, ap (sum_below (size_of c.args.loads.now)) all)
    ]
