use Rattle.std.proofs.Common.{◌≡◌, ℕ, List, ap, length, ◌-◌, length-take-le, length-drop, sym, take, drop, ◌∙◌, arith}
use Rattle.packet_source.specs.InHand.{InHand}
use Rattle.packet_source.proofs.ReaderLaws.{HasRead-behind, hand_kept, on_err, refilled}
use Rattle.packet_source.proofs.reader.PacketSource.read_on.Goals as goal

pub returns-clause-read : goal.returns-clause-read
returns-clause-read g c =
    let front =
    c.in_ok-count.ensures.front
    ∙ ap (λ (l : List ℕ). take c.self.inside.filled l) c.as_mut_slice.ensures.value in
    let kept : c.self.inside.filled - c.self.inside.start ≡ length c.args.self.now.bytes =
    sym (length-take-le (c.self.inside.filled - c.self.inside.start) (drop c.self.inside.start c.self.inside.room.items)
    (omega (
      arith,
      length-drop c.self.inside.start
          c.self.inside.room.items,
      c.self.invariant.0,
      c.self.invariant.1,
      c.self.invariant.3,
      c.self.inside.room.ok.0,
    )))
    ∙ ap (λ (hand : InHand). length hand.bytes) c.self.view_is in
    HasRead-behind _ _ c.self.inside.first c.self.inside.start c.self.inside.filled c.in_ok-count.count
    c.self.inside.room.items c.read_behind.new.room _ c.args.self.now
    (refilled _ c.read_behind.new.room c.self.inside.room.items
    (omega (arith, c.in_ok-count.ensures.room, c.as_mut_slice.ensures.len, c.self.inside.room.ok.0))) c.self.view_is
    front c.self.invariant.3
    c.in_ok-count.ensures.bound c.in_ok-count.ensures.bytes.0 c.in_ok-count.ensures.given
    (λ room none. c.in_ok-count.ensures.bytes.1 none room)
    (omega (
      arith,
      kept,
      c.in_ok-count.ensures.room,
      c.as_mut_slice.ensures.len,
      c.self.inside.room.ok.0,
      c.self.invariant.1,
      c.self.invariant.2,
      c.requires.short,
    ))

pub returns-in_err-count-clause-nothing : goal.returns-in_err-count-clause-nothing
returns-in_err-count-clause-nothing g c =
    let front =
    c.in_err-count.ensures.front
    ∙ ap (λ (l : List ℕ). take c.self.inside.filled l) c.as_mut_slice.ensures.value in
    on_err c.from_residual.result _ (record {
      hand =
          hand_kept c.self.inside.first c.self.inside.start c.self.inside.filled c.self.inside.room.items
          c.read_behind.new.room _ c.args.self.now
          (refilled _ c.read_behind.new.room c.self.inside.room.items
          (omega (arith, c.in_err-count.ensures.room, c.as_mut_slice.ensures.len, c.self.inside.room.ok.0)))
          c.self.view_is front c.self.invariant.3;
      left = c.in_err-count.ensures.bytes;
      given = c.in_err-count.ensures.given;
    })
