use Rattle.std.proofs.Common.{◌≡◌, ℕ, ◌+◌, ◌<◌, ◌≤◌, ◌++◌, List, min, take, length, length-append, arith, sym, subst, ap, ◌∙◌, append_assoc}
use Rattle.std.specs.Prelude.{option_to_list, Option, Some, None, IfSome}
use Rattle.std.proofs.lemmas.List.{take_more, take_all}
use Rattle.pes_packets.specs.Units.{IsOpenAfter, AreUnitLengths}
use Rattle.pes_packets.proofs.units.append_lengths.Goals as goal

-- a unit that is closed gives its place to the next one
one_place : (given : Option ℕ) (before after : ℕ) → IfSome given (λ unit. 0 < before)
    → length (option_to_list given) + min 1 after ≤ 1 + min 1 before
one_place None before after some = omega arith
one_place (Some unit) before after some = omega (arith, some)

put_behind : (first lengths now : List ℕ) (new more : List ℕ) → now ≡ first ++ lengths
    → new ≡ now ++ more → new ≡ first ++ (lengths ++ more)
put_behind first lengths now new more is put =
    put ∙ ap (λ (xs : List ℕ). xs ++ more) is ∙ append_assoc first lengths more

pub loop-segment-preserved : goal.loop-segment-preserved
loop-segment-preserved c =
    let segments = c.args.segments.now in
    let i = c.loop-segment.segment-index in
    let so_far = c.loop-segment.invariant.taken in
    let more = take_more segments i 0 (omega arith) in
    let put = c.push_given.ensures.items in
    let longer = ap length put ∙ length-append c.loop-segment.out.items (option_to_list c.take.result) in
    let place = one_place c.take.result c.loop-segment.unit.bytes c.take.new.self.bytes c.take.ensures.begun in
    record {
      taken = (
        so_far.0 ++ option_to_list c.take.result,
        subst (λ (front : List ℕ). IsOpenAfter front (so_far.0 ++ option_to_list c.take.result)
            c.take.new.self.bytes) (sym more) (c.take.ensures.taken (take i segments) so_far.0 so_far.1),
        put_behind c.args.out.now.items so_far.0 c.loop-segment.out.items c.push_given.new.out.items
            (option_to_list c.take.result) so_far.2 put,
      );
      room = omega (arith, longer, place, c.push_given.ensures.capacity, c.loop-segment.invariant.room);
      short = c.take.ensures.short;
    }

pub returns : goal.returns
returns c =
    let so_far = c.loop-segment.invariant.taken in
    let all = take_all c.loop-segment.segment-index c.args.segments.now (omega arith) in (
      so_far.0 ++ option_to_list c.length.result,
      subst (λ (front : List ℕ). AreUnitLengths front (so_far.0 ++ option_to_list c.length.result)) all
          (c.length.ensures.lengths (take c.loop-segment.segment-index c.args.segments.now) so_far.0 so_far.1),
      put_behind c.args.out.now.items so_far.0 c.loop-segment.out.items c.push_given-2.new.out.items
          (option_to_list c.length.result) so_far.2 c.push_given-2.ensures.items,
    )
