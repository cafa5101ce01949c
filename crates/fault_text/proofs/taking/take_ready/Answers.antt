use Rattle.std.proofs.Common.{◌∙◌, List, length, refl, ap, arith, sym}
use Rattle.decoder_model.specs.Received.{Reception}
use Rattle.display_sets.specs.Gathered.{ReadySet, first_ready, ready_sets}
use Rattle.fault_text.proofs.SetLaws.{one_less, ready_some, taken_both, taken_nothing}
use Rattle.fault_text.proofs.taking.take_ready.Goals as goal

pub loop-out-init : goal.loop-out-init
loop-out-init g c = record {
  sets = taken_nothing _ c.args.receiver.now c.args.tally.now c.args.known.now c.args.buffer.now;
  room = refl;
  same = refl;
  few = omega arith;
}

pub take_next-requires-clause-next : goal.take_next-requires-clause-next
take_next-requires-clause-next g c ended packets given stands =
    let next = c.in-Some.ensures.next packets ended given stands in
    (next.0, next.1, next.2)

pub take_next-requires-clause-few : goal.take_next-requires-clause-few
take_next-requires-clause-few g c =
    let sets = ready_sets c.loop-out.receiver.collecting.sets in
    let one = one_less sets (ready_some _ (first_ready sets) c.in-Some.ensures.time) in
    let few = c.loop-out.invariant.few in
    let most = c.requires.few in
    omega (arith, one, few, most)

pub take_next-requires-clause-room : goal.take_next-requires-clause-room
take_next-requires-clause-room g c =
    c.loop-out.invariant.room ∙ c.requires.room
    ∙ ap (λ (one : Reception). one.profile.coded) (sym c.loop-out.invariant.same)

pub loop-out-preserved : goal.loop-out-preserved
loop-out-preserved g c =
    let sets = ready_sets c.loop-out.receiver.collecting.sets in
    record {
      sets =
          taken_both _ _ _ c.args.receiver.now c.loop-out.receiver c.take_next.new.receiver c.args.tally.now
          c.loop-out.tally c.take_next.new.tally c.args.known.now c.loop-out.known c.take_next.new.known
          c.args.buffer.now c.loop-out.buffer c.take_next.new.buffer
          c.loop-out.invariant.sets c.take_next.ensures.sets;
      room = c.take_next.ensures.room ∙ c.loop-out.invariant.room;
      same = c.take_next.ensures.same ∙ c.loop-out.invariant.same;
      few =
          (let one = one_less sets (ready_some _ (first_ready sets) c.in-Some.ensures.time) in
          let few = c.loop-out.invariant.few in
          let more = c.take_next.ensures.more in
          let left = ap (λ (l : List ReadySet). length l) c.take_next.ensures.left in
          omega (arith, one, few, more, left));
    }

pub returns-clause-all : goal.returns-clause-all
returns-clause-all g c = λ fed ended given stands. c.in_default.ensures.all refl fed ended given stands
