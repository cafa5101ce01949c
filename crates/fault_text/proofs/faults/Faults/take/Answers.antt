-- What is told with one more packet.
use Rattle.std.proofs.Common.{◌∙◌, ℕ, ◌+◌, ◌<◌, ap, arith, subst, sym}
use Rattle.std.proofs.lemmas.List.Elements.{All-from_get_or}
use Rattle.display_sets.proofs.ReadySets.{at_most_two}
use Rattle.packet_walk.specs.Told.{TellsOne}
use Rattle.decoder_model.specs.Received.{Reception}
use Rattle.fault_text.specs.FaultText.{set_count}
use Rattle.fault_text.specs.Faulting.{Faulting, HasFaulted, TellsSets}
use Rattle.fault_text.specs.declared.tally.Tally.{Tally}
use Rattle.fault_text.proofs.FaultLaws.{few_taken, other_told, packet_told}
use Rattle.fault_text.proofs.faults.Faults.take.Goals as goal

pub returns-then-is_other-clause-told : goal.returns-then-is_other-clause-told
returns-then-is_other-clause-told g c =
    let is_other = c.if-is_other.true in
    let told = c.is_other.ensures in
    subst
    (λ (faulting : Faulting). TellsOne HasFaulted (g.K.Sink.received c.args.out.now) (g.K.Sink.received c.args.out.now)
    faulting faulting c.args.buffer.now c.args.buffer.now c.args.place c.args.packet.now) c.self.view_is
    (other_told c.self.inside.receiver c.self.inside.tally c.self.inside.known c.self.inside.kept.room c.args.place
    c.args.packet.now _ c.args.buffer.now
    (All-from_get_or (λ (b : ℕ). b < 256) c.args.packet.now 0 (λ i within. c.fits-packet i)) c.self.invariant.none
    (λ fed given stands. told.stands is_other fed given stands))

pub lose-requires : goal.lose-requires
lose-requires g c =
    let few = few_taken c.args.self.now c.args.place c.requires.taken c.requires.place in
    let same = ap (λ (faulting : Faulting). set_count faulting.tally + faulting.tally.lost) c.self.view_is in
    omega (arith, few, same)

pub take_ready-requires-clause-few : goal.take_ready-requires-clause-few
take_ready-requires-clause-few g c =
    let few = few_taken c.args.self.now c.args.place c.requires.taken c.requires.place in
    let same = ap (λ (faulting : Faulting). set_count faulting.tally + faulting.tally.lost) c.self.view_is in
    let ready = at_most_two c.feed_counting.new.self.collecting.sets in
    let lost = ap (λ (tally : Tally). set_count tally) c.lose.ensures in
    omega (arith, few, same, ready, lost)

pub invariant_of-self-2 : goal.invariant_of-self-2
invariant_of-self-2 g c = record {
  none = c.take_ready.ensures.none;
  few =
      (let few = few_taken c.args.self.now c.args.place c.requires.taken c.requires.place in
      let same = ap (λ (faulting : Faulting). set_count faulting.tally + faulting.tally.lost) c.self.view_is in
      let ready = at_most_two c.feed_counting.new.self.collecting.sets in
      let lost = ap (λ (tally : Tally). set_count tally) c.lose.ensures in
      let most = c.take_ready.ensures.few in
      omega (arith, few, same, ready, lost, most));
  room =
      c.take_ready.ensures.room ∙ c.self.invariant.room
      ∙ ap (λ (one : Reception). one.profile.coded) (sym (c.take_ready.ensures.same ∙ c.feed_counting.ensures.same));
}

pub returns-clause-told : goal.returns-clause-told
returns-clause-told g c =
    subst
    (λ (faulting : Faulting). TellsOne HasFaulted (g.K.Sink.received c.args.out.now)
    (g.K.Sink.received c.take_ready.new.out) faulting
    (record {
      receiving = c.take_ready.new.receiver;
      tally = c.take_ready.new.tally;
      known = c.take_ready.new.known;
      room = c.take_ready.new.kept.room;
    }) c.args.buffer.now c.take_ready.new.buffer c.args.place c.args.packet.now) c.self.view_is
    (subst
    (λ (room : ℕ). TellsOne HasFaulted (g.K.Sink.received c.args.out.now)
    (g.K.Sink.received c.take_ready.new.out)
    (record {
      receiving = c.self.inside.receiver;
      tally = c.self.inside.tally;
      known = c.self.inside.known;
      room = c.self.inside.kept.room;
    })
    (record {
      receiving = c.take_ready.new.receiver;
      tally = c.take_ready.new.tally;
      known = c.take_ready.new.known;
      room = room;
    }) c.args.buffer.now c.take_ready.new.buffer c.args.place c.args.packet.now) (sym c.take_ready.ensures.room)
    (packet_told c.self.inside.receiver c.feed_counting.new.self c.take_ready.new.receiver c.self.inside.tally
    c.take_ready.new.tally c.self.inside.known c.forget_behind.new.known c.take_ready.new.known
    c.self.inside.kept.room c.in_ok-came.came.losses c.args.place c.args.packet.now _ _ c.args.buffer.now
    c.take_ready.new.buffer
    (All-from_get_or (λ (b : ℕ). b < 256) c.args.packet.now 0 (λ i within. c.fits-packet i))
    c.feed_counting.ensures.same (λ fed given stands. c.in_ok-came.ensures.stands fed given stands)
    (λ earlier knows. c.forget_behind.ensures earlier knows)
    (subst
    (λ (tally : Tally). TellsSets (g.K.Sink.received c.args.out.now) (g.K.Sink.received c.take_ready.new.out)
    c.feed_counting.new.self c.take_ready.new.receiver tally c.take_ready.new.tally c.forget_behind.new.known
    c.take_ready.new.known c.args.buffer.now c.take_ready.new.buffer) c.lose.ensures c.take_ready.ensures.sets)
    c.take_ready.ensures.same c.take_ready.ensures.all))
