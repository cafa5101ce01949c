-- The objects of a set are taken, up to the first with a fault.
use Rattle.std.proofs.Common.{refl, sym}
use Rattle.segments.specs.Contents.{object_value}
use Rattle.page_core.proofs.Objects.ObjectWalks.{none_taken, next_taken, one_taken, one_fails, all_without_fault, all_taken, keeps_twice, keeps_all}
use Rattle.page_core.proofs.memory.Core.take_objects.Goals as goal

pub loop-next-init : goal.loop-next-init
loop-next-init c = record {
  taken = λ older set holds are. none_taken older set c.args.self.now c.args.bytes.now holds are;
  rest = keeps_all c.args.self.now;
}

pub returns-in-Some-take_object-clause-fault : goal.returns-in-Some-take_object-clause-fault
returns-in-Some-take_object-clause-fault c older set holds are =
    let object = object_value c.in-Some.next.segment in
    let n =
    next_taken older set c.loop-next.self c.loop-next.rest.now c.in-Some.next.rest.now object c.in-Some.ensures.next
    (c.loop-next.invariant.taken older set holds are) in
    sym (one_fails older set c.loop-next.self object c.in-Some.next.rest.now c.in-Some-take_object.fault n
    (sym (c.in-Some-take_object.ensures.fault n.earlier n.content n.holds n.is n.fields)))

pub returns-in-Some-take_object-clause-rest : goal.returns-in-Some-take_object-clause-rest
returns-in-Some-take_object-clause-rest c = keeps_twice c.loop-next.invariant.rest c.in-Some-take_object.ensures.rest

pub loop-next-preserved : goal.loop-next-preserved
loop-next-preserved c = record {
  taken = λ older set holds are.
      let object = object_value c.in-Some.next.segment in
      let n =
      next_taken older set c.loop-next.self c.loop-next.rest.now c.in-Some.next.rest.now object
      c.in-Some.ensures.next (c.loop-next.invariant.taken older set holds are) in
      one_taken older set c.loop-next.self c.take_object.new.self object c.in-Some.next.rest.now n
      (sym (c.in_default-take_object.ensures.fault n.earlier n.content n.holds n.is n.fields))
      (c.in_default-take_object.ensures.taken n.earlier n.content n.holds n.is n.fields refl);
  rest = keeps_twice c.loop-next.invariant.rest c.in_default-take_object.ensures.rest;
}

pub returns-clause-fault : goal.returns-clause-fault
returns-clause-fault c older set holds are =
    sym (all_without_fault older set c.loop-next.self c.loop-next.rest.now c.in_default.ensures.next
    (c.loop-next.invariant.taken older set holds are))

pub returns-clause-taken : goal.returns-clause-taken
returns-clause-taken c older set holds are none =
    all_taken older set c.loop-next.self c.loop-next.rest.now c.in_default.ensures.next
    (c.loop-next.invariant.taken older set holds are)
