-- The front of what is left from the first segment of a type on.
use Rattle.std.proofs.Common.{arith}
use Rattle.std.proofs.lemmas.Bool.{eq-eqb, ne_eqb}
use Rattle.page_core.specs.Private.Walks.{is_content_of}
use Rattle.page_core.proofs.Sets.NextContents.{front_of, passed, found, none_left, start}
use Rattle.page_core.proofs.walking.next_front.Goals as goal

pub loop-front-init : goal.loop-front-init
loop-front-init c = (omega arith, λ set are. start (is_content_of c.args.kind) set c.args.bytes.now are)

pub returns-then-front-kind-clause-next : goal.returns-then-front-kind-clause-next
returns-then-front-kind-clause-next c set are =
    found c.args.kind set c.in-Some.front (eq-eqb c.in-Some.front.frame.kind c.args.kind c.if-front-kind.true)
    (front_of c.args.kind set c.loop-front.rest.now c.in-Some.front c.requires c.in-Some.ensures.shorter
    c.in-Some.ensures.cut (c.loop-front.invariant.1 set are))

pub returns-then-front-kind-clause-shorter : goal.returns-then-front-kind-clause-shorter
returns-then-front-kind-clause-shorter c =
    let a = c.loop-front.invariant.0 in let b = c.in-Some.ensures.shorter in omega arith

pub loop-front-preserved : goal.loop-front-preserved
loop-front-preserved c =
    let a = c.loop-front.invariant.0 in
    let b = c.in-Some.ensures.shorter in (
      omega arith,
      λ set are.
          let f =
          front_of c.args.kind set c.loop-front.rest.now c.in-Some.front c.requires c.in-Some.ensures.shorter
          c.in-Some.ensures.cut (c.loop-front.invariant.1 set are) in
          passed c.args.kind set c.in-Some.front (ne_eqb c.in-Some.front.frame.kind c.args.kind c.if-front-kind.false)
          f,
    )

pub returns-clause-next : goal.returns-clause-next
returns-clause-next c set are =
    none_left c.args.kind set c.loop-front.rest.now c.in_default.ensures.cut (c.loop-front.invariant.1 set are)
