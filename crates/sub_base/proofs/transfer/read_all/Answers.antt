use Rattle.std.proofs.Common.{◌++◌, ◌∙◌, ap, take, length, sym, arith}
use Rattle.sub_base.specs.Endpoints.{WasReadInPart}
use Rattle.sub_base.specs.Counts.{counted}
use Rattle.std.proofs.KnownBytes.{Consumes-kept, Consumes-trans}
use Rattle.sub_base.proofs.TransferSteps.{OnErr-of, HasRisen-since, HasRisenPast-since, Consumes-none, counted-more, given-none}
use Rattle.sub_base.proofs.transfer.read_all.Goals as goal

pub returns-in-Err-clause-part : goal.returns-in-Err-clause-part
returns-in-Err-clause-part g c =
    (c.loop-count.bytes.items, Consumes-kept _ _ _ _ c.loop-count.invariant.whole c.in-Err.ensures.bytes)

pub returns-in-Err-clause-read : goal.returns-in-Err-clause-read
returns-in-Err-clause-read g c = λ _. HasRisen-since _ _ _ c.loop-count.invariant.kept c.in-Err.ensures.cause

pub returns-then-count-eq0-clause-whole : goal.returns-then-count-eq0-clause-whole
returns-then-count-eq0-clause-whole g c =
    record {
      whole = Consumes-none _ _ _ _ _ _ c.loop-count.invariant.whole c.in-Ok.ensures.bytes.0 c.if-count-eq0.true;
      end = c.in-Ok.ensures.bytes.1 c.if-count-eq0.true (omega (arith, c.read.auto.buf, c.loop-count.invariant.room));
      within = omega arith;
      given = given-none _ _ _ _ _ c.in-Ok.ensures.given c.if-count-eq0.true c.loop-count.invariant.given;
    }

pub returns-then-count-limit-clause-part : goal.returns-then-count-limit-clause-part
returns-then-count-limit-clause-part g c = (
  c.loop-count.bytes.items
      ++ take c.in-Ok.count c.read.new.buf,
  Consumes-trans _ _ _ _ _ c.loop-count.invariant.whole
      c.in-Ok.ensures.bytes.0,
)

pub returns-then-count-limit-clause-long : goal.returns-then-count-limit-clause-long
returns-then-count-limit-clause-long g c =
    λ _. HasRisenPast-since c.args.limit _ (length c.loop-count.bytes.items) c.in-Ok.count _
    (omega (arith, c.loop-count.bytes.ok.0))
    (omega (arith, c.loop-count.bytes.ok.0))
    (c.in-Ok.ensures.given ∙ ap (λ k. counted k c.in-Ok.count) c.loop-count.invariant.given)

pub loop-count-preserved : goal.loop-count-preserved
loop-count-preserved g c =
    let e = c.in_ok-extend_from_slice.ensures.items in
    record {
      within = omega (arith, c.in_ok-extend_from_slice.ensures.len, sym c.in-Ok.ensures.bound.1);
      room = c.read.auto.buf ∙ c.loop-count.invariant.room;
      kept = omega arith;
      given =
          counted-more _ _ _ c.loop-count.bytes.items (take c.in-Ok.count c.read.new.buf) _ c.loop-count.invariant.given
          (c.in-Ok.ensures.given
          ∙ ap (λ k. counted ((g.A.Source.supplied c.loop-count.source).given) k) c.in-Ok.ensures.bound.1) e;
      whole = rw e (Consumes-trans _ _ _ _ _ c.loop-count.invariant.whole c.in-Ok.ensures.bytes.0);
    }

pub returns-in_err-extend_from_slice-clause-part : goal.returns-in_err-extend_from_slice-clause-part
returns-in_err-extend_from_slice-clause-part g c =
    let front : WasReadInPart (g.A.Source.supplied c.args.source.now) (g.A.Source.supplied c.read.new.self) = (
      c.loop-count.bytes.items
          ++ take c.in-Ok.count c.read.new.buf,
      Consumes-trans _ _ _ _ _ c.loop-count.invariant.whole
          c.in-Ok.ensures.bytes.0,
    ) in
    OnErr-of _ _ front
