use Rattle.std.proofs.Common.{◌≡◌, ◌∙◌, ◌+◌, ℕ, length, take, ap, arith, subst, sym}
use Rattle.std.proofs.lemmas.Result.{err_from_is_err_and}
use Rattle.sub_base.specs.Counts.{counted}
use Rattle.live_plan.proofs.ReadLaws.{HasReadOn, nothing_read, read_failed, read_further, read_stopped, read_too_long, read_whole}
use Rattle.live_plan.specs.Pieces.{pieces_of}
use Rattle.live_plan.specs.Private.Running.{begun_of}
use Rattle.live_plan.proofs.reading.read_script.Goals as goal

pub loop-count-init : goal.loop-count-init
loop-count-init g c = record {
  within = omega arith;
  room = c.requires.room;
  is_open = c.requires.open;
  few = omega (arith, c.requires.count);
  on = nothing_read (g.A.Source.supplied c.args.script.now) (g.K.Sink.received c.args.out.now)
      (g.N.Sink.received c.args.notes.now) c.args.run.now c.args.cutter.now c.requires.fresh c.requires.begins;
}

pub returns-in-Err-clause-stop : goal.returns-in-Err-clause-stop
returns-in-Err-clause-stop g c =
    let begun =
    begun_of c.args.run.now (g.K.Sink.received c.args.out.now) (g.N.Sink.received c.args.notes.now) in
    read_failed begun (g.A.Source.supplied c.args.script.now) (g.A.Source.supplied c.loop-count.script)
    (g.A.Source.supplied c.read.new.self) c.loop-count.total (g.K.Sink.received c.loop-count.out)
    (g.N.Sink.received c.loop-count.notes) c.loop-count.run c.loop-count.cutter c.loop-count.invariant.on
    c.in-Err.ensures.bytes c.in-Err.ensures.cause

pub returns-then-count-eq0-clause-read : goal.returns-then-count-eq0-clause-read
returns-then-count-eq0-clause-read g c =
    let begun =
    begun_of c.args.run.now (g.K.Sink.received c.args.out.now) (g.N.Sink.received c.args.notes.now) in
    read_whole begun (g.A.Source.supplied c.args.script.now) (g.A.Source.supplied c.loop-count.script)
    (g.A.Source.supplied c.read.new.self) c.loop-count.total (g.K.Sink.received c.loop-count.out)
    (g.N.Sink.received c.loop-count.notes) c.loop-count.run c.loop-count.cutter c.loop-count.invariant.on
    c.read.new.buf c.in-Ok.count c.if-count-eq0.true c.loop-count.invariant.within c.in-Ok.ensures.bytes.0
    (c.in-Ok.ensures.bytes.1 c.if-count-eq0.true (omega (arith, c.read.auto.buf, c.loop-count.invariant.room)))
    c.in-Ok.ensures.given

pub returns-then-count-total-clause-stop : goal.returns-then-count-total-clause-stop
returns-then-count-total-clause-stop g c =
    let begun =
    begun_of c.args.run.now (g.K.Sink.received c.args.out.now) (g.N.Sink.received c.args.notes.now) in
    let last = take c.in-Ok.count c.read.new.buf in
    let long : c.in-Ok.count ≡ length last = c.in-Ok.ensures.bound.1 in
    read_too_long begun (g.A.Source.supplied c.args.script.now) (g.A.Source.supplied c.loop-count.script)
    (g.A.Source.supplied c.read.new.self) c.loop-count.total (g.K.Sink.received c.loop-count.out)
    (g.N.Sink.received c.loop-count.notes) c.loop-count.run c.loop-count.cutter c.loop-count.invariant.on last
    (omega (arith, long, c.in-Ok.ensures.bound.0, c.read.auto.buf, c.loop-count.invariant.room))
    c.in-Ok.ensures.bytes.0 (omega (arith, long, c.if-count-total.true)) c.loop-count.invariant.within
    (c.in-Ok.ensures.given ∙ ap (counted (g.A.Source.supplied c.loop-count.script).given) long)

pub returns-in_err-take_bytes-clause-stop : goal.returns-in_err-take_bytes-clause-stop
returns-in_err-take_bytes-clause-stop g c =
    let begun =
    begun_of c.args.run.now (g.K.Sink.received c.args.out.now) (g.N.Sink.received c.args.notes.now) in
    let last = take c.in-Ok.count c.read.new.buf in
    let long : c.in-Ok.count ≡ length last = c.in-Ok.ensures.bound.1 in
    let on = c.loop-count.invariant.on in
    let p = err_from_is_err_and c.from_residual.result c.from_residual.ensures.1 in
    rw (p.1, p.2)
    (read_stopped begun (g.A.Source.supplied c.args.script.now) (g.A.Source.supplied c.loop-count.script)
    (g.A.Source.supplied c.read.new.self) c.loop-count.total (g.K.Sink.received c.loop-count.out)
    (g.N.Sink.received c.loop-count.notes) c.loop-count.run c.loop-count.cutter on last
    (omega (arith, long, c.in-Ok.ensures.bound.0, c.read.auto.buf, c.loop-count.invariant.room))
    c.in-Ok.ensures.bytes.0 (g.K.Sink.received c.take_bytes.new.out) (g.N.Sink.received c.take_bytes.new.notes)
    c.take_bytes.new.run c.take_bytes.new.cutter c.in_err-take_bytes.field-0.0
    (c.in_err-take_bytes.ensures.taken begun (pieces_of on.text).whole on.paid))

pub loop-count-preserved : goal.loop-count-preserved
loop-count-preserved g c =
    let begun =
    begun_of c.args.run.now (g.K.Sink.received c.args.out.now) (g.N.Sink.received c.args.notes.now) in
    let source = g.A.Source.supplied c.args.script.now in
    let now = g.A.Source.supplied c.read.new.self in
    let out = g.K.Sink.received c.take_bytes.new.out in
    let notes = g.N.Sink.received c.take_bytes.new.notes in
    let last = take c.in-Ok.count c.read.new.buf in
    let long : c.in-Ok.count ≡ length last = c.in-Ok.ensures.bound.1 in
    let on = c.loop-count.invariant.on in
    record {
      within = omega (arith, c.if-count-total.false, c.loop-count.invariant.within);
      room = c.read.auto.buf ∙ c.loop-count.invariant.room;
      is_open = c.in_ok-take_bytes.ensures.open;
      few = omega (arith, long, c.in_ok-take_bytes.ensures.counted, c.loop-count.invariant.few);
      on = subst (λ (n : ℕ). HasReadOn begun source now (c.loop-count.total + n) out notes c.take_bytes.new.run
          c.take_bytes.new.cutter) (sym long)
          (read_further begun source (g.A.Source.supplied c.loop-count.script) now c.loop-count.total
          (g.K.Sink.received c.loop-count.out) (g.N.Sink.received c.loop-count.notes) c.loop-count.run
          c.loop-count.cutter on last
          (omega (arith, long, c.in-Ok.ensures.bound.0, c.read.auto.buf, c.loop-count.invariant.room))
          c.in-Ok.ensures.bytes.0 out notes c.take_bytes.new.run c.take_bytes.new.cutter
          (c.in_ok-take_bytes.ensures.taken begun (pieces_of on.text).whole on.paid)
          (c.in-Ok.ensures.given ∙ ap (counted (g.A.Source.supplied c.loop-count.script).given) long)
          c.read.ensures.kept);
    }
