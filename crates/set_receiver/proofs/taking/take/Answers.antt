-- A set that is ready is taken.
use Rattle.std.proofs.Common.{ℕ, ◌∷◌, [], ◌∙◌, Some, sym, ap, subst}
use Rattle.decoder_model.specs.Painting.{set_load}
use Rattle.decoder_model.specs.Readings.{Reading}
use Rattle.decoder_model.specs.Sets.{Delivery}
use Rattle.decoder_model.specs.Verdict.{verdict_of}
use Rattle.display_sets.specs.Lent.{lent, lent_content}
use Rattle.page_core.specs.Memory.{IsMemoryAfter}
use Rattle.set_receiver.proofs.Loads.{ready_refused, ready_whole, refused_load, verdict_says, whole_load}
use Rattle.set_receiver.proofs.taking.take.Goals as goal

pub returns-in-Ok-clause-stands : goal.returns-in-Ok-clause-stands
returns-in-Ok-clause-stands c past delivery one ready read stands =
    let found =
    ready_whole (lent c.args.ready) c.in-Ok.bytes.now delivery one (ap lent_content c.in-Ok.is) ready read in
    subst (λ (d : Delivery Reading). IsMemoryAfter (d ∷ past) c.take_set-end.new.self) (sym found.2)
    (c.take_set-end.ensures.stands past c.args.ready.size found.0 stands found.1)

pub returns-in-Ok-clause-answer : goal.returns-in-Ok-clause-answer
returns-in-Ok-clause-answer c past delivery one ready read stands =
    let found =
    ready_whole (lent c.args.ready) c.in-Ok.bytes.now delivery one (ap lent_content c.in-Ok.is) ready read in
    c.take_set-end.ensures.answer past c.args.ready.size found.0 stands found.1
    ∙ ap (verdict_of c.args.core.now.profile c.args.core.now.anchor past) (sym found.2)

pub returns-in-Ok-clause-load : goal.returns-in-Ok-clause-load
returns-in-Ok-clause-load c past delivery one ready read stands =
    let found =
    ready_whole (lent c.args.ready) c.in-Ok.bytes.now delivery one (ap lent_content c.in-Ok.is) ready read in
    let answer = c.take_set-end.ensures.answer past c.args.ready.size found.0 stands found.1 in
    let lifted = c.lift.ensures.lifted past c.args.ready.size found.0 stands in
    let says =
    verdict_says c.args.core.now.profile c.args.core.now.anchor past c.args.ready.time
    c.args.ready.size found.0 c.take_set-end.result answer in
    ap (λ (n : ℕ). Some (record { pts = n; size = c.args.ready.size; painted = c.painted-painted.result }))
    c.unwrap_or-pts.ensures
    ∙ whole_load c.args.core.now.profile c.args.core.now.anchor past c.args.ready.time c.args.ready.size
    c.painted-painted.result found.0 c.take_set-end.result c.lift.result lifted answer
    (c.painted-painted.ensures.painting found.0 found.1 says)
    ∙ ap (set_load c.args.core.now.profile c.args.core.now.anchor past) (sym found.2)

pub returns-in-Err-clause-stands : goal.returns-in-Err-clause-stands
returns-in-Err-clause-stands c past delivery one ready read stands =
    let is = ready_refused (lent c.args.ready) c.in-Err.fault delivery one (ap lent_content c.in-Err.is) ready read in
    subst (λ (d : Delivery Reading). IsMemoryAfter (d ∷ past) c.refuse_set.new.self) (sym is)
    (c.refuse_set.ensures.stands past c.args.ready.size stands)

pub returns-in-Err-clause-answer : goal.returns-in-Err-clause-answer
returns-in-Err-clause-answer c past delivery one ready read stands =
    let is = ready_refused (lent c.args.ready) c.in-Err.fault delivery one (ap lent_content c.in-Err.is) ready read in
    c.refuse_set.ensures.answer past c.args.ready.size stands
    ∙ ap (verdict_of c.args.core.now.profile c.args.core.now.anchor past) (sym is)

pub returns-in-Err-clause-load : goal.returns-in-Err-clause-load
returns-in-Err-clause-load c past delivery one ready read stands =
    let is = ready_refused (lent c.args.ready) c.in-Err.fault delivery one (ap lent_content c.in-Err.is) ready read in
    let lifted = c.lift.ensures.lifted past c.args.ready.size [] stands in
    ap (λ (n : ℕ). Some (record { pts = n; size = c.args.ready.size; painted = 0 })) c.unwrap_or-pts.ensures
    ∙ refused_load c.args.core.now.profile c.args.core.now.anchor past c.args.ready.time
    c.args.ready.size c.in-Err.fault c.lift.result lifted
    ∙ ap (set_load c.args.core.now.profile c.args.core.now.anchor past) (sym is)
