use Rattle.std.proofs.Common.{sym, ap, ◌∙◌, arith}
use lib.Count.{count_trailing_zeros}
use Rattle.pixel_codes.specs.Private.Maximal.{is_code, differs}
use Rattle.pixel_codes.proofs.LaneRuns.{run_bound, run_through, run_stops, not-not}
use Rattle.pixel_codes.proofs.maximal.end_of_run.Goals as goal

pub returns-then-found-ne0-clause-value : goal.returns-then-found-ne0-clause-value
returns-then-found-ne0-clause-value c =
    let found = c.differing-found in
    let a = c.args.code in
    let run =
    run_stops (differs a) (is_code a) (λ x. not-not (is_code a x)) c.args.codes.now c.loop-place.place 16
    (omega arith) (omega arith) (omega (arith, found.ensures))
    ∙ ap (count_trailing_zeros 64) (sym found.ensures) in
    omega (arith, run, c.loop-place.invariant.0)

pub returns-then-found-ne0-clause-bound : goal.returns-then-found-ne0-clause-bound
returns-then-found-ne0-clause-bound c =
    let found = c.differing-found in
    let a = c.args.code in
    let run =
    run_stops (differs a) (is_code a) (λ x. not-not (is_code a x)) c.args.codes.now c.loop-place.place 16
    (omega arith) (omega arith) (omega (arith, found.ensures))
    ∙ ap (count_trailing_zeros 64) (sym found.ensures) in
    omega (arith, run, run_bound (is_code a) c.args.codes.now c.loop-place.place c.loop-place.invariant.1)

pub loop-place-preserved : goal.loop-place-preserved
loop-place-preserved c =
    let a = c.args.code in
    let run =
    run_through (differs a) (is_code a) (λ x. not-not (is_code a x)) c.args.codes.now c.loop-place.place 16
    (omega arith) (omega (arith, c.differing-found.ensures)) in
    (omega (arith, run, c.loop-place.invariant.0), omega arith)
