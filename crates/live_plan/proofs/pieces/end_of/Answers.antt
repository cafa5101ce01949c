use Rattle.std.proofs.Common.{◌<◌, length, get_or, arith}
use Rattle.std.proofs.lemmas.Bool.Decides.{nat_tests}
use Rattle.live_plan.proofs.PieceLaws.{goes_there, look_ended, look_more}
use Rattle.live_plan.proofs.pieces.end_of.Goals as goal

pub returns-then-not-is_quoted : goal.returns-then-not-is_quoted
returns-then-not-is_quoted c =
    let place = c.loop-place.place in
    let inside : place < length c.args.bytes.now = omega arith in
    look_ended c.args.was_quoted c.loop-place.is_quoted c.args.bytes.now place inside
    (grind (arith, nat_tests)) c.loop-place.invariant

pub loop-place-preserved : goal.loop-place-preserved
loop-place-preserved c =
    let place = c.loop-place.place in
    let inside : place < length c.args.bytes.now = omega arith in
    look_more c.args.was_quoted c.loop-place.is_quoted c.turned-is_quoted.result c.args.bytes.now place inside
    (goes_there (get_or c.args.bytes.now place 0) c.loop-place.is_quoted c.else-byte-eq10.either)
    c.turned-is_quoted.ensures c.loop-place.invariant
