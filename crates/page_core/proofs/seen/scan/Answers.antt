-- The walk over the segments of a set.
use Rattle.std.proofs.Common.{[], ◌<◌, arith, length, refl, option_map}
use Rattle.segments.specs.Contents.{page_value, display_value}
use Rattle.page_core.proofs.Sets.Scanning.{reads_front, goes_on, is_refused, ends}
use Rattle.page_core.proofs.Sets.SetLaws.{sound}
use Rattle.page_core.proofs.seen.scan.Goals as goal

pub loop-front-init : goal.loop-front-init
loop-front-init c readings are =
    record {
      before = [];
      left = readings;
      are_left = are;
      flags = c.nothing-seen.ensures;
      fault = refl;
      first_page = refl;
      first_display = refl;
      defined = λ id. refl;
    }

pub returns-in-Err-clause-found : goal.returns-in-Err-clause-found
returns-in-Err-clause-found c readings are =
    let some : 0 < length c.loop-front.rest.now = let shorter = c.in-Some.ensures.shorter in omega arith in
    is_refused readings c.loop-front.seen c.see.new.seen (option_map page_value c.loop-front.page)
    (option_map display_value c.loop-front.display) c.loop-front.rest.now c.in-Some.front.rest.now c.read_one.result
    c.in-Err.fault
    some (reads_front c.loop-front.rest.now c.in-Some.front c.read_one.result c.in-Some.ensures.cut
    c.read_one.ensures.matches) c.in-Err.ensures (c.loop-front.invariant readings are)

pub loop-front-preserved : goal.loop-front-preserved
loop-front-preserved c readings are =
    let some : 0 < length c.loop-front.rest.now = let shorter = c.in-Some.ensures.shorter in omega arith in
    let p =
    goes_on readings c.loop-front.seen c.see.new.seen (option_map page_value c.loop-front.page)
    (option_map display_value c.loop-front.display) c.loop-front.rest.now c.in-Some.front.rest.now c.read_one.result
    c.in-Ok.segment
    some (reads_front c.loop-front.rest.now c.in-Some.front c.read_one.result c.in-Some.ensures.cut
    c.read_one.ensures.matches) c.in-Ok.ensures (c.loop-front.invariant readings are) in
    rw (c.with_page-page.ensures, c.with_display-display.ensures) p

pub returns-clause-found : goal.returns-clause-found
returns-clause-found c readings are =
    let all =
    ends readings c.loop-front.seen (option_map page_value c.loop-front.page)
    (option_map display_value c.loop-front.display) c.loop-front.rest.now
    c.in_default.ensures.cut (c.loop-front.invariant readings are) in
    (all.0, record { page = all.1; display = all.2; regions = all.3 })

pub returns-clause-sound : goal.returns-clause-sound
returns-clause-sound c readings are =
    let all =
    ends readings c.loop-front.seen (option_map page_value c.loop-front.page)
    (option_map display_value c.loop-front.display) c.loop-front.rest.now
    c.in_default.ensures.cut (c.loop-front.invariant readings are) in
    sound readings c.args.bytes.now all.0 are
