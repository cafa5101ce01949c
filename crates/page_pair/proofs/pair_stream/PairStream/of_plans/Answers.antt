use Rattle.std.proofs.Common.{◌≡◌, ◌∙◌, List, length, ap, subst, arith}
use Rattle.schedule.specs.Packets.{first_packet}
use Rattle.schedule.specs.Slots.{IsOnTime, IsSchedule}
use Rattle.sub_base.specs.Pace.{pace_of}
use Rattle.sub_base.specs.Profile.{profile_of}
use Rattle.sub_base.specs.declared.load.WriteLoad.{WriteLoad}
use Rattle.page_pair.proofs.SendingLaws.{can_be_sent, is_paired, many_loads}
use Rattle.page_pair.proofs.pair_stream.PairStream.of_plans.Goals as goal

pub slots_of-requires-clause-many : goal.slots_of-requires-clause-many
slots_of-requires-clause-many c =
    ap length c.as_slice.ensures.value
    ∙ many_loads c.args.profile c.args.pid c.args.pages c.args.first.now c.args.second.now c.args.one.now
    c.args.two.now c.in-Ok.units c.requires.plans c.in-Ok.ensures.made

pub invariant_of-result : goal.invariant_of-result
invariant_of-result c =
    let table = c.in-Ok-slots_of.schedule in
    can_be_sent c.args.profile c.args.pid c.args.pages c.args.first.now c.args.second.now c.args.one.now
    c.args.two.now c.in-Ok.units c.requires.plans c.in-Ok.ensures.made table (omega (arith, c.requires.pid))
    (subst (λ (all : List WriteLoad). length table.slots ≡ first_packet all (length all)) c.as_slice.ensures.value
    c.in-Ok-slots_of.ensures.schedule.packets)
    c.in-Ok-slots_of.ensures.rise c.in-Ok-slots_of.ensures.small

pub returns-clause-paired : goal.returns-clause-paired
returns-clause-paired c =
    let table = c.in-Ok-slots_of.schedule in
    let pace = pace_of c.args.first.now.origin (profile_of c.args.profile) in
    is_paired c.args.profile c.args.pid c.args.pages c.args.first.now c.args.second.now c.args.one.now
    c.args.two.now c.in-Ok.units c.requires.plans c.in-Ok.ensures.made table
    (subst (λ (all : List WriteLoad). IsSchedule all (length all) pace table) c.as_slice.ensures.value
    c.in-Ok-slots_of.ensures.schedule)
    (subst (λ (all : List WriteLoad). IsOnTime all (length all) pace table) c.as_slice.ensures.value
    c.in-Ok-slots_of.ensures.on_time)
