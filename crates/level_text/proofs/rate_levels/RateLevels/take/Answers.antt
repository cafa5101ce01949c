-- What is told with one more packet.
use Rattle.std.proofs.Common.{◌∙◌, ℕ, ◌<◌, ◌≤◌, ◌^◌, ap, refl, sym, subst, arith}
use Rattle.std.proofs.lemmas.Result.{on_ok_weaker}
use Rattle.packet_walk.specs.Told.{TellsOne}
use Rattle.sub_base.specs.Pace.{tick_of}
use Rattle.sub_base.specs.declared.pace.Pace.{Pace}
use Rattle.level_text.specs.Levelling.{HasLevelled, Levelling}
use Rattle.level_text.specs.RateClock.{arrival_tick}
use Rattle.level_text.proofs.LevelLaws.{one_levelled}
use Rattle.level_text.proofs.rate_levels.RateLevels.take.Goals as goal

pub take-requires-clause-later : goal.take-requires-clause-later
take-requires-clause-later g c =
    let taken = c.requires.taken in
    let before =
    subst (λ (levelling : Levelling). levelling.sets.meter.last ≤ arrival_tick levelling.rate c.args.place)
    (sym c.self.view_is)
    (subst (λ (count : ℕ). c.args.self.now.sets.meter.last ≤ arrival_tick c.args.self.now.rate count) taken.counted
    taken.told.last) in
    omega (arith, before, c.tick-tick.ensures.tick)

pub take-requires-clause-tick : goal.take-requires-clause-tick
take-requires-clause-tick g c =
    subst (λ (pace : Pace). tick_of pace c.tick-tick.result < 2 ^ 63)
    (sym (ap (λ (levelling : Levelling). levelling.sets.meter.pace) c.self.view_is ∙ c.requires.taken.told.pace))
    (omega (arith, c.tick-tick.ensures.small))

pub returns-clause-told : goal.returns-clause-told
returns-clause-told g c =
    let rate = c.self.inside.clock.rate in
    on_ok_weaker c.take.result
    (λ told. subst
    (λ (levelling : Levelling). TellsOne HasLevelled (g.K.Sink.received c.args.out.now)
    (g.K.Sink.received c.take.new.out) levelling (record { sets = c.take.new.self; rate = rate }) c.args.buffer.now
    c.take.new.buffer c.args.place c.args.packet.now) c.self.view_is
    (one_levelled (g.K.Sink.received c.args.out.now) (g.K.Sink.received c.take.new.out)
    (record { sets = c.self.inside.sets; rate = rate }) (record { sets = c.take.new.self; rate = rate })
    c.args.buffer.now c.take.new.buffer c.args.place c.args.packet.now
    (told (arrival_tick rate) c.args.place (sym c.tick-tick.ensures.tick)) refl c.take.ensures.same
    c.take.ensures.pace c.self.invariant.least
    (omega (arith, c.take.ensures.last, c.tick-tick.ensures.tick))))
    c.take.ensures.told
