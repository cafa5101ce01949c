use Rattle.std.proofs.Common.{◌∙◌, ◌<◌, ◌^◌, Option, refl, sym, ap, subst}
use Rattle.std.specs.Prelude.{IsSome}
use Rattle.display_sets.specs.Gathered.{ReadySet}
use Rattle.splice.specs.Private.Puts.{IsPut}
use Rattle.splice.specs.Private.Surveys.{TakesSets, found_after, is_good}
use Rattle.splice.specs.declared.found.Found.{Found}
use Rattle.splice.proofs.StepLaws.{never_bad, never_good, set_passed, set_taken}
use Rattle.splice.proofs.stream_reader.take_next.Goals as goal

pub returns-then-not-is_good-clause-sets : goal.returns-then-not-is_good-clause-sets
returns-then-not-is_good-clause-sets c =
    set_passed c.args.part c.args.receiver.now c.take.new.self c.args.found.now c.args.joined.now c.take.result
    c.requires.next
    (λ ended packets given rest delivery next. c.take.ensures.stands ended packets given rest delivery next)
    (λ ended packets given rest delivery past one next are read. c.take.ensures.answer ended packets given rest
    delivery past one next are read)
    (λ ended packets given rest delivery past one next are read. c.take.ensures.load ended packets given rest
    delivery past one next are read)
    c.take.ensures.same (sym c.if-not-is_good.ensures)

pub returns-in_ok-put-clause-sets : goal.returns-in_ok-put-clause-sets
returns-in_ok-put-clause-sets c =
    subst (λ (found : Found). TakesSets c.args.part c.args.receiver.now c.take-end.new.self c.args.found.now found
    c.args.joined.now c.put.new.joined) (sym c.with_set.ensures)
    (set_taken c.args.part c.args.receiver.now c.take-end.new.self c.args.found.now c.args.joined.now
    c.put.new.joined c.in_ok-next.next c.take-end.result c.ready_at.result _
    (subst (λ (set : Option ReadySet). IsSome set) (sym c.ready_set.ensures.first) c.requires.ready)
    (λ fed ended given stands. c.ready_set.ensures.delivery fed ended given stands)
    (λ fed ended given rest delivery past one next are read. c.ready_at.ensures.next fed ended given rest delivery
    past one next are read)
    (λ delivery set is ready. c.in_ok-next.ensures delivery set is ready)
    (λ ended packets given rest delivery next. c.take-end.ensures.stands ended packets given rest delivery next)
    (λ ended packets given rest delivery past one next are read. c.take-end.ensures.answer ended packets given rest
    delivery past one next are read)
    (λ ended packets given rest delivery past one next are read. c.take-end.ensures.load ended packets given rest
    delivery past one next are read)
    c.take-end.ensures.same (sym c.if-not-is_good.ensures) c.requires.cut
    (subst (λ load. load.painted < 2 ^ 62) c.load-painted.ensures.load c.load-painted.ensures.painted)
    (λ good. subst (λ load. IsPut c.in_ok-next.next.placed load.painted c.args.joined.now c.put.new.joined)
    c.load-painted.ensures.load c.in_ok-put.ensures)
    (λ bad. absurd (never_bad (is_good (found_after c.args.part c.in_ok-next.next.glimpse c.take-end.result
    c.args.found.now).finding)
    (c.if-is_good.ensures ∙ ap (λ (found : Found). is_good found.finding) c.with_set.ensures) bad)))

pub returns-else-is_good-clause-sets : goal.returns-else-is_good-clause-sets
returns-else-is_good-clause-sets c =
    subst (λ (found : Found). TakesSets c.args.part c.args.receiver.now c.take-end.new.self c.args.found.now found
    c.args.joined.now c.args.joined.now) (sym c.with_set.ensures)
    (set_taken c.args.part c.args.receiver.now c.take-end.new.self c.args.found.now c.args.joined.now
    c.args.joined.now c.in_ok-next.next c.take-end.result c.ready_at.result _
    (subst (λ (set : Option ReadySet). IsSome set) (sym c.ready_set.ensures.first) c.requires.ready)
    (λ fed ended given stands. c.ready_set.ensures.delivery fed ended given stands)
    (λ fed ended given rest delivery past one next are read. c.ready_at.ensures.next fed ended given rest delivery
    past one next are read)
    (λ delivery set is ready. c.in_ok-next.ensures delivery set is ready)
    (λ ended packets given rest delivery next. c.take-end.ensures.stands ended packets given rest delivery next)
    (λ ended packets given rest delivery past one next are read. c.take-end.ensures.answer ended packets given rest
    delivery past one next are read)
    (λ ended packets given rest delivery past one next are read. c.take-end.ensures.load ended packets given rest
    delivery past one next are read)
    c.take-end.ensures.same (sym c.if-not-is_good.ensures) c.requires.cut
    (subst (λ load. load.painted < 2 ^ 62) c.load-painted.ensures.load c.load-painted.ensures.painted)
    (λ good. absurd (never_good (is_good (found_after c.args.part c.in_ok-next.next.glimpse c.take-end.result
    c.args.found.now).finding)
    (c.if-is_good.ensures ∙ ap (λ (found : Found). is_good found.finding) c.with_set.ensures) good))
    (λ bad. refl))
