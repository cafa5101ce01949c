use Rattle.std.proofs.Common.{◌∙◌, [], refl, sym, subst, arith}
use Rattle.set_receiver.specs.Receiving.{reception}
use Rattle.splice.specs.Private.Surveyed.{HasGone}
use Rattle.splice.specs.declared.found.Found.{Found}
use Rattle.splice.specs.declared.found.Survey.TheVariants.{Whole}
use Rattle.splice.proofs.InputLaws.{come_further, come_to_end, hand_few, nothing_walked, nothing_within, walked_on}
use Rattle.splice.proofs.SurveyLaws.{gone_nowhere}
use Rattle.splice.proofs.input.read_through.Goals as goal

pub loop-end-init : goal.loop-end-init
loop-end-init g c = record {
  within = nothing_within c.args.packets.now c.requires.nothing;
  kept = omega arith;
  walked =
      nothing_walked (reception c.args.receiver.now) c.args.part _ c.args.joined.now c.args.receiver.now
      (Whole c.nothing-found.result) c.args.packets.now c.requires.nothing c.requires.source
      (subst (λ (found : Found). HasGone (reception c.args.receiver.now) c.args.part [] c.args.receiver.now found
      c.args.joined.now c.args.joined.now) (sym c.nothing-found.ensures)
      (gone_nowhere (reception c.args.receiver.now) c.args.part c.args.receiver.now c.args.joined.now refl
      c.requires.anchor c.requires.fresh c.requires.none));
}

pub returns-in-None-clause-gone : goal.returns-in-None-clause-gone
returns-in-None-clause-gone g c =
    come_to_end (g.A.Source.supplied c.fill.new.source) c.loop-end.joined c.loop-end.receiver c.loop-end.survey
    c.fill.new.self c.first.result c.in-Err.end (g.A.Source.supplied c.loop-end.source)
    (walked_on (g.A.Source.supplied c.loop-end.source) (g.A.Source.supplied c.fill.new.source) c.loop-end.joined
    c.loop-end.receiver c.loop-end.survey c.loop-end.packets c.fill.new.self c.loop-end.invariant.walked
    c.in-Err.ensures.stands) c.first.ensures c.in-Err.ensures.end (sym c.end_fault.ensures ∙ c.in-None.is)

pub go_on-requires-clause-few : goal.go_on-requires-clause-few
go_on-requires-clause-few g c =
    hand_few c.fill.new.self c.whole_count.result c.first-in-loop-end.result c.packets.result.now
    c.whole_count.ensures (λ past. let held = c.is_past.ensures.1 past in cc (held, c.if-is_past.false))
    c.first-in-loop-end.ensures c.packets.ensures

pub loop-end-preserved : goal.loop-end-preserved
loop-end-preserved g c = record {
  within = c.in_default.ensures.more.within;
  kept = omega (arith, c.loop-end.invariant.kept, c.in_default.ensures.kept);
  walked =
      come_further (g.A.Source.supplied c.fill.new.source) c.loop-end.joined c.go_on.new.joined c.loop-end.receiver
      c.go_on.new.receiver c.loop-end.survey c.in-Ok.further c.fill.new.self c.first-in-loop-end.result
      c.packets.result.now
      (walked_on (g.A.Source.supplied c.loop-end.source) (g.A.Source.supplied c.fill.new.source) c.loop-end.joined
      c.loop-end.receiver c.loop-end.survey c.loop-end.packets c.fill.new.self c.loop-end.invariant.walked
      c.in_default.ensures.stands) c.first-in-loop-end.ensures c.packets.ensures c.in-Ok.ensures;
}
