-- What stands after a set that was refused, kept or not.
use Rattle.std.proofs.Common.{[], refl, sym}
use Rattle.decoder_model.specs.declared.set_end.SetEnd.TheVariants.{Broken}
use Rattle.page_core.proofs.Handed.Pasts.{refused_late, refused_stands, late_answer, kept_answer}
use Rattle.page_core.proofs.memory.Core.refuse_set.Goals as goal

pub returns-in-None-clause-stands : goal.returns-in-None-clause-stands
returns-in-None-clause-stands c past size stands =
    refused_late past c.args.pts size c.args.fault c.args.self.now (sym (c.in-None.ensures.lifted past size [] stands))
    stands

pub returns-in-None-clause-answer : goal.returns-in-None-clause-answer
returns-in-None-clause-answer c past size stands =
    late_answer past c.args.pts c.args.self.now (Broken c.args.fault) c.not_later.result stands
    (sym (c.in-None.ensures.lifted past size [] stands)) c.not_later.ensures

pub returns-in-Some-clause-stands : goal.returns-in-Some-clause-stands
returns-in-Some-clause-stands c past size stands =
    refused_stands past c.args.pts size c.in-Some.time c.args.fault c.args.self.now c.break_off.new.self stands
    (sym (c.in-Some.ensures.lifted past size [] stands))
    c.break_off.ensures.last c.break_off.ensures.same c.break_off.ensures.forgotten

pub returns-in-Some-clause-answer : goal.returns-in-Some-clause-answer
returns-in-Some-clause-answer c past size stands =
    kept_answer past c.args.pts c.in-Some.time c.args.self.now.anchor (Broken c.args.fault) (Broken c.args.fault)
    (sym (c.in-Some.ensures.lifted past size [] stands)) refl
