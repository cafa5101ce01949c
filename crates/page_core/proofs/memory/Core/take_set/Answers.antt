-- What stands after a set, kept or not.
use Rattle.std.proofs.Common.{sym}
use Rattle.decoder_model.specs.Verdict.{sets_since, verdict_on_kept}
use Rattle.page_core.proofs.Handed.Pasts.{whole_late, late_answer, kept_answer}
use Rattle.page_core.proofs.memory.Core.take_set.Goals as goal

pub returns-in-None-clause-stands : goal.returns-in-None-clause-stands
returns-in-None-clause-stands c past size readings stands are =
    whole_late past c.args.pts size readings c.args.self.now (sym (c.in-None.ensures.lifted past size readings stands))
    stands

pub returns-in-None-clause-answer : goal.returns-in-None-clause-answer
returns-in-None-clause-answer c past size readings stands are =
    late_answer past c.args.pts c.args.self.now
    (verdict_on_kept c.args.self.now.profile (sets_since c.args.self.now.profile c.args.self.now.anchor past)
    readings) c.not_later.result stands
    (sym (c.in-None.ensures.lifted past size readings stands)) c.not_later.ensures

pub returns-in-Some-clause-stands : goal.returns-in-Some-clause-stands
returns-in-Some-clause-stands c past size readings stands are =
    c.take_kept.ensures.stands past c.args.pts size readings stands
    (sym (c.in-Some.ensures.lifted past size readings stands)) are

pub returns-in-Some-clause-answer : goal.returns-in-Some-clause-answer
returns-in-Some-clause-answer c past size readings stands are =
    let lifted = sym (c.in-Some.ensures.lifted past size readings stands) in
    kept_answer past c.args.pts c.in-Some.time c.args.self.now.anchor
    (verdict_on_kept c.args.self.now.profile (sets_since c.args.self.now.profile c.args.self.now.anchor past)
    readings) c.take_kept.result lifted
    (c.take_kept.ensures.answer past c.args.pts size readings stands lifted are)
