-- A kept set: it is known early what becomes of it, or it is one of an epoch.
use Rattle.std.proofs.Common.{◌∙◌, Some, None, refl, sym, ap, subst}
use Rattle.sub_base.specs.declared.profile.Profile.{Profile}
use Rattle.decoder_model.specs.Faults.{contents_in, epoch_fault}
use Rattle.decoder_model.specs.Verdict.{sets_since}
use Rattle.decoder_model.specs.declared.set_end.SetEnd.TheVariants.{Broken}
use Rattle.segments.specs.Contents.{page_value}
use Rattle.page_core.specs.Private.Accepted.{IsEarly}
use Rattle.page_core.proofs.Handed.Pasts.{ended_stands}
use Rattle.page_core.proofs.Handed.SetVerdicts.{in_epoch, verdict_is, shown_stands, same_twice}
use Rattle.page_core.proofs.memory.Core.take_kept.Goals as goal

pub returns-in-Err-clause-answer : goal.returns-in-Err-clause-answer
returns-in-Err-clause-answer c past pts size readings stands lifted are =
    sym (c.in-Err.ensures.taken past pts size readings stands lifted are).1

pub returns-in-Err-clause-kept : goal.returns-in-Err-clause-kept
returns-in-Err-clause-kept c last is = subst IsEarly is c.in-Err.ensures.early

pub returns-in-Err-clause-known : goal.returns-in-Err-clause-known
returns-in-Err-clause-known c is = absurd (subst IsEarly is c.in-Err.ensures.early)

pub returns-in-None-clause-answer : goal.returns-in-None-clause-answer
returns-in-None-clause-answer c past pts size readings stands lifted are =
    let early = c.in-Ok.ensures.taken past pts size readings stands lifted are in
    let set = contents_in readings in
    let page = page_value c.in-Ok.accepted.page in
    let sets = sets_since c.args.self.now.profile c.args.self.now.anchor past in
    let e = in_epoch sets set c.in-Ok.accepted.start c.take_early.new.self c.in-Ok.ensures.start early.1 in
    let fault = c.in-None.ensures.fault set e.before e.is_before early.0.found early.0.sound early.0.page
    ∙ ap (λ (p : Profile). epoch_fault p e.before set page) c.in-Ok.ensures.same.profile in
    verdict_is c.args.self.now.profile sets e.before readings page None early.0.verdict e.epoch fault

pub returns-in-None-clause-stands : goal.returns-in-None-clause-stands
returns-in-None-clause-stands c past pts size readings stands lifted are =
    let early = c.in-Ok.ensures.taken past pts size readings stands lifted are in
    let set = contents_in readings in
    let page = page_value c.in-Ok.accepted.page in
    let sets = sets_since c.args.self.now.profile c.args.self.now.anchor past in
    let e = in_epoch sets set c.in-Ok.accepted.start c.take_early.new.self c.in-Ok.ensures.start early.1 in
    let fault = c.in-None.ensures.fault set e.before e.is_before early.0.found early.0.sound early.0.page
    ∙ ap (λ (p : Profile). epoch_fault p e.before set page) c.in-Ok.ensures.same.profile in
    let verdict = verdict_is c.args.self.now.profile sets e.before readings page None early.0.verdict e.epoch fault in
    shown_stands past pts size c.args.time readings e.before page c.args.self.now c.take_in_epoch.new.self lifted
    (sym verdict) e.epoch early.0.page
    (c.in-None.ensures.last ∙ c.in-Ok.ensures.last) (same_twice c.in-Ok.ensures.same c.in-None.ensures.same)
    (c.in-None.ensures.taken set e.before e.is_before early.0.found early.0.sound early.0.page refl)

pub returns-in-Some-clause-answer : goal.returns-in-Some-clause-answer
returns-in-Some-clause-answer c past pts size readings stands lifted are =
    let early = c.in-Ok.ensures.taken past pts size readings stands lifted are in
    let set = contents_in readings in
    let page = page_value c.in-Ok.accepted.page in
    let sets = sets_since c.args.self.now.profile c.args.self.now.anchor past in
    let e = in_epoch sets set c.in-Ok.accepted.start c.take_early.new.self c.in-Ok.ensures.start early.1 in
    let fault = c.in-Some.ensures.fault set e.before e.is_before early.0.found early.0.sound early.0.page
    ∙ ap (λ (p : Profile). epoch_fault p e.before set page) c.in-Ok.ensures.same.profile in
    verdict_is c.args.self.now.profile sets e.before readings page (Some c.in-Some.fault) early.0.verdict e.epoch fault

pub returns-in-Some-clause-stands : goal.returns-in-Some-clause-stands
returns-in-Some-clause-stands c past pts size readings stands lifted are =
    let early = c.in-Ok.ensures.taken past pts size readings stands lifted are in
    let set = contents_in readings in
    let page = page_value c.in-Ok.accepted.page in
    let sets = sets_since c.args.self.now.profile c.args.self.now.anchor past in
    let e = in_epoch sets set c.in-Ok.accepted.start c.take_early.new.self c.in-Ok.ensures.start early.1 in
    let fault = c.in-Some.ensures.fault set e.before e.is_before early.0.found early.0.sound early.0.page
    ∙ ap (λ (p : Profile). epoch_fault p e.before set page) c.in-Ok.ensures.same.profile in
    let verdict =
    verdict_is c.args.self.now.profile sets e.before readings page (Some c.in-Some.fault) early.0.verdict e.epoch
    fault in
    ended_stands past pts size c.args.time readings (Broken c.in-Some.fault) c.args.self.now c.forget.new.self stands
    lifted (sym verdict) tt
    (c.forget.ensures.last ∙ c.in-Some.ensures.last ∙ c.in-Ok.ensures.last)
    (same_twice (same_twice c.in-Ok.ensures.same c.in-Some.ensures.same) c.forget.ensures.same)
    c.forget.ensures.forgotten
