use Rattle.std.proofs.Common.{◌∙◌, sym, refl}
use Rattle.cue_list.proofs.EntryLaws.{filter-some}
use Rattle.cue_list.proofs.painting.has_live_cue.Goals as goal

pub returns-then-is_live_in : goal.returns-then-is_live_in
returns-then-is_live_in c = (
  (λ _ none. filter-some _ c.args.cues.now c.loop-cue.cue-index _ c.loop-cue-test.true
      (sym c.is_live_in.ensures ∙ c.if-is_live_in.true) none),
  λ _. refl,
)
