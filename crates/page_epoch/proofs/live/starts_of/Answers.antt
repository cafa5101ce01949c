use Rattle.std.proofs.Common.{◌≡◌, ◌∙◌, ◌==◌, ℕ, List, map, filter, length, sym, ap, subst, rules, arith}
use Rattle.std.specs.List.Sorted.{IsPermutation, IsNonDecreasingBy}
use Rattle.std.proofs.lemmas.List.Sorted.{IsNonDecreasingBy-from_sort_by_key}
use Rattle.std.proofs.lemmas.Bool.{eq-eqb, ne_eqb}
use Rattle.page_epoch.specs.declared.live.CueStart.{CueStart}
use Rattle.page_epoch.specs.Live.{cue_at, start_at, places_below}
use Rattle.page_epoch.proofs.ListLaws.{keep_mapped, pass_mapped}
use Rattle.page_epoch.proofs.live.starts_of.Goals as goal
use Rattle.page_epoch.proofs.live.starts_of.Goals.{then-cue-region+in_ok-push, else-cue-region}

pub loop-place-preserved : goal.loop-place-preserved
loop-place-preserved c =
    let f = start_at c.args.cues.now in
    let p = λ (place : ℕ). (cue_at c.args.cues.now place).region == c.args.region in
    elim c.if-cue-region.branch [
      | then-cue-region+in_ok-push w ↦
          keep_mapped f p c.loop-place.place c.loop-place.starts.items _ c.loop-place.invariant
          (eq-eqb _ _ w.if-cue-region.true) (ap (λ own. own.items) w.starts-is ∙ w.in_ok-push.ensures.items)
      | else-cue-region w ↦ pass_mapped f p c.loop-place.place _
          (ap (λ own. own.items) w.starts-is ∙ c.loop-place.invariant) (ne_eqb _ _ w.if-cue-region.false)
    ]

pub returns : goal.returns
returns c =
    let Rises : List CueStart → Type 0 = λ xs. IsNonDecreasingBy (λ (start : CueStart). start.tick) xs in
    let all : c.loop-place.place ≡ length c.args.cues.now = omega arith in
    record {
      same =
          subst (λ (xs : List CueStart). IsPermutation xs c.new.result)
          (c.loop-place.invariant
          ∙ ap (λ (n : ℕ). map (start_at c.args.cues.now)
          (filter (λ place. (cue_at c.args.cues.now place).region == c.args.region) (places_below n))) all)
          (subst (λ (xs : List CueStart). IsPermutation c.loop-place.starts.items xs) (sym c.new.ensures)
          c.in_ok-sort_by_key.ensures.permutation);
      rise =
          subst Rises (sym c.new.ensures)
          (IsNonDecreasingBy-from_sort_by_key (λ (start : CueStart). start.tick) _ c.in_ok-sort_by_key.ensures.sorted
          (λ a r q k. search rules));
    }
