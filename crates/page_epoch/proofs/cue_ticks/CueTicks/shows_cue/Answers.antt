use Rattle.std.proofs.Common.{◌∙◌, ℕ, List, nat_le, sym, ap, subst}
use Rattle.std.specs.List.{count_by}
use Rattle.std.specs.List.Sorted.{IsNonDecreasing}
use Rattle.page_epoch.proofs.ShowLaws.{shown_by_counts}
use Rattle.page_epoch.proofs.cue_ticks.CueTicks.shows_cue.Goals as goal

pub returns : goal.returns
returns c = λ epochs are lasting.
    let Rises : List ℕ → Type 0 = λ xs. IsNonDecreasing xs in
    let count = λ (xs : List ℕ). count_by (λ other. nat_le other c.args.tick) xs in
    shown_by_counts epochs c.args.self.now c.args.tick c.count_by_tick-2.result c.count_by_tick.result are lasting
    (c.count_by_tick-2.ensures (subst Rises (sym c.as_slice-2.ensures) are.starts_rise)
    ∙ ap count c.as_slice-2.ensures)
    (c.count_by_tick.ensures (subst Rises (sym c.as_slice.ensures) are.ends_rise) ∙ ap count c.as_slice.ensures)
