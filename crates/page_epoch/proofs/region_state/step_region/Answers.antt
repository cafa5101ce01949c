use Rattle.std.proofs.Common.{◌≡◌, ◌∙◌, ◌+◌, ℕ, List, max, map, filter, length, sym, ap, subst, arith}
use Rattle.std.specs.List.{slice_range}
use Rattle.std.specs.List.Sorted.{IsStrictlyIncreasing}
use Rattle.cue_list.specs.Authored.{is_live}
use Rattle.page_epoch.specs.declared.live.CueStart.{CueStart}
use Rattle.page_epoch.specs.declared.region_state.RegionState.{RegionState}
use Rattle.page_epoch.specs.Live.{cue_at, started_by, times, AreStarts}
use Rattle.page_epoch.specs.SentRegions.{live_before}
use Rattle.page_epoch.specs.EpochStates.{region_after}
use Rattle.page_epoch.proofs.LiveLaws.{before_rise, started_are, started_order, few_begins, live_on}
use Rattle.page_epoch.proofs.region_state.step_region.Goals as goal

pub after-requires-clause-live : goal.after-requires-clause-live
after-requires-clause-live c =
    omega (arith, c.in_ok-live.ensures.few, ap length c.as_slice-old.ensures, c.requires.small.live, c.max.ensures)

pub after-requires-clause-few : goal.after-requires-clause-few
after-requires-clause-few c =
    let starts = few_begins c.args.cues.now c.args.region.now.id c.args.region.now.starts c.requires.own in
    omega (
      arith,
      c.max.ensures,
      c.count_started-started.ensures.few,
      ap length
          c.as_slice-starts.ensures,
      starts,
      c.requires.few,
      c.requires.small.started,
    )

pub returns-clause-next : goal.returns-clause-next
returns-clause-next c = λ seen is after.
    let cues = c.args.cues.now in
    let id = c.args.region.now.id in
    let tick = c.args.tick in
    let starts = c.as_slice-starts.result.now in
    let count = c.count_started-started.result in
    let live = λ (place : ℕ). is_live tick (cue_at cues place) in
    let place = λ (start : CueStart). start.place in
    let are = subst (λ (xs : List CueStart). AreStarts cues id xs) (sym c.as_slice-starts.ensures) c.requires.own in
    let point = c.count_started-started.ensures.point are.rise in
    let few = c.count_started-started.ensures.few in
    let started = ap (λ (x : RegionState). x.started) is in
    let old = c.as_slice-old.ensures ∙ ap (λ (x : RegionState). x.live) is in
    let Rises : List ℕ → Type 0 = λ xs. IsStrictlyIncreasing xs in
    let new =
    live_on cues id starts tick count seen c.in_ok-live.live are few point after
    (c.in_ok-live.ensures.order (subst Rises (sym old) (before_rise cues id seen))) (λ v.
    c.in_ok-live.ensures.same v
    ∙ ap (λ xs. times v (filter live xs)
    + times v (filter live (map place (slice_range starts c.args.current.now.started count)))) old
    ∙ ap (λ (n : ℕ). times v (filter live (live_before cues id seen))
    + times v (filter live (map place (slice_range starts n count)))) started) in
    let order = started_order cues id starts tick count seen are few point after in
    let most : max count c.args.current.now.started ≡ count = omega (arith, started, order) in
    c.after.ensures.next
    ∙ ap (λ (n : ℕ). region_after c.args.first c.args.current.now n c.in_ok-live.live)
    (c.max.ensures ∙ most ∙ started_are cues id starts tick count are few point)
    ∙ ap (λ (xs : List ℕ). region_after c.args.first c.args.current.now (started_by cues id tick) xs) new
