use Rattle.std.proofs.Common.{◌≡◌, ◌∙◌, ◌+◌, ◌-◌, ◌==◌, ◌≤◌, ℕ, List, cond, map, filter, length, sym, ap, subst, arith}
use Rattle.std.specs.List.{slice_range}
use Rattle.std.specs.List.Sorted.{IsNonDecreasing}
use Rattle.std.proofs.lemmas.List.{length-append, length-map}
use Rattle.std.proofs.lemmas.List.Kept.{IsStrictlyIncreasing-filter}
use Rattle.std.proofs.lemmas.List.Sorted.{sum_by-IsPermutation, length_permutation, IsNonDecreasingBy-from_sort}
use Rattle.cue_list.specs.Authored.{is_live}
use Rattle.page_epoch.specs.declared.live.CueStart.{CueStart}
use Rattle.page_epoch.specs.Live.{cue_at, times}
use Rattle.page_epoch.proofs.ListLaws.{length_kept}
use Rattle.page_epoch.proofs.CountLaws.{count_append}
use Rattle.page_epoch.proofs.LiveLaws.{falls_not, no_range, few_in_range}
use Rattle.page_epoch.proofs.live.live_after.Goals as goal
use Rattle.page_epoch.proofs.live.live_after.Goals.{then-before-started+in_ok-push_live+in_ok-sort, else-before-started}

pub returns-clause-same : goal.returns-clause-same
returns-clause-same c = λ v.
    let live = λ (place : ℕ). is_live c.args.tick (cue_at c.args.cues.now place) in
    let place = λ (start : CueStart). start.place in
    let run = slice_range c.args.starts.now c.args.before c.args.started in
    let old = ap (times v) c.in_ok-live.ensures in
    ap (times v) c.new.ensures ∙ elim c.if-before-started.branch [
      | then-before-started+in_ok-push_live+in_ok-sort w ↦
          ap (λ xs. times v xs.items) w.live-is
          ∙ sum_by-IsPermutation (λ (other : ℕ). cond {A = ℕ} (other == v) 1 0) w.push_live.new.live.items
          w.sort.new.self.items w.in_ok-sort.ensures.permutation
          ∙ ap (times v) w.in_ok-push_live.ensures
          ∙ count_append (λ (other : ℕ). other == v) c.in_ok-live.live.items (filter live (map place run))
          ∙ ap (λ (n : ℕ). n + times v (filter live (map place run))) old
      | else-before-started w ↦
          let none =
          ap (λ (xs : List CueStart). times v (filter live (map place xs)))
          (no_range c.args.starts.now c.args.before c.args.started (grind arith)) in
          ap (λ xs. times v xs.items) w.live-is ∙ old
          ∙ (let all : times v (filter live c.args.old.now)
          ≡ times v (filter live c.args.old.now) + times v (filter live (map place run)) = omega arith in all)
    ]

pub returns-clause-order : goal.returns-clause-order
returns-clause-order c = λ rise.
    let live = λ (place : ℕ). is_live c.args.tick (cue_at c.args.cues.now place) in
    let Rises : List ℕ → Type 0 = λ xs. IsNonDecreasing xs in
    subst Rises (sym c.new.ensures) (elim c.if-before-started.branch [
      | then-before-started+in_ok-push_live+in_ok-sort w ↦ subst Rises (sym (ap (λ xs. xs.items) w.live-is))
          (IsNonDecreasingBy-from_sort (λ (x : ℕ). x) w.sort.new.self.items w.in_ok-sort.ensures.sorted)
      | else-before-started w ↦
          subst Rises (sym (ap (λ xs. xs.items) w.live-is ∙ c.in_ok-live.ensures))
          (falls_not (filter live c.args.old.now) (IsStrictlyIncreasing-filter live c.args.old.now rise))
    ])

pub returns-clause-few : goal.returns-clause-few
returns-clause-few c =
    let live = λ (place : ℕ). is_live c.args.tick (cue_at c.args.cues.now place) in
    let place = λ (start : CueStart). start.place in
    let run = slice_range c.args.starts.now c.args.before c.args.started in
    let Few : List ℕ → Type 0 = λ xs. length xs ≤ length c.args.old.now + (c.args.started - c.args.before) in
    let old = ap length c.in_ok-live.ensures in
    let kept = length_kept live c.args.old.now in
    subst Few (sym c.new.ensures) (elim c.if-before-started.branch [
      | then-before-started+in_ok-push_live+in_ok-sort w ↦
          let moved =
          length_permutation w.push_live.new.live.items w.sort.new.self.items w.in_ok-sort.ensures.permutation in
          let pushed = ap length w.in_ok-push_live.ensures in
          let both = length-append c.in_ok-live.live.items (filter live (map place run)) in
          let more = length_kept live (map place run) in
          let mapped = length-map run place in
          let few = few_in_range c.args.starts.now c.args.before c.args.started in
          subst Few (sym (ap (λ xs. xs.items) w.live-is)) (omega arith)
      | else-before-started w ↦ subst Few (sym (ap (λ xs. xs.items) w.live-is)) (omega arith)
    ])
