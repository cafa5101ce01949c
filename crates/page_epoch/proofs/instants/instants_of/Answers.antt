use Rattle.std.proofs.Common.{◌≡◌, ◌∙◌, ◌+◌, ℕ, List, length, get_or, sym, ap, subst, arith}
use Rattle.std.proofs.lemmas.List.{get_or_default}
use Rattle.page_epoch.specs.declared.events.Event.{Event}
use Rattle.page_epoch.specs.declared.instants.Instant.{Instant}
use Rattle.page_epoch.specs.Rows.{AreLeastEvents, event}
use Rattle.page_epoch.proofs.InstantLaws.{AreRecordedInstantsUpTo, AreRecordedInstantsUpTo-none}
use Rattle.page_epoch.proofs.LastInstants.{AreRecordedInstantsUpTo-refreshed, AreRecordedInstantsUpTo-alone, AreRecordedInstants-all, small_there}
use Rattle.std.proofs.lemmas.Bool.{false≢true}
use Rattle.page_epoch.proofs.instants.instants_of.Goals as goal
use Rattle.page_epoch.proofs.instants.instants_of.Goals.{then-i-len+then-shows_cue+in_ok-push_refreshes, else-i-len, else-i-len-via-then-i-len+else-shows_cue, else-i-len-via-else-i-len}

pub loop-i-init : goal.loop-i-init
loop-i-init c =
    let UpTo : List Instant
    → Type 0 = λ instants. AreRecordedInstantsUpTo c.args.epochs.now c.args.refresh
    c.deref-event-items.result.now 0 instants in
    subst UpTo (sym c.new-instants.ensures.items)
    (AreRecordedInstantsUpTo-none c.args.epochs.now c.args.refresh c.deref-event-items.result.now)

pub loop-i-preserved : goal.loop-i-preserved
loop-i-preserved c =
    let events = c.deref-event-items.result.now in
    let i = c.loop-i.i in
    let m = get_or events i (event 0 0) in
    let r : m ≡ get_or events i m = get_or_default events i (event 0 0) m (omega arith) in
    let are =
    subst (λ (xs : List Event). AreLeastEvents c.args.epochs.now xs) (sym c.deref-event-items.ensures.value)
    c.in_ok-events.ensures in
    elim c.if-i-len.branch [
      | then-i-len+then-shows_cue+in_ok-push_refreshes w ↦
          subst (λ (xs : List Instant). AreRecordedInstantsUpTo c.args.epochs.now c.args.refresh events (i + 1) xs)
          (ap (λ instants. instants.items) (sym w.instants-is))
          (AreRecordedInstantsUpTo-refreshed c.args.epochs.now c.args.refresh events i c.loop-i.instants.items
          c.push.new.self.items w.push_refreshes.new.instants.items m w.index.result.now c.requires.some are
          c.loop-i.invariant
          (omega (arith, w.if-i-len.true, c.len.ensures, c.deref-event-items.ensures.len)) r
          (w.index.ensures
          ∙ ap (λ (xs : List Event). get_or xs (i + 1) w.index.result.now)
          (sym c.deref-event-items.ensures.value)) c.in_ok-push.ensures.items w.in_ok-push_refreshes.ensures
          (sym (w.shows_cue.ensures c.args.epochs.now c.in_ok-cues.ensures c.requires.lasting)
          ∙ w.if-shows_cue.true))
      | else-i-len w ↦
          AreRecordedInstantsUpTo-alone c.args.epochs.now c.args.refresh events i c.loop-i.instants.items _ m
          c.requires.some are c.loop-i.invariant (omega arith) r
          (ap (λ instants. instants.items) w.instants-is ∙ c.in_ok-push.ensures.items)
          (λ inside shown. elim w.else-i-len.branch [
            | else-i-len-via-then-i-len+else-shows_cue w' ↦ absurd
                (false≢true
                (sym w'.if-shows_cue.false
                ∙ w'.shows_cue.ensures c.args.epochs.now c.in_ok-cues.ensures c.requires.lasting ∙ shown))
            | else-i-len-via-else-i-len w' ↦ absurd
                (omega (arith, w'.if-i-len.false, inside, c.len.ensures, c.deref-event-items.ensures.len))
          ])
    ]

pub push_refreshes-requires-clause-small : goal.push_refreshes-requires-clause-small
push_refreshes-requires-clause-small c =
    let events = c.deref-event-items.result.now in
    let i = c.loop-i.i in
    let m = get_or events i (event 0 0) in
    small_there c.args.epochs.now events
    (subst (λ (xs : List Event). AreLeastEvents c.args.epochs.now xs) (sym c.deref-event-items.ensures.value)
    c.in_ok-events.ensures) c.requires.small i m (omega arith)
    (get_or_default events i (event 0 0) m (omega arith))

pub push_refreshes-requires-clause-next : goal.push_refreshes-requires-clause-next
push_refreshes-requires-clause-next c =
    small_there c.args.epochs.now c.in_ok-events.events.items c.in_ok-events.ensures c.requires.small (c.loop-i.i + 1)
    c.index.result.now
    (omega (arith, c.if-i-len.true, c.len.ensures, c.in_ok-events.events.ok)) c.index.ensures

pub returns : goal.returns
returns c =
    let events = c.deref-event-items.result.now in
    let are =
    subst (λ (xs : List Event). AreLeastEvents c.args.epochs.now xs) (sym c.deref-event-items.ensures.value)
    c.in_ok-events.ensures in
    let all : c.loop-i.i ≡ length events = omega arith in
    AreRecordedInstants-all c.args.epochs.now c.args.refresh events c.loop-i.instants.items are
    (subst (λ (n : ℕ). AreRecordedInstantsUpTo c.args.epochs.now c.args.refresh events n c.loop-i.instants.items)
    all c.loop-i.invariant)
