use Rattle.std.proofs.Common.{◌∙◌, ◌<◌, ℕ, List, All, length, sym, subst}
use Rattle.std.specs.List.Sorted.{IsNonDecreasingBy, IsStrictlyIncreasing}
use Rattle.std.proofs.lemmas.List.Sorted.{All-permutation}
use Rattle.page_epoch.specs.SentCluts.{row_at}
use Rattle.page_epoch.specs.Private.Changes.{AreTicksOf, AreInOrder}
use Rattle.page_epoch.proofs.RowLaws.{own_within}
use Rattle.page_epoch.proofs.ChangeLaws.{changes_from}
use Rattle.page_epoch.proofs.clut_changes.changes_of.Goals as goal

pub ticks_of-requires : goal.ticks_of-requires
ticks_of-requires c =
    let Within : List ℕ → Type 0 = λ places. All (λ (place : ℕ). place < length c.args.colours.now) places in
    subst Within (sym (c.as_slice-2.ensures ∙ c.in_ok-own.ensures)) (own_within c.args.colours.now c.args.clut)

pub changes_at-requires-clause-within : goal.changes_at-requires-clause-within
changes_at-requires-clause-within c =
    let Within : List ℕ → Type 0 = λ places. All (λ (place : ℕ). place < length c.args.colours.now) places in
    subst Within (sym c.deref.ensures.value)
    (All-permutation (λ (place : ℕ). place < length c.args.colours.now) c.as_slice.result.now
    c.in_ok-rows.rows.items c.in_ok-rows.ensures.moved
    (subst Within (sym (c.as_slice.ensures ∙ c.in_ok-own.ensures)) (own_within c.args.colours.now c.args.clut)))

pub changes_at-requires-clause-rows : goal.changes_at-requires-clause-rows
changes_at-requires-clause-rows c =
    let Rises : List ℕ → Type 0 =
    λ rows. IsNonDecreasingBy (λ (place : ℕ). (row_at c.args.colours.now place).tick) rows in
    subst Rises (sym c.deref.ensures.value) c.in_ok-rows.ensures.rise

pub changes_at-requires-clause-ticks : goal.changes_at-requires-clause-ticks
changes_at-requires-clause-ticks c =
    let Rises : List ℕ → Type 0 = λ ticks. IsStrictlyIncreasing ticks in
    subst Rises (sym c.deref-2.ensures.value) c.in_ok-ticks.ensures.rise

pub returns-clause-changes : goal.returns-clause-changes
returns-clause-changes c =
    let colours = c.args.colours.now in
    let Order : List ℕ → List ℕ → Type 0 = λ own rows. AreInOrder colours own rows in
    changes_from colours c.args.clut c.in_ok-own.own c.deref.result.now c.deref-2.result.now c.in_ok-changes.changes
    c.in_ok-own.ensures
    (subst (Order c.in_ok-own.own) (sym c.deref.ensures.value)
    (subst (λ (own : List ℕ). Order own c.in_ok-rows.rows.items) c.as_slice.ensures c.in_ok-rows.ensures))
    (subst (λ (ticks : List ℕ). AreTicksOf colours c.in_ok-own.own ticks) (sym c.deref-2.ensures.value)
    (subst (λ (own : List ℕ). AreTicksOf colours own c.in_ok-ticks.ticks.items) c.as_slice-2.ensures
    c.in_ok-ticks.ensures)) c.in_ok-changes.ensures
