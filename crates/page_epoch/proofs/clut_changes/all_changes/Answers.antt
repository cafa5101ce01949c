use Rattle.std.proofs.Common.{◌≡◌, ◌∙◌, ◌==◌, ◌++◌, ◌∷◌, [], ℕ, List, All, ap, sym, subst, map, filter, arith}
use Rattle.std.specs.List.{list_any, range_with_len}
use Rattle.std.proofs.lemmas.List.{map-append}
use Rattle.std.proofs.lemmas.List.Elements.{All-push}
use Rattle.page_epoch.specs.declared.clut_changes.ClutChanges.{ClutChanges}
use Rattle.page_epoch.specs.SentCluts.{clut_count}
use Rattle.page_epoch.specs.Private.Changes.{AreChanges}
use Rattle.page_epoch.proofs.ListLaws.{keep_place, pass_place}
use Rattle.page_epoch.proofs.clut_changes.all_changes.Goals as goal
use Rattle.page_epoch.proofs.clut_changes.all_changes.Goals.{then-is_named+in_ok-changes_of+in_ok-push, else-is_named}

pub loop-clut-preserved : goal.loop-clut-preserved
loop-clut-preserved c =
    let number = λ (x : ClutChanges). x.clut in
    let p = λ (clut : ℕ). list_any (λ row. row.clut == clut) c.args.colours.now in
    let Changes : List ClutChanges → Type 0 = λ xs. All (AreChanges c.args.colours.now) xs in
    elim c.if-is_named.branch [
      | then-is_named+in_ok-changes_of+in_ok-push w ↦
          (let items = ap (λ own. own.items) w.cluts-is ∙ w.in_ok-push.ensures.items in (
            keep_place p c.loop-clut.clut (map number c.loop-clut.cluts.items) _ c.loop-clut.invariant.0
                (sym c.is_named.ensures ∙ w.if-is_named.true)
                (ap (map number) items
                ∙ map-append number c.loop-clut.cluts.items (w.in_ok-changes_of.field-0 ∷ [])
                ∙ ap (λ (n : ℕ). map number c.loop-clut.cluts.items ++ n ∷ [])
                w.in_ok-changes_of.ensures.clut),
            subst Changes (sym items)
                (All-push (AreChanges c.args.colours.now) c.loop-clut.cluts.items w.in_ok-changes_of.field-0
                c.loop-clut.invariant.1 w.in_ok-changes_of.ensures.changes),
          ))
      | else-is_named w ↦
          (let items = ap (λ own. own.items) w.cluts-is in (
            pass_place p c.loop-clut.clut _ (ap (map number) items ∙ c.loop-clut.invariant.0)
                (sym c.is_named.ensures ∙ w.if-is_named.false),
            subst Changes (sym items) c.loop-clut.invariant.1,
          ))
    ]

pub returns-clause-named : goal.returns-clause-named
unfolding clut_count
returns-clause-named c =
    let all : c.loop-clut.clut ≡ clut_count = omega arith in
    ap (map (λ (x : ClutChanges). x.clut)) c.new.ensures ∙ c.loop-clut.invariant.0
    ∙ ap (λ (n : ℕ). filter (λ clut. list_any (λ row. row.clut == clut) c.args.colours.now)
    (range_with_len 0 n)) all

pub returns-clause-changes : goal.returns-clause-changes
returns-clause-changes c =
    subst (λ (xs : List ClutChanges). All (AreChanges c.args.colours.now) xs) (sym c.new.ensures)
    c.loop-clut.invariant.1
