use Rattle.std.proofs.Common.{◌≡◌, ◌∙◌, ◌≤◌, ◌<◌, ◌==◌, true, false, List, get_or, length, ap, rules, sym, subst}
use Rattle.pid_text.specs.Private.Listing.{with_segment}
use Rattle.pid_text.specs.declared.page_tally.PageTally.{PageTally}
use Rattle.pid_text.proofs.NotedLaws.{AreLower, inserted, noted_by, noted_there}
use Rattle.pid_text.proofs.page_list.note_in.Goals as goal

pub returns-then-is_at-clause-items : goal.returns-then-is_at-clause-items
returns-then-is_at-clause-items c =
    noted_there _ c.args.entries.now.items _ c.place_of-place.result c.index_mut-entry.result.now c.note.new.self
    (subst (λ (xs : List PageTally). c.place_of-place.result < length xs) c.as_slice-2.ensures.value
    (c.is_at.ensures.within c.if-is_at.true))
    (subst (AreLower c.place_of-place.result c.args.page) c.as_slice.ensures.value c.place_of-place.ensures.before)
    (λ d inside. subst
    (λ (xs : List PageTally). c.place_of-place.result < length xs
    → true ≡ ((get_or xs c.place_of-place.result d).page == c.args.page)) c.as_slice-2.ensures.value
    (λ within. sym c.if-is_at.true ∙ c.is_at.ensures.is d within) inside)
    c.index_mut-entry.ensures.value c.note.ensures (search rules)

pub returns-else-is_at-clause-items : goal.returns-else-is_at-clause-items
returns-else-is_at-clause-items c =
    noted_by _ c.args.entries.now.items _ c.place_of-place.result
    (subst (λ (xs : List PageTally). c.place_of-place.result ≤ length xs) c.as_slice.ensures.value
    c.place_of-place.ensures.within)
    (subst (AreLower c.place_of-place.result c.args.page) c.as_slice.ensures.value c.place_of-place.ensures.before)
    (λ d inside. subst
    (λ (xs : List PageTally). c.place_of-place.result < length xs
    → c.args.page ≤ (get_or xs c.place_of-place.result d).page) c.as_slice.ensures.value
    (c.place_of-place.ensures.behind d) inside)
    (λ d inside. subst
    (λ (xs : List PageTally). c.place_of-place.result < length xs
    → false ≡ ((get_or xs c.place_of-place.result d).page == c.args.page)) c.as_slice-2.ensures.value
    (λ within. sym c.if-is_at.false ∙ c.is_at.ensures.is d within) inside)
    (inserted _ _ _ _ _ _ _ c.insert.ensures.items c.unwrap.ensures
    (c.note-else-is_at.ensures ∙ ap (with_segment c.args.kind) c.new-entry.ensures))
