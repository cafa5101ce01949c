use Rattle.std.proofs.Common.{◌∙◌, ◌<◌, ℕ, List, All, length, unwrap_or, sym, ap, subst, arith}
use Rattle.page_epoch.specs.SentCluts.{clut_with, rows_from}
use Rattle.page_epoch.specs.EpochStates.{clut_after, row_nodes}
use Rattle.page_epoch.proofs.RowLaws.{defined_within, defined_few}
use Rattle.page_epoch.proofs.ChangeLaws.{HaveCome, come_by, defined_before, unchanged_before, none_sent, last_from, defined_at, changed_at, others_defined}
use Rattle.page_epoch.proofs.clut_step.step_clut.Goals as goal

pub returns-then-count-eq0-clause-version : goal.returns-then-count-eq0-clause-version
returns-then-count-eq0-clause-version c =
    let colours = c.args.colours.now in
    let clut = c.args.clut.now in
    let come =
    come_by colours clut c.args.tick c.as_slice-changes.result.now c.changes_by-count.result
    c.as_slice-changes.ensures c.requires.changes c.changes_by-count.ensures.point in
    let none = subst (HaveCome clut c.args.tick) c.if-count-eq0.true come in
    sym (ap (λ b. clut_after b c.args.version) (unchanged_before colours clut c.args.tick c.requires.changes none))

pub returns-then-count-eq0-clause-sent : goal.returns-then-count-eq0-clause-sent
returns-then-count-eq0-clause-sent c =
    let colours = c.args.colours.now in
    let clut = c.args.clut.now in
    let come =
    come_by colours clut c.args.tick c.as_slice-changes.result.now c.changes_by-count.result
    c.as_slice-changes.ensures c.requires.changes c.changes_by-count.ensures.point in
    let none = subst (HaveCome clut c.args.tick) c.if-count-eq0.true come in
    sym (ap (λ rows. clut_with clut.clut (unwrap_or c.args.version 0)
    (rows_from colours c.args.whole c.args.tick rows))
    (defined_before colours clut c.args.tick c.requires.changes none)
    ∙ none_sent colours c.args.whole clut.clut (unwrap_or c.args.version 0) c.args.tick)

pub returns-then-count-eq0-clause-nodes : goal.returns-then-count-eq0-clause-nodes
returns-then-count-eq0-clause-nodes c =
    let colours = c.args.colours.now in
    let clut = c.args.clut.now in
    let come =
    come_by colours clut c.args.tick c.as_slice-changes.result.now c.changes_by-count.result
    c.as_slice-changes.ensures c.requires.changes c.changes_by-count.ensures.point in
    let none = subst (HaveCome clut c.args.tick) c.if-count-eq0.true come in
    sym (ap row_nodes (defined_before colours clut c.args.tick c.requires.changes none))

pub sent_rows-requires-clause-within : goal.sent_rows-requires-clause-within
sent_rows-requires-clause-within c =
    let colours = c.args.colours.now in
    let clut = c.args.clut.now in
    let change = c.index-changes-count.result in
    let last =
    last_from colours clut c.args.tick c.as_slice-changes.result.now c.changes_by-count.result change
    c.as_slice-changes.ensures c.requires.changes c.changes_by-count.ensures.point c.changes_by-count.ensures.few
    c.if-count-eq0.false
    c.index-changes-count.is in
    subst (λ (xs : List ℕ). All (λ place. place < length colours) xs) (sym last.rows)
    (defined_within colours clut.clut change.tick)

pub sent_rows-requires-clause-others : goal.sent_rows-requires-clause-others
sent_rows-requires-clause-others c = λ t.
    let colours = c.args.colours.now in
    let clut = c.args.clut.now in
    let change = c.index-changes-count.result in
    let last =
    last_from colours clut c.args.tick c.as_slice-changes.result.now c.changes_by-count.result change
    c.as_slice-changes.ensures c.requires.changes c.changes_by-count.ensures.point c.changes_by-count.ensures.few
    c.if-count-eq0.false
    c.index-changes-count.is in
    others_defined colours clut.clut c.args.tick change last t

pub nodes_of-requires : goal.nodes_of-requires
nodes_of-requires c =
    let colours = c.args.colours.now in
    let clut = c.args.clut.now in
    let change = c.index-changes-count.result in
    let last =
    last_from colours clut c.args.tick c.as_slice-changes.result.now c.changes_by-count.result change
    c.as_slice-changes.ensures c.requires.changes c.changes_by-count.ensures.point c.changes_by-count.ensures.few
    c.if-count-eq0.false
    c.index-changes-count.is in
    omega (arith, ap length (c.as_slice.ensures ∙ last.rows), defined_few colours clut.clut change.tick)

pub returns-clause-version : goal.returns-clause-version
returns-clause-version c =
    let colours = c.args.colours.now in
    let clut = c.args.clut.now in
    let change = c.index-changes-count.result in
    let last =
    last_from colours clut c.args.tick c.as_slice-changes.result.now c.changes_by-count.result change
    c.as_slice-changes.ensures c.requires.changes c.changes_by-count.ensures.point c.changes_by-count.ensures.few
    c.if-count-eq0.false
    c.index-changes-count.is in
    c.next_version-next.ensures
    ∙ ap (λ b. clut_after b c.args.version) (changed_at colours clut.clut c.args.tick change last)

pub returns-clause-sent : goal.returns-clause-sent
returns-clause-sent c =
    let colours = c.args.colours.now in
    let clut = c.args.clut.now in
    let change = c.index-changes-count.result in
    let last =
    last_from colours clut c.args.tick c.as_slice-changes.result.now c.changes_by-count.result change
    c.as_slice-changes.ensures c.requires.changes c.changes_by-count.ensures.point c.changes_by-count.ensures.few
    c.if-count-eq0.false
    c.index-changes-count.is in
    c.clut_with.ensures ∙ ap (λ (version : ℕ). clut_with clut.clut version c.in_ok-sent.sent) c.unwrap_or.ensures
    ∙ ap (λ sent. clut_with clut.clut (unwrap_or c.next_version-next.result 0) sent)
    (c.in_ok-sent.ensures
    ∙ ap (λ rows. rows_from colours c.args.whole c.args.tick rows)
    (defined_at colours clut.clut c.args.tick change last))

pub returns-clause-nodes : goal.returns-clause-nodes
returns-clause-nodes c =
    let colours = c.args.colours.now in
    let clut = c.args.clut.now in
    let change = c.index-changes-count.result in
    let last =
    last_from colours clut c.args.tick c.as_slice-changes.result.now c.changes_by-count.result change
    c.as_slice-changes.ensures c.requires.changes c.changes_by-count.ensures.point c.changes_by-count.ensures.few
    c.if-count-eq0.false
    c.index-changes-count.is in
    c.nodes_of.ensures.value
    ∙ ap row_nodes (c.as_slice.ensures ∙ defined_at colours clut.clut c.args.tick change last)
