-- A CLUT segment needs nodes, or none.
use Rattle.std.proofs.Common.{◌∙◌, ◌+◌, ap, sym}
use Rattle.std.specs.Prelude.{min}
use Rattle.segments.specs.Contents.{clut_value}
use Rattle.page_core.proofs.Counts.ClutCounts.{clut_counted, clut_not_counted}
use Rattle.page_core.proofs.ColourTables.ClutLaws.{clut_taken_by}
use Rattle.page_core.proofs.counting.count_clut.Goals as goal

pub returns-then-is_new_version-clause-counted : goal.returns-then-is_new_version-clause-counted
returns-then-is_new_version-clause-counted c earlier content is has counted few =
    let known = c.last_version-known.ensures.version ∙ has c.args.clut.now.clut c.last_version-known.ensures.byte in
    clut_counted earlier content (clut_value c.args.clut.now) c.args.composition.now c.args.versions.now
    c.set_version.new.versions c.args.marks.now c.count_entries.new.marks c.last_version-known.result
    c.count_entries.result c.saturating_add.result is
    (clut_taken_by earlier content (clut_value c.args.clut.now) c.last_version-known.result is known
    ∙ sym c.is_new_version.ensures ∙ c.if-is_new_version.true)
    known has c.set_version.ensures counted c.count_entries.ensures.counted few
    (c.saturating_add.ensures
    ∙ ap (λ n. min (n + c.count_entries.result) 18446744073709551615) c.new_or_none.ensures)

pub returns-else-is_new_version-clause-counted : goal.returns-else-is_new_version-clause-counted
returns-else-is_new_version-clause-counted c earlier content is has counted few =
    let known = c.last_version-known.ensures.version ∙ has c.args.clut.now.clut c.last_version-known.ensures.byte in
    clut_not_counted earlier content c.args.composition.now c.args.versions.now c.args.marks.now
    (clut_taken_by earlier content (clut_value c.args.clut.now) c.last_version-known.result is known
    ∙ sym c.is_new_version.ensures ∙ c.if-is_new_version.false) has counted
