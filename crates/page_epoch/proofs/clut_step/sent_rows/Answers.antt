use Rattle.std.proofs.Common.{◌∙◌, ◌==◌, sym, ap}
use Rattle.std.proofs.lemmas.Bool.{ne_eqb}
use Rattle.page_epoch.specs.SentCluts.{row_at, rows_from}
use Rattle.page_epoch.proofs.ListLaws.{filter_none}
use Rattle.page_epoch.proofs.clut_step.sent_rows.Goals as goal

pub returns-then-change-tick : goal.returns-then-change-tick
returns-then-change-tick c =
    let colours = c.args.colours.now in
    let change = c.args.change.now in
    c.new-then-change-tick-2.ensures ∙ c.new-then-change-tick.ensures.items
    ∙ sym (ap (λ b. rows_from colours b c.args.tick change.rows) c.if-whole.false
    ∙ filter_none (λ place. (row_at colours place).tick == c.args.tick) change.rows
    (c.requires.others (ne_eqb change.tick c.args.tick c.if-change-tick.true)))
