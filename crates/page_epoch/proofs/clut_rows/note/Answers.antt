use Rattle.std.proofs.Common.{◌∙◌, ◌+◌, ℕ, Some, None, set, get_or, ap, arith}
use Rattle.page_epoch.proofs.WalkLaws.{noted, not_noted}
use Rattle.page_epoch.proofs.clut_rows.note.Goals as goal

pub returns-then-from-code_count-clause-each : goal.returns-then-from-code_count-clause-each
returns-then-from-code_count-clause-each c = λ k d h.
    ap (λ (n : ℕ). get_or (set c.args.current.now.items (n + c.args.row.now.entry) (Some c.args.place)) k None)
    c.first_entry.ensures
    ∙ noted c.args.row.now c.args.place c.args.current.now.items k d c.requires
    (omega (arith, c.if-from-code_count.true, c.code_count.ensures, c.from.ensures)) h

pub returns-else-from-code_count-clause-each : goal.returns-else-from-code_count-clause-each
returns-else-from-code_count-clause-each c = λ k d h.
    not_noted c.args.row.now c.args.place c.args.current.now.items k d
    (omega (arith, c.if-from-code_count.false, c.code_count.ensures, c.from.ensures)) h
