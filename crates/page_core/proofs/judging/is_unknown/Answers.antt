-- A region is unknown by the set and by the composition.
use Rattle.std.proofs.Common.{◌∙◌, sym, ap, not}
use Rattle.page_core.proofs.Sets.Defining.{unknown_by_composition, known_by_set}
use Rattle.page_core.proofs.judging.is_unknown.Goals as goal

pub returns-then-not-is_flagged : goal.returns-then-not-is_flagged
returns-then-not-is_flagged c set older knows defined =
    unknown_by_composition c.args.id set older c.args.composition.now c.region.result c.is_none.result knows
    (sym (defined c.args.id c.is_flagged.ensures.byte) ∙ sym c.is_flagged.ensures.flag ∙ c.if-not-is_flagged.true)
    c.region.ensures c.is_none.ensures

pub returns-else-not-is_flagged : goal.returns-else-not-is_flagged
returns-else-not-is_flagged c set older knows defined =
    ap not c.if-not-is_flagged.false
    ∙ known_by_set c.args.id set older
    (sym (defined c.args.id c.is_flagged.ensures.byte) ∙ sym c.is_flagged.ensures.flag
    ∙ c.if-not-is_flagged.false)
