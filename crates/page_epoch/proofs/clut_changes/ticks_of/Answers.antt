use Rattle.std.proofs.Common.{◌∙◌, ℕ, ap, map, eqb, arith}
use Rattle.std.proofs.lemmas.List.{take_all}
use Rattle.std.proofs.lemmas.List.Filters.{dedup_is}
use Rattle.page_epoch.specs.SentCluts.{row_at}
use Rattle.page_epoch.proofs.ChangeLaws.{ticks_from}
use Rattle.page_epoch.proofs.clut_changes.ticks_of.Goals as goal

pub returns : goal.returns
returns c =
    let tick = λ (place : ℕ). (row_at c.args.colours.now place).tick in
    ticks_from c.args.colours.now c.args.own.now c.loop-place.ticks.items c.sort.new.self.items c.dedup.new.self.items
    (c.loop-place.invariant ∙ ap (map tick) (take_all c.loop-place.place-index c.args.own.now (omega arith)))
    c.in_ok-sort.ensures.permutation c.in_ok-sort.ensures.sorted
    (dedup_is eqb c.sort.new.self.items c.dedup.new.self.items c.dedup.ensures.filtered)
