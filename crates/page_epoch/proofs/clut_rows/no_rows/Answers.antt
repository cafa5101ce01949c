use Rattle.std.proofs.Common.{◌∙◌, None, map, ap, arith}
use Rattle.std.proofs.lemmas.List.{take_all}
use Rattle.page_epoch.specs.SentCluts.{latest_place}
use Rattle.page_epoch.proofs.WalkLaws.{none_more}
use Rattle.page_epoch.proofs.clut_rows.no_rows.Goals as goal

pub loop-entry-preserved : goal.loop-entry-preserved
loop-entry-preserved c =
    none_more c.args.entries.now c.loop-entry._entry-index c.loop-entry.current.items c.push.new.self.items
    (omega arith) c.loop-entry.invariant c.in_ok-push.ensures.items

pub returns : goal.returns
unfolding latest_place
returns c =
    λ colours. c.loop-entry.invariant
    ∙ ap (map (λ _. None)) (take_all c.loop-entry._entry-index c.args.entries.now (omega arith))
