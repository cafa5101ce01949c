-- The last of the loads is that of the last set.
use Rattle.std.proofs.Common.{◌∙◌, length, ap, arith, sym, subst, List}
use Rattle.sub_base.specs.declared.load.WriteLoad.{WriteLoad}
use Rattle.std.specs.List.{AllZip}
use Rattle.splice.specs.SplicedSets.{IsLoadOf}
use Rattle.splice.proofs.JoinedLaws.{last_asked, no_items, none_asked}
use Rattle.splice.proofs.joined.Joined.last_time.Goals as goal

pub returns-in-empty : goal.returns-in-empty
returns-in-empty c sets so =
    none_asked sets c.args.self.now.loads.items so.asked
    (no_items c.args.self.now.loads.items
    (omega (arith, c.in-empty.len_below, ap length c.as_slice.ensures.value)))

pub returns-in-len1-up : goal.returns-in-len1-up
returns-in-len1-up c sets so =
    let found =
    last_asked sets c.as_slice.result.now c.last-item.result
    (subst (λ (all : List WriteLoad). AllZip IsLoadOf sets all) (sym c.as_slice.ensures.value) so.asked)
    (omega (arith, c.in-len1-up.len_at_least)) in (
      found.0,
      found.1,
      found.2,
      ap (λ (load : WriteLoad). load.load.pts) c.last-item.is ∙ found.3,
    )
