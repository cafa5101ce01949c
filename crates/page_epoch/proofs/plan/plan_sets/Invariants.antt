use Rattle.page_epoch.proofs.PlanLaws.{HavePlanned}
use Rattle.page_epoch.proofs.plan.plan_sets.Given as goal

abbrev pub invariant-loop-instant : goal.invariant-loop-instant
invariant-loop-instant l =
    HavePlanned l.epochs l.refresh l.fn.profile l.instant-items l.instant-index l.sets.items l.walk l.last_entry
