use Rattle.std.proofs.Common.{◌≤◌, ℕ, List, length, sym, subst}
use Rattle.display_sets.proofs.Standings.{lent_within, ready_parted, ready_hand, ready_none}
use Rattle.display_sets.proofs.gathering.Gathering.ready.Goals as goal

pub returns-in-Some-clause-delivery : goal.returns-in-Some-clause-delivery
returns-in-Some-clause-delivery c =
    ready_parted _ _ c.in-Some.head c.deref.result.now _ c.self.view_is c.in-Some.is c.lend.ensures.set
    c.deref.ensures.value

pub returns-in-Some-ready-clause-delivery : goal.returns-in-Some-ready-clause-delivery
returns-in-Some-ready-clause-delivery c =
    ready_hand _ _ c.in-Some-ready.head c.deref-in-Some-ready.result.now _ c.self.view_is c.in_default.is
    c.in-Some-ready.ensures.ready c.lend-in-Some-ready.ensures.set c.deref-in-Some-ready.ensures.value

pub returns-in-None-clause-delivery : goal.returns-in-None-clause-delivery
returns-in-None-clause-delivery c = ready_none _ _ c.self.view_is c.in_default.is c.in-None.ensures.ready

pub returns-in-Some-clause-within : goal.returns-in-Some-clause-within
returns-in-Some-clause-within c ready is =
    lent_within c.lend.result ready c.deref.result.now c.self.inside.coded is c.lend.ensures.bytes
    (subst (λ (bytes : List ℕ). length bytes ≤ c.self.inside.coded) (sym c.deref.ensures.value)
    c.self.invariant.0.parted_within) c.self.invariant.0.few

pub returns-in-Some-ready-clause-within : goal.returns-in-Some-ready-clause-within
returns-in-Some-ready-clause-within c ready is =
    lent_within c.lend-in-Some-ready.result ready c.deref-in-Some-ready.result.now c.self.inside.coded is
    c.lend-in-Some-ready.ensures.bytes
    (subst (λ (bytes : List ℕ). length bytes ≤ c.self.inside.coded) (sym c.deref-in-Some-ready.ensures.value)
    c.self.invariant.0.within) c.self.invariant.0.few
