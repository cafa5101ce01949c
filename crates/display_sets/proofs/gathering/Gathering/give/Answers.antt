use Rattle.display_sets.proofs.Standings.{give_parted, give_hand, left_parted, left_hand}
use Rattle.display_sets.proofs.gathering.Gathering.give.Goals as goal

pub returns-then-is_some-clause-stands : goal.returns-then-is_some-clause-stands
returns-then-is_some-clause-stands c = give_parted _ _ _ c.self.view_is c.is_some.ensures c.if-is_some.true

pub returns-else-is_some-clause-stands : goal.returns-else-is_some-clause-stands
returns-else-is_some-clause-stands c =
    give_hand _ _ _ c.given-self-inside.result c.self.view_is c.is_some.ensures c.if-is_some.false
    c.given-self-inside.ensures.hand

pub returns-then-is_some-clause-left : goal.returns-then-is_some-clause-left
returns-then-is_some-clause-left c = left_parted _ _ _ c.self.view_is c.is_some.ensures c.if-is_some.true

pub returns-else-is_some-clause-left : goal.returns-else-is_some-clause-left
returns-else-is_some-clause-left c =
    left_hand _ _ _ c.given-self-inside.result c.self.view_is c.is_some.ensures c.if-is_some.false
    c.given-self-inside.ensures.hand
