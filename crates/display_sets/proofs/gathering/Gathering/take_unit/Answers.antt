use Rattle.std.proofs.Common.{refl}
use Rattle.display_sets.proofs.UnitSteps.{begins_right, joins_right, parts_right, behind_right, aside_right, counts_now, meets_now, begun_behind}
use Rattle.display_sets.proofs.gathering.Gathering.take_unit.Goals as goal

pub returns-then-not-counts-clause-stands : goal.returns-then-not-counts-clause-stands
returns-then-not-counts-clause-stands c = λ arrivals. λ given. λ place. λ h.
    (aside_right c.args.self.now c.args.time c.args.size place c.args.field.now
    (counts_now _ _ _ _ _ c.self.view_is c.counts.ensures c.if-not-counts.true) arrivals given h).stands

pub returns-then-not-counts-clause-end : goal.returns-then-not-counts-clause-end
returns-then-not-counts-clause-end c = λ arrivals. λ given. λ place. λ h.
    (aside_right c.args.self.now c.args.time c.args.size place c.args.field.now
    (counts_now _ _ _ _ _ c.self.view_is c.counts.ensures c.if-not-counts.true) arrivals given h).right_end

pub returns-in-Begins-clause-stands : goal.returns-in-Begins-clause-stands
returns-in-Begins-clause-stands c = λ arrivals. λ given. λ place. λ h.
    (begins_right c.args.self.now c.begin.new.self c.args.time c.args.size place c.args.field.now _ c.requires.none
    (counts_now _ _ _ _ _ c.self.view_is c.counts.ensures c.if-not-counts.false)
    (meets_now _ _ _ _ c.self.view_is c.in-Begins.ensures.meeting) refl c.begin.ensures arrivals given h).stands

pub returns-in-Begins-clause-end : goal.returns-in-Begins-clause-end
returns-in-Begins-clause-end c = λ arrivals. λ given. λ place. λ h.
    (begins_right c.args.self.now c.begin.new.self c.args.time c.args.size place c.args.field.now _ c.requires.none
    (counts_now _ _ _ _ _ c.self.view_is c.counts.ensures c.if-not-counts.false)
    (meets_now _ _ _ _ c.self.view_is c.in-Begins.ensures.meeting) refl c.begin.ensures arrivals given h).right_end

pub returns-in-Joins-clause-stands : goal.returns-in-Joins-clause-stands
returns-in-Joins-clause-stands c = λ arrivals. λ given. λ place. λ h.
    (joins_right c.args.self.now c.take_up.new.self c.args.time c.args.size place c.in-Joins.before c.args.field.now _
    c.requires.none (counts_now _ _ _ _ _ c.self.view_is c.counts.ensures c.if-not-counts.false)
    (meets_now _ _ _ _ c.self.view_is c.in-Joins.ensures.meeting) refl c.take_up.ensures arrivals given h).stands

pub returns-in-Joins-clause-end : goal.returns-in-Joins-clause-end
returns-in-Joins-clause-end c = λ arrivals. λ given. λ place. λ h.
    (joins_right c.args.self.now c.take_up.new.self c.args.time c.args.size place c.in-Joins.before c.args.field.now _
    c.requires.none (counts_now _ _ _ _ _ c.self.view_is c.counts.ensures c.if-not-counts.false)
    (meets_now _ _ _ _ c.self.view_is c.in-Joins.ensures.meeting) refl c.take_up.ensures arrivals given h).right_end

pub returns-in-Parts-clause-stands : goal.returns-in-Parts-clause-stands
returns-in-Parts-clause-stands c = λ arrivals. λ given. λ place. λ h.
    (parts_right c.args.self.now c.begin-in-Parts.new.self c.args.time c.args.size place c.in-Parts.head
    c.args.field.now _ c.requires.none (counts_now _ _ _ _ _ c.self.view_is c.counts.ensures c.if-not-counts.false)
    (meets_now _ _ _ _ c.self.view_is c.in-Parts.ensures.meeting) refl
    (begun_behind c.args.self.now c.part.new.self _ c.in-Parts.head _ _ _ c.part.ensures c.begin-in-Parts.ensures)
    arrivals given h).stands

pub returns-in-Parts-clause-end : goal.returns-in-Parts-clause-end
returns-in-Parts-clause-end c = λ arrivals. λ given. λ place. λ h.
    (parts_right c.args.self.now c.begin-in-Parts.new.self c.args.time c.args.size place c.in-Parts.head
    c.args.field.now _ c.requires.none (counts_now _ _ _ _ _ c.self.view_is c.counts.ensures c.if-not-counts.false)
    (meets_now _ _ _ _ c.self.view_is c.in-Parts.ensures.meeting) refl
    (begun_behind c.args.self.now c.part.new.self _ c.in-Parts.head _ _ _ c.part.ensures c.begin-in-Parts.ensures)
    arrivals given h).right_end

pub returns-in-Behind-clause-stands : goal.returns-in-Behind-clause-stands
returns-in-Behind-clause-stands c = λ arrivals. λ given. λ place. λ h.
    (behind_right c.args.self.now c.args.time c.args.size place c.args.field.now _ c.requires.none
    (counts_now _ _ _ _ _ c.self.view_is c.counts.ensures c.if-not-counts.false)
    (meets_now _ _ _ _ c.self.view_is c.in-Behind.ensures.meeting) refl arrivals given h).stands

pub returns-in-Behind-clause-end : goal.returns-in-Behind-clause-end
returns-in-Behind-clause-end c = λ arrivals. λ given. λ place. λ h.
    (behind_right c.args.self.now c.args.time c.args.size place c.args.field.now _ c.requires.none
    (counts_now _ _ _ _ _ c.self.view_is c.counts.ensures c.if-not-counts.false)
    (meets_now _ _ _ _ c.self.view_is c.in-Behind.ensures.meeting) refl arrivals given h).right_end
