use Rattle.packet_source.proofs.ReaderLaws.{given_up_goes, nothing_goes, read_goes}
use Rattle.packet_source.proofs.reader.PacketSource.fill.Goals as goal

pub returns-then-is_too_long-clause-stands : goal.returns-then-is_too_long-clause-stands
returns-then-is_too_long-clause-stands g c = given_up_goes _ c.args.self.now c.give_up.new.self c.give_up.ensures

pub returns-in_err-count-clause-stands : goal.returns-in_err-count-clause-stands
returns-in_err-count-clause-stands g c =
    nothing_goes _ _ c.args.self.now c.give_up.new.self c.read_on.new.self c.give_up.ensures
    c.in_err-count.ensures.nothing

pub returns-then-count-eq0-clause-stands : goal.returns-then-count-eq0-clause-stands
returns-then-count-eq0-clause-stands g c =
    read_goes _ _ c.args.self.now c.give_up.new.self c.read_on.new.self c.in_ok-count.count c.give_up.ensures
    c.in_ok-count.ensures.read

pub returns-then-is_too_long-2-clause-stands : goal.returns-then-is_too_long-2-clause-stands
returns-then-is_too_long-2-clause-stands g c =
    read_goes _ _ c.args.self.now c.give_up.new.self c.read_on.new.self c.in_ok-count.count c.give_up.ensures
    c.in_ok-count.ensures.read

pub returns-clause-stands : goal.returns-clause-stands
returns-clause-stands g c =
    read_goes _ _ c.args.self.now c.give_up.new.self c.read_on.new.self c.in_ok-count.count c.give_up.ensures
    c.in_ok-count.ensures.read
