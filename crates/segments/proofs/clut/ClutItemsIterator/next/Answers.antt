use Rattle.std.proofs.Common.{◌<◌, ◌-◌, arith, ap, length, take, drop}
use Rattle.segments.proofs.Entries.{one_entry}
use Rattle.segments.specs.Contents.{clut_entries}
use Rattle.segments.proofs.clut.ClutItemsIterator.next.Goals as goal

pub returns-clause-steps : goal.returns-clause-steps
returns-clause-steps c =
    one_entry c.args.self.now.rest.now c.entry_size-size.result c.first_entry-entry.result c.entry_size-size.ensures
    (omega arith) c.first_entry-entry.ensures

pub returns-clause-goes : goal.returns-clause-goes
returns-clause-goes c =
    let first =
    one_entry c.args.self.now.rest.now c.entry_size-size.result c.first_entry-entry.result c.entry_size-size.ensures
    (omega arith) c.first_entry-entry.ensures in
    let fewer : length
    (clut_entries
    (take (length c.args.self.now.rest.now - c.entry_size-size.result)
    (drop c.entry_size-size.result c.args.self.now.rest.now)))
    < length (clut_entries c.args.self.now.rest.now) = omega (arith, ap length first) in
    record { on = λ finite. (tt, finite, fewer); keeps = tt; rests = λ finite. tt }
