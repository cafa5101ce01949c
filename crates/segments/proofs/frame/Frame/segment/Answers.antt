use Rattle.segments.proofs.Readings.{IsBodyRead, of_frame, found, kind_found, every_segment, every_fault}
use Rattle.segments.proofs.frame.Frame.segment.Goals as goal

pub returns-clause-segment : goal.returns-clause-segment
returns-clause-segment c bytes is =
    let read : IsBodyRead c.args.self.now.kind c.args.self.now.body.now _ =
    record {
      value = c.by_kind.ensures.value;
      passes = c.by_kind.ensures.passes;
      blocks = c.by_kind.ensures.blocks;
      fault = c.by_kind.ensures.fault;
    } in
    found bytes c.args.self.now.whole _ is.each is.whole_is (of_frame bytes c.args.self.now _ is read).0

pub returns-clause-kind : goal.returns-clause-kind
returns-clause-kind c bytes is =
    let read : IsBodyRead c.args.self.now.kind c.args.self.now.body.now _ =
    record {
      value = c.by_kind.ensures.value;
      passes = c.by_kind.ensures.passes;
      blocks = c.by_kind.ensures.blocks;
      fault = c.by_kind.ensures.fault;
    } in
    kind_found bytes _ is.each (of_frame bytes c.args.self.now _ is read).0

pub returns-clause-every_segment : goal.returns-clause-every_segment
returns-clause-every_segment c bytes is =
    let read : IsBodyRead c.args.self.now.kind c.args.self.now.body.now _ =
    record {
      value = c.by_kind.ensures.value;
      passes = c.by_kind.ensures.passes;
      blocks = c.by_kind.ensures.blocks;
      fault = c.by_kind.ensures.fault;
    } in
    let all = of_frame bytes c.args.self.now _ is read in
    every_segment bytes c.args.self.now.whole _ is.whole_is all.0 all.1

pub returns-clause-fault : goal.returns-clause-fault
returns-clause-fault c bytes is =
    let read : IsBodyRead c.args.self.now.kind c.args.self.now.body.now _ =
    record {
      value = c.by_kind.ensures.value;
      passes = c.by_kind.ensures.passes;
      blocks = c.by_kind.ensures.blocks;
      fault = c.by_kind.ensures.fault;
    } in
    (of_frame bytes c.args.self.now _ is read).1

pub returns-clause-every_fault : goal.returns-clause-every_fault
returns-clause-every_fault c bytes is =
    let read : IsBodyRead c.args.self.now.kind c.args.self.now.body.now _ =
    record {
      value = c.by_kind.ensures.value;
      passes = c.by_kind.ensures.passes;
      blocks = c.by_kind.ensures.blocks;
      fault = c.by_kind.ensures.fault;
    } in
    let all = of_frame bytes c.args.self.now _ is read in
    every_fault bytes _ all.0 all.1
