use Rattle.std.proofs.Common.{[]}
use Rattle.live_plan.specs.declared.accepted.Accepted.{Accepted}
use Rattle.live_plan.proofs.LetRows.{none_in}
use Rattle.live_plan.proofs.live.Live.make.Goals as goal

pub invariant_of-result : goal.invariant_of-result
invariant_of-result c =
    let accepted : Accepted = record {
      alloc = c.args.alloc;
      target = record { profile = c.args.profile; pid = c.args.pid; page = c.args.page };
      font = c.args.font;
      reader = c.new.result;
      blocks = c.none.result;
    } in record {
      sends = record { compiled = c.requires.profile; pid = c.requires.pid };
      small = tt;
      past = [];
      has = none_in accepted c.in_ok-outlet.outlet c.new.ensures c.none.ensures c.in_ok-outlet.ensures;
    }

pub returns-clause-nothing : goal.returns-clause-nothing
returns-clause-nothing c =
    none_in (record {
      alloc = c.args.alloc;
      target = record { profile = c.args.profile; pid = c.args.pid; page = c.args.page };
      font = c.args.font;
      reader = c.new.result;
      blocks = c.none.result;
    }) c.in_ok-outlet.outlet c.new.ensures c.none.ensures c.in_ok-outlet.ensures
