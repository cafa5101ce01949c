use Rattle.service_tables.proofs.ListLaws.{AreCome, AreFed, AreSame}
use Rattle.service_tables.proofs.programmes.feed_all.Given as goal

abbrev pub invariant-loop-programme : goal.invariant-loop-programme
invariant-loop-programme l =
    record {
      fed : AreFed l.fn.programmes l.programmes l.programme-index l.packet;
      come : AreCome l.came l.fn.programmes l.programmes;
      same : AreSame l.came l.fn.programmes l.programmes;
    }
