use Rattle.std.proofs.Common.{◌≡◌, All, length}
use Rattle.set_definitions.specs.declared.known.Told.{Told}
use Rattle.set_definitions.proofs.known.nothing_told.Given as goal

abbrev pub invariant-loop : goal.invariant-loop
invariant-loop l =
    record {
      whole : length l.told.items ≡ l.counter;
      past : All (λ (one : Told). one.stamp ≡ 0) l.told.items;
    }
