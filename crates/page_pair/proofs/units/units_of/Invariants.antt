use Rattle.std.proofs.Common.{take}
use Rattle.std.specs.Prelude.{zip}
use Rattle.page_pair.specs.Private.Units.{AreMade}
use Rattle.page_pair.proofs.units.units_of.Given as goal

abbrev pub invariant-loop-place : goal.invariant-loop-place
invariant-loop-place l =
    AreMade l.pages l.first.script.now l.second.script.now (take l.place (zip l.one l.two)) l.made
