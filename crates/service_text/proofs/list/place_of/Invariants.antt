use Rattle.std.proofs.Common.{◌≡◌, ◌+◌, drop}
use Rattle.service_text.specs.Private.Placing.{place_in}
use Rattle.service_text.proofs.list.place_of.Given as goal

-- it comes before none of those that were passed
abbrev pub invariant-loop-place : goal.invariant-loop-place
invariant-loop-place l = l.place + place_in l.service (drop l.place l.entries) ≡ place_in l.service l.entries
