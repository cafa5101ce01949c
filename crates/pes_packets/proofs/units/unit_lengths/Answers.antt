use Rattle.std.proofs.Common.{ℕ, ◌++◌, List, map, ap, ◌∙◌}
use Rattle.pes_packets.specs.Units.{unit_length}
use Rattle.pes_packets.proofs.Filling.{own}
use Rattle.pes_packets.proofs.OneSharing.{units_same}
use Rattle.pes_packets.proofs.units.unit_lengths.Goals as goal

pub returns-clause-units : goal.returns-clause-units
returns-clause-units c =
    let found = c.append_lengths.ensures in (
      found.1.units,
      found.1.shared,
      found.2
          ∙ ap (λ (before : List ℕ). before ++ found.0) c.in_ok-reserve.ensures.items
          ∙ ap (λ (lengths : List ℕ). c.args.out.now.items ++ lengths) found.1.are,
    )

pub returns-clause-only : goal.returns-clause-only
returns-clause-only c = λ units shared.
    let found = c.append_lengths.ensures in
    let same =
    found.1.are
    ∙ ap (map (unit_length own)) (units_same own c.args.segments.now found.1.units units found.1.shared shared) in
    found.2 ∙ ap (λ (before : List ℕ). before ++ found.0) c.in_ok-reserve.ensures.items
    ∙ ap (λ (lengths : List ℕ). c.args.out.now.items ++ lengths) same
