use Rattle.std.proofs.Common.{◌≡◌, ℕ, List, map, sym, subst, ◌∙◌}
use Rattle.std.specs.List.{flat_map}
use Rattle.std.proofs.lemmas.Result.{on_ok_weaker}
use Rattle.stream_syntax.specs.Segments.{spelled}
use Rattle.set_coder.specs.Private.UnitParts.{AreUnitParts}
use Rattle.set_coder.proofs.SetPacketLaws.{units_of, set_packets}
use Rattle.set_coder.proofs.set_packets.write_with.Goals as goal

-- what is lent is what was made
lent : (bytes seen lengths units : List ℕ) (parts : List (List ℕ)) → seen ≡ bytes → units ≡ lengths
    → AreUnitParts bytes lengths parts → AreUnitParts seen units parts
lent bytes seen lengths units parts b l are =
    subst (λ (xs : List ℕ). AreUnitParts xs units parts) (sym b)
    (subst (λ (ns : List ℕ). AreUnitParts bytes ns parts) (sym l) are)

pub write_units-requires-clause-parts : goal.write_units-requires-clause-parts
write_units-requires-clause-parts c =
    let made = c.in_ok-segments.ensures in
    let units =
    units_of c.args.script.now c.args.page c.args.set.now made.0 c.in_ok-load.load.units made.1
    c.in_ok-load.ensures.load.units c.requires.fits in (
      map (flat_map (spelled c.args.page)) units.units,
      lent (flat_map (spelled c.args.page) made.0) c.as_slice-2.result.now c.in_ok-load.load.units c.as_slice.result.now
          (map (flat_map (spelled c.args.page)) units.units) (c.as_slice-2.ensures.value ∙ made.2) c.as_slice.ensures
          units.parts,
    )

pub returns-clause-packets : goal.returns-clause-packets
returns-clause-packets c =
    let made = c.in_ok-segments.ensures in
    let lengths = c.in_ok-load.load.units in
    let sized = c.in_ok-load.ensures.load.units in
    let units = units_of c.args.script.now c.args.page c.args.set.now made.0 lengths made.1 sized c.requires.fits in
    let parts = map (flat_map (spelled c.args.page)) units.units in
    on_ok_weaker c.write_units.result
    (λ put. set_packets c.args.script.now c.args.page c.args.set.now made.0 lengths c.args.out.now.items
    c.write_units.new.out.items made.1 sized units put)
    (c.write_units.ensures.packets parts
    (lent (flat_map (spelled c.args.page) made.0) c.as_slice-2.result.now lengths c.as_slice.result.now parts
    (c.as_slice-2.ensures.value ∙ made.2) c.as_slice.ensures units.parts))
