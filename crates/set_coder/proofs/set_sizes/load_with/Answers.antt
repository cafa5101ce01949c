use Rattle.std.proofs.Common.{sum, ap, sym, subst, ◌∙◌, All, ◌≤◌, arith, refl}
use Rattle.sub_base.specs.declared.load.WriteLoad.{WriteLoad}
use Rattle.pes_packets.specs.declared.units.TheConstants.{OTHER_BYTES}
use Rattle.set_coder.specs.SetSizes.{AreUnitSizes, IsSetLoad}
use Rattle.set_coder.proofs.MeasureLaws.{some_units, each_unit}
use Rattle.set_coder.proofs.SetSizeLaws.{one_load}
use Rattle.set_coder.proofs.set_sizes.load_with.Goals as goal

pub returns : goal.returns
returns c =
    let script = c.args.script.now in
    let set = c.args.set.now in
    let measured = c.in_ok-measured in
    let value : WriteLoad = record {
      load = record { pts = set.pts; size = measured.measured.size; painted = c.painted_in.result };
      longest = measured.measured.longest;
      units = c.new.result;
    } in
    let load : IsSetLoad script set value = record {
      time = refl;
      units = subst (AreUnitSizes script set) (sym c.new.ensures) measured.ensures.units;
      size = measured.ensures.size ∙ ap sum (sym c.new.ensures);
      painted = c.painted_in.ensures.painted;
      longest = measured.ensures.longest;
    } in
    record {
      load = load;
      only = λ other sent. one_load script set value other load sent;
      some =
          omega (
            arith,
            measured.ensures.size,
            some_units script set measured.measured.units.items
                measured.ensures.units,
          );
      each =
          subst (All (λ unit. OTHER_BYTES ≤ unit)) (sym c.new.ensures)
          (each_unit script set measured.measured.units.items measured.ensures.units);
      early = c.requires.set.carried.time;
      short = omega (arith, c.painted_in.ensures.short);
    }
