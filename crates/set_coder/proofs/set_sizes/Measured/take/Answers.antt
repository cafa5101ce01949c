use Rattle.std.proofs.Common.{ℕ, ◌∷◌, [], ◌++◌, max, List, Result, Ok, Err, OnOk, sum, ap, sym, subst, ◌∙◌, arith}
use Rattle.std.specs.Prelude.{option_to_list}
use Rattle.pes_packets.specs.declared.units.OpenUnit.{OpenUnit}
use Rattle.pes_packets.specs.Units.{IsOpenAfter}
use Rattle.set_coder.specs.Private.Measuring.{IsGreatest}
use Rattle.set_coder.proofs.MeasureLaws.{sum_with, greatest_more}
use Rattle.set_coder.proofs.set_sizes.Measured.take.Goals as goal

both_on_ok : {A E P Q R : Type 0} (r : Result A E) → OnOk r P → OnOk r Q → (P → Q → R) → OnOk r R
both_on_ok (Ok x) p q f = f p q
both_on_ok (Err x) p q f = tt

pub returns-clause-measured : goal.returns-clause-measured
returns-clause-measured c =
    let segment = c.args.segment in
    let old = c.args.self.now in
    let new = c.close.new.self in
    let closed = option_to_list c.take-closed.result in
    let bytes = ap (λ (unit : OpenUnit). unit.bytes) c.close.ensures.unit in
    let longest =
    c.close.ensures.longest ∙ c.max-self.ensures ∙ ap (λ (n : ℕ). max old.longest n) c.from.ensures in
    both_on_ok c.close.result c.close.ensures.units c.close.ensures.size (λ units size sizes measured. record {
      taken = subst (λ (n : ℕ). IsOpenAfter (sizes ++ segment ∷ []) new.units.items n) (sym bytes)
          (subst (λ (lengths : List ℕ). IsOpenAfter (sizes ++ segment ∷ []) lengths c.take-closed.new.self.bytes)
          (sym units) (c.take-closed.ensures.taken sizes old.units.items measured.taken));
      size = omega (arith, size, measured.size, ap sum units, sum_with old.units.items closed);
      longest =
          subst (IsGreatest (sizes ++ segment ∷ [])) (sym longest)
          (greatest_more sizes segment old.longest (omega (arith, c.requires.segment.0)) measured.longest);
    })
