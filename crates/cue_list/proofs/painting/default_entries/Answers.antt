use Rattle.std.proofs.Common.{◌≢◌, ◌∙◌, ◌<◌, ◌≤◌, ℕ, length, get_or, set, get_or-set_same, get_or-set_other, ap, sym, below_more, arith}
use Rattle.std.proofs.lemmas.List.{length-set}
use Rattle.sub_base.specs.Colour.{clear}
use Rattle.sub_base.specs.Depth.{code_count}
use Rattle.sub_base.specs.declared.depth.Depth.{Depth}
use Rattle.sub_base.specs.declared.depth.Depth.TheVariants.{Two, Four, Eight}
use Rattle.cue_list.proofs.painting.default_entries.Goals as goal

few : (depth : Depth) → code_count depth ≤ 256
few Two = omega arith
few Four = omega arith
few Eight = omega arith

pub loop-code-preserved : goal.loop-code-preserved
loop-code-preserved c =
    let inside : c.from.result < length c.loop-code.entries =
    omega (arith, c.loop-code.invariant.full, few c.args.depth) in
    record {
      full = length-set c.loop-code.entries c.from.result c.default_colour.result ∙ c.loop-code.invariant.full;
      defaults = below_more _ _
          (λ entry below.
          let other : entry ≢ c.from.result = omega arith in
          get_or-set_other c.loop-code.entries c.from.result entry c.default_colour.result clear other
          ∙ c.loop-code.invariant.defaults entry below)
          (ap (λ (k : ℕ). get_or (set c.loop-code.entries c.from.result c.default_colour.result) k clear)
          (sym c.from.ensures)
          ∙ get_or-set_same c.loop-code.entries c.from.result c.default_colour.result clear inside
          ∙ c.default_colour.ensures);
    }
