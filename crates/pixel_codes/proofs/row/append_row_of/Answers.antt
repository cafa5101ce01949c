use Rattle.std.proofs.Common.{◌++◌, ap, ◌∙◌, List, ℕ, arith}
use Rattle.std.proofs.lemmas.Result.{on_ok_weaker}
use Rattle.stream_syntax.specs.PixelCodes.{bits_of}
use Rattle.pixel_codes.specs.Private.Rows.{runs_of, codes_of, text_from}
use Rattle.pixel_codes.specs.Private.Stream.{stream}
use Rattle.pixel_codes.proofs.Writing.{extends_none, extends_trans, no_bits}
use Rattle.pixel_codes.proofs.Rows.{whole_string}
use Rattle.pixel_codes.proofs.RunEnds.{begins_at}
use Rattle.pixel_codes.proofs.row.append_row_of.Goals as goal

pub loop-depth-init : goal.loop-depth-init
loop-depth-init c = record {
  run = begins_at c.args.codes.now 0 (omega arith);
  text =
      ap (λ (t : List ℕ). t ++ text_from c.args.depth c.args.codes.now 0)
      (no_bits c.args.out.now.items c.none-pending.result.value c.none-pending.result.count
      c.none-pending.ensures.count);
  extends = extends_none c.args.out.now.items;
}

pub loop-depth-preserved : goal.loop-depth-preserved
loop-depth-preserved c =
    let l = c.loop-depth in
    record {
      run = c.in_ok-from.ensures.run;
      text = c.in_ok-from.ensures.text ∙ l.invariant.text;
      extends =
          extends_trans c.args.out.now.items l.out.items c.append_ended.new.out.items l.invariant.extends
          c.append_ended.ensures.extends;
    }

pub returns-clause-text : goal.returns-clause-text
returns-clause-text c =
    let l = c.loop-depth in
    let row = c.args.codes.now in
    let read = c.in_ok-append_rest.ensures.text ∙ l.invariant.text in
    on_ok_weaker c.finish.result
    (λ f. (
      f.0,
      f.1,
      whole_string c.args.depth (codes_of c.args.depth (runs_of row)) (bits_of c.args.out.now.items)
          (stream c.append_rest.new.out.items c.append_rest.new.pending)
          (stream c.append_end.new.out.items c.append_end.new.pending)
          (bits_of c.finish.new.out.items) f.0 read c.in_ok-append_end.ensures.text f.2,
    ))
    c.finish.ensures.text
