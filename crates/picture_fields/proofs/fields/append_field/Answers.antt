use Rattle.std.proofs.Common.{ap, arith}
use Rattle.picture_fields.specs.Private.Rows.{room_of}
use Rattle.picture_fields.proofs.FieldLaws.{written_more, written_all}
use Rattle.picture_fields.proofs.fields.append_field.Goals as goal

pub loop-row-preserved : goal.loop-row-preserved
loop-row-preserved c =
    record {
      short = omega (arith, ap room_of c.in-Some.ensures.steps, c.in_ok-append_row.ensures.short);
      written = written_more c.args.depth c.args.region c.args.out.now.items c.loop-row.out.items
          c.append_row.new.out.items c.loop-row.row-iterator c.next.new.self c.args.rows c.in-Some.row.now
          c.loop-row.invariant.written c.in-Some.ensures.steps c.in_ok-append_row.ensures.block;
    }

pub returns-clause-block : goal.returns-clause-block
returns-clause-block c =
    written_all c.args.depth c.args.region c.args.out.now.items c.loop-row.out.items c.loop-row.row-iterator c.args.rows
    c.loop-row.invariant.written c.in-None.ensures.steps.0 c.requires.some c.requires.few
