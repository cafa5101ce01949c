use Rattle.std.proofs.Common.{◌+◌, map, arith}
use Rattle.std.proofs.lemmas.Grind.{common_steps}
use Rattle.csv.specs.Records.{fields_of}
use Rattle.cue_list.specs.Private.State.{past_of, head_of}
use Rattle.cue_list.specs.Private.Ticks.{near_by}
use Rattle.cue_list.proofs.CueLaws.{cue-next}
use Rattle.cue_list.proofs.reader.Reader.take_cue.Goals as goal

pub returns-clause-taken : goal.returns-clause-taken
returns-clause-taken c = record {
  reader = grind (arith, common_steps);
  valid = grind (arith, common_steps);
  next =
      cue-next c.args.font.now (past_of c.args.self.now) c.args.number (fields_of c.args.row.now)
      c.in_ok-cue.cue.placing c.text_cell.result.now (head_of c.in_ok-picture.picture)
      c.add_cue.new.epoch (map head_of c.push.new.self.items) (c.args.self.now.codes + c.area.result)
      (near_by c.add_both.new.self) c.cue_with.result
      c.in_ok-cue.ensures.placing c.text_cell.ensures c.in_ok-picture.ensures.head (grind (arith, common_steps))
      c.in_ok-add_cue.ensures.added (grind (arith, common_steps)) (grind (arith, common_steps))
      c.in_ok-add_both.ensures.added;
}
