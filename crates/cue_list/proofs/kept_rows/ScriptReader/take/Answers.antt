use Rattle.std.proofs.Common.{refl, sym, subst, arith}
use Rattle.std.proofs.lemmas.Grind.{common_steps}
use Rattle.csv.specs.Records.{fields_of}
use Rattle.cue_list.specs.Private.State.{past_of}
use Rattle.cue_list.specs.Private.Taken.{kept_of}
use Rattle.cue_list.specs.SeenReaders.{seen_of}
use Rattle.cue_list.specs.TakenRows.{Mark, TakesRow}
use Rattle.cue_list.specs.declared.reader.Reader.{Reader}
use Rattle.cue_list.proofs.StandsLaws.{IsCopy, IsTakenBy, left-marked, refused-inside, takes-inside}
use Rattle.cue_list.proofs.kept_rows.ScriptReader.take.Goals as goal

pub returns-in-Ok-take-clause-taken : goal.returns-in-Ok-take-clause-taken
returns-in-Ok-take-clause-taken c = λ rows stands.
    let font = c.args.font.now in
    let cells = fields_of c.args.row.now in
    let reader = c.args.self.now.kept in
    let copied : IsCopy reader c.in-Ok.next =
    record { past = c.in-Ok.ensures.same; pictures = c.in-Ok.ensures.pictures }
    in
    let taken : IsTakenBy font cells c.in-Ok.next c.take.new.self = record {
      valid = c.in-Ok-take.ensures.valid;
      next_is = c.in-Ok-take.ensures.next;
      brings = c.in-Ok-take.ensures.drawn;
    } in
    let mark : Mark = record { past = past_of c.replace-kept.result; count = c.len-count.result } in
    subst (λ (r : Reader). TakesRow font rows cells (kept_of r) mark) (sym c.replace-kept.ensures.after)
    (takes-inside font rows cells reader c.in-Ok.next c.take.new.self (seen_of c.args.self.now) mark refl copied
    (left-marked reader c.copy.new.self c.replace-kept.result c.replace-kept.ensures.value c.in-Ok.ensures.left
    c.in-Ok.ensures.none) (grind (arith, common_steps)) taken stands)

pub returns-in-Err-take-clause-refused : goal.returns-in-Err-take-clause-refused
returns-in-Err-take-clause-refused c = λ rows stands.
    let font = c.args.font.now in
    let cells = fields_of c.args.row.now in
    let reader = c.args.self.now.kept in
    let copied : IsCopy reader c.in-Ok.next =
    record { past = c.in-Ok.ensures.same; pictures = c.in-Ok.ensures.pictures }
    in
    refused-inside font rows cells reader c.in-Ok.next (seen_of c.args.self.now) c.in-Err-take.fault refl copied
    c.in-Err-take.ensures.refused stands
