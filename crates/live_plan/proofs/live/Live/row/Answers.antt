use Rattle.std.proofs.Common.{subst}
use Rattle.csv.specs.Records.{fields_of}
use Rattle.cue_list.specs.OnlyRow.{IsOnlyRow}
use Rattle.live_plan.proofs.LetRows.{piece_answered}
use Rattle.live_plan.proofs.live.Live.row.Goals as goal

pub returns-in-Row-clause-answer : goal.returns-in-Row-clause-answer
returns-in-Row-clause-answer c =
    piece_answered c.args.self.now c.take_row.new.self c.args.piece.now (fields_of c.in-Row.row) c.take_row.result
    (subst (IsOnlyRow c.args.piece.now) c.in-Row.is c.in-Ok.ensures) c.take_row.ensures.answer
