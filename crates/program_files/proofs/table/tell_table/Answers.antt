use Rattle.std.proofs.Common.{◌∙◌, [], ◌∷◌, ◌++◌, ℕ, List, subst, sym}
use Rattle.program_files.specs.Table.{IsToldOn}
use Rattle.program_files.proofs.TableLaws.{front_told, both_told}
use Rattle.program_files.proofs.table.tell_table.Goals as goal

pub returns-then-is_ok : goal.returns-then-is_ok
returns-then-is_ok g c =
    subst (λ (table : List ℕ). IsToldOn (g.E.Sink.received c.args.errors.now)
    (g.E.Sink.received c.write_whole-then-is_ok.new.sink) (table ++ 10 ∷ [])) c.as_bytes.ensures.value
    (both_told (g.E.Sink.received c.args.errors.now) (g.E.Sink.received c.write_whole.new.sink)
    (g.E.Sink.received c.write_whole-then-is_ok.new.sink) c.as_bytes.result.now (10 ∷ []) c.write_whole.result
    c.write_whole-then-is_ok.result (sym c.is_ok.ensures.value ∙ c.if-is_ok.true)
    c.write_whole.ensures.all c.write_whole.ensures.kept c.write_whole-then-is_ok.ensures.all
    c.write_whole-then-is_ok.ensures.prefix c.write_whole-then-is_ok.ensures.cause)

pub returns-else-is_ok : goal.returns-else-is_ok
returns-else-is_ok g c =
    subst (λ (table : List ℕ). IsToldOn (g.E.Sink.received c.args.errors.now)
    (g.E.Sink.received c.write_whole.new.sink) (table ++ 10 ∷ [])) c.as_bytes.ensures.value
    (front_told (g.E.Sink.received c.args.errors.now) (g.E.Sink.received c.write_whole.new.sink)
    c.as_bytes.result.now (10 ∷ []) c.write_whole.result (sym c.is_ok.ensures.value ∙ c.if-is_ok.false)
    c.write_whole.ensures.prefix c.write_whole.ensures.cause)
