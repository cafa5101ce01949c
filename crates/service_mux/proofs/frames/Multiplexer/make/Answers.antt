use Rattle.std.proofs.Common.{◌∙◌, ◌++◌, ◌∷◌, [], ℕ, List, ap, subst}
use Rattle.psi_tables.specs.Writing.{written_pat}
use Rattle.service_mux.specs.Private.Frames.{HasTurned}
use Rattle.service_mux.proofs.frames.Multiplexer.make.Goals as goal

pub returns-clause-tables : goal.returns-clause-tables
returns-clause-tables c =
    let pat : List ℕ = written_pat (c.args.pair.now.one ∷ c.args.pair.now.two ∷ []) in
    let bytes =
    c.as_slice.ensures.value ∙ c.in_ok-write_pat.ensures.section
    ∙ ap (λ (l : List ℕ). l ++ pat) c.new-section.ensures.items in
    record {
      pat = subst (λ (section : List ℕ). HasTurned c.make.result 0 section 0) bytes c.make.ensures;
      one = c.in_ok-make.ensures.table;
      two = c.in_ok-make-2.ensures.table;
    }
