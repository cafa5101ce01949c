use Rattle.std.proofs.Common.{arith, sym, ◌∙◌, refl}
use Rattle.std.proofs.lemmas.Bool.Decides.{nat_tests}
use Rattle.psi_tables.proofs.SectionLaws.{PassesHead, bad_loop, valid_value}
use Rattle.psi_tables.proofs.section.section_of.Goals as goal

pub returns-then-not-is_body : goal.returns-then-not-is_body
returns-then-not-is_body c =
    let passes : PassesHead c.args.bytes.now c.twelve_at-length.result = record {
      size_is = c.twelve_at-length.ensures;
      whole = sym c.is_cut.ensures ∙ c.if-is_cut.false;
      fits = (c.if-length-lt-SHORTEST.false, c.if-length-gt-LONGEST.false);
      right_crc = sym c.crc-crc.ensures ∙ c.if-crc-ne0.false;
      table = sym c.is_table.ensures ∙ c.if-not-is_table.false;
      current = grind (arith, nat_tests, c.if-bytes-eq0.false);
    } in
    bad_loop c.args.bytes.now c.twelve_at-length.result passes (sym c.is_body.ensures ∙ c.if-not-is_body.true)

pub returns : goal.returns
returns c =
    let passes : PassesHead c.args.bytes.now c.twelve_at-length.result = record {
      size_is = c.twelve_at-length.ensures;
      whole = sym c.is_cut.ensures ∙ c.if-is_cut.false;
      fits = (c.if-length-lt-SHORTEST.false, c.if-length-gt-LONGEST.false);
      right_crc = sym c.crc-crc.ensures ∙ c.if-crc-ne0.false;
      table = sym c.is_table.ensures ∙ c.if-not-is_table.false;
      current = grind (arith, nat_tests, c.if-bytes-eq0.false);
    } in
    valid_value c.args.bytes.now c.twelve_at-length.result _ passes (sym c.is_body.ensures ∙ c.if-not-is_body.false)
    (c.section_with.ensures ∙ rw c.word_at.ensures refl)
