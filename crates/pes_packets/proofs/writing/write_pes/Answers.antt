use Rattle.std.proofs.Common.{◌++◌, List, ℕ, ap, ◌∙◌}
use Rattle.pes_packets.proofs.PesLayout.{pes_is_read}
use Rattle.pes_packets.proofs.Written.{written_is_pes, written_is_unit, two_pieces}
use Rattle.pes_packets.proofs.writing.write_pes.Goals as goal

pub returns-in_err-reserve-clause-packet : goal.returns-in_err-reserve-clause-packet
returns-in_err-reserve-clause-packet c = written_is_pes _ _ c.requires.time c.requires.fits c.requires.subtitles

pub returns-in_err-reserve-clause-read_again : goal.returns-in_err-reserve-clause-read_again
returns-in_err-reserve-clause-read_again c =
    pes_is_read _ _ _ (written_is_pes _ _ c.requires.time c.requires.fits c.requires.subtitles)

pub returns-clause-read_again : goal.returns-clause-read_again
returns-clause-read_again c =
    pes_is_read _ _ _ (written_is_pes _ _ c.requires.time c.requires.fits c.requires.subtitles)

pub returns-clause-bytes : goal.returns-clause-bytes
returns-clause-bytes c =
    let header_put = rw c.unwrap.ensures at c.extend_from_slice.ensures.items in
    let field_put = rw c.unwrap-2.ensures at c.extend_from_slice-2.ensures.items in
    let put =
    two_pieces _ _ _ _ _
    (header_put ∙ ap (λ (xs : List ℕ). xs ++ c.header-header.result) c.reserve.ensures.items) field_put in
    put ∙ ap (λ (header : List ℕ). c.args.out.now.items ++ (header ++ c.args.field.now)) c.header-header.ensures

pub returns-clause-packet : goal.returns-clause-packet
returns-clause-packet c = written_is_pes _ _ c.requires.time c.requires.fits c.requires.subtitles

pub returns-clause-unit : goal.returns-clause-unit
returns-clause-unit c = written_is_unit _ _ c.requires.fits

pub returns-in_err-reserve-clause-unit : goal.returns-in_err-reserve-clause-unit
returns-in_err-reserve-clause-unit c = written_is_unit _ _ c.requires.fits
