use Rattle.std.proofs.Common.{arith, refl}
use Rattle.segments.proofs.Sixes.{length_by_six, page_entry_at}
use Rattle.segments.proofs.page.PageSeg.entry.Goals as goal

pub returns : goal.returns
returns c =
    page_entry_at c.args.self.now.entries.now c.args.i _ _ _ (grind (arith, length_by_six)) refl c.read_word.ensures
    c.read_word-2.ensures
