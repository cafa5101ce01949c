use Rattle.bitmap_font.proofs.ReadLaws.{HasRead}
use Rattle.bitmap_font.proofs.read.read_lines.Given as goal

abbrev pub invariant-loop-text : goal.invariant-loop-text
invariant-loop-text l = HasRead l.bytes l.number l.text-iterator l.reader
