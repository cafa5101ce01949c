use Rattle.bitmap_font.proofs.SettingLaws.{LaidOut}
use Rattle.bitmap_font.proofs.font.Font.lay_out.Given as goal

abbrev pub invariant-loop-character : goal.invariant-loop-character
invariant-loop-character l = LaidOut l.self l.characters l.character-index l.placed.items l.pen l.width l.line
