use Rattle.std.proofs.Common.{map}
use Rattle.bitmap_font.specs.Setting.{drawn_of}
use Rattle.bitmap_font.specs.Drawing.{PaintsWhere}
use Rattle.bitmap_font.proofs.DrawingLaws.{IsInkedBefore}
use Rattle.bitmap_font.proofs.font.Font.draw.Given as goal

abbrev pub invariant-loop-place : goal.invariant-loop-place
invariant-loop-place l =
    PaintsWhere (IsInkedBefore l.self (map drawn_of l.placed) l.place-index) l.width l.height l.ink l.initial.codes
    l.codes
