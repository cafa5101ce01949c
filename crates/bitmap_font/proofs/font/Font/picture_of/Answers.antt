use Rattle.std.proofs.Common.{◌≡◌, ◌∙◌, ◌*◌, ℕ, List, map, replicate, length, sym, ap, subst, arith}
use Rattle.std.proofs.lemmas.List.{length-replicate}
use Rattle.sub_base.specs.Depth.{code_count}
use Rattle.sub_base.specs.Picture.{Picture, IsPicture, picture_of}
use Rattle.bitmap_font.specs.Setting.{IsInked, IsDrawn, drawn_of}
use Rattle.bitmap_font.proofs.DrawingLaws.{each_painted, All-painted, written}
use Rattle.bitmap_font.proofs.font.Font.picture_of.Goals as goal

pub unreachable-requires : goal.unreachable-requires
unreachable-requires c =
    let blank : c.deref_mut.result.now ≡ replicate (c.args.width * c.args.height) c.args.bg =
    cc (c.in_ok-codes.ensures) in
    let full : length c.draw.new.codes ≡ c.args.width * c.args.height =
    omega (arith, ap length blank, length-replicate (c.args.width * c.args.height) c.args.bg) in
    let whole : c.in_ok-codes.codes.len ≡ length c.draw.new.codes = omega arith in
    let is_picture : IsPicture (picture_of c.args.width c.args.height c.args.depth c.draw.new.codes) = record {
      wide = (c.requires.wide, omega arith);
      high = (c.requires.high, omega arith);
      full = full;
      each =
          All-painted (IsInked c.args.self.now (map drawn_of c.args.placed.now)) c.args.width c.args.height c.args.fg
          c.args.bg c.deref_mut.result.now c.draw.new.codes
          c.draw.ensures blank (code_count c.args.depth) full c.requires.wide c.requires.foreground
          c.requires.background;
    } in
    let P : List ℕ → Type 0 = λ codes. IsPicture (picture_of c.args.width c.args.height c.args.depth codes) in
    let h =
    c.in-Err.ensures.succeeds
    (subst P (sym (written c.in_ok-codes.codes.len c.draw.new.codes c.in_ok-codes.codes.items whole)) is_picture) in
    cc

pub returns-clause-drawn : goal.returns-clause-drawn
returns-clause-drawn c =
    let blank : c.deref_mut.result.now ≡ replicate (c.args.width * c.args.height) c.args.bg =
    cc (c.in_ok-codes.ensures) in
    let whole : c.in_ok-codes.codes.len ≡ length c.draw.new.codes = omega arith in
    let made : c.in-Ok.picture ≡ picture_of c.args.width c.args.height c.args.depth c.draw.new.codes =
    c.in-Ok.ensures.made
    ∙ ap (picture_of c.args.width c.args.height c.args.depth)
    (written c.in_ok-codes.codes.len c.draw.new.codes c.in_ok-codes.codes.items whole) in
    let P : Picture → Type 0 = IsDrawn c.args.self.now (map drawn_of c.args.placed.now) c.args.fg c.args.bg in
    subst P (sym made)
    (each_painted (IsInked c.args.self.now (map drawn_of c.args.placed.now)) c.args.width c.args.height c.args.fg
    c.args.bg c.deref_mut.result.now c.draw.new.codes
    c.draw.ensures blank)
