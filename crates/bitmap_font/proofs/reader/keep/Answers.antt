use Rattle.std.proofs.Common.{◌≡◌, ◌∙◌, ◌==◌, ℕ, false, Some, sym, ap, subst, length, List, arith, rules, nat_cmp}
use Rattle.std.proofs.lemmas.Bool.Decides.{nat_tests}
use Rattle.std.proofs.lemmas.Grind.{common_steps}
use Rattle.std.specs.BTreeMap.{get, is_at}
use Rattle.bitmap_font.specs.Font.{GlyphValue, Indexes}
use Rattle.bitmap_font.proofs.ValueLaws.{Indexes-push}
use Rattle.bitmap_font.proofs.reader.keep.Goals as goal

apart : (a b : ℕ) → (a == b) ≡ false → is_at (nat_cmp a) b ≡ false
apart a b e = first_of (search rules, grind (arith, nat_tests), grind (arith, common_steps))

pub returns-clause-indexed : goal.returns-clause-indexed
returns-clause-indexed c =
    let len : c.len.result ≡ length c.args.glyphs.now.items = omega arith in
    let P : List GlyphValue → Type 0 = λ glyphs. Indexes (get nat_cmp c.insert.new.self) glyphs in
    subst P (sym c.in_ok-push.ensures.items)
    (Indexes-push (get nat_cmp c.args.places.now) (get nat_cmp c.insert.new.self) c.args.glyphs.now.items c.args.glyph
    c.requires.indexed c.requires.fresh
    (ap (get nat_cmp c.insert.new.self) (sym c.character.ensures) ∙ c.in_ok-insert.ensures.updates.1 ∙ ap Some len)
    (λ character other. c.in_ok-insert.ensures.updates.2 character
    (ap (λ k. is_at (nat_cmp k) character) c.character.ensures ∙ apart c.args.glyph.character character other)))
