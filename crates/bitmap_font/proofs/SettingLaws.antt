use Rattle.std.proofs.Common.{◌≡◌, ◌≢◌, ◌==◌, ◌∙◌, refl, sym, ap, inl, inr, ℕ, ◌+◌, ◌-◌, ◌*◌, ◌<◌, ◌≤◌, ◌⊎◌, max, Bool, false, if◌then◌else◌, List, [], ◌∷◌, ◌++◌, length, take, reverse, map, get_or, Some, zero-add, mul-le-mul_left, arith, length-append, below_more, Result, IfOk, Ok, Err}
use Rattle.std.proofs.lemmas.Bool.{ne_eqb}
use Rattle.std.proofs.lemmas.List.Sums.{sum_by-cons}
use Rattle.std.proofs.lemmas.List.{take_more, reverse-append, map-append, get_or_append_left, get_or-append_right}
use Rattle.bitmap_font.specs.declared.layout.PlacedGlyph.{PlacedGlyph}
use Rattle.bitmap_font.specs.Font.{GlyphValue, FontValue, glyph_of}
use Rattle.bitmap_font.specs.Setting.{advance_of, this_line, pen_after, line_after, widest_line, Drawn, drawn_of, drawn_glyphs, CanBeSet}

-- the elements before place n, the nearest first
abbrev pub earlier : {A : Type 0} → List A → ℕ → List A
earlier xs n = reverse (take n xs)

pub earlier-more : {A : Type 0} (xs : List A) (n : ℕ) (other : A) → n < length xs
    → earlier xs (n + 1) ≡ get_or xs n other ∷ earlier xs n
earlier-more xs n other inside =
    ap reverse (take_more xs n other inside) ∙ reverse-append (take n xs) (get_or xs n other ∷ [])

-- the first n characters are laid out
pub record LaidOut (font : FontValue) (characters : List ℕ) (n : ℕ) (placed : List PlacedGlyph)
    (pen width line : ℕ) : Type 0 where
  pub glyphs : map drawn_of placed ≡ drawn_glyphs font (earlier characters n)
  pub pen_is : pen ≡ pen_after font (earlier characters n)
  pub width_is : width ≡ widest_line font (earlier characters n)
  pub line_is : line ≡ line_after (earlier characters n)
  pub each : (k : ℕ) → k < n → CanBeSet font (get_or characters k 0)
  pub pens : (k : ℕ) (other : PlacedGlyph) → k < length placed → (get_or placed k other).pen ≤ width
  pub on_lines : (k : ℕ) (other : PlacedGlyph) → k < length placed → (get_or placed k other).line ≤ line
  pub few : line ≤ n
  pub narrow : width ≤ 255 * n
  pub within : pen ≤ width

pub LaidOut-none : (font : FontValue) (characters : List ℕ) → LaidOut font characters 0 [] 0 0 0
LaidOut-none font characters = record {
  glyphs = refl;
  pen_is = refl;
  width_is = refl;
  line_is = refl;
  each = λ k below. absurd (omega arith);
  pens = λ k other below. absurd (omega arith);
  on_lines = λ k other below. absurd (omega arith);
  few = omega arith;
  narrow = omega arith;
  within = omega arith;
}

each_more : (P : ℕ → Type 0) (n : ℕ) → ((k : ℕ) → k < n → P k) → P n → (k : ℕ) → k < n + 1 → P k
each_more P n below here k inside = below_more P n below here k inside

max_none : (width : ℕ) → width ≡ max width 0
max_none width = omega arith

lt_or_le : (a b : ℕ) → (a < b) ⊎ (b ≤ a)
lt_or_le a b = grind arith

-- what holds of each element and of one more
appended : (Q : PlacedGlyph → Type 0) (placed : List PlacedGlyph) (new : PlacedGlyph) →
    ((k : ℕ) (other : PlacedGlyph) → k < length placed → Q (get_or placed k other)) → Q new →
    (k : ℕ) (other : PlacedGlyph) → k < length (placed ++ new ∷ []) → Q (get_or (placed ++ new ∷ []) k other)
appended Q placed new old here k other inside =
    elim (lt_or_le k (length placed)) [
      | inl earlier_one ↦ rw (get_or_append_left placed (new ∷ []) other k earlier_one) (old k other earlier_one)
      | inr last ↦
          let zeroth : k - length placed ≡ 0 = omega (arith, length-append placed (new ∷ [])) in
          rw (get_or-append_right placed (new ∷ []) (length placed) k other refl last, zeroth) here
    ]

module _ (font : FontValue) (characters : List ℕ) (n : ℕ) (inside : n < length characters)
    (placed : List PlacedGlyph) (pen width line : ℕ)
    (before : LaidOut font characters n placed pen width line) where
  abbrev here : ℕ
  here = get_or characters n 0

  pub LaidOut-feed : here ≡ 10 → LaidOut font characters (n + 1) placed 0 width (line + 1)
  LaidOut-feed feed =
      let more = earlier-more characters n 0 inside ∙ ap (λ (c : ℕ). c ∷ earlier characters n) feed in
      record {
        glyphs = rw more before.glyphs;
        pen_is = rw more refl;
        width_is = rw more (before.width_is ∙ max_none (widest_line font (earlier characters n)));
        line_is =
            rw more (omega
            (arith, before.line_is, sum_by-cons (λ (c : ℕ). if c == 10 then 1 else 0) 10 (earlier characters n)));
        each = each_more (λ k. CanBeSet font (get_or characters k 0)) n before.each (inl feed);
        pens = before.pens;
        on_lines = λ k other below. omega (arith, before.on_lines k other below);
        few = omega (arith, before.few);
        narrow = omega (arith, before.narrow);
        within = omega arith;
      }

  module _ (other : here ≢ 10) (glyph : GlyphValue) (found : glyph_of font here ≡ Some glyph) where
    more : earlier characters (n + 1) ≡ here ∷ earlier characters n
    more = earlier-more characters n 0 inside

    no_feed : (here == 10) ≡ false
    no_feed = ne_eqb here 10 other

    advance : advance_of font here ≡ glyph.advance
    advance = rw found refl

    pen_more : pen_after font (earlier characters (n + 1)) ≡ glyph.advance + pen_after font (earlier characters n)
    pen_more = rw (more, no_feed) (sum_by-cons (advance_of font) here (this_line (earlier characters n))
        ∙ ap (λ (a : ℕ). a + pen_after font (earlier characters n)) advance)

    line_more : line_after (earlier characters (n + 1)) ≡ line_after (earlier characters n)
    line_more = ap line_after more ∙ sum_by-cons (λ (c : ℕ). if c == 10 then 1 else 0) here (earlier characters n)
        ∙ ap (λ (test : Bool). (if test then 1 else 0) + line_after (earlier characters n)) no_feed
        ∙ zero-add (line_after (earlier characters n))

    glyphs_more : drawn_glyphs font (earlier characters (n + 1))
        ≡ drawn_glyphs font (earlier characters n)
        ++ record {
          glyph = glyph;
          pen = pen_after font (earlier characters n);
          line = line_after
              (earlier characters n);
        } ∷ []
    glyphs_more = rw (more, no_feed, found) refl

    widest_more : widest_line font (earlier characters (n + 1))
        ≡ max (widest_line font (earlier characters n)) (pen_after font (earlier characters (n + 1)))
    widest_more = rw more refl

    pub LaidOut-glyph : (new : PlacedGlyph) → new.glyph.now ≡ glyph → new.pen ≡ pen → new.line ≡ line
        → glyph.advance < 256 →
        (pen' width' : ℕ) → pen' ≡ pen + glyph.advance → width' ≡ max width pen' →
        LaidOut font characters (n + 1) (placed ++ new ∷ []) pen' width' line
    LaidOut-glyph new glyph_is pen_at line_at narrow_glyph pen' width' pen'_is width'_is =
        let at_pen = pen_at ∙ before.pen_is in
        let at_line = line_at ∙ before.line_is in
        let drawn : drawn_of new
        ≡ record {
          glyph = glyph;
          pen = pen_after font (earlier characters n);
          line = line_after
              (earlier characters n);
        } = cc in
        let now : pen' ≡ pen_after font (earlier characters (n + 1)) =
        omega (arith, pen'_is, before.pen_is, pen_more) in
        record {
          glyphs = map-append drawn_of placed (new ∷ [])
              ∙ ap (λ (l : List Drawn). l ++ drawn_of new ∷ []) before.glyphs
              ∙ ap (λ (d : Drawn). drawn_glyphs font (earlier characters n) ++ d ∷ []) drawn
              ∙ sym glyphs_more;
          pen_is = now;
          width_is =
              width'_is ∙ ap (λ (w : ℕ). max w pen') before.width_is
              ∙ ap (λ (p : ℕ). max (widest_line font (earlier characters n)) p) now ∙ sym widest_more;
          line_is = before.line_is ∙ sym line_more;
          each = each_more (λ k. CanBeSet font (get_or characters k 0)) n before.each (inr (rw found refl));
          pens =
              appended (λ p. p.pen ≤ width') placed new
              (λ k o below. omega (arith, width'_is, before.pens k o below))
              (omega (arith, pen_at, width'_is, before.within));
          on_lines = appended (λ p. p.line ≤ line) placed new before.on_lines (omega arith);
          few = omega (arith, before.few);
          narrow = omega (arith, before.narrow, before.within, pen'_is, width'_is);
          within = omega (arith, width'_is);
        }

-- two clauses of one outcome
pub IfOk-with : {T E : Type 0} (P Q R : T → Type 0) (r : Result T E) → IfOk r P → IfOk r Q
    → ((x : T) → P x → Q x → R x) → IfOk r R
IfOk-with P Q R (Ok x) p q f = f x p q
IfOk-with P Q R (Err e) p q f = tt

-- many lines of any height are high
pub high_enough : (lines height : ℕ) → 1 ≤ height → 1080 < lines → 1080 < lines * height
high_enough lines height positive many = omega (arith, mul-le-mul_left lines positive)
