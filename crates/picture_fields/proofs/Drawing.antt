-- The block of a field draws its rows.
use Rattle.std.proofs.Common.{◌≡◌, ℕ, zero, suc, ◌+◌, ◌<◌, Bool, true, false, cond, eqb, List, [], ◌∷◌, ◌++◌, length, refl, sym, ap, subst, ◌∙◌, append_assoc, arith}
use Rattle.std.specs.Prelude.{All, replicate, flat_map, slice_index}
use Rattle.std.proofs.lemmas.Bool.{eqb-true}
use Rattle.std.proofs.lemmas.List.Elements.{All-head, All-tail}
use Rattle.sub_base.specs.Depth.{code_count}
use Rattle.sub_base.specs.declared.depth.Depth.{Depth}
use Rattle.sub_base.specs.declared.depth.Depth.TheVariants.{Two, Four, Eight}
use Rattle.stream_syntax.specs.PixelCodes.{Code, IsCode, pixel_count, colour_of, pixels_of}
use Rattle.stream_syntax.specs.PixelBlocks.{Part, string, table, line_end, string_type, line_end_type, table_type, table_size, entries_of, IsNoDeeper, AreParts, mapped, line_after, column_after, runs_from, runs_after}
use Rattle.stream_syntax.specs.FieldBlocks.{identity_table, AreRowBlocks, IsFieldBlock, DrawsLine, DrawsRows, IsDrawnAs, DrawsPicture}
use Rattle.sub_base.specs.Picture.{Picture, top_field, bottom_field}
use Rattle.picture_fields.proofs.FieldLaws.{Both, same_fields}
use Rattle.stream_syntax.specs.declared.map_table.MapTable.{MapTable}
use Rattle.stream_syntax.specs.declared.map_table.MapTable.TheVariants.{TwoToFour, TwoToEight, FourToEight}
use Rattle.stream_syntax.specs.declared.pixel_run.Run.{Run}
use Rattle.pixel_codes.proofs.Steps.{colour_below}
use Rattle.pixel_codes.proofs.Strings.{read_as}

-- each code of the picture stands for itself behind these sub-blocks
unfoldable MapsSelf : Depth → Depth → List Part → Type 0
MapsSelf depth region before = (code : ℕ) → code < code_count depth → mapped depth region before code ≡ code

-- strings and ends of lines leave the tables as they are
mapped-line : (depth region : Depth) (codes : List Code) (before : List Part) (code : ℕ)
    → mapped depth region (line_end ∷ string depth codes ∷ before) code ≡ mapped depth region before code
mapped-line Two Two codes before code = refl
mapped-line Two Four codes before code = refl
mapped-line Two Eight codes before code = refl
mapped-line Four Two codes before code = refl
mapped-line Four Four codes before code = refl
mapped-line Four Eight codes before code = refl
mapped-line Eight Two codes before code = refl
mapped-line Eight Four codes before code = refl
mapped-line Eight Eight codes before code = refl

-- the runs of a string draw its pixels
draws_line : (depth region : Depth) (before : List Part) (line column : ℕ) (codes : List Code)
    → MapsSelf depth region before → line_after before ≡ line → All (IsCode depth) codes
    → DrawsLine line column (runs_from region depth before column codes) (flat_map (pixels_of depth) codes)
unfolding MapsSelf
draws_line depth region before line column [] m l h = refl
draws_line depth region before line column (code ∷ codes) m l h =
    by (eqb (pixel_count depth code) 0) refl
    (draws_line depth region before line (column + pixel_count depth code) codes m l
    (All-tail (IsCode depth) code codes h))
  where
    self : mapped depth region before (colour_of code) ≡ colour_of code
    self = m (colour_of code) (colour_below depth code (All-head (IsCode depth) code codes h))

    rest : List Run
    rest = runs_from region depth before (column + pixel_count depth code) codes

    pixels : List ℕ
    pixels = flat_map (pixels_of depth) codes

    by : (b : Bool) → eqb (pixel_count depth code) 0 ≡ b
        → DrawsLine line (column + pixel_count depth code)
        (runs_from region depth before (column + pixel_count depth code) codes) (flat_map (pixels_of depth) codes) →
        DrawsLine line column
        (cond b []
        (record {
          x = column;
          line = line_after before;
          length = pixel_count depth code;
          read = colour_of code;
          code = mapped depth region before (colour_of code);
        } ∷ [])
        ++ runs_from region depth before (column + pixel_count depth code) codes)
        (pixels_of depth code ++ flat_map (pixels_of depth) codes)
    by true e d =
        let z : pixel_count depth code ≡ 0 = eqb-true (pixel_count depth code) 0 e in
        let c : column + pixel_count depth code ≡ column = omega arith in
        let p : pixels_of depth code ++ flat_map (pixels_of depth) codes ≡ flat_map (pixels_of depth) codes =
        ap (λ (n : ℕ). replicate n (colour_of code) ++ flat_map (pixels_of depth) codes) z in
        subst (λ (n : ℕ). DrawsLine line n (runs_from region depth before (column + pixel_count depth code) codes)
        (pixels_of depth code ++ flat_map (pixels_of depth) codes)) c
        (subst (DrawsLine line (column + pixel_count depth code)
        (runs_from region depth before (column + pixel_count depth code) codes)) (sym p) d)
    by false e d = (
      l,
      refl,
      sym self,
      flat_map (pixels_of depth) codes,
      ap
          (λ (n : ℕ). replicate (pixel_count depth code) n ++ flat_map (pixels_of depth) codes) (sym self),
      d,
    )

-- the sub-blocks of rows draw the rows
record Rows (depth region : Depth) (rows : List (List ℕ)) (text : List ℕ) : Type 0 where
  parts : List Part
  whole : AreParts region parts text
  drawn : (before : List Part) (line : ℕ) → MapsSelf depth region before → line_after before ≡ line
      → column_after before ≡ 0 → DrawsRows line (runs_after region before parts) rows

rows_drawn : (depth region : Depth) (rows : List (List ℕ)) (text : List ℕ) → IsNoDeeper depth region
    → AreRowBlocks depth rows text → Rows depth region rows text
unfolding MapsSelf
rows_drawn depth region [] text n b = record { parts = []; whole = b; drawn = λ before line m l c. refl }
rows_drawn depth region (row ∷ rows) text n b =
    let r = b.3 in
    let read = read_as depth row r.0 r.1 in
    let rest = rows_drawn depth region rows b.1 n b.4 in
    let cut : text ≡ (string_type depth ∷ r.0) ++ ((line_end_type ∷ []) ++ b.1) =
    b.2 ∙ ap (λ (t : List ℕ). t ++ b.1) r.2
    ∙ ap (λ (t : List ℕ). string_type depth ∷ t) (append_assoc r.0 (line_end_type ∷ []) b.1) in
    record {
      parts = string depth read.codes ∷ line_end ∷ rest.parts;
      whole = (
        string_type depth ∷ r.0,
        (line_end_type ∷ [])
            ++ b.1,
        cut,
        (n, r.0, refl, read.whole),
        (line_end_type ∷ [], b.1, refl, refl, rest.whole),
      );
      drawn = λ before line m l c.
          let first = draws_line depth region before line 0 read.codes m l read.given.each in
          let pixels : DrawsLine line 0 (runs_from region depth before 0 read.codes) row =
          subst (DrawsLine line 0 (runs_from region depth before 0 read.codes)) read.given.drawn first in
          let start : DrawsLine line 0 (runs_from region depth before (column_after before) read.codes) row =
          subst (λ (k : ℕ). DrawsLine line 0 (runs_from region depth before k read.codes) row) (sym c) pixels in
          let behind : MapsSelf depth region (line_end ∷ string depth read.codes ∷ before) =
          λ code k. mapped-line depth region read.codes before code ∙ m code k in (
            runs_from region depth before (column_after before) read.codes,
            runs_after region
                (line_end ∷ string depth read.codes ∷ before) rest.parts,
            refl,
            start,
            rest.drawn
                (line_end ∷ string depth read.codes ∷ before) (line + 1) behind (ap (λ (k : ℕ). k + 1) l) refl,
          );
    }

-- ---- the identity tables

four_self : (xs : List ℕ) → xs ≡ 0 ∷ 1 ∷ 2 ∷ 3 ∷ [] → (code : ℕ) → code < 4
    → slice_index xs code ≡ code
four_self xs e code h = ap (λ (t : List ℕ). slice_index t code) e ∙ at code h
  where
    at : (n : ℕ) → n < 4 → slice_index (0 ∷ 1 ∷ 2 ∷ 3 ∷ []) n ≡ n
    at zero h = refl
    at (suc zero) h = refl
    at (suc (suc zero)) h = refl
    at (suc (suc (suc zero))) h = refl
    at (suc (suc (suc (suc n)))) h = absurd (omega arith)

unfoldable sixteen : List ℕ
sixteen = 0 ∷ 1 ∷ 2 ∷ 3 ∷ 4 ∷ 5 ∷ 6 ∷ 7 ∷ 8 ∷ 9 ∷ 10 ∷ 11 ∷ 12 ∷ 13 ∷ 14 ∷ 15 ∷ []

sixteen_self : (n : ℕ) → n < 16 → slice_index sixteen n ≡ n
unfolding sixteen
sixteen_self zero h = refl
sixteen_self (suc zero) h = refl
sixteen_self (suc (suc zero)) h = refl
sixteen_self (suc (suc (suc zero))) h = refl
sixteen_self (suc (suc (suc (suc zero)))) h = refl
sixteen_self (suc (suc (suc (suc (suc zero))))) h = refl
sixteen_self (suc (suc (suc (suc (suc (suc zero)))))) h = refl
sixteen_self (suc (suc (suc (suc (suc (suc (suc zero))))))) h = refl
sixteen_self (suc (suc (suc (suc (suc (suc (suc (suc zero)))))))) h = refl
sixteen_self (suc (suc (suc (suc (suc (suc (suc (suc (suc zero))))))))) h = refl
sixteen_self (suc (suc (suc (suc (suc (suc (suc (suc (suc (suc zero)))))))))) h = refl
sixteen_self (suc (suc (suc (suc (suc (suc (suc (suc (suc (suc (suc zero))))))))))) h = refl
sixteen_self (suc (suc (suc (suc (suc (suc (suc (suc (suc (suc (suc (suc zero)))))))))))) h = refl
sixteen_self (suc (suc (suc (suc (suc (suc (suc (suc (suc (suc (suc (suc (suc zero))))))))))))) h = refl
sixteen_self (suc (suc (suc (suc (suc (suc (suc (suc (suc (suc (suc (suc (suc (suc zero)))))))))))))) h = refl
sixteen_self (suc (suc (suc (suc (suc (suc (suc (suc (suc (suc (suc (suc (suc (suc (suc zero))))))))))))))) h = refl
sixteen_self (suc (suc (suc (suc (suc (suc (suc (suc (suc (suc (suc (suc (suc (suc (suc (suc n)))))))))))))))) h =
    absurd (omega arith)

-- the rows behind a table
behind_table : (depth region : Depth) (rows : List (List ℕ)) (kind : MapTable) (body text bytes : List ℕ)
    → length body ≡ table_size kind → MapsSelf depth region (table kind (entries_of kind body) ∷ [])
    → Rows depth region rows text → bytes ≡ (table_type kind ∷ body) ++ text → IsDrawnAs region bytes rows
behind_table depth region rows kind body text bytes l m r e =
    let parts = table kind (entries_of kind body) ∷ r.parts in
    record {
      runs = runs_after region [] parts;
      block =
          record {
            parts = parts;
            whole = (table_type kind ∷ body, text, e, (body, refl, l, refl), r.whole);
            drawn = refl;
          };
      drawn = r.drawn (table kind (entries_of kind body) ∷ []) 0 m refl refl;
    }

-- the rows with no table
bare : (depth region : Depth) (rows : List (List ℕ)) (text bytes : List ℕ) → MapsSelf depth region []
    → Rows depth region rows text → bytes ≡ text → IsDrawnAs region bytes rows
bare depth region rows text bytes m r e = record {
  runs = runs_after region [] r.parts;
  block = record { parts = r.parts; whole = subst (AreParts region r.parts) (sym e) r.whole; drawn = refl };
  drawn = r.drawn [] 0 m refl refl;
}

rows_behind : (depth region : Depth) (rows : List (List ℕ)) (text bytes : List ℕ) → Rows depth region rows text
    → bytes ≡ identity_table depth region ++ text → IsDrawnAs region bytes rows
unfolding MapsSelf sixteen
rows_behind Two Two rows text bytes r e = bare Two Two rows text bytes (λ code h. refl) r e
rows_behind Two Four rows text bytes r e =
    behind_table Two Four rows TwoToFour (0x01 ∷ 0x23 ∷ []) text bytes refl (λ code h. four_self _ refl code h) r e
rows_behind Two Eight rows text bytes r e =
    behind_table Two Eight rows TwoToEight (0 ∷ 1 ∷ 2 ∷ 3 ∷ []) text bytes refl
    (λ code h. four_self _ refl code h) r e
rows_behind Four Two rows text bytes r e = bare Four Two rows text bytes (λ code h. refl) r e
rows_behind Four Four rows text bytes r e = bare Four Four rows text bytes (λ code h. refl) r e
rows_behind Four Eight rows text bytes r e =
    behind_table Four Eight rows FourToEight sixteen text bytes refl (λ code h. sixteen_self code h) r e
rows_behind Eight Two rows text bytes r e = bare Eight Two rows text bytes (λ code h. refl) r e
rows_behind Eight Four rows text bytes r e = bare Eight Four rows text bytes (λ code h. refl) r e
rows_behind Eight Eight rows text bytes r e = bare Eight Eight rows text bytes (λ code h. refl) r e

-- the block of a field draws its rows
pub field_drawn : (depth region : Depth) (rows : List (List ℕ)) (bytes : List ℕ) → IsNoDeeper depth region
    → IsFieldBlock depth region rows bytes → IsDrawnAs region bytes rows
field_drawn depth region [] bytes n b = record {
  runs = [];
  block = record { parts = line_end ∷ []; whole = (line_end_type ∷ [], [], b, refl, refl); drawn = refl };
  drawn = refl;
}
field_drawn depth region (row ∷ rows) bytes n b =
    rows_behind depth region (row ∷ rows) b.0 bytes (rows_drawn depth region (row ∷ rows) b.0 n b.1) b.2

-- the blocks of a picture's fields draw the picture
pub both_drawn : (picture : Picture) (region : Depth) (old new : List ℕ) (a b : ℕ)
    → IsNoDeeper picture.depth region → Both picture region old new a b →
    (top : List ℕ) × (bottom : List ℕ) × (new ≡ old ++ (top ++ bottom)) × (a ≡ length top)
    × (b ≡ length bottom) × DrawsPicture picture region top bottom
both_drawn picture region old new a b n h =
    let top = field_drawn picture.depth region (top_field picture) h.0 n h.5.top_block in (
      h.0,
      h.1,
      h.2,
      h.3,
      h.4,
      record {
        top_rows = top;
        shared = λ e. subst (IsDrawnAs region h.0) (same_fields picture e) top;
        own = λ e. field_drawn picture.depth region (bottom_field picture) h.1 n (h.5.own e);
      },
    )
