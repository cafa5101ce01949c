-- One step of a walk over a block.
use Rattle.std.proofs.Common.{◌≡◌, ℕ, ◌+◌, ◌-◌, ◌*◌, ◌<◌, ◌≤◌, Bool, true, false, cond, eqb, ltb, List, [], ◌∷◌, length, take, drop, Option, Some, None, refl, sym, ap, ◌∙◌, arith}
use Rattle.std.proofs.lemmas.Bool.{le-ltb, lt-ltb, eq-eqb, ne_eqb}
use Rattle.std.proofs.lemmas.List.{nil_from_length, take-take}
use Rattle.sub_base.specs.Depth.{code_count}
use Rattle.sub_base.specs.declared.depth.Depth.{Depth}
use Rattle.sub_base.specs.declared.depth.Depth.TheVariants.{Two, Four, Eight}
use Rattle.stream_syntax.specs.PixelCodes.{bits_of, Code, pixel, one_zero, two_zeros, zeros, short_run, middle_run, long_run, IsCode, pixel_count, colour_of}
use Rattle.stream_syntax.specs.PixelBlocks.{table_size}
use Rattle.stream_syntax.specs.declared.map_table.MapTable.{MapTable}
use Rattle.stream_syntax.specs.declared.map_table.MapTable.TheVariants.{TwoToFour, TwoToEight, FourToEight}
use Rattle.pixel_codes.specs.declared.part.Head.{Head}
use Rattle.pixel_codes.specs.declared.part.Head.TheVariants.{Table}
use Rattle.code_strings.specs.declared.token.Token.{Token}
use Rattle.code_strings.specs.declared.token.Token.TheVariants.{Pixels, End}
use Rattle.code_strings.specs.Reading.{token_at}
use Rattle.pixel_codes.specs.Heads.{head_of}
use Rattle.pixel_codes.specs.Private.Walk.{Maps, with_table, mapped_by, Pen, run_of, runs_after_head, runs_at_token, runs_within, runs_left}
use Rattle.pixel_codes.specs.Private.Cursor.{bits_left}
use Rattle.code_strings.proofs.Bits.{IsBits-bits_of, length-bits_of}
use Rattle.code_strings.proofs.NarrowTokens.{token_reads, width_some}
use Rattle.pixel_codes.proofs.Walk.{step_part, step_token}

-- ---- at a sub-block

pub at_end : (region : Depth) (inside : Option Depth) (rest : List ℕ) (place : ℕ) (pen : Pen) → inside ≡ None
    → length rest ≡ 0 → runs_left region inside rest place pen ≡ []
unfolding runs_within
at_end region inside rest place pen e l =
    ap (λ (i : Option Depth). runs_left region i rest place pen) e
    ∙ ap (λ (t : List ℕ). runs_left region None t place pen) (nil_from_length rest l)

-- the runs from a sub-block on, by what its type byte says
pub at_part : (region : Depth) (inside : Option Depth) (rest body : List ℕ) (place first : ℕ) (pen : Pen)
    (answer head : Option Head) → inside ≡ None → rest ≡ first ∷ body → answer ≡ head_of first
    → answer ≡ head → runs_left region inside rest place pen ≡ runs_after_head (runs_left region) body pen head
at_part region inside rest body place first pen answer head e f g h =
    ap (λ (i : Option Depth). runs_left region i rest place pen) e
    ∙ ap (λ (t : List ℕ). runs_left region None t place pen) f
    ∙ step_part region first body place pen
    ∙ ap (runs_after_head (runs_left region) body pen) (sym g ∙ h)

-- a table that is there
pub past_table : (region : Depth) (body table after : List ℕ) (kind : MapTable) (size : ℕ) (pen : Pen)
    (maps : Maps) → size ≡ table_size kind → size ≤ length body → table ≡ take size body
    → after ≡ drop size body → maps ≡ with_table kind table pen.maps →
    runs_after_head (runs_left region) body pen (Some (Table kind))
    ≡ runs_left region None after 0 (record { x = pen.x; line = pen.line; maps = maps })
past_table region body table after kind size pen maps e h t a m =
    let b : ltb (length body) (table_size kind) ≡ false = le-ltb _ _ (omega arith) in
    let whole : with_table kind body pen.maps ≡ maps = same kind e ∙ sym m in
    let rest : drop (table_size kind) body ≡ after = ap (λ (n : ℕ). drop n body) (sym e) ∙ sym a in
    ap (λ (c : Bool). cond c []
    (runs_left region None (drop (table_size kind) body) 0
    (record { x = pen.x; line = pen.line; maps = with_table kind body pen.maps }))) b
    ∙ ap (λ (r : List ℕ). runs_left region None r 0
    (record { x = pen.x; line = pen.line; maps = with_table kind body pen.maps })) rest
    ∙ ap (λ (k : Maps). runs_left region None after 0 (record { x = pen.x; line = pen.line; maps = k })) whole
  where
    same : (k : MapTable) → size ≡ table_size k → with_table k body pen.maps ≡ with_table k table pen.maps
    same TwoToFour f =
        let u : take 2 table ≡ take 2 body = ap (take 2) (t ∙ ap (λ (n : ℕ). take n body) f)
        ∙ take-take 2 2 body (omega arith) in ap
        (λ (v : List ℕ). let m : Maps = record {
          two_to_four = v;
          two_to_eight = pen.maps.two_to_eight;
          four_to_eight = pen.maps.four_to_eight;
        } in m) (sym u)
    same TwoToEight f =
        let u : take 4 table ≡ take 4 body = ap (take 4) (t ∙ ap (λ (n : ℕ). take n body) f)
        ∙ take-take 4 4 body (omega arith) in ap
        (λ (v : List ℕ). let m : Maps = record {
          two_to_four = pen.maps.two_to_four;
          two_to_eight = v;
          four_to_eight = pen.maps.four_to_eight;
        } in m) (sym u)
    same FourToEight f =
        let u : take 16 table ≡ take 16 body = ap (take 16) (t ∙ ap (λ (n : ℕ). take n body) f)
        ∙ take-take 16 16 body (omega arith) in ap
        (λ (v : List ℕ). let m : Maps = record {
          two_to_four = pen.maps.two_to_four;
          two_to_eight = pen.maps.two_to_eight;
          four_to_eight = v;
        } in m) (sym u)

-- a table that is cut
pub cut_table : (region : Depth) (body : List ℕ) (kind : MapTable) (size : ℕ) (pen : Pen)
    → size ≡ table_size kind → length body < size
    → runs_after_head (runs_left region) body pen (Some (Table kind)) ≡ []
cut_table region body kind size pen e h =
    let b : ltb (length body) (table_size kind) ≡ true = lt-ltb _ _ (omega arith) in
    ap (λ (c : Bool). cond c []
    (runs_left region None (drop (table_size kind) body) 0
    (record { x = pen.x; line = pen.line; maps = with_table kind body pen.maps }))) b

pub bits_left-none : (inside : Option Depth) (rest : List ℕ) (place : ℕ) → inside ≡ None
    → bits_left inside rest place ≡ 8 * length rest
bits_left-none inside rest place e = ap (λ (i : Option Depth). bits_left i rest place) e

pub bits_left-some : (inside : Option Depth) (depth : Depth) (rest : List ℕ) (place : ℕ) → inside ≡ Some depth
    → bits_left inside rest place ≡ 8 * length rest - place
bits_left-some inside depth rest place e = ap (λ (i : Option Depth). bits_left i rest place) e

-- ---- in a string

-- the runs from a code on
pub at_token : (region depth : Depth) (inside : Option Depth) (rest : List ℕ) (place : ℕ) (pen : Pen)
    (read : Option (Token × ℕ)) → inside ≡ Some depth → token_at depth (bits_of rest) place ≡ read
    → runs_left region inside rest place pen ≡ runs_at_token (runs_left region) region depth rest pen read
at_token region depth inside rest place pen read e f =
    ap (λ (i : Option Depth). runs_left region i rest place pen) e ∙ step_token region depth rest place pen
    ∙ ap (runs_at_token (runs_left region) region depth rest pen) f

few_pixels : (depth : Depth) (code : Code) → IsCode depth code → pixel_count depth code ≤ 284
few_pixels Two (pixel code) h = omega arith
few_pixels Two one_zero h = omega arith
few_pixels Two two_zeros h = omega arith
few_pixels Two (zeros field) h = absurd h
few_pixels Two (short_run field code) h = omega arith
few_pixels Two (middle_run field code) h = omega arith
few_pixels Two (long_run field code) h = omega arith
few_pixels Four (pixel code) h = omega arith
few_pixels Four one_zero h = omega arith
few_pixels Four two_zeros h = omega arith
few_pixels Four (zeros field) h = omega arith
few_pixels Four (short_run field code) h = omega arith
few_pixels Four (middle_run field code) h = omega arith
few_pixels Four (long_run field code) h = omega arith
few_pixels Eight (pixel code) h = omega arith
few_pixels Eight one_zero h = absurd h
few_pixels Eight two_zeros h = absurd h
few_pixels Eight (zeros field) h = omega arith
few_pixels Eight (short_run field code) h = omega arith
few_pixels Eight (middle_run field code) h = absurd h
few_pixels Eight (long_run field code) h = absurd h

pub colour_below : (depth : Depth) (code : Code) → IsCode depth code → colour_of code < code_count depth
colour_below Two (pixel code) h = h.1
colour_below Two one_zero h = omega arith
colour_below Two two_zeros h = omega arith
colour_below Two (zeros field) h = absurd h
colour_below Two (short_run field code) h = h.1
colour_below Two (middle_run field code) h = h.1
colour_below Two (long_run field code) h = h.1
colour_below Four (pixel code) h = h.1
colour_below Four one_zero h = omega arith
colour_below Four two_zeros h = omega arith
colour_below Four (zeros field) h = omega arith
colour_below Four (short_run field code) h = h.1
colour_below Four (middle_run field code) h = h.1
colour_below Four (long_run field code) h = h.1
colour_below Eight (pixel code) h = h.1
colour_below Eight one_zero h = absurd h
colour_below Eight two_zeros h = absurd h
colour_below Eight (zeros field) h = omega arith
colour_below Eight (short_run field code) h = h.1
colour_below Eight (middle_run field code) h = absurd h
colour_below Eight (long_run field code) h = absurd h

pub record Pixels_fit (depth : Depth) (rest : List ℕ) (place count code next : ℕ) : Type 0 where
  pub few : count ≤ 284
  pub below : code < code_count depth
  pub on : place + 2 ≤ next
  pub within : next ≤ 8 * length rest

pub pixels_fit : (depth : Depth) (rest : List ℕ) (place count code next : ℕ)
    → token_at depth (bits_of rest) place ≡ Some (Pixels count code, next)
    → Pixels_fit depth rest place count code next
pixels_fit depth rest place count code next e =
    let s = token_reads depth (bits_of rest) place (Pixels count code, next) (IsBits-bits_of rest) e in
    record {
      few = omega (arith, s.2, few_pixels depth s.0 s.1);
      below = omega (arith, s.3, colour_below depth s.0 s.1);
      on = omega (arith, s.5, width_some depth s.0 s.1);
      within = omega (arith, s.6, length-bits_of rest);
    }

pub end_fits : (depth : Depth) (rest : List ℕ) (place next : ℕ)
    → token_at depth (bits_of rest) place ≡ Some (End, next) → (place + 6 ≤ next) × (next ≤ 8 * length rest)
end_fits Two rest place next e =
    let s = token_reads Two (bits_of rest) place (End, next) (IsBits-bits_of rest) e in
    (omega (arith, s.1), omega (arith, s.2, length-bits_of rest))
end_fits Four rest place next e =
    let s = token_reads Four (bits_of rest) place (End, next) (IsBits-bits_of rest) e in
    (omega (arith, s.1), omega (arith, s.2, length-bits_of rest))
end_fits Eight rest place next e =
    let s = token_reads Eight (bits_of rest) place (End, next) (IsBits-bits_of rest) e in
    (omega (arith, s.1), omega (arith, s.2, length-bits_of rest))

-- what a reader answered, by the parts of its answer
pub read_is : (depth : Depth) (rest : List ℕ) (place : ℕ) (answer : Option (Token × ℕ)) (token other : Token)
    (next : ℕ) → answer ≡ token_at depth (bits_of rest) place → answer ≡ Some (token, next)
    → token ≡ other → token_at depth (bits_of rest) place ≡ Some (other, next)
read_is depth rest place answer token other next e f g = sym e ∙ f ∙ ap (λ (t : Token). Some (t, next)) g

-- a run that is drawn, and one that is not
pub one_run : (region depth : Depth) (pen : Pen) (count code : ℕ) → (count ≡ 0 → ⊥)
    → run_of region depth pen count code
    ≡ record {
      x = pen.x;
      line = pen.line;
      length = count;
      read = code;
      code = mapped_by depth region pen.maps
          code;
    } ∷ []
one_run region depth pen count code h = let t : eqb count 0 ≡ false = ne_eqb count 0 h in rw t refl

pub no_run : (region depth : Depth) (pen : Pen) (count code : ℕ) → count ≡ 0
    → run_of region depth pen count code ≡ []
no_run region depth pen count code h = let t : eqb count 0 ≡ true = eq-eqb count 0 h in rw t refl
