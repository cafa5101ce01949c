-- A walk over a block gives the runs of its sub-blocks.
use Rattle.std.proofs.Common.{◌≡◌, ℕ, zero, suc, ◌+◌, ◌-◌, ◌*◌, ◌/◌, ◌<◌, ◌≤◌, Bool, true, false, cond, ltb, List, [], ◌∷◌, ◌++◌, length, drop, Option, Some, None, refl, sym, ap, subst, ◌∙◌, append_assoc, arith}
use Rattle.std.specs.Prelude.{min, flat_map, All, slice_index, if◌then◌else◌, ◌==◌}
use Rattle.std.proofs.lemmas.Bool.{le-ltb}
use Rattle.std.proofs.lemmas.List.{length-append, length-drop, take_at, drop_at}
use Rattle.std.proofs.lemmas.List.Elements.{All-head, All-tail}
use Rattle.sub_base.specs.declared.depth.Depth.{Depth}
use Rattle.sub_base.specs.declared.depth.Depth.TheVariants.{Two, Four, Eight}
use Rattle.stream_syntax.specs.PixelCodes.{bits_of, Code, pixel, one_zero, two_zeros, zeros, short_run, middle_run, long_run, IsCode, pixel_count, colour_of, spelled, ending, string_of}
use Rattle.stream_syntax.specs.PixelBlocks.{Part, string, table, line_end, string_type, table_type, table_size, entries_of, entries_in, mapped, line_after, column_after, pixels_in, runs_from, runs_after, AreParts}
use Rattle.stream_syntax.specs.declared.map_table.MapTable.{MapTable}
use Rattle.stream_syntax.specs.declared.map_table.MapTable.TheVariants.{TwoToFour, TwoToEight, FourToEight}
use Rattle.stream_syntax.specs.declared.pixel_run.Run.{Run}
use Rattle.pixel_codes.specs.declared.part.Head.{Head}
use Rattle.pixel_codes.specs.declared.part.Head.TheVariants.{PixelString, Table, LineEnd}
use Rattle.code_strings.specs.declared.token.Token.{Token}
use Rattle.code_strings.specs.declared.token.Token.TheVariants.{Pixels, End}
use Rattle.code_strings.specs.Reading.{token_at}
use Rattle.pixel_codes.specs.Heads.{head_of}
use Rattle.pixel_codes.specs.Private.Walk.{half_of, mapped_by, with_table, Pen, start_pen, Onward, run_of, runs_after_token, runs_at_token, runs_after_head, runs_within, runs_left, runs_in}
use Rattle.code_strings.proofs.Bits.{length-bits_of, bits_of-append, IsBits-bits_of}
use Rattle.code_strings.proofs.Tokens.{width_of, end_width, length-spelled, length-ending, token_spelled, token_ending, StandsAt}
use Rattle.code_strings.proofs.NarrowTokens.{token_reads, width_some}
use Rattle.code_strings.proofs.Strings.{string_of-cons, behind}
use Rattle.pixel_codes.proofs.Parts.{head_of-string, head_of-table}

-- ---- the steps that are left do not matter, as long as they are enough

-- what a walk can still take
abbrev pub to_come : Option Depth → List ℕ → ℕ → ℕ
to_come None rest place = 8 * length rest
to_come (Some depth) rest place = 8 * length rest - place

-- two ways on that give the same from each place that is further on
Alike : ℕ → Onward → Onward → Type 0
Alike limit one other = (inside : Option Depth) (rest : List ℕ) (place : ℕ) (pen : Pen)
    → to_come inside rest place ≤ limit → one inside rest place pen ≡ other inside rest place pen

cases_option : {A R : Type 0} (o : Option A) → (o ≡ None → R) → ((x : A) → o ≡ Some x → R) → R
cases_option None none some = none refl
cases_option (Some x) none some = some x refl

alike_after_token : (limit : ℕ) (one other : Onward) → Alike limit one other
    → (region depth : Depth) (rest : List ℕ) (place : ℕ) (pen : Pen) → 8 * length rest - place ≤ suc limit
    → (token : Token) (next : ℕ) → StandsAt depth (bits_of rest) place token next
    → runs_after_token one region depth rest pen token next
    ≡ runs_after_token other region depth rest pen token next
unfolding Alike
alike_after_token limit one other a region depth rest place pen h End next s =
    a None (drop ((next + 7) / 8) rest) 0 pen
    (omega (arith, h, s.1, s.2, length-bits_of rest, length-drop ((next + 7) / 8) rest, end_some depth))
  where
    end_some : (d : Depth) → 6 ≤ end_width d
    end_some Two = omega arith
    end_some Four = omega arith
    end_some Eight = omega arith
alike_after_token limit one other a region depth rest place pen h (Pixels count code) next s =
    ap (λ (t : List Run). run_of region depth pen count code ++ t)
    (a (Some depth) rest next _ (omega (arith, h, s.5, s.6, length-bits_of rest, width_some depth s.0 s.1)))

alike_at_token : (limit : ℕ) (one other : Onward) → Alike limit one other
    → (region depth : Depth) (rest : List ℕ) (place : ℕ) (pen : Pen) → 8 * length rest - place ≤ suc limit
    → runs_at_token one region depth rest pen (token_at depth (bits_of rest) place)
    ≡ runs_at_token other region depth rest pen (token_at depth (bits_of rest) place)
alike_at_token limit one other a region depth rest place pen h =
    cases_option (token_at depth (bits_of rest) place) (λ e. rw e refl) λ found e.
    rw e (alike_after_token limit one other a region depth rest place pen h found.0 found.1
    (token_reads depth (bits_of rest) place found (IsBits-bits_of rest) e))

alike_table : (limit : ℕ) (one other : Onward) → Alike limit one other
    → (kind : MapTable) (body : List ℕ) (pen : Pen) → 8 * length body ≤ limit → (b : Bool) →
    (cond b []
    (one None (drop (table_size kind) body) 0
    (record { x = pen.x; line = pen.line; maps = with_table kind body pen.maps })))
    ≡ (cond b []
    (other None (drop (table_size kind) body) 0
    (record { x = pen.x; line = pen.line; maps = with_table kind body pen.maps })))
unfolding Alike
alike_table limit one other a kind body pen h true = refl
alike_table limit one other a kind body pen h false =
    a None (drop (table_size kind) body) 0 _ (omega (arith, h, length-drop (table_size kind) body))

alike_after_head : (limit : ℕ) (one other : Onward) → Alike limit one other → (body : List ℕ) (pen : Pen)
    → 8 * length body ≤ limit → (head : Option Head)
    → runs_after_head one body pen head ≡ runs_after_head other body pen head
unfolding Alike
alike_after_head limit one other a body pen h None = refl
alike_after_head limit one other a body pen h (Some (PixelString depth)) = a (Some depth) body 0 pen (omega arith)
alike_after_head limit one other a body pen h (Some (Table kind)) =
    alike_table limit one other a kind body pen h (ltb (length body) (table_size kind))
alike_after_head limit one other a body pen h (Some LineEnd) = a None body 0 _ (omega arith)

-- nothing is read past the end
none_past : (depth : Depth) (rest : List ℕ) (place : ℕ) → 8 * length rest - place ≤ 0
    → token_at depth (bits_of rest) place ≡ None
none_past depth rest place h =
    cases_option (token_at depth (bits_of rest) place) (λ e. e) λ found e. past found.0 found.1
    (token_reads depth (bits_of rest) place found (IsBits-bits_of rest) e)
  where
    past : (token : Token) (next : ℕ) → StandsAt depth (bits_of rest) place token next
        → token_at depth (bits_of rest) place ≡ None
    past End next s = absurd (omega (arith, h, s.1, s.2, length-bits_of rest, wide depth))
      where
        wide : (d : Depth) → 6 ≤ end_width d
        wide Two = omega arith
        wide Four = omega arith
        wide Eight = omega arith
    past (Pixels count code) next s = absurd (omega (arith, h, s.5, s.6, length-bits_of rest, width_some depth s.0 s.1))

ended : (more : ℕ) (region : Depth) (inside : Option Depth) (rest : List ℕ) (place : ℕ) (pen : Pen)
    → to_come inside rest place ≤ 0 → runs_within more region inside rest place pen ≡ []
unfolding runs_within
ended zero region inside rest place pen h = refl
ended (suc more) region None [] place pen h = refl
ended (suc more) region None (x ∷ xs) place pen h = absurd (omega arith)
ended (suc more) region (Some depth) rest place pen h = let e = none_past depth rest place h in rw e refl

enough : (steps more : ℕ) (region : Depth) → (inside : Option Depth) (rest : List ℕ) (place : ℕ) (pen : Pen)
    → to_come inside rest place ≤ steps → to_come inside rest place ≤ more
    → runs_within steps region inside rest place pen ≡ runs_within more region inside rest place pen
unfolding runs_within Alike
enough zero more region inside rest place pen h k = sym (ended more region inside rest place pen h)
enough (suc steps) zero region inside rest place pen h k = ended (suc steps) region inside rest place pen k
enough (suc steps) (suc more) region None [] place pen h k = refl
enough (suc steps) (suc more) region None (first ∷ body) place pen h k =
    alike_after_head (min steps more) (runs_within steps region) (runs_within more region)
    (λ inside rest place pen l. enough steps more region inside rest place pen (omega (arith, l))
    (omega (arith, l))) body pen (omega (arith, h, k)) (head_of first)
enough (suc steps) (suc more) region (Some depth) rest place pen h k =
    alike_at_token (min steps more) (runs_within steps region) (runs_within more region)
    (λ inside rest place pen l. enough steps more region inside rest place pen (omega (arith, l))
    (omega (arith, l))) region depth rest place pen (omega (arith, h, k))

-- ---- one step on

-- at a sub-block
pub step_part : (region : Depth) (first : ℕ) (body : List ℕ) (place : ℕ) (pen : Pen)
    → runs_left region None (first ∷ body) place pen ≡ runs_after_head (runs_left region) body pen (head_of first)
unfolding runs_within Alike
step_part region first body place pen =
    let steps = 8 * length body + 7 in
    let e : 8 * length (first ∷ body) ≡ suc steps = omega arith in
    ap (λ (n : ℕ). runs_within n region None (first ∷ body) place pen) e
    ∙ alike_after_head (8 * length body) (runs_within steps region) (runs_left region)
    (λ inside rest place pen l. enough steps (8 * length rest) region inside rest place pen (omega (arith, l))
    (enough_left inside rest place)) body pen (omega arith) (head_of first)
  where
    enough_left : (inside : Option Depth) (rest : List ℕ) (place : ℕ)
        → to_come inside rest place ≤ 8 * length rest
    enough_left None rest place = omega arith
    enough_left (Some depth) rest place = omega arith

-- in a string
pub step_token : (region depth : Depth) (rest : List ℕ) (place : ℕ) (pen : Pen)
    → runs_left region (Some depth) rest place pen
    ≡ runs_at_token (runs_left region) region depth rest pen (token_at depth (bits_of rest) place)
unfolding runs_within Alike
step_token region depth [] place pen = let e = none_past depth [] place (omega arith) in rw e refl
step_token region depth (first ∷ body) place pen =
    let steps = 8 * length body + 7 in
    let e : 8 * length (first ∷ body) ≡ suc steps = omega arith in
    ap (λ (n : ℕ). runs_within n region (Some depth) (first ∷ body) place pen) e
    ∙ alike_at_token steps (runs_within steps region) (runs_left region)
    (λ inside rest place pen l. enough steps (8 * length rest) region inside rest place pen l
    (enough_left inside rest place)) region depth (first ∷ body) place pen (omega arith)
  where
    enough_left : (inside : Option Depth) (rest : List ℕ) (place : ℕ)
        → to_come inside rest place ≤ 8 * length rest
    enough_left None rest place = omega arith
    enough_left (Some depth) rest place = omega arith

-- ---- the walk gives the runs of the sub-blocks

-- the pen and its tables are what the sub-blocks before make them
pub record Agrees (pen : Pen) (before : List Part) : Type 0 where
  pub at_line : pen.line ≡ line_after before
  pub fours : entries_of TwoToFour pen.maps.two_to_four ≡ entries_in TwoToFour before
  pub size : length pen.maps.two_to_four ≡ 2
  pub eights : pen.maps.two_to_eight ≡ entries_in TwoToEight before
  pub wide : pen.maps.four_to_eight ≡ entries_in FourToEight before

halves : (xs : List ℕ) → length xs ≡ 2 → (code : ℕ) → code < 4
    → half_of (slice_index xs (code / 2)) code ≡ slice_index (entries_of TwoToFour xs) code
halves [] l code h = absurd (omega arith)
halves (a ∷ []) l code h = absurd (omega arith)
halves (a ∷ b ∷ []) l zero h = refl
halves (a ∷ b ∷ []) l (suc zero) h = refl
halves (a ∷ b ∷ []) l (suc (suc zero)) h = refl
halves (a ∷ b ∷ []) l (suc (suc (suc zero))) h = refl
halves (a ∷ b ∷ []) l (suc (suc (suc (suc n)))) h = absurd (omega arith)
halves (a ∷ b ∷ c ∷ xs) l code h = absurd (omega arith)

two_below : (code : Code) → IsCode Two code → colour_of code < 4
two_below (pixel code) h = h.1
two_below one_zero h = omega arith
two_below two_zeros h = omega arith
two_below (zeros field) h = absurd h
two_below (short_run field code) h = h.1
two_below (middle_run field code) h = h.1
two_below (long_run field code) h = h.1

mapped_same : (depth region : Depth) (pen : Pen) (before : List Part) → Agrees pen before → (code : Code)
    → IsCode depth code
    → mapped_by depth region pen.maps (colour_of code) ≡ mapped depth region before (colour_of code)
mapped_same Two Two pen before a code h = refl
mapped_same Two Four pen before a code h =
    halves pen.maps.two_to_four a.size (colour_of code) (two_below code h)
    ∙ ap (λ (t : List ℕ). slice_index t (colour_of code)) a.fours
mapped_same Two Eight pen before a code h = ap (λ (t : List ℕ). slice_index t (colour_of code)) a.eights
mapped_same Four Two pen before a code h = refl
mapped_same Four Four pen before a code h = refl
mapped_same Four Eight pen before a code h = ap (λ (t : List ℕ). slice_index t (colour_of code)) a.wide
mapped_same Eight Two pen before a code h = refl
mapped_same Eight Four pen before a code h = refl
mapped_same Eight Eight pen before a code h = refl

abbrev moved : Pen → ℕ → Pen
moved pen column = record { x = column; line = pen.line; maps = pen.maps }

run_same : (region depth : Depth) (pen : Pen) (before : List Part) → Agrees pen before → (code : Code)
    → IsCode depth code →
    run_of region depth pen (pixel_count depth code) (colour_of code)
    ≡ (if pixel_count depth code == 0 then []
    else record {
      x = pen.x;
      line = line_after before;
      length = pixel_count depth code;
      read = colour_of code;
      code = mapped depth region before (colour_of code);
    } ∷ [])
run_same region depth pen before a code h =
    let m = mapped_same depth region pen before a code h in
    rw (a.at_line, m) refl

walk_codes : (region depth : Depth) (before : List Part) (codes : List Code) (all r : List ℕ) (place : ℕ)
    (pen : Pen) → All (IsCode depth) codes → Agrees pen before
    → drop place (bits_of all) ≡ string_of depth codes ++ r →
    runs_left region (Some depth) all place pen ≡ runs_from region depth before pen.x codes
    ++ runs_left region None (drop ((place + length (string_of depth codes) + 7) / 8) all) 0
    (moved pen (pen.x + pixels_in depth codes))
walk_codes region depth before [] all r place pen h a e =
    let x : pen.x + 0 ≡ pen.x = omega arith in
    let l = length-ending depth in
    let t = token_ending depth (bits_of all) r place e in
    step_token region depth all place pen
    ∙ ap (runs_at_token (runs_left region) region depth all pen) t
    ∙ ap (λ (n : ℕ). runs_left region None (drop ((place + n + 7) / 8) all) 0 pen) (sym l)
    ∙ ap (λ (n : ℕ). runs_left region None (drop ((place + length (ending depth) + 7) / 8) all) 0 (moved pen n))
    (sym x)
walk_codes region depth before (c ∷ cs) all r place pen h a e =
    let good = All-head (IsCode depth) c cs h in
    let e' = e ∙ string_of-cons depth c cs r in
    let t = token_spelled depth c good (bits_of all) _ place e' in
    let n = pixel_count depth c in
    let pen' = moved pen (pen.x + n) in
    let a' : Agrees pen' before =
    record { at_line = a.at_line; fours = a.fours; size = a.size; eights = a.eights; wide = a.wide } in
    let rest =
    walk_codes region depth before cs all r (place + width_of depth c) pen' (All-tail (IsCode depth) c cs h) a'
    (behind depth c (bits_of all) _ place e') in
    let l : length (string_of depth (c ∷ cs)) ≡ width_of depth c + length (string_of depth cs) =
    ap length (append_assoc (spelled depth c) (flat_map (spelled depth) cs) (ending depth))
    ∙ length-append (spelled depth c) (string_of depth cs)
    ∙ ap (λ (k : ℕ). k + length (string_of depth cs)) (length-spelled depth c) in
    let p : place + width_of depth c + length (string_of depth cs) ≡ place + length (string_of depth (c ∷ cs)) =
    omega (arith, l) in
    let x : pen.x + n + pixels_in depth cs ≡ pen.x + (n + pixels_in depth cs) = omega arith in
    step_token region depth all place pen
    ∙ ap (runs_at_token (runs_left region) region depth all pen) t
    ∙ ap (λ (k : List Run). k ++ runs_left region (Some depth) all (place + width_of depth c) pen')
    (run_same region depth pen before a c good)
    ∙ ap (λ (k : List Run). (if n == 0 then []
    else record {
      x = pen.x;
      line = line_after before;
      length = n;
      read = colour_of c;
      code = mapped depth region
          before (colour_of c);
    } ∷ []) ++ k) rest
    ∙ sym (append_assoc
    (if n == 0 then []
    else record {
      x = pen.x;
      line = line_after before;
      length = n;
      read = colour_of c;
      code = mapped depth region
          before (colour_of c);
    } ∷ []) (runs_from region depth before (pen.x + n) cs) _)
    ∙ ap (λ (k : ℕ). runs_from region depth before pen.x (c ∷ cs)
    ++ runs_left region None (drop ((k + 7) / 8) all) 0 (moved pen' (pen.x + n + pixels_in depth cs))) p
    ∙ ap (λ (k : ℕ). runs_from region depth before pen.x (c ∷ cs)
    ++ runs_left region None (drop ((place + length (string_of depth (c ∷ cs)) + 7) / 8) all) 0 (moved pen k)) x

-- a map table that has come
agrees_table : (kind : MapTable) (pen : Pen) (before : List Part) (body rest : List ℕ)
    → length body ≡ table_size kind → Agrees pen before
    → Agrees (record { x = pen.x; line = pen.line; maps = with_table kind (body ++ rest) pen.maps })
    (table kind (entries_of kind body) ∷ before)
agrees_table TwoToFour pen before body rest l a =
    let t = take_at body rest 2 l in
    record {
      at_line = a.at_line;
      fours = ap (entries_of TwoToFour) t;
      size = ap length t
          ∙ l;
      eights = a.eights;
      wide = a.wide;
    }
agrees_table TwoToEight pen before body rest l a =
    record { at_line = a.at_line; fours = a.fours; size = a.size; eights = take_at body rest 4 l; wide = a.wide }
agrees_table FourToEight pen before body rest l a =
    record { at_line = a.at_line; fours = a.fours; size = a.size; eights = a.eights; wide = take_at body rest 16 l }

walk_parts : (region : Depth) (parts : List Part) (bytes : List ℕ) (before : List Part) (pen : Pen)
    → AreParts region parts bytes → Agrees pen before → pen.x ≡ column_after before
    → runs_left region None bytes 0 pen ≡ runs_after region before parts
unfolding runs_within
walk_parts region [] bytes before pen p a x = ap (λ (t : List ℕ). runs_left region None t 0 pen) p
walk_parts region (string depth codes ∷ parts) bytes before pen p a x =
    let part = p.3 in
    let body = part.1 in
    let s = part.3 in
    let all = body ++ p.1 in
    let whole : bytes ≡ string_type depth ∷ all = p.2 ∙ ap (λ (t : List ℕ). t ++ p.1) part.2 in
    let text : drop 0 (bits_of all) ≡ string_of depth codes ++ (s.fill ++ bits_of p.1) =
    bits_of-append body p.1 ∙ ap (λ (t : List ℕ). t ++ bits_of p.1) s.text
    ∙ append_assoc (string_of depth codes) s.fill (bits_of p.1) in
    let l : 8 * length body ≡ length (string_of depth codes) + length s.fill =
    sym (length-bits_of body) ∙ ap length s.text ∙ length-append (string_of depth codes) s.fill in
    let size : (0 + length (string_of depth codes) + 7) / 8 ≡ length body = omega (arith, l, s.short) in
    let cut : drop ((0 + length (string_of depth codes) + 7) / 8) all ≡ p.1 =
    ap (λ (n : ℕ). drop n all) size ∙ drop_at body p.1 (length body) refl in
    let pen' = moved pen (pen.x + pixels_in depth codes) in
    let a' : Agrees pen' (string depth codes ∷ before) =
    record { at_line = a.at_line; fours = a.fours; size = a.size; eights = a.eights; wide = a.wide } in
    let rest =
    walk_parts region parts p.1 (string depth codes ∷ before) pen' p.4 a'
    (ap (λ (n : ℕ). n + pixels_in depth codes) x) in
    ap (λ (t : List ℕ). runs_left region None t 0 pen) whole
    ∙ step_part region (string_type depth) all 0 pen
    ∙ ap (runs_after_head (runs_left region) all pen) (head_of-string depth)
    ∙ walk_codes region depth before codes all (s.fill ++ bits_of p.1) 0 pen s.each a text
    ∙ ap (λ (t : List ℕ). runs_from region depth before pen.x codes ++ runs_left region None t 0 pen') cut
    ∙ ap (λ (t : List Run). runs_from region depth before pen.x codes ++ t) rest
    ∙ ap (λ (n : ℕ). runs_from region depth before n codes
    ++ runs_after region (string depth codes ∷ before) parts) x
walk_parts region (table kind entries ∷ parts) bytes before pen p a x =
    let part = p.3 in
    let body = part.0 in
    let all = body ++ p.1 in
    let whole : bytes ≡ table_type kind ∷ all = p.2 ∙ ap (λ (t : List ℕ). t ++ p.1) part.1 in
    let t1 : ltb (length all) (table_size kind) ≡ false =
    le-ltb _ _ (omega (arith, length-append body p.1, part.2)) in
    let cut : drop (table_size kind) all ≡ p.1 = drop_at body p.1 (table_size kind) part.2 in
    let pen' : Pen = record { x = pen.x; line = pen.line; maps = with_table kind all pen.maps } in
    let a' : Agrees pen' (table kind entries ∷ before) =
    subst (λ (t : List ℕ). Agrees pen' (table kind t ∷ before)) (sym part.3)
    (agrees_table kind pen before body p.1 part.2 a) in
    ap (λ (t : List ℕ). runs_left region None t 0 pen) whole
    ∙ step_part region (table_type kind) all 0 pen
    ∙ ap (runs_after_head (runs_left region) all pen) (head_of-table kind)
    ∙ ap (λ (b : Bool). cond b [] (runs_left region None (drop (table_size kind) all) 0 pen')) t1
    ∙ ap (λ (t : List ℕ). runs_left region None t 0 pen') cut
    ∙ walk_parts region parts p.1 (table kind entries ∷ before) pen' p.4 a' x
walk_parts region (line_end ∷ parts) bytes before pen p a x =
    let whole : bytes ≡ 0xF0 ∷ p.1 = p.2 ∙ ap (λ (t : List ℕ). t ++ p.1) p.3 in
    let pen' : Pen = record { x = 0; line = pen.line + 1; maps = pen.maps } in
    let a' : Agrees pen' (line_end ∷ before) =
    record {
      at_line = ap (λ (n : ℕ). n + 1) a.at_line;
      fours = a.fours;
      size = a.size;
      eights = a.eights;
      wide = a.wide;
    } in
    ap (λ (t : List ℕ). runs_left region None t 0 pen) whole
    ∙ step_part region 0xF0 p.1 0 pen
    ∙ walk_parts region parts p.1 (line_end ∷ before) pen' p.4 a' refl

-- the walk over a block gives its runs, and no others
pub walk_block : (region : Depth) (bytes : List ℕ) (parts : List Part) → AreParts region parts bytes
    → runs_in region bytes ≡ runs_after region [] parts
walk_block region bytes parts p =
    walk_parts region parts bytes [] start_pen p
    (record { at_line = refl; fours = refl; size = refl; eights = refl; wide = refl }) refl
