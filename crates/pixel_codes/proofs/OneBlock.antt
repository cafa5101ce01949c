-- A block has one list of sub-blocks: bytes spell one list of codes at most, and begin with one sub-block at most.
use Rattle.std.proofs.Common.{◌≡◌, ◌∙◌, ℕ, ◌+◌, ◌-◌, ◌≤◌, false, cond, eqb, List, [], ◌∷◌, ◌++◌, length, drop, Option, Some, refl, sym, ap, subst, arith, All}
use Rattle.std.proofs.Math.Seq.{drop-append_seam}
use Rattle.std.proofs.lemmas.Bool.Decides.{nat_tests}
use Rattle.std.proofs.lemmas.List.Elements.{All-head, All-tail}
use Rattle.sub_base.specs.declared.depth.Depth.{Depth}
use Rattle.sub_base.specs.declared.depth.Depth.TheVariants.{Two, Four, Eight}
use Rattle.stream_syntax.specs.PixelCodes.{bits_of, Code, pixel, one_zero, two_zeros, zeros, short_run, middle_run, long_run, IsCode, pixel_count, colour_of, string_of, IsString}
use Rattle.stream_syntax.specs.PixelBlocks.{Part, string, table, line_end, string_type, table_type, line_end_type, entries_of, IsPart, AreParts}
use Rattle.stream_syntax.specs.declared.map_table.MapTable.{MapTable}
use Rattle.stream_syntax.specs.declared.map_table.MapTable.TheVariants.{TwoToFour, TwoToEight, FourToEight}
use Rattle.pixel_codes.specs.Private.Spelling.{width_of}
use Rattle.code_strings.proofs.Strings.{string_of-cons, behind}
use Rattle.code_strings.proofs.Tokens.{token_spelled, token_ending}
use Rattle.pixel_codes.proofs.Parts.{same_part, no_part, same_depth}

-- ---- codes

-- the code of so many bits that gives so many pixels of a colour
abbrev code_by : Depth → ℕ → ℕ → ℕ → Code
code_by Two width count colour =
    cond (eqb width 2) (pixel colour)
    (cond (eqb width 4) one_zero
    (cond (eqb width 6) two_zeros
    (cond (eqb width 8) (short_run (count - 3) colour)
    (cond (eqb width 12) (middle_run (count - 12) colour) (long_run (count - 29) colour)))))
code_by Four width count colour =
    cond (eqb width 4) (pixel colour)
    (cond (eqb width 8) (cond (eqb count 1) one_zero (cond (eqb count 2) two_zeros (zeros (count - 2))))
    (cond (eqb width 12) (short_run (count - 4) colour)
    (cond (eqb width 16) (middle_run (count - 9) colour) (long_run (count - 25) colour))))
code_by Eight width count colour =
    cond (eqb width 8) (pixel colour) (cond (eqb width 16) (zeros count) (short_run count colour))

minus : (a b : ℕ) → a + b - b ≡ a
minus a b = omega arith

its_code : (depth : Depth) (code : Code) → IsCode depth code
    → code_by depth (width_of depth code) (pixel_count depth code) (colour_of code) ≡ code
its_code Two (pixel code) h = refl
its_code Two one_zero h = refl
its_code Two two_zeros h = refl
its_code Two (zeros field) h = absurd h
its_code Two (short_run field code) h = ap (λ n. short_run n code) (minus field 3)
its_code Two (middle_run field code) h = ap (λ n. middle_run n code) (minus field 12)
its_code Two (long_run field code) h = ap (λ n. long_run n code) (minus field 29)
its_code Four (pixel code) h = refl
its_code Four one_zero h = refl
its_code Four two_zeros h = refl
its_code Four (zeros field) h =
    let some = h.0 in
    let no_one : eqb (field + 2) 1 ≡ false = grind (arith, nat_tests) in
    let no_two : eqb (field + 2) 2 ≡ false = grind (arith, nat_tests) in
    rw (no_one, no_two) (ap zeros (minus field 2))
its_code Four (short_run field code) h = ap (λ n. short_run n code) (minus field 4)
its_code Four (middle_run field code) h = ap (λ n. middle_run n code) (minus field 9)
its_code Four (long_run field code) h = ap (λ n. long_run n code) (minus field 25)
its_code Eight (pixel code) h = refl
its_code Eight one_zero h = absurd h
its_code Eight two_zeros h = absurd h
its_code Eight (zeros field) h = refl
its_code Eight (short_run field code) h = refl
its_code Eight (middle_run field code) h = absurd h
its_code Eight (long_run field code) h = absurd h

-- what is found in one place is one thing
same_found : {X : Type 0} (found : Option (X × ℕ)) (s t : X) (a b : ℕ) → found ≡ Some (s, a)
    → found ≡ Some (t, b) → (s ≡ t) × (a ≡ b)
same_found {X} found s t a b e f =
    let g : ◌≡◌ {A = Option (X × ℕ)} (Some (s, a)) (Some (t, b)) = sym e
    ∙ f in let h : ◌≡◌ {A = X × ℕ} (s, a) (t, b) = cc in
    (ap (λ (p : X × ℕ). p.0) h, ap (λ (p : X × ℕ). p.1) h)

pub one_code : (depth : Depth) (a b : Code) → IsCode depth a → IsCode depth b
    → width_of depth a ≡ width_of depth b → pixel_count depth a ≡ pixel_count depth b
    → colour_of a ≡ colour_of b → a ≡ b
one_code depth a b h k width count colour =
    sym (its_code depth a h) ∙ ap (λ n. code_by depth n (pixel_count depth a) (colour_of a)) width
    ∙ ap (λ n. code_by depth (width_of depth b) n (colour_of a)) count
    ∙ ap (code_by depth (width_of depth b) (pixel_count depth b)) colour ∙ its_code depth b k

-- the codes of two strings that stand at one place are the same
same_codes : (depth : Depth) (xs r s : List ℕ) (place : ℕ) (codes others : List Code) → All (IsCode depth) codes
    → All (IsCode depth) others → drop place xs ≡ string_of depth codes ++ r
    → drop place xs ≡ string_of depth others ++ s → codes ≡ others
same_codes depth xs r s place [] [] h k e f = refl
same_codes depth xs r s place [] (o ∷ os) h k e f =
    let one = token_spelled depth o (All-head (IsCode depth) o os k) xs _ place (f ∙ string_of-cons depth o os s) in
    let two = token_ending depth xs r place e in
    let told = (same_found _ _ _ _ _ one two).0 in
    cc
same_codes depth xs r s place (c ∷ cs) [] h k e f =
    let one = token_spelled depth c (All-head (IsCode depth) c cs h) xs _ place (e ∙ string_of-cons depth c cs r) in
    let two = token_ending depth xs s place f in
    let told = (same_found _ _ _ _ _ one two).0 in
    cc
same_codes depth xs r s place (c ∷ cs) (o ∷ os) h k e f =
    let one = token_spelled depth c (All-head (IsCode depth) c cs h) xs _ place (e ∙ string_of-cons depth c cs r) in
    let two = token_spelled depth o (All-head (IsCode depth) o os k) xs _ place (f ∙ string_of-cons depth o os s) in
    let same = same_found _ _ _ _ _ one two in
    let told = same.0 in
    let next : place + width_of depth c ≡ place + width_of depth o = same.1 in
    let count : pixel_count depth c ≡ pixel_count depth o = cc in
    let colour : colour_of c ≡ colour_of o = cc in
    let width : width_of depth c ≡ width_of depth o = omega (arith, next) in
    let first : c ≡ o =
    one_code depth c o (All-head (IsCode depth) c cs h) (All-head (IsCode depth) o os k) width count colour in
    let left = behind depth c xs _ place (e ∙ string_of-cons depth c cs r) in
    let right : drop (place + width_of depth c) xs ≡ string_of depth os ++ s =
    ap (λ (i : ℕ). drop i xs) next ∙ behind depth o xs _ place (f ∙ string_of-cons depth o os s) in
    let rest =
    same_codes depth xs r s (place + width_of depth c) cs os (All-tail (IsCode depth) c cs h)
    (All-tail (IsCode depth) o os k) left right in
    ap (λ code. code ∷ cs) first ∙ ap (λ more. o ∷ more) rest

string_codes : (depth : Depth) (codes others : List Code) (bytes : List ℕ) → IsString depth codes bytes
    → IsString depth others bytes → codes ≡ others
string_codes depth codes others bytes one two =
    same_codes depth (bits_of bytes) one.fill two.fill 0 codes others one.each two.each one.text two.text

-- ---- sub-blocks

-- the type bytes of strings, of tables and of ends of lines
low_type : (depth : Depth) → string_type depth ≤ 0x12
low_type Two = omega arith
low_type Four = omega arith
low_type Eight = omega arith

middle_type : (kind : MapTable) → (0x20 ≤ table_type kind) × (table_type kind ≤ 0x22)
middle_type TwoToFour = (omega arith, omega arith)
middle_type TwoToEight = (omega arith, omega arith)
middle_type FourToEight = (omega arith, omega arith)

same_kind : (a b : MapTable) → table_type a ≡ table_type b → a ≡ b
same_kind TwoToFour TwoToFour e = refl
same_kind TwoToFour TwoToEight e = absurd (omega (arith, e))
same_kind TwoToFour FourToEight e = absurd (omega (arith, e))
same_kind TwoToEight TwoToFour e = absurd (omega (arith, e))
same_kind TwoToEight TwoToEight e = refl
same_kind TwoToEight FourToEight e = absurd (omega (arith, e))
same_kind FourToEight TwoToFour e = absurd (omega (arith, e))
same_kind FourToEight TwoToEight e = absurd (omega (arith, e))
same_kind FourToEight FourToEight e = refl

same_cell : (bytes : List ℕ) (a b : ℕ) (xs ys : List ℕ) → bytes ≡ a ∷ xs → bytes ≡ b ∷ ys
    → (a ≡ b) × (xs ≡ ys)
same_cell bytes a b xs ys e f = let g = sym e ∙ f in (cc, cc)

same_table : (a b : MapTable) (xs ys : List ℕ) → a ≡ b → xs ≡ ys
    → table a (entries_of a xs) ≡ table b (entries_of b ys)
same_table a b xs ys e f =
    ap (λ kind. table kind (entries_of kind xs)) e ∙ ap (λ bytes. table b (entries_of b bytes)) f

one_part : (region : Depth) (p q : Part) (bytes : List ℕ) → IsPart region p bytes → IsPart region q bytes
    → p ≡ q
one_part region (string d c) (string e o) bytes h k =
    let cell = same_cell bytes (string_type d) (string_type e) h.1 k.1 h.2 k.2 in
    let depth : d ≡ e = same_depth d e cell.0 in
    let other : IsString d o h.1 =
    subst (λ (depth : Depth). IsString depth o h.1) (sym depth) (subst (IsString e o) (sym cell.1) k.3) in
    ap (string d) (string_codes d c o h.1 h.3 other) ∙ ap (λ depth. string depth o) depth
one_part region (string d c) (table kind entries) bytes h k =
    let low = low_type d in let middle = middle_type kind in absurd
    (omega (arith, (same_cell bytes (string_type d) (table_type kind) h.1 k.0 h.2 k.1).0))
one_part region (string d c) line_end bytes h k =
    let low = low_type d in absurd (omega (arith, (same_cell bytes (string_type d) line_end_type h.1 [] h.2 k).0))
one_part region (table kind entries) (string e o) bytes h k =
    let low = low_type e in let middle = middle_type kind in absurd
    (omega (arith, (same_cell bytes (table_type kind) (string_type e) h.0 k.1 h.1 k.2).0))
one_part region (table kind entries) (table other more) bytes h k =
    let cell = same_cell bytes (table_type kind) (table_type other) h.0 k.0 h.1 k.1 in
    ap (table kind) h.3 ∙ same_table kind other h.0 k.0 (same_kind kind other cell.0) cell.1
    ∙ ap (table other) (sym k.3)
one_part region (table kind entries) line_end bytes h k =
    let middle = middle_type kind in absurd
    (omega (arith, (same_cell bytes (table_type kind) line_end_type h.0 [] h.1 k).0))
one_part region line_end (string e o) bytes h k =
    let low = low_type e in absurd (omega (arith, (same_cell bytes line_end_type (string_type e) [] k.1 h k.2).0))
one_part region line_end (table kind entries) bytes h k =
    let middle = middle_type kind in absurd
    (omega (arith, (same_cell bytes line_end_type (table_type kind) [] k.0 h k.1).0))
one_part region line_end line_end bytes h k = refl

-- a block has one list of sub-blocks
pub one_block : (region : Depth) (parts others : List Part) (bytes : List ℕ) → AreParts region parts bytes
    → AreParts region others bytes → parts ≡ others
one_block region [] [] bytes h k = refl
one_block region [] (q ∷ qs) bytes h k = absurd (no_part region q k.0 k.1 k.3 (sym k.2 ∙ h))
one_block region (p ∷ ps) [] bytes h k = absurd (no_part region p h.0 h.1 h.3 (sym h.2 ∙ k))
one_block region (p ∷ ps) (q ∷ qs) bytes h k =
    let both : h.0 ++ h.1 ≡ k.0 ++ k.1 = sym h.2 ∙ k.2 in
    let front : h.0 ≡ k.0 = same_part region p q h.0 k.0 h.1 k.1 h.3 k.3 both in
    let rest : h.1 ≡ k.1 =
    sym (drop-append_seam h.0 h.1) ∙ ap (drop (length h.0)) both
    ∙ ap (λ (a : List ℕ). drop (length a) (k.0 ++ k.1)) front ∙ drop-append_seam k.0 k.1 in
    ap (λ part. part ∷ ps) (one_part region p q h.0 h.3 (subst (IsPart region q) (sym front) k.3))
    ∙ ap (λ more. q ∷ more) (one_block region ps qs h.1 h.4 (subst (AreParts region qs) (sym rest) k.4))
