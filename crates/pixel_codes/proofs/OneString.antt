-- A row has one string: a run has one list of chosen codes, and the bits of a string are those of one list of bytes.
use Rattle.std.proofs.Common.{◌≡◌, ◌∙◌, ℕ, zero, suc, ◌<◌, ◌≤◌, inl, inr, List, [], ◌∷◌, ◌++◌, length, map, take, drop, replicate, refl, sym, ap, subst, arith, All}
use Rattle.std.specs.Prelude.{flat_map}
use Rattle.std.proofs.Math.Nat.{mod-eq_of_lt}
use Rattle.std.proofs.Math.Seq.{drop-append_seam, take-append_seam}
use Rattle.std.proofs.lemmas.List.{length-append, length-replicate}
use Rattle.std.proofs.lemmas.List.Elements.{All-cons, All-head, All-tail}
use Rattle.sub_base.specs.declared.depth.Depth.{Depth}
use Rattle.stream_syntax.specs.Fields.{number_of}
use Rattle.stream_syntax.specs.PixelCodes.{bits, bits_of, Code, IsCode, pixel_count, colour_of, pixels_of, bits_in, string_of, IsAtLeast, IsChosen, AreChosen, Span, IsRowString}
use Rattle.pixel_codes.specs.Private.Spelling.{width_of}
use Rattle.code_strings.proofs.Bits.{length-bits, length-bits_of, number_of-bits}
use Rattle.pixel_codes.proofs.Chosen.{bits_in-cons}
use Rattle.code_strings.proofs.NarrowTokens.{width_some}
use Rattle.pixel_codes.proofs.OneBlock.{one_code}
use Rattle.pixel_codes.proofs.Sizes.{one_runs}

-- ---- lists

same_front : {X : Type 0} (xs ys zs ws : List X) → length xs ≡ length zs → xs ++ ys ≡ zs ++ ws → xs ≡ zs
same_front xs ys zs ws count e =
    sym (take-append_seam xs ys) ∙ (λ i. take (count i) (e i)) ∙ take-append_seam zs ws

same_behind : {X : Type 0} (xs ys zs ws : List X) → length xs ≡ length zs → xs ++ ys ≡ zs ++ ws → ys ≡ ws
same_behind xs ys zs ws count e =
    sym (drop-append_seam xs ys) ∙ (λ i. drop (count i) (e i)) ∙ drop-append_seam zs ws

-- lists of which each is at or above the other are the same
one_greatest : (xs ys : List ℕ) → IsAtLeast xs ys → IsAtLeast ys xs → xs ≡ ys
one_greatest [] [] first second = refl
one_greatest [] (y ∷ ys) first second = absurd first
one_greatest (x ∷ xs) [] first second = absurd second
one_greatest (x ∷ xs) (y ∷ ys) (inl less) (inl more) = absurd (omega (arith, less, more))
one_greatest (x ∷ xs) (y ∷ ys) (inl less) (inr (same, rest)) = absurd (omega (arith, less, same))
one_greatest (x ∷ xs) (y ∷ ys) (inr (same, rest)) (inl more) = absurd (omega (arith, same, more))
one_greatest (x ∷ xs) (y ∷ ys) (inr (same, rest)) (inr (again, others)) =
    let tail : xs ≡ ys = one_greatest xs ys rest others in
    cc (same, tail)

-- ---- codes with the least bits

-- no list of codes that gives the same pixels has fewer bits
abbrev IsShortest : Depth → List Code → Type 0
IsShortest depth codes = (others : List Code) → All (IsCode depth) others
    → flat_map (pixels_of depth) others ≡ flat_map (pixels_of depth) codes
    → bits_in depth codes ≤ bits_in depth others

-- behind a code too no list has fewer
shortest_behind : (depth : Depth) (code : Code) (codes : List Code) → IsCode depth code
    → IsShortest depth (code ∷ codes) → IsShortest depth codes
shortest_behind depth code codes is shortest others each same =
    omega (
      arith,
      shortest (code ∷ others) (All-cons (IsCode depth) code others is each)
          (ap (λ (more : List ℕ). pixels_of depth code ++ more) same),
      bits_in-cons depth code codes,
      bits_in-cons depth code others,
    )

-- a code that gives the same pixels as the first has as many bits or more
first_narrow : (depth : Depth) (code other : Code) (codes : List Code) → All (IsCode depth) codes
    → IsCode depth other → IsShortest depth (code ∷ codes) → pixels_of depth other ≡ pixels_of depth code
    → width_of depth code ≤ width_of depth other
first_narrow depth code other codes each is shortest same =
    omega (
      arith,
      shortest (other ∷ codes) (All-cons (IsCode depth) other codes is each)
          (ap (λ (front : List ℕ). front ++ flat_map (pixels_of depth) codes) same),
      bits_in-cons depth code codes,
      bits_in-cons depth other codes,
    )

-- the first code gives some pixel: without it the others would do
first_some : (depth : Depth) (code : Code) (codes : List Code) → IsCode depth code → All (IsCode depth) codes
    → IsShortest depth (code ∷ codes) → 0 < pixel_count depth code
first_some depth code codes is each shortest = by (pixel_count depth code) refl
  where
    by : (n : ℕ) → pixel_count depth code ≡ n → 0 < pixel_count depth code
    by zero none =
        let bits =
        shortest codes each
        (ap (λ (n : ℕ). replicate n (colour_of code) ++ flat_map (pixels_of depth) codes) (sym none)) in
        absurd (omega (arith, bits, bits_in-cons depth code codes, width_some depth code is))
    by (suc n) some = omega (arith, some)

-- the pixels of two codes that give as many, and what stands behind them
same_colour : (n c d : ℕ) (ys ws : List ℕ) → 0 < n → replicate n c ++ ys ≡ replicate n d ++ ws → c ≡ d
same_colour zero c d ys ws some e = absurd (omega (arith, some))
same_colour (suc n) c d ys ws some e = cc

-- two lists with the least bits that give the same pixels in the same lengths are one
one_shortest : (depth : Depth) (cs ds : List Code) → All (IsCode depth) cs → All (IsCode depth) ds
    → IsShortest depth cs → IsShortest depth ds →
    map (pixel_count depth) cs ≡ map (pixel_count depth) ds
    → flat_map (pixels_of depth) cs ≡ flat_map (pixels_of depth) ds → cs ≡ ds
one_shortest depth [] [] each all first second counts drawn = refl
one_shortest depth [] (d ∷ ds) each all first second counts drawn = absurd (omega (arith, ap length counts))
one_shortest depth (c ∷ cs) [] each all first second counts drawn = absurd (omega (arith, ap length counts))
one_shortest depth (c ∷ cs) (d ∷ ds) each all first second counts drawn =
    let ys = flat_map (pixels_of depth) cs in
    let ws = flat_map (pixels_of depth) ds in
    let own = All-head (IsCode depth) c cs each in
    let its = All-head (IsCode depth) d ds all in
    let own_rest = All-tail (IsCode depth) c cs each in
    let its_rest = All-tail (IsCode depth) d ds all in
    let count : pixel_count depth c ≡ pixel_count depth d = cc counts in
    let fewer : map (pixel_count depth) cs ≡ map (pixel_count depth) ds = cc counts in
    let n = pixel_count depth c in
    let level : replicate n (colour_of c) ++ ys ≡ replicate n (colour_of d) ++ ws =
    drawn ∙ ap (λ (k : ℕ). replicate k (colour_of d) ++ ws) (sym count) in
    let colour : colour_of c ≡ colour_of d =
    same_colour n (colour_of c) (colour_of d) ys ws (first_some depth c cs own own_rest first) level in
    let pixels : pixels_of depth c ≡ pixels_of depth d = λ i. replicate (count i) (colour i) in
    let behind : ys ≡ ws =
    same_behind (replicate n (colour_of c)) ys (replicate n (colour_of d)) ws
    (length-replicate n (colour_of c) ∙ sym (length-replicate n (colour_of d))) level in
    let narrow = first_narrow depth c d cs own_rest its first (sym pixels) in
    let tight = first_narrow depth d c ds its_rest own second pixels in
    let head : c ≡ d = one_code depth c d own its (omega (arith, narrow, tight)) count colour in
    let tail : cs ≡ ds =
    one_shortest depth cs ds own_rest its_rest (shortest_behind depth c cs own first)
    (shortest_behind depth d ds its second) fewer behind in
    cc (head, tail)

-- ---- chosen codes

chosen_shortest : (depth : Depth) (code count : ℕ) (codes : List Code) → IsChosen depth code count codes
    → IsShortest depth codes
chosen_shortest depth code count codes chosen others each same =
    chosen.least others (record { each = each; drawn = same ∙ chosen.given.drawn })

-- the codes chosen for a run are one list
pub one_chosen : (depth : Depth) (code count : ℕ) (codes others : List Code) → IsChosen depth code count codes
    → IsChosen depth code count others → codes ≡ others
one_chosen depth code count codes others first second =
    let bits : bits_in depth codes ≡ bits_in depth others =
    omega (arith, first.least others second.given, second.least codes first.given) in
    one_shortest depth codes others first.given.each second.given.each (chosen_shortest depth code count codes first)
    (chosen_shortest depth code count others second)
    (one_greatest (map (pixel_count depth) codes) (map (pixel_count depth) others)
    (first.greatest others second.given (sym bits)) (second.greatest codes first.given bits))
    (first.given.drawn ∙ sym second.given.drawn)

-- the codes chosen for runs are one list
pub one_choice : (depth : Depth) (spans : List Span) (codes others : List Code) → AreChosen depth spans codes
    → AreChosen depth spans others → codes ≡ others
one_choice depth [] codes others first second = first ∙ sym second
one_choice depth (span ∷ spans) codes others (front, rest, is, chosen, more) (head, tail, also, again, others_more) =
    is ∙ ap (λ (some : List Code). some ++ rest)
    (one_chosen depth span.code span.count front head chosen again)
    ∙ ap (λ (some : List Code). head ++ some) (one_choice depth spans rest tail more others_more)
    ∙ sym also

-- ---- bytes

byte_of : (byte : ℕ) → byte < 256 → number_of (bits 8 byte) ≡ byte
byte_of byte small = number_of-bits 8 byte ∙ mod-eq_of_lt small

-- bytes are known by their bits
pub one_bytes : (xs ys : List ℕ) → All (λ byte. byte < 256) xs → All (λ byte. byte < 256) ys
    → bits_of xs ≡ bits_of ys → xs ≡ ys
unfolding bits_of
one_bytes [] [] each all e = refl
one_bytes [] (y ∷ ys) each all e =
    absurd (omega (arith, ap length e, length-bits_of [], length-bits_of (y ∷ ys)))
one_bytes (x ∷ xs) [] each all e =
    absurd (omega (arith, ap length e, length-bits_of [], length-bits_of (x ∷ xs)))
one_bytes (x ∷ xs) (y ∷ ys) each all e =
    let Byte : ℕ → Type 0 = λ byte. byte < 256 in
    let eight : length (bits 8 x) ≡ length (bits 8 y) = length-bits 8 x ∙ sym (length-bits 8 y) in
    let head : x ≡ y =
    sym (byte_of x (All-head Byte x xs each))
    ∙ ap number_of (same_front (bits 8 x) (bits_of xs) (bits 8 y) (bits_of ys) eight e)
    ∙ byte_of y (All-head Byte y ys all) in
    let tail : xs ≡ ys =
    one_bytes xs ys (All-tail Byte x xs each) (All-tail Byte y ys all)
    (same_behind (bits 8 x) (bits_of xs) (bits 8 y) (bits_of ys) eight e) in
    cc (head, tail)

-- bits with fewer than eight of fill up to a whole byte have one fill
one_fill : (text : List ℕ) (fill other : ℕ) (xs ys : List ℕ) → fill < 8 → other < 8
    → bits_of xs ≡ text ++ replicate fill 0 → bits_of ys ≡ text ++ replicate other 0 → fill ≡ other
one_fill text fill other xs ys short small first second =
    omega (
      arith,
      short,
      small,
      sym (length-bits_of xs) ∙ ap length first ∙ length-append text (replicate fill 0),
      sym (length-bits_of ys) ∙ ap length second ∙ length-append text (replicate other 0),
      length-replicate {A = ℕ} fill 0,
      length-replicate {A = ℕ} other 0,
    )

-- a row has one string
pub one_string : (depth : Depth) (pixels bytes others : List ℕ) → IsRowString depth pixels bytes
    → IsRowString depth pixels others → bytes ≡ others
one_string depth pixels bytes others first second =
    let spans : second.spans ≡ first.spans =
    one_runs pixels second.spans first.spans second.maximal first.maximal in
    let Chosen : List Span → Type 0 = λ spans. AreChosen depth spans second.codes in
    let codes : second.codes ≡ first.codes =
    one_choice depth first.spans second.codes first.codes (subst Chosen spans second.chosen) first.chosen in
    let text : bits_of others ≡ string_of depth first.codes ++ replicate second.fill 0 =
    second.text ∙ ap (λ (codes : List Code). string_of depth codes ++ replicate second.fill 0) codes in
    let fill =
    one_fill (string_of depth first.codes) first.fill second.fill bytes others first.short second.short first.text text
    in
    one_bytes bytes others first.each second.each
    (first.text ∙ ap (λ (n : ℕ). string_of depth first.codes ++ replicate n 0) fill ∙ sym text)
