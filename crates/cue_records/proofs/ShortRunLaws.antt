-- The first run of a text, where it is short.
use Rattle.std.proofs.Common.{◌≡◌, ◌∙◌, zero, suc, refl, sym, ap, subst, ℕ, ◌+◌, ◌==◌, ◌<◌, ◌≤◌, Bool, true, false, ◌&&◌, if◌then◌else◌, List, [], ◌∷◌, ◌++◌, length, take, drop, get_or, Some, None, arith}
use Rattle.std.proofs.lemmas.Bool.Decides.{nat_tests}
use Rattle.std.specs.Prelude.{option_and_then}
use Rattle.std.specs.List.{list_all}
use Rattle.sub_base.specs.Number.{number_in, is_number, in_range, value_from, is_digit}
use Rattle.sub_base.specs.declared.depth.Depth.{Depth}
use Rattle.sub_base.proofs.NumberLaws.{IsDigit-is}
use Rattle.cue_records.specs.declared.limits.TheConstants.{LONGEST_RUN}
use Rattle.cue_records.specs.declared.runs.PixelRun.{PixelRun}
use Rattle.cue_records.specs.PixelRuns.{SPACE, STAR, code_at_depth, first_run, place_of, run_in}
use Rattle.cue_records.proofs.TestLaws.{both-true}

-- a byte that is no mark is passed
passed : (mark byte : ℕ) (text : List ℕ) → (byte == mark) ≡ false
    → place_of mark (byte ∷ text) ≡ 1 + place_of mark text
passed mark byte text is = rw is refl

-- a mark that stands in a text's front is found there
place_within : (mark : ℕ) (front rest : List ℕ) → place_of mark front < length front
    → place_of mark (front ++ rest) ≡ place_of mark front
place_within mark [] rest h = absurd (omega arith)
place_within mark (byte ∷ front) rest h = by (byte == mark) refl (λ g. place_within mark front rest g)
  where
    by : (b : Bool) → (byte == mark) ≡ b
        → (place_of mark front < length front → place_of mark (front ++ rest) ≡ place_of mark front)
        → place_of mark (byte ∷ front ++ rest) ≡ place_of mark (byte ∷ front)
    by true is more = rw is refl
    by false is more =
        let one = passed mark byte front is in
        passed mark byte (front ++ rest) is ∙ ap (λ n. 1 + n) (more (omega arith)) ∙ sym one

-- a number is a text of digits
digits : (text : List ℕ) (count : ℕ) → number_in 1 LONGEST_RUN text ≡ Some count → list_all is_digit text ≡ true
digits text count h = by (is_number 11 text) refl h
  where
    by : (b : Bool) → is_number 11 text ≡ b
        → option_and_then (in_range 1 LONGEST_RUN) (if b then Some (value_from 0 text) else None) ≡ Some count
        → list_all is_digit text ≡ true
    by true is h = grind arith
    by false is h = absurd (let never : None ≡ Some count = h in cc)

no_mark : (byte : ℕ) → is_digit byte ≡ true → ((byte == SPACE) ≡ false) × ((byte == STAR) ≡ false)
no_mark byte is = let range = IsDigit-is byte is in (grind (arith, nat_tests), grind (arith, nat_tests))

take_three : (f s t size : ℕ) (rest : List ℕ) → size ≤ 2
    → take size (f ∷ s ∷ t ∷ rest) ≡ take size (f ∷ s ∷ t ∷ [])
take_three f s t zero rest h = refl
take_three f s t (suc zero) rest h = refl
take_three f s t (suc (suc zero)) rest h = refl
take_three f s t (suc (suc (suc k))) rest h = absurd (omega arith)

-- a run that begins with these digits and has its `*` behind them
read_at : (depth : Depth) (token : List ℕ) (star count code : ℕ) → place_of STAR token ≡ star
    → number_in 1 LONGEST_RUN (take star token) ≡ Some count
    → code_at_depth depth (drop (star + 1) token) ≡ Some code
    → run_in depth token ≡ Some (record { count = count; code = code })
read_at depth token star count code place number coded = rw (place, number, coded) refl

-- the text's first run is that of its first bytes
first_of_token : (depth : Depth) (text : List ℕ) (size : ℕ) (run : PixelRun) → place_of SPACE text ≡ size
    → run_in depth (take size text) ≡ Some run → first_run depth text ≡ Some (run, size)
first_of_token depth text size run place read = rw (place, read) refl

one_digit : (depth : Depth) (a f s t : ℕ) (rest : List ℕ) (count code size : ℕ)
    → number_in 1 LONGEST_RUN (a ∷ []) ≡ Some count
    → code_at_depth depth (take size (f ∷ s ∷ t ∷ [])) ≡ Some code
    → place_of SPACE (f ∷ s ∷ t ∷ []) ≡ size → size ≤ 2
    → first_run depth (a ∷ 42 ∷ f ∷ s ∷ t ∷ rest) ≡ Some (record { count = count; code = code }, 2 + size)
one_digit depth a f s t rest count code size number coded space few =
    let text = a ∷ 42 ∷ f ∷ s ∷ t ∷ rest in
    let codes = take size (f ∷ s ∷ t ∷ []) in
    let only = both-true (is_digit a) true (digits (a ∷ []) count number) in
    let no = no_mark a only.0 in
    let behind = place_within SPACE (f ∷ s ∷ t ∷ []) rest (omega arith) in
    let place : place_of SPACE text ≡ 2 + size =
    let first = passed SPACE a (42 ∷ f ∷ s ∷ t ∷ rest) no.0 in omega arith in
    let more : 2 + size ≡ suc (suc size) = omega arith in
    let token : take (2 + size) text ≡ a ∷ 42 ∷ codes =
    ap (λ n. take n text) more ∙ ap (λ xs. a ∷ 42 ∷ xs) (take_three f s t size rest few) in
    first_of_token depth text (2 + size) (record { count = count; code = code }) place
    (ap (run_in depth) token
    ∙ read_at depth (a ∷ 42 ∷ codes) 1 count code (passed STAR a (42 ∷ codes) no.1) number coded)

two_digits : (depth : Depth) (a b f s t : ℕ) (rest : List ℕ) (count code size : ℕ)
    → number_in 1 LONGEST_RUN (a ∷ b ∷ []) ≡ Some count
    → code_at_depth depth (take size (f ∷ s ∷ t ∷ [])) ≡ Some code
    → place_of SPACE (f ∷ s ∷ t ∷ []) ≡ size → size ≤ 2
    → first_run depth (a ∷ b ∷ 42 ∷ f ∷ s ∷ t ∷ rest) ≡ Some (record { count = count; code = code }, 3 + size)
two_digits depth a b f s t rest count code size number coded space few =
    let text = a ∷ b ∷ 42 ∷ f ∷ s ∷ t ∷ rest in
    let codes = take size (f ∷ s ∷ t ∷ []) in
    let both = both-true (is_digit a) (is_digit b && true) (digits (a ∷ b ∷ []) count number) in
    let only = both-true (is_digit b) true both.1 in
    let no = no_mark a both.0 in
    let nor = no_mark b only.0 in
    let behind = place_within SPACE (f ∷ s ∷ t ∷ []) rest (omega arith) in
    let place : place_of SPACE text ≡ 3 + size =
    let first = passed SPACE a (b ∷ 42 ∷ f ∷ s ∷ t ∷ rest) no.0 in
    let second = passed SPACE b (42 ∷ f ∷ s ∷ t ∷ rest) nor.0 in omega arith in
    let more : 3 + size ≡ suc (suc (suc size)) = omega arith in
    let token : take (3 + size) text ≡ a ∷ b ∷ 42 ∷ codes =
    ap (λ n. take n text) more ∙ ap (λ xs. a ∷ b ∷ 42 ∷ xs) (take_three f s t size rest few) in
    let star : place_of STAR (a ∷ b ∷ 42 ∷ codes) ≡ 2 =
    passed STAR a (b ∷ 42 ∷ codes) no.1 ∙ ap (λ n. 1 + n) (passed STAR b (42 ∷ codes) nor.1) in
    first_of_token depth text (3 + size) (record { count = count; code = code }) place
    (ap (run_in depth) token ∙ read_at depth (a ∷ b ∷ 42 ∷ codes) 2 count code star number coded)

-- the same of a text by its bytes
short_one : (depth : Depth) (text : List ℕ) (count code size : ℕ) → 6 ≤ length text → get_or text 1 0 ≡ 42
    → number_in 1 LONGEST_RUN (take 1 text) ≡ Some count
    → code_at_depth depth (take size (get_or text 2 0 ∷ get_or text 3 0 ∷ get_or text 4 0 ∷ [])) ≡ Some code
    → place_of SPACE (get_or text 2 0 ∷ get_or text 3 0 ∷ get_or text 4 0 ∷ []) ≡ size → size ≤ 2
    → first_run depth text ≡ Some (record { count = count; code = code }, 2 + size)
short_one depth [] count code size long star number coded space few = absurd (omega arith)
short_one depth (a ∷ []) count code size long star number coded space few = absurd (omega arith)
short_one depth (a ∷ b ∷ []) count code size long star number coded space few = absurd (omega arith)
short_one depth (a ∷ b ∷ f ∷ []) count code size long star number coded space few = absurd (omega arith)
short_one depth (a ∷ b ∷ f ∷ s ∷ []) count code size long star number coded space few = absurd (omega arith)
short_one depth (a ∷ b ∷ f ∷ s ∷ t ∷ rest) count code size long star number coded space few =
    let run : PixelRun = record { count = count; code = code } in
    subst (λ (x : ℕ). first_run depth (a ∷ x ∷ f ∷ s ∷ t ∷ rest) ≡ Some (run, 2 + size)) (sym star)
    (one_digit depth a f s t rest count code size number coded space few)

short_two : (depth : Depth) (text : List ℕ) (count code size : ℕ) → 6 ≤ length text → get_or text 2 0 ≡ 42
    → number_in 1 LONGEST_RUN (take 2 text) ≡ Some count
    → code_at_depth depth (take size (get_or text 3 0 ∷ get_or text 4 0 ∷ get_or text 5 0 ∷ [])) ≡ Some code
    → place_of SPACE (get_or text 3 0 ∷ get_or text 4 0 ∷ get_or text 5 0 ∷ []) ≡ size → size ≤ 2
    → first_run depth text ≡ Some (record { count = count; code = code }, 3 + size)
short_two depth [] count code size long star number coded space few = absurd (omega arith)
short_two depth (a ∷ []) count code size long star number coded space few = absurd (omega arith)
short_two depth (a ∷ b ∷ []) count code size long star number coded space few = absurd (omega arith)
short_two depth (a ∷ b ∷ c ∷ []) count code size long star number coded space few = absurd (omega arith)
short_two depth (a ∷ b ∷ c ∷ f ∷ []) count code size long star number coded space few = absurd (omega arith)
short_two depth (a ∷ b ∷ c ∷ f ∷ s ∷ []) count code size long star number coded space few = absurd (omega arith)
short_two depth (a ∷ b ∷ c ∷ f ∷ s ∷ t ∷ rest) count code size long star number coded space few =
    let run : PixelRun = record { count = count; code = code } in
    subst (λ (x : ℕ). first_run depth (a ∷ b ∷ x ∷ f ∷ s ∷ t ∷ rest) ≡ Some (run, 3 + size)) (sym star)
    (two_digits depth a b f s t rest count code size number coded space few)

pub short : (depth : Depth) (text : List ℕ) (star count code size : ℕ) → 1 ≤ star → star ≤ 2 → 6 ≤ length text
    → get_or text star 0 ≡ 42 → number_in 1 LONGEST_RUN (take star text) ≡ Some count
    → code_at_depth depth
    (take size (get_or text (star + 1) 0 ∷ get_or text (star + 2) 0 ∷ get_or text (star + 3) 0 ∷ [])) ≡ Some code
    → place_of SPACE (get_or text (star + 1) 0 ∷ get_or text (star + 2) 0 ∷ get_or text (star + 3) 0 ∷ []) ≡ size
    → size ≤ 2 → first_run depth text ≡ Some (record { count = count; code = code }, star + 1 + size)
short depth text zero count code size some near long mark number coded space few = absurd (omega arith)
short depth text (suc zero) count code size some near long mark number coded space few =
    short_one depth text count code size long mark number coded space few
short depth text (suc (suc zero)) count code size some near long mark number coded space few =
    short_two depth text count code size long mark number coded space few
short depth text (suc (suc (suc k))) count code size some near long mark number coded space few =
    absurd (omega arith)
