-- Pixel codes in runs, run by run.
use Rattle.std.proofs.Common.{◌≡◌, ◌∙◌, ◌⊎◌, inl, inr, suc, refl, sym, ap, subst, ℕ, ◌+◌, ◌==◌, ◌<◌, ◌≤◌, nat_lt, nat_le, Bool, true, false, not, ◌&&◌, ◌||◌, if◌then◌else◌, List, [], ◌∷◌, ◌++◌, chars, length, take, drop, replicate, All, Option, Some, None, append_assoc, arith}
use Rattle.std.specs.List.{list_all, list_any}
use Rattle.std.proofs.Math.Seq.{take-length}
use Rattle.std.proofs.lemmas.Bool.Decides.{nat_tests}
use Rattle.std.proofs.lemmas.Bool.{eq-eqb, eqb-true}
use Rattle.std.proofs.lemmas.Grind.{flat_map-append}
use Rattle.std.proofs.lemmas.List.{append-nil, drop-drop, length-drop}
use Rattle.std.proofs.lemmas.List.Elements.{All-append, All-replicate}
use Rattle.std.proofs.lemmas.List.Folds.{list_all-append}
use Rattle.std.proofs.lemmas.List.Sums.{prefix_len-le-length, sum_by-append, sum_by-cons}
use Rattle.sub_base.specs.Depth.{code_count}
use Rattle.sub_base.specs.declared.depth.Depth.{Depth}
use Rattle.sub_base.specs.declared.depth.Depth.TheVariants.{Two, Four, Eight}
use Rattle.cue_records.specs.declared.fault.ScriptKind.TheVariants as faults
use Rattle.cue_records.specs.declared.row_values.PictureHead.{PictureHead}
use Rattle.cue_records.specs.declared.runs.PixelRun.{PixelRun}
use Rattle.cue_records.specs.CellFaults.{first_of, fails}
use Rattle.cue_records.specs.Cells.{◌>>=◌}
use Rattle.cue_records.specs.Codes.{are_digits, codes_of, has_code}
use Rattle.cue_records.specs.RowValues.{area}
use Rattle.cue_records.specs.PixelRuns.{SPACE, STAR, all_runs, first_run, is_in_runs, on_first, parted, picture_codes, pixel_count, place_of, run_codes, run_in, runs_in, spelled}
use Rattle.cue_records.specs.CodeFaults.{codes_fault, pixels_fault, runs_fault, sum_fault}
use Rattle.cue_records.proofs.TestLaws.{both-true}

-- ---- pieces

-- one byte before a piece
piece_on : (mark byte n : ℕ) (text : List ℕ)
    → (byte ∷ take n text) ∷ (if nat_lt n (length text) then parted mark (drop (n + 1) text) else [])
    ≡ take (1 + n) (byte ∷ text)
    ∷ (if nat_lt (1 + n) (length (byte ∷ text)) then parted mark (drop (1 + n + 1) (byte ∷ text)) else [])
piece_on mark byte n text =
    let one : 1 + n ≡ suc n = omega arith in
    let two : 1 + n + 1 ≡ suc (n + 1) = omega arith in
    let test : nat_lt n (length text) ≡ nat_lt (1 + n) (length (byte ∷ text)) = grind (arith, nat_tests) in
    let front : byte ∷ take n text ≡ take (1 + n) (byte ∷ text) =
    sym (ap (λ (k : ℕ). take k (byte ∷ text)) one) in
    let back : drop (n + 1) text ≡ drop (1 + n + 1) (byte ∷ text) =
    sym (ap (λ (k : ℕ). drop k (byte ∷ text)) two) in
    λ i. front i ∷ (if test i then parted mark (back i) else [])

-- the first piece of a text, and those behind it
pub parted_first : (mark : ℕ) (text : List ℕ) →
    parted mark text ≡ take (place_of mark text) text
    ∷ (if nat_lt (place_of mark text) (length text) then parted mark (drop (place_of mark text + 1) text) else [])
parted_first mark [] = refl
parted_first mark (byte ∷ text) = by (byte == mark) refl (parted_first mark text)
  where
    by : (b : Bool) → (byte == mark) ≡ b →
        parted mark text ≡ take (place_of mark text) text
        ∷ (if nat_lt (place_of mark text) (length text) then parted mark (drop (place_of mark text + 1) text)
        else []) →
        parted mark (byte ∷ text) ≡ take (place_of mark (byte ∷ text)) (byte ∷ text)
        ∷ (if nat_lt (place_of mark (byte ∷ text)) (length (byte ∷ text))
        then parted mark (drop (place_of mark (byte ∷ text) + 1) (byte ∷ text)) else [])
    by true is rest =
        (let some : nat_lt 0 (length (byte ∷ text)) ≡ true = grind (arith, nat_tests) in
        rw is (ap (λ (b : Bool). [] ∷ (if b then parted mark text else [])) (sym some)))
    by false is rest = rw is (ap (on_first byte) rest ∙ piece_on mark byte (place_of mark text) text)

-- the pieces from a place on
abbrev pub left : ℕ → List ℕ → List (List ℕ)
left start text = if nat_le start (length text) then parted SPACE (drop start text) else []

pub left_on : (start : ℕ) (text : List ℕ) → start ≤ length text →
    left start text ≡ take (place_of SPACE (drop start text)) (drop start text)
    ∷ left (start + (place_of SPACE (drop start text) + 1)) text
left_on start text within =
    let rest = drop start text in
    let n = place_of SPACE rest in
    let here : nat_le start (length text) ≡ true = grind (arith, nat_tests) in
    let long = length-drop start text in
    let same : nat_lt n (length rest) ≡ nat_le (start + (n + 1)) (length text) = grind (arith, nat_tests) in
    ap (λ (b : Bool). if b then parted SPACE rest else []) here ∙ parted_first SPACE rest
    ∙ ap (λ (xs : List (List ℕ)). take n rest ∷ xs)
    (ap (λ (b : Bool). if b then parted SPACE (drop (n + 1) rest) else []) same
    ∙ ap (λ (xs : List ℕ). if nat_le (start + (n + 1)) (length text) then parted SPACE xs else [])
    (drop-drop (n + 1) start text))

-- the place of the first space from a place on
abbrev pub place_at : ℕ → List ℕ → ℕ
place_at start text = place_of SPACE (drop start text)

-- a run that was read, with its length
abbrev pub read_run : PixelRun → ℕ → Option (PixelRun × ℕ)
read_run run size = Some (run, size)

same_parts : (run other : PixelRun) (size place : ℕ) → read_run run size ≡ read_run other place
    → (run ≡ other) × (size ≡ place)
same_parts run other size place h =
    let pair : ◌≡◌ {A = PixelRun × ℕ} (run, size) (other, place) = cc in
    (ap (λ (p : PixelRun × ℕ). p.0) pair, ap (λ (p : PixelRun × ℕ). p.1) pair)

-- what the first run of a text says of the text up to its first space
pub found_run : (depth : Depth) (text : List ℕ) (run : PixelRun) (size : ℕ) → read_run run size ≡ first_run depth text
    → (run_in depth (take (place_of SPACE text) text) ≡ Some run) × (size ≡ place_of SPACE text)
found_run depth text run size h = by (run_in depth (take (place_of SPACE text) text)) refl h
  where
    by : (read : Option PixelRun) → run_in depth (take (place_of SPACE text) text) ≡ read
        → read_run run size ≡ (read >>= λ one. read_run one (place_of SPACE text))
        → (run_in depth (take (place_of SPACE text) text) ≡ Some run) × (size ≡ place_of SPACE text)
    by None is h = absurd (let never : read_run run size ≡ None = h in cc)
    by (Some other) is h =
        let same = same_parts run other size (place_of SPACE text) h in (is ∙ ap Some (sym same.0), same.1)

pub no_run : (depth : Depth) (text : List ℕ) → None ≡ first_run depth text
    → run_in depth (take (place_of SPACE text) text) ≡ None
no_run depth text h = by (run_in depth (take (place_of SPACE text) text)) refl h
  where
    by : (read : Option PixelRun) → run_in depth (take (place_of SPACE text) text) ≡ read
        → None ≡ (read >>= λ one. read_run one (place_of SPACE text))
        → run_in depth (take (place_of SPACE text) text) ≡ None
    by None is h = is
    by (Some other) is h = absurd (let never : None ≡ read_run other (place_of SPACE text) = h in cc)

left_first : (text : List ℕ) → left 0 text ≡ parted SPACE text
left_first text =
    let here : nat_le 0 (length text) ≡ true = grind (arith, nat_tests) in
    ap (λ (b : Bool). if b then parted SPACE text else []) here

-- ---- runs that were read

-- runs that were read, and those of the pieces after them
abbrev pub after_runs : List PixelRun → Option (List PixelRun) → Option (List PixelRun)
after_runs front more = more >>= λ others. Some (front ++ others)

one_more : (front : List PixelRun) (run : PixelRun) (more : Option (List PixelRun))
    → after_runs front (more >>= λ runs. Some (run ∷ runs)) ≡ after_runs (front ++ run ∷ []) more
one_more front run None = refl
one_more front run (Some others) = ap Some (sym (append_assoc front (run ∷ []) others))

-- what holds of the places behind the first runs
pub record ArePut (depth : Depth) (text codes : List ℕ) (start filled : ℕ) (valid : Bool) : Type 0 where
  pub runs : List PixelRun
  pub read : runs_in depth text ≡ after_runs runs (all_runs depth (left start text))
  pub within : start ≤ length text + 1
  pub some : filled ≤ length codes + 1
  pub fits : pixel_count runs ≤ length codes → (filled ≡ pixel_count runs) × (take filled codes ≡ spelled runs)
  pub over : length codes < pixel_count runs → filled ≡ length codes + 1
  pub range : valid ≡ list_all (λ (run : PixelRun). nat_lt run.code (code_count depth)) runs

all_read : (read : Option (List PixelRun)) → read ≡ after_runs [] read
all_read None = refl
all_read (Some runs) = refl

pub put_none : (depth : Depth) (text codes : List ℕ) → ArePut depth text codes 0 0 true
put_none depth text codes = record {
  runs = [];
  read =
      all_read (runs_in depth text)
      ∙ ap (λ (xs : List (List ℕ)). after_runs [] (all_runs depth xs)) (sym (left_first text));
  within = omega arith;
  some = omega arith;
  fits = λ h. (refl, refl);
  over = λ h. absurd (omega arith);
  range = refl;
}

-- what a run's step says of the places
pub record IsPut (run : PixelRun) (old new : List ℕ) (filled next : ℕ) : Type 0 where
  pub fits : filled + run.count ≤ length old → (next ≡ filled + run.count)
      × (take next new ≡ take filled old ++ replicate run.count run.code)
  pub over : length old < filled + run.count → next ≡ length old + 1
  pub count : length new ≡ length old

counted_more : (runs : List PixelRun) (run : PixelRun)
    → pixel_count (runs ++ run ∷ []) ≡ pixel_count runs + run.count
counted_more runs run =
    let f = λ (x : PixelRun). x.count in
    let all = sum_by-append f runs (run ∷ []) in
    let one = sum_by-cons f run [] in
    omega arith

spelled_more : (runs : List PixelRun) (run : PixelRun)
    → spelled (runs ++ run ∷ []) ≡ spelled runs ++ replicate run.count run.code
spelled_more runs run =
    flat_map-append (λ (x : PixelRun). replicate x.count x.code) runs (run ∷ [])
    ∙ ap (λ (xs : List ℕ). spelled runs ++ xs) (append-nil (replicate run.count run.code))

over_by : (depth : Depth) (text old new : List ℕ) (start filled next : ℕ) (valid : Bool) (run : PixelRun)
    → (before : ArePut depth text old start filled valid) → IsPut run old new filled next
    → length old < pixel_count before.runs + run.count →
    (pixel_count before.runs ≤ length old) ⊎ (length old < pixel_count before.runs) → next ≡ length old + 1
over_by depth text old new start filled next valid run before put h (inl few) =
    put.over (let same = (before.fits few).0 in omega arith)
over_by depth text old new start filled next valid run before put h (inr many) =
    put.over (let same = before.over many in omega arith)

some_by : (run : PixelRun) (old new : List ℕ) (filled next : ℕ) → IsPut run old new filled next
    → (filled + run.count ≤ length old) ⊎ (length old < filled + run.count) → next ≤ length new + 1
some_by run old new filled next put (inl h) = let same = (put.fits h).0 in let count = put.count in omega arith
some_by run old new filled next put (inr h) = let same = put.over h in let count = put.count in omega arith

pub put_more : (depth : Depth) (text old new : List ℕ) (start filled next : ℕ) (valid : Bool) (run : PixelRun)
    → start ≤ length text
    → run_in depth (take (place_of SPACE (drop start text)) (drop start text)) ≡ Some run →
    ArePut depth text old start filled valid → IsPut run old new filled next →
    ArePut depth text new (start + (place_of SPACE (drop start text) + 1)) next
    (valid && nat_lt run.code (code_count depth))
put_more depth text old new start filled next valid run within is before put =
    let rest = drop start text in
    let n = place_of SPACE rest in
    let tokens = left (start + (n + 1)) text in
    let count = put.count in
    let long = length-drop start text in
    let inside = prefix_len-le-length (λ byte. not (byte == SPACE)) rest in
    record {
      runs = before.runs ++ run ∷ [];
      read =
          before.read
          ∙ ap (λ (xs : List (List ℕ)). after_runs before.runs (all_runs depth xs)) (left_on start text within)
          ∙ ap (λ (first : Option PixelRun). after_runs before.runs
          (first >>= λ run. all_runs depth tokens >>= λ runs. Some (run ∷ runs))) is
          ∙ one_more before.runs run (all_runs depth tokens);
      within = omega arith;
      some = some_by run old new filled next put (grind arith);
      fits = λ h.
          let sum = counted_more before.runs run in
          let few = before.fits (omega arith) in
          let same = few.0 in
          let now = put.fits (omega arith) in
          let placed = now.0 in (
            omega arith,
            now.1 ∙ ap (λ (xs : List ℕ). xs ++ replicate run.count run.code) few.1
                ∙ sym (spelled_more before.runs run),
          );
      over =
          λ h. let sum = counted_more before.runs run in let e = over_by depth text old new start filled next valid run
          before put (omega arith) (grind arith) in omega arith;
      range =
          ap (λ (b : Bool). b && nat_lt run.code (code_count depth)) before.range
          ∙ sym (list_all-append (λ (x : PixelRun). nat_lt x.code (code_count depth)) before.runs (run ∷ [])
          ∙ ap (λ (b : Bool). list_all (λ (x : PixelRun). nat_lt x.code (code_count depth)) before.runs && b)
          (with_true (nat_lt run.code (code_count depth))));
    }
  where
    with_true : (b : Bool) → (b && true) ≡ b
    with_true true = refl
    with_true false = refl

-- ---- what is wrong with them

-- a piece that is no run
pub put_wrong : (depth : Depth) (text codes : List ℕ) (start filled : ℕ) (valid : Bool) → start ≤ length text
    → run_in depth (take (place_of SPACE (drop start text)) (drop start text)) ≡ None
    → ArePut depth text codes start filled valid →
    Some faults.Number ≡ runs_fault depth (length codes) text
unfolding runs_fault
put_wrong depth text codes start filled valid within is before =
    let tokens = left (start + (place_of SPACE (drop start text) + 1)) text in
    sym (ap (sum_fault depth (length codes))
    (before.read
    ∙ ap (λ (xs : List (List ℕ)). after_runs before.runs (all_runs depth xs)) (left_on start text within)
    ∙ ap (λ (first : Option PixelRun). after_runs before.runs
    (first >>= λ run. all_runs depth tokens >>= λ runs. Some (run ∷ runs))) is))

-- all pieces are runs
all_put : (depth : Depth) (text codes : List ℕ) (start filled : ℕ) (valid : Bool) → length text < start
    → (before : ArePut depth text codes start filled valid) → runs_in depth text ≡ Some before.runs
all_put depth text codes start filled valid past before =
    let none : nat_le start (length text) ≡ false = grind (arith, nat_tests) in
    before.read
    ∙ ap (λ (b : Bool). after_runs before.runs
    (all_runs depth (if b then parted SPACE (drop start text) else []))) none ∙ ap Some (append-nil before.runs)

exact_by : (depth : Depth) (text codes : List ℕ) (start filled : ℕ) (valid : Bool)
    → (before : ArePut depth text codes start filled valid) → filled ≡ length codes →
    (pixel_count before.runs ≤ length codes) ⊎ (length codes < pixel_count before.runs)
    → (pixel_count before.runs ≡ length codes) × (spelled before.runs ≡ codes)
exact_by depth text codes start filled valid before e (inl few) =
    let now = before.fits few in
    let same = now.0 in
    (omega arith, sym now.1 ∙ ap (λ (n : ℕ). take n codes) e ∙ take-length codes)
exact_by depth text codes start filled valid before e (inr many) = let over = before.over many in absurd (omega arith)

-- so many pixels are not there
pub put_uneven : (depth : Depth) (text codes : List ℕ) (start filled : ℕ) (valid : Bool) → length text < start
    → ArePut depth text codes start filled valid → (filled ≡ length codes → ⊥) →
    Some faults.Count ≡ runs_fault depth (length codes) text
unfolding runs_fault
put_uneven depth text codes start filled valid past before e = by (pixel_count before.runs == length codes) refl
  where
    by : (b : Bool) → (pixel_count before.runs == length codes) ≡ b
        → Some faults.Count ≡ sum_fault depth (length codes) (runs_in depth text)
    by true is =
        let same = eqb-true (pixel_count before.runs) (length codes) is in
        let now = (before.fits (omega arith)).0 in
        absurd (e (now ∙ same))
    by false is =
        sym (ap (sum_fault depth (length codes)) (all_put depth text codes start filled valid past before)
        ∙ rw is refl)

wide_by : (depth : Depth) (runs : List PixelRun)
    → list_any (λ (run : PixelRun). nat_le (code_count depth) run.code) runs
    ≡ not (list_all (λ (run : PixelRun). nat_lt run.code (code_count depth)) runs)
wide_by depth [] = refl
wide_by depth (run ∷ runs) =
    by (nat_lt run.code (code_count depth)) (nat_le (code_count depth) run.code) (grind (arith, nat_tests))
    (wide_by depth runs)
  where
    by : (small large : Bool) → large ≡ not small
        → list_any (λ (run : PixelRun). nat_le (code_count depth) run.code) runs
        ≡ not (list_all (λ (run : PixelRun). nat_lt run.code (code_count depth)) runs)
        → (large || list_any (λ (run : PixelRun). nat_le (code_count depth) run.code) runs)
        ≡ not (small && list_all (λ (run : PixelRun). nat_lt run.code (code_count depth)) runs)
    by true large h rest =
        ap (λ (b : Bool). b || list_any (λ (run : PixelRun). nat_le (code_count depth) run.code) runs) h ∙ rest
    by false large h rest =
        ap (λ (b : Bool). b || list_any (λ (run : PixelRun). nat_le (code_count depth) run.code) runs) h

-- all pixels are there, and the last test decides
put_whole : (depth : Depth) (text codes : List ℕ) (start filled : ℕ) (valid : Bool) → length text < start
    → ArePut depth text codes start filled valid → filled ≡ length codes →
    (if valid then None else Some faults.CodeRange) ≡ runs_fault depth (length codes) text
unfolding runs_fault
put_whole depth text codes start filled valid past before e =
    let exact = exact_by depth text codes start filled valid before e (grind arith) in
    let even : (pixel_count before.runs == length codes) ≡ true =
    eq-eqb (pixel_count before.runs) (length codes) exact.0 in
    sym (ap (sum_fault depth (length codes)) (all_put depth text codes start filled valid past before)
    ∙ rw (even, wide_by depth before.runs, sym before.range) (by valid))
  where
    by : (b : Bool) → first_of (fails (not b) faults.CodeRange ∷ []) ≡ (if b then None else Some faults.CodeRange)
    by true = refl
    by false = refl

pub put_wide : (depth : Depth) (text codes : List ℕ) (start filled : ℕ) (valid : Bool) → length text < start
    → ArePut depth text codes start filled valid → filled ≡ length codes → valid ≡ false →
    Some faults.CodeRange ≡ runs_fault depth (length codes) text
put_wide depth text codes start filled valid past before e wide =
    ap (λ (b : Bool). if b then None else Some faults.CodeRange) (sym wide)
    ∙ put_whole depth text codes start filled valid past before e

pub put_valid : (depth : Depth) (text codes : List ℕ) (start filled : ℕ) (valid : Bool) → length text < start
    → ArePut depth text codes start filled valid → filled ≡ length codes → valid ≡ true →
    None ≡ runs_fault depth (length codes) text
put_valid depth text codes start filled valid past before e good =
    ap (λ (b : Bool). if b then None else Some faults.CodeRange) (sym good)
    ∙ put_whole depth text codes start filled valid past before e

pub put_codes : (depth : Depth) (text codes : List ℕ) (start filled : ℕ) (valid : Bool) → length text < start
    → ArePut depth text codes start filled valid → filled ≡ length codes → run_codes depth text ≡ Some codes
put_codes depth text codes start filled valid past before e =
    let exact = exact_by depth text codes start filled valid before e (grind arith) in
    ap (λ (read : Option (List PixelRun)). read >>= λ runs. Some (spelled runs))
    (all_put depth text codes start filled valid past before) ∙ ap Some exact.1

small_codes : (limit : ℕ) (runs : List PixelRun)
    → list_all (λ (run : PixelRun). nat_lt run.code limit) runs ≡ true
    → All (λ (code : ℕ). code < limit) (spelled runs)
small_codes limit [] all = λ k d h. absurd (omega arith)
small_codes limit (run ∷ runs) all =
    let parts = both-true (nat_lt run.code limit) (list_all (λ (run : PixelRun). nat_lt run.code limit) runs) all in
    let small : run.code < limit = let h = parts.0 in grind (arith, nat_tests) in
    All-append (λ (code : ℕ). code < limit) (replicate run.count run.code) (spelled runs)
    (All-replicate (λ (code : ℕ). code < limit) run.count run.code small) (small_codes limit runs parts.1)

pub put_range : (depth : Depth) (text codes : List ℕ) (start filled : ℕ) (valid : Bool)
    → ArePut depth text codes start filled valid → filled ≡ length codes → valid ≡ true
    → All (λ (code : ℕ). code < code_count depth) codes
put_range depth text codes start filled valid before e good =
    let exact = exact_by depth text codes start filled valid before e (grind arith) in
    subst (λ (xs : List ℕ). All (λ (code : ℕ). code < code_count depth) xs) exact.1
    (small_codes (code_count depth) before.runs (sym before.range ∙ good))

-- ---- runs or digits

no_star : (limit : ℕ) (text : List ℕ) → list_all (has_code limit) text ≡ true → is_in_runs text ≡ false
no_star limit [] all = refl
no_star limit (digit ∷ text) all =
    let parts = both-true (has_code limit digit) (list_all (has_code limit) text) all in
    by (digit == STAR) refl parts.0 (no_star limit text parts.1)
  where
    by : (b : Bool) → (digit == STAR) ≡ b → has_code limit digit ≡ true → is_in_runs text ≡ false
        → (b || is_in_runs text) ≡ false
    by true is has rest =
        (let star : has_code limit STAR
        ≡ true = subst (λ (d : ℕ). has_code limit d ≡ true) (eqb-true digit STAR is) has in
        let never : false ≡ true = star in
        cc)
    by false is has rest = rest

-- digits are no runs
pub digits_no_runs : (depth : Depth) (text : List ℕ) → are_digits depth text ≡ true → is_in_runs text ≡ false
digits_no_runs Two text all = no_star 4 text all
digits_no_runs Four text all = no_star 16 text all
digits_no_runs Eight text all = no_star 16 text all

pub pixels_in_runs : (head : PictureHead) (text : List ℕ) → is_in_runs text ≡ true
    → pixels_fault head text ≡ runs_fault head.depth (area head) text
unfolding pixels_fault
pixels_in_runs head text is = rw is refl

pub pixels_in_digits : (head : PictureHead) (text : List ℕ) → is_in_runs text ≡ false
    → pixels_fault head text ≡ codes_fault head (chars text)
unfolding pixels_fault
pixels_in_digits head text is = rw is refl

pub picture_in_runs : (depth : Depth) (text : List ℕ) → is_in_runs text ≡ true
    → picture_codes depth text ≡ run_codes depth text
picture_in_runs depth text is = rw is refl

pub picture_in_digits : (depth : Depth) (text : List ℕ) → is_in_runs text ≡ false
    → picture_codes depth text ≡ codes_of depth text
picture_in_digits depth text is = rw is refl
