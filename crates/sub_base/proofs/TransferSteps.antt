use Rattle.std.proofs.Common.{◌≡◌, ℕ, ◌+◌, ◌-◌, ◌<◌, ◌≤◌, List, [], ◌++◌, length, take, Option, Result, Ok, Err, OnErr, subst, sym, ap, ◌∙◌, length-append, arith, drop, length-drop, min}
use Rattle.std.proofs.lemmas.List.{append-nil, take_all, take-append-drop, drop-drop, nil_from_length}
use Rattle.std.proofs.Math.Seq.{take-add, drop-nil}
use Rattle.std.specs.Io.KnownBytes.{Consumes}
use Rattle.std.proofs.KnownBytes.{Consumes-trans}
use Rattle.sub_base.specs.Counts.{HasRisen, HasRisenPast, counted}

-- what holds anyway holds at an `Err`
pub OnErr-of : {A E : Type 0} (r : Result A E) (P : Type 0) → P → OnErr r P
OnErr-of (Ok _) P p = tt
OnErr-of (Err _) P p = p

-- a count that rose later rose
pub HasRisen-since : (a b c : ℕ) → a ≤ b → HasRisen b c → HasRisen a c
HasRisen-since a b c below risen = grind arith

-- more than the limit was given in all
pub HasRisenPast-since : (limit start had more now : ℕ) → had ≤ limit → limit - had < more
    → now ≡ counted (counted start had) more → HasRisenPast limit start now
HasRisenPast-since limit start had more now within past given = grind arith

-- no bytes more were taken
pub Consumes-none : (a b c : Option (List ℕ)) (bytes buffer : List ℕ) (n : ℕ) → Consumes a b bytes
    → Consumes b c (take n buffer) → n ≡ 0 → Consumes a c bytes
Consumes-none a b c bytes buffer n first second none =
    let P : List ℕ → Type 0 = λ taken. Consumes a c taken in
    let e : bytes ++ take n buffer ≡ bytes = ap (λ k. bytes ++ take k buffer) none ∙ append-nil bytes in
    subst P e (Consumes-trans a b c bytes (take n buffer) first second)

-- counts add up
pub counted-counted : (start had more : ℕ) → counted (counted start had) more ≡ counted start (had + more)
counted-counted start had more = grind arith

-- the count after a read of nothing
pub given-none : (start held now n all : ℕ) → now ≡ counted held n → n ≡ 0 → held ≡ counted start all
    → now ≡ counted start all
given-none start held now n all after none before = grind arith

-- the count after a piece more
pub counted-more : (start held now : ℕ) (bytes piece all : List ℕ) → held ≡ counted start (length bytes)
    → now ≡ counted held (length piece) → all ≡ bytes ++ piece → now ≡ counted start (length all)
counted-more start held now bytes piece all before after joined =
    after ∙ (ap (λ k. counted k (length piece)) before ∙ (counted-counted start (length bytes) (length piece)
    ∙ ap (λ k. counted start k) (sym (ap length joined ∙ length-append bytes piece))))

-- a slice up to the end is what is left
pub range_from : (bytes : List ℕ) (n : ℕ) → take (length bytes - n) (drop n bytes) ≡ drop n bytes
range_from bytes n = take_all _ _ (omega (arith, length-drop n bytes))

-- n bytes from some place on are within the bytes
pub within-step : (bytes : List ℕ) (done n : ℕ) → done < length bytes
    → n ≤ length (take (length bytes - done) (drop done bytes)) → done + n ≤ length bytes
within-step bytes done n before fits =
    let k : length (take (length bytes - done) (drop done bytes)) ≡ length bytes - done =
    ap length (range_from bytes done) ∙ length-drop done bytes in
    omega arith

-- a prefix, and then a piece of what follows, is a longer prefix
pub front-step : (bytes : List ℕ) (done n : ℕ)
    → take done bytes ++ take n (take (length bytes - done) (drop done bytes)) ≡ take (done + n) bytes
front-step bytes done n =
    ap (λ rest. take done bytes ++ take n rest) (range_from bytes done) ∙ sym (take-add done n bytes)

-- what is left is the piece that was given and what is left then; and where nothing was given into a buffer, nothing is
-- left
pub ReadConsumes-given : (bytes left buf : List ℕ) (place most n : ℕ) → 0 < most → left ≡ drop place bytes
    → n ≡ min (min most (length buf)) (length left) → take n buf ≡ take n left
    → (left ≡ take n buf ++ drop (place + n) bytes)
    × (n ≡ 0 → 0 < length buf → drop (place + n) bytes ≡ [])
ReadConsumes-given bytes left buf place most n some e count front =
    let rest : drop (place + n) bytes ≡ drop n left = sym (drop-drop n place bytes) ∙ ap (drop n) (sym e) in (
      sym (take-append-drop n left)
          ∙ (ap (λ k. k ++ drop n left) (sym front) ∙ ap (λ k. take n buf ++ k) (sym rest)),
      λ none room. let bare : length left ≡ 0 =
          grind arith in rest ∙ (ap (drop n) (nil_from_length left bare) ∙ drop-nil n),
    )
